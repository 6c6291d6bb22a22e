use Rattle.std.proofs.Common.{List, ℕ, map, subst}
use Rattle.std.specs.Prelude.{Ok, Err, string_bytes}
use Rattle.mon_host.proofs.Promised.{then_fails}
use Rattle.mon_host.specs.Log.{GoesOnBy}
use Rattle.mon_commands.specs.Mib.{IsListed, IsMib}
use Rattle.mon_console.specs.Files.{IsPrint, IsText}
use Rattle.mon_console.specs.Naming.{AreKnown}
use Rattle.mon_commands.proofs.Steps.{failed, follows, silent_fails, silent_then}
use Rattle.mon_commands.proofs.listing.print_names.Goals as goal

pub returns-in_err-known : goal.returns-in_err-known
returns-in_err-known g c =
    let file = c.args.words.file.now in
    let modules = map (λ f. f.now) c.args.words.modules.now in
    let failure = c.in_err-known.field-0.0 in
    failed (IsMib file modules) c.from_residual-in_err-known.result failure _ _ c.from_residual-in_err-known.ensures.1
    (follows (IsText file) _ c.in_ok-text.text _ _ _ _ c.in_ok-text.ensures (then_fails (AreKnown modules) _ failure _ _ c.in_err-known.ensures))

pub returns-in_err-lines : goal.returns-in_err-lines
returns-in_err-lines g c =
    let file = c.args.words.file.now in
    let modules = map (λ f. f.now) c.args.words.modules.now in
    let known = c.in_ok-known.known in
    let failure = c.in_err-lines.field-0.0 in
    let why = subst (λ (o : List ℕ). IsListed o known.names (Err failure)) c.deref.ensures c.in_err-lines.ensures in
    failed (IsMib file modules) c.from_residual-in_err-lines.result failure _ _ c.from_residual-in_err-lines.ensures.1
    (follows (IsText file) _ c.in_ok-text.text _ _ _ _ c.in_ok-text.ensures (follows (AreKnown modules) _ known _ _ _ _ c.in_ok-known.ensures
    (silent_fails (IsListed (string_bytes c.in_ok-text.text) known.names) _ failure _ why)))

pub returns : goal.returns
returns g c =
    let file = c.args.words.file.now in
    let modules = map (λ f. f.now) c.args.words.modules.now in
    let known = c.in_ok-known.known in
    let lines = c.in_ok-lines.lines in
    let are = subst (λ (o : List ℕ). IsListed o known.names (Ok lines)) c.deref.ensures c.in_ok-lines.ensures in
    let printed = subst (λ (o : List ℕ). GoesOnBy (λ log. IsPrint o log c.print.result) (g.H.Host.log c.known_names.new.host) (g.H.Host.log c.print.new.host))
    c.as_bytes.ensures.value c.print.ensures in
    follows (IsText file) _ c.in_ok-text.text _ _ _ _ c.in_ok-text.ensures (follows (AreKnown modules) _ known _ _ _ _ c.in_ok-known.ensures
    (silent_then (IsListed (string_bytes c.in_ok-text.text) known.names) _ lines _ _ _ are printed))
