use Rattle.std.proofs.Common.{List, ℕ, refl, string_bytes, subst, sym}
use Rattle.std.specs.Prelude.{Err, Ok, Result, String}
use Rattle.std.specs.Global.{Global}
use Rattle.mon_console.specs.Files.{IsText}
use Rattle.mon_console.specs.Settings.{AreSettings}
use Rattle.mon_console.specs.declared.failure.Failure.{Failure}
use Rattle.mon_host.specs.Log.{GoesOnBy}
use Rattle.mon_host.specs.Then.{Quietly, Then}
use Rattle.mon_host.proofs.Promised.{quietly, then_follows}
use Rattle.mon_smi.specs.declared.definition.Definition.{Definition}
use Rattle.mon_settings_commands.specs.Appended.{AreNamesIn, IsExistingOf}
use Rattle.mon_settings_commands.specs.declared.existing.Existing.{Existing}
use Rattle.mon_settings_commands.proofs.Turns.{failure_is, fails}
use Rattle.mon_settings_commands.proofs.existing.existing_in.Goals as goal

pub returns-in_err-names : goal.returns-in_err-names
returns-in_err-names g c =
    let before = g.H.Host.log c.args.host.now in
    let read = g.H.Host.log c.read_text.new.host in
    let named = g.H.Host.log c.names_in.new.host in
    let text = c.in_ok-text.text in
    let failure = c.in_err-names.field-0.0 in
    let r = c.from_residual-in_err-names.result in
    let first = subst (λ (o : List ℕ). GoesOnBy (λ log. AreNamesIn o log (Err failure)) read named) c.as_str.ensures.value c.in_err-names.ensures in
    then_follows (IsText c.args.path.now) (λ (t : String Global). Then (AreNamesIn (string_bytes t)) (λ (names : List Definition). Quietly (IsExistingOf t names))) (Ok text) r before read named
    c.in_ok-text.ensures (fails (AreNamesIn (string_bytes text)) (λ (names : List Definition). Quietly (IsExistingOf text names)) failure r read named c.from_residual-in_err-names.ensures.1 first)

pub returns-in_err-station : goal.returns-in_err-station
returns-in_err-station g c =
    let before = g.H.Host.log c.args.host.now in
    let read = g.H.Host.log c.read_text.new.host in
    let named = g.H.Host.log c.names_in.new.host in
    let text = c.in_ok-text.text in
    let names = c.in_ok-names.names in
    let failure = c.in_err-station.field-0.0 in
    let r = c.from_residual-in_err-station.result in
    let first = subst (λ (o : List ℕ). GoesOnBy (λ log. AreNamesIn o log (Ok names)) read named) c.as_str.ensures.value c.in_ok-names.ensures in
    let refused = subst (λ (o : List ℕ). AreSettings o names (Err failure)) c.as_str-2.ensures.value c.in_err-station.ensures in
    let last = subst (λ (r : Result Existing Failure). GoesOnBy (λ log. Quietly (IsExistingOf text names) log r) named named) (sym (failure_is r failure c.from_residual-in_err-station.ensures.1))
    (quietly (IsExistingOf text names) (Err failure) named refused) in
    then_follows (IsText c.args.path.now) (λ (t : String Global). Then (AreNamesIn (string_bytes t)) (λ (names : List Definition). Quietly (IsExistingOf t names))) (Ok text) r before read named
    c.in_ok-text.ensures (then_follows (AreNamesIn (string_bytes text)) (λ (names : List Definition). Quietly (IsExistingOf text names)) (Ok names) r read named named first last)

pub returns : goal.returns
returns g c =
    let before = g.H.Host.log c.args.host.now in
    let read = g.H.Host.log c.read_text.new.host in
    let named = g.H.Host.log c.names_in.new.host in
    let text = c.in_ok-text.text in
    let names = c.in_ok-names.names in
    let station = c.in_ok-station.station in
    let kept : Existing = record { text = text; names = names; station = station } in
    let first = subst (λ (o : List ℕ). GoesOnBy (λ log. AreNamesIn o log (Ok names)) read named) c.as_str.ensures.value c.in_ok-names.ensures in
    let said = subst (λ (o : List ℕ). AreSettings o names (Ok station)) c.as_str-2.ensures.value c.in_ok-station.ensures in
    then_follows (IsText c.args.path.now) (λ (t : String Global). Then (AreNamesIn (string_bytes t)) (λ (names : List Definition). Quietly (IsExistingOf t names))) (Ok text) (Ok kept) before read named
    c.in_ok-text.ensures (then_follows (AreNamesIn (string_bytes text)) (λ (names : List Definition). Quietly (IsExistingOf text names)) (Ok names) (Ok kept) read named named first
    (quietly (IsExistingOf text names) (Ok kept) named (refl, refl, said)))
