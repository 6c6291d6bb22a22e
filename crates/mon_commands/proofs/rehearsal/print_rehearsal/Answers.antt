use Rattle.std.proofs.Common.{List, ℕ, subst}
use Rattle.std.specs.Prelude.{Ok, Err}
use Rattle.mon_host.proofs.Promised.{then_fails}
use Rattle.mon_host.specs.Log.{GoesOnBy}
use Rattle.mon_commands.specs.Rehearsing.{IsRehearsed, IsRehearsing}
use Rattle.mon_console.specs.Files.{IsInput, IsPrint}
use Rattle.mon_console.specs.Settings.{IsStationFile}
use Rattle.mon_commands.proofs.Rehearsals.{rehearsing}
use Rattle.mon_commands.proofs.Steps.{failed, follows, silent_fails, silent_then}
use Rattle.mon_commands.proofs.rehearsal.print_rehearsal.Goals as goal

pub returns-in_err-script : goal.returns-in_err-script
returns-in_err-script g c =
    let words = c.args.words in
    let failure = c.in_err-script.field-0.0 in
    failed (IsRehearsing words) c.from_residual-in_err-script.result failure _ _ c.from_residual-in_err-script.ensures.1
    (rehearsing words c.plain.result _ _ _ (follows (IsStationFile words.settings.now c.plain.result) _ (c.in_ok-settings.settings, c.in_ok-settings.field-0-1) _ _ _ _ c.in_ok-settings.ensures
    (then_fails IsInput _ failure _ _ c.in_err-script.ensures)) c.plain.ensures)

pub returns-in_err-text : goal.returns-in_err-text
returns-in_err-text g c =
    let words = c.args.words in
    let settings = c.in_ok-settings.settings in
    let failure = c.in_err-text.field-0.0 in
    let why = subst (λ (o : List ℕ). IsRehearsed settings words.stations o (Err failure)) c.deref.ensures.value c.in_err-text.ensures in
    failed (IsRehearsing words) c.from_residual-in_err-text.result failure _ _ c.from_residual-in_err-text.ensures.1
    (rehearsing words c.plain.result _ _ _ (follows (IsStationFile words.settings.now c.plain.result) _ (settings, c.in_ok-settings.field-0-1) _ _ _ _ c.in_ok-settings.ensures
    (follows IsInput _ c.in_ok-script.script _ _ _ _ c.in_ok-script.ensures
    (silent_fails (IsRehearsed settings words.stations c.in_ok-script.script.items) _ failure _ why))) c.plain.ensures)

pub returns : goal.returns
returns g c =
    let words = c.args.words in
    let settings = c.in_ok-settings.settings in
    let text = c.in_ok-text.text in
    let is = subst (λ (o : List ℕ). IsRehearsed settings words.stations o (Ok text)) c.deref.ensures.value c.in_ok-text.ensures in
    let printed = subst (λ (o : List ℕ). GoesOnBy (λ log. IsPrint o log c.print.result) (g.H.Host.log c.read_input.new.host) (g.H.Host.log c.print.new.host))
    c.deref-2.ensures.value c.print.ensures in
    rehearsing words c.plain.result _ _ _ (follows (IsStationFile words.settings.now c.plain.result) _ (settings, c.in_ok-settings.field-0-1) _ _ _ _ c.in_ok-settings.ensures
    (follows IsInput _ c.in_ok-script.script _ _ _ _ c.in_ok-script.ensures
    (silent_then (IsRehearsed settings words.stations c.in_ok-script.script.items) _ text _ _ _ is printed))) c.plain.ensures
