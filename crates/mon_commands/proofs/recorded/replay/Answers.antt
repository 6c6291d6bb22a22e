use Rattle.std.proofs.Common.{List, ℕ, subst}
use Rattle.std.specs.Prelude.{Ok}
use Rattle.mon_host.specs.Log.{GoesOnBy}
use Rattle.mon_commands.specs.Replaying.{IsReplayed}
use Rattle.mon_console.specs.Files.{IsInput, IsPrint}
use Rattle.mon_commands.proofs.Steps.{follows, silent_then}
use Rattle.mon_commands.proofs.recorded.replay.Goals as goal

pub returns : goal.returns
returns g c =
    let input = c.in_ok-input.input in
    let text = c.in_ok-text.text in
    let is = subst (λ (o : List ℕ). IsReplayed c.args.size o (Ok text)) c.deref.ensures.value c.in_ok-text.ensures in
    let printed = subst (λ (o : List ℕ). GoesOnBy (λ log. IsPrint o log c.print.result) (g.H.Host.log c.read_input.new.host) (g.H.Host.log c.print.new.host))
    c.deref-2.ensures.value c.print.ensures in
    follows IsInput _ input _ _ _ _ c.in_ok-input.ensures (silent_then (IsReplayed c.args.size input.items) _ text _ _ _ is printed)
