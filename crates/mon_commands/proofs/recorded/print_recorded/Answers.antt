use Rattle.std.proofs.Common.{List, sym, subst}
use Rattle.std.specs.Prelude.{Bool}
use Rattle.mon_host.specs.Log.{GoesOnBy}
use Rattle.mon_commands.specs.Replaying.{IsRecordingIf}
use Rattle.mon_commands.proofs.recorded.print_recorded.Goals as goal

pub returns-then-words : goal.returns-then-words
returns-then-words g c = subst (λ (b : Bool). GoesOnBy (λ log. IsRecordingIf b c.args.words log c.replay_report.result) (g.H.Host.log c.args.host.now)
    (g.H.Host.log c.replay_report.new.host)) (sym c.if-words.true) c.replay_report.ensures

pub returns-else-words : goal.returns-else-words
returns-else-words g c = subst (λ (b : Bool). GoesOnBy (λ log. IsRecordingIf b c.args.words log c.replay.result) (g.H.Host.log c.args.host.now)
    (g.H.Host.log c.replay.new.host)) (sym c.if-words.false) c.replay.ensures
