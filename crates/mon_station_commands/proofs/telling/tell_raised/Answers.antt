use Rattle.mon_host.specs.declared.level.Level.{Level}
use Rattle.std.proofs.Common.{◌∙◌, List, ℕ, ap, map, subst}
use Rattle.mon_board.specs.declared.board.Board.{Board}
use Rattle.std.specs.Prelude.{None}
use Rattle.mon_host.specs.Log.{GoesOnBy}
use Rattle.mon_report.specs.Alarms.{raised_from}
use Rattle.mon_station_commands.specs.Telling.{AreSaid, alarm_note}
use Rattle.mon_station_commands.proofs.Notes.{unsaid}
use Rattle.mon_station_commands.proofs.telling.tell_raised.Goals as goal

pub returns-in_err-raised : goal.returns-in_err-raised
returns-in_err-raised g c = unsaid _ c.from_residual.result (g.H.Host.log c.args.host.now) c.from_residual.ensures.0

pub returns : goal.returns
returns g c =
    let printing = c.args.live.now.reports.printing in
    let changes = c.as_slice.ensures.value ∙ (c.in_ok-raised.ensures ∙ ap (λ (b : Board). raised_from b 0 b.watch.rules) c.board-board.ensures) in
    subst (λ (lines : List (Level × List ℕ)). GoesOnBy (λ log. AreSaid lines log c.tell_alarms.result) (g.H.Host.log c.args.host.now) (g.H.Host.log c.tell_alarms.new.host))
    (λ i. map (alarm_note None printing (c.board-board.ensures i)) (changes i)) c.tell_alarms.ensures
