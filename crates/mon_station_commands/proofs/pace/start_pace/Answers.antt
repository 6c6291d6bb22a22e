use Rattle.mon_host.specs.declared.level.Level.TheVariants as level
use Rattle.std.proofs.Common.{ap}
use Rattle.std.specs.Prelude.{Some}
use Rattle.mon_host.specs.Log.{GoesOnBy}
use Rattle.mon_station_commands.specs.Quiet.{AreQuiet}
use Rattle.mon_station_commands.specs.Telling.{first_line}
use Rattle.mon_station_commands.proofs.Quiets.{date, no_wait, one_line, quiet_on, quiet_to, since, still, stopped_on, undated, untimed}
use Rattle.mon_station_commands.proofs.Steps.{failure_is}
use Rattle.mon_station_commands.proofs.pace.start_pace.Goals as goal
use Rattle.mon_station_commands.proofs.pace.start_pace.Goals.{else-left-gt0, in-Some+in_ok-time-in-Some, in_default, in_default-2, then-left-gt0+in_ok-pause}

pub returns-in_err-passed-clause-quiet : goal.returns-in_err-passed-clause-quiet
returns-in_err-passed-clause-quiet g c =
    let start = g.H.Host.log c.args.host.now in
    let phased = g.H.Host.log c.match-phase.host in
    let timed = g.H.Host.log c.passed.new.host in
    let one : GoesOnBy AreQuiet start phased =
    elim c.match-phase.branch [
      | in-Some+in_ok-time-in-Some w ↦
          quiet_to start (g.H.Host.log w.wall_time.new.host) phased (ap (λ h. g.H.Host.log h) w.host-is)
          (date start (g.H.Host.log w.wall_time.new.host) _ w.in_ok-time-in-Some.ensures)
      | in_default-2 w ↦ quiet_to start start phased (ap (λ h. g.H.Host.log h) w.host-is) (still start)
      | in_default w ↦ quiet_to start start phased (ap (λ h. g.H.Host.log h) w.host-is) (still start)
    ] in
    let failure = c.in_err-passed.field-0.0 in
    let r = c.from_residual-in_err-passed.result in
    no_wait failure r start timed (failure_is r failure c.from_residual-in_err-passed.ensures.1) (stopped_on failure start phased timed one (untimed failure phased timed c.in_err-passed.ensures))

pub returns-in_err-pause-clause-quiet : goal.returns-in_err-pause-clause-quiet
returns-in_err-pause-clause-quiet g c =
    let start = g.H.Host.log c.args.host.now in
    let phased = g.H.Host.log c.match-phase.host in
    let timed = g.H.Host.log c.passed.new.host in
    let one : GoesOnBy AreQuiet start phased =
    elim c.match-phase.branch [
      | in-Some+in_ok-time-in-Some w ↦
          quiet_to start (g.H.Host.log w.wall_time.new.host) phased (ap (λ h. g.H.Host.log h) w.host-is)
          (date start (g.H.Host.log w.wall_time.new.host) _ w.in_ok-time-in-Some.ensures)
      | in_default-2 w ↦ quiet_to start start phased (ap (λ h. g.H.Host.log h) w.host-is) (still start)
      | in_default w ↦ quiet_to start start phased (ap (λ h. g.H.Host.log h) w.host-is) (still start)
    ] in
    let two = quiet_on start phased timed one (since phased timed _ _ c.in_ok-passed.ensures) in
    let told = g.H.Host.log c.tell_first.new.host in
    let end = g.H.Host.log c.pause.new.host in
    let failure = c.in_err-pause.field-0.0 in
    let r = c.from_residual-in_err-pause.result in
    no_wait failure r start end (failure_is r failure c.from_residual-in_err-pause.ensures.1)
    (stopped_on failure start told end (quiet_on start timed told two (one_line timed told level.Info (Some (first_line c.match-phase.left)) c.tell_first.ensures)) c.in_err-pause.ensures.quiet)

pub returns-clause-quiet : goal.returns-clause-quiet
returns-clause-quiet g c =
    let start = g.H.Host.log c.args.host.now in
    let phased = g.H.Host.log c.match-phase.host in
    let timed = g.H.Host.log c.passed.new.host in
    let one : GoesOnBy AreQuiet start phased =
    elim c.match-phase.branch [
      | in-Some+in_ok-time-in-Some w ↦
          quiet_to start (g.H.Host.log w.wall_time.new.host) phased (ap (λ h. g.H.Host.log h) w.host-is)
          (date start (g.H.Host.log w.wall_time.new.host) _ w.in_ok-time-in-Some.ensures)
      | in_default-2 w ↦ quiet_to start start phased (ap (λ h. g.H.Host.log h) w.host-is) (still start)
      | in_default w ↦ quiet_to start start phased (ap (λ h. g.H.Host.log h) w.host-is) (still start)
    ] in
    let two = quiet_on start phased timed one (since phased timed _ _ c.in_ok-passed.ensures) in
    let end = g.H.Host.log c.if-left-gt0.host in
    let three : GoesOnBy AreQuiet timed end =
    elim c.if-left-gt0.branch [
      | then-left-gt0+in_ok-pause w ↦
          let told = g.H.Host.log w.tell_first.new.host in
          let paused = g.H.Host.log w.pause.new.host in
          quiet_to timed paused end (ap (λ h. g.H.Host.log h) w.host-is)
          (quiet_on timed told paused (one_line timed told level.Info (Some (first_line c.match-phase.left)) w.tell_first.ensures) w.in_ok-pause.ensures.quiet)
      | else-left-gt0 w ↦ quiet_to timed timed end (ap (λ h. g.H.Host.log h) w.host-is) (still timed)
    ] in
    quiet_on start timed end two three

pub returns-in_err-time-in-Some-clause-quiet : goal.returns-in_err-time-in-Some-clause-quiet
returns-in_err-time-in-Some-clause-quiet g c =
    let start = g.H.Host.log c.args.host.now in
    let dated = g.H.Host.log c.wall_time.new.host in
    let failure = c.in_err-time-in-Some.field-0.0 in
    let r = c.from_residual.result in
    no_wait failure r start dated (failure_is r failure c.from_residual.ensures.1) (undated failure start dated c.in_err-time-in-Some.ensures)
