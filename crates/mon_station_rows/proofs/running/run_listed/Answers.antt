use Rattle.mon_station_rows.proofs.Over.{ran_over}
use Rattle.mon_station_rows.proofs.running.run_listed.Goals as goal

pub returns-in-Ok : goal.returns-in-Ok
returns-in-Ok g c = ran_over _ _ c.args.turns c.run.new.run c.in-Ok.ensures.ran
