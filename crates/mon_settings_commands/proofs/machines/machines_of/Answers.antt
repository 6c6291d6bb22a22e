use Rattle.std.proofs.Common.{◌≤◌, map}
use Rattle.mon_placing.specs.Machines.{listed}
use Rattle.mon_settings_commands.proofs.Seated.{as_listed}
use Rattle.mon_settings_commands.proofs.machines.machines_of.Goals as goal

pub returns-in-Ok-clause-some : goal.returns-in-Ok-clause-some
returns-in-Ok-clause-some c = as_listed (λ n. 1 ≤ n) c.in-Ok.machines.items (c.counts.ensures c.args.text.now c.args.stations (map listed c.in-Ok.machines.items) c.in-Ok.ensures.listed).0

pub returns-in-Ok-clause-few : goal.returns-in-Ok-clause-few
returns-in-Ok-clause-few c = as_listed (λ n. n ≤ 1024) c.in-Ok.machines.items (c.counts.ensures c.args.text.now c.args.stations (map listed c.in-Ok.machines.items) c.in-Ok.ensures.listed).2

pub returns-in-Err-clause-listed : goal.returns-in-Err-clause-listed
returns-in-Err-clause-listed c = (c.in-Err.fault, c.in-Err.ensures.refused, c.machines_failure.ensures)
