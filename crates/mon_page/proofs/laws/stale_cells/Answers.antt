use Rattle.std.proofs.lemmas.Bool.{le-ltb}
use Rattle.mon_page.proofs.Stale.{alike, no_alarms, stale_state}
use Rattle.mon_page.proofs.laws.stale_cells.Goals as goal

pub returns-clause-stale : goal.returns-clause-stale
returns-clause-stale c limit age past = le-ltb age limit past

pub returns-clause-state : goal.returns-clause-state
returns-clause-state c = stale_state

pub returns-clause-alike : goal.returns-clause-alike
returns-clause-alike c = alike

pub returns-clause-alarms : goal.returns-clause-alarms
returns-clause-alarms c = no_alarms
