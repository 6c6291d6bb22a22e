use Rattle.std.proofs.Common.{not, refl}
use Rattle.std.proofs.lemmas.Grind.{flat_map-append}
use Rattle.std.proofs.lemmas.List.Filters.{length-filter_both}
use Rattle.mon_page.specs.Page.{peers_of, raised_of}
use Rattle.mon_page.proofs.Stale.{not_twice}
use Rattle.mon_page.proofs.laws.counted.Goals as goal

pub returns-clause-alarms : goal.returns-clause-alarms
returns-clause-alarms c station rows = refl

pub returns-clause-devices : goal.returns-clause-devices
returns-clause-devices c station rows = refl

pub returns-clause-peers : goal.returns-clause-peers
returns-clause-peers c station rows = length-filter_both (λ p. not p.silent) (λ p. p.silent) (λ p. not_twice p.silent) (peers_of station)

pub returns-clause-each : goal.returns-clause-each
returns-clause-each c rows more = flat_map-append raised_of rows more
