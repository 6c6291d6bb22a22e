use Rattle.std.proofs.Common.{arith}
use Rattle.std.proofs.lemmas.Grind.{common_steps}
use Rattle.mon_settings.specs.Station.{scalars_of}
use Rattle.mon_settings.proofs.station.read_scalars.Goals as goal

pub returns-clause-gives : goal.returns-clause-gives
unfolding scalars_of
returns-clause-gives c = grind (arith, common_steps)

pub returns-in-Err-clause-gives : goal.returns-in-Err-clause-gives
unfolding scalars_of
returns-in-Err-clause-gives c = grind (arith, common_steps)

pub returns-in-Err-addr-clause-gives : goal.returns-in-Err-addr-clause-gives
unfolding scalars_of
returns-in-Err-addr-clause-gives c = grind (arith, common_steps)

pub returns-in-Err-text-clause-gives : goal.returns-in-Err-text-clause-gives
unfolding scalars_of
returns-in-Err-text-clause-gives c = grind (arith, common_steps)

pub returns-in-Err-number-clause-gives : goal.returns-in-Err-number-clause-gives
unfolding scalars_of
returns-in-Err-number-clause-gives c = grind (arith, common_steps)

pub returns-in-Err-size_or-clause-gives : goal.returns-in-Err-size_or-clause-gives
unfolding scalars_of
returns-in-Err-size_or-clause-gives c = grind (arith, common_steps)

pub returns-in-Err-label-clause-gives : goal.returns-in-Err-label-clause-gives
unfolding scalars_of
returns-in-Err-label-clause-gives c = grind (arith, common_steps)
