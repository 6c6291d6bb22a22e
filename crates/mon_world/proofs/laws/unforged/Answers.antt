use Rattle.mon_world.proofs.Unforged.{unforged_first, unforged_outcomes}
use Rattle.mon_world.proofs.laws.unforged.Goals as goal

pub returns-clause-first : goal.returns-clause-first
returns-clause-first c = unforged_first

pub returns-clause-steps : goal.returns-clause-steps
returns-clause-steps c = unforged_outcomes c.one_spelling.ensures.meaning
