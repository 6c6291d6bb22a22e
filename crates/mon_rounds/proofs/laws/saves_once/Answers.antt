use Rattle.mon_rounds.proofs.Saves.{saved_never, saved_once}
use Rattle.mon_rounds.proofs.laws.saves_once.Goals as goal

pub returns-clause-saved : goal.returns-clause-saved
returns-clause-saved c = saved_once

pub returns-clause-unsaved : goal.returns-clause-unsaved
returns-clause-unsaved c = saved_never
