use Rattle.std.proofs.Common.{length}
use Rattle.mon_survey.proofs.kept.+are_same_texts.Given as goal

-- how many are left
abbrev pub decreases-are_same_texts : goal.decreases-are_same_texts
decreases-are_same_texts l = length l.old.now
