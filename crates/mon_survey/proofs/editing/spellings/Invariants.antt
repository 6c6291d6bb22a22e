use Rattle.std.proofs.Common.{◌≡◌, take}
use Rattle.std.specs.List.{flat_map}
use Rattle.mon_survey.specs.Moved.{at_of}
use Rattle.mon_survey.specs.Edited.{spelled_by}
use Rattle.mon_survey.proofs.editing.spellings.Given as goal

-- how the names so far may be written
abbrev pub invariant-loop-watched : goal.invariant-loop-watched
invariant-loop-watched g l = l.all.items ≡ flat_map (spelled_by (g.S.NameTexts.shown l.spelling.names.now) (at_of l.spelling.places)) (take l.watched-index l.instances)
