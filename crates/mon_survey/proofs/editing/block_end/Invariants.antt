use Rattle.std.proofs.Common.{◌≡◌, ◌+◌, length}
use Rattle.mon_survey.specs.Edited.{first_piece, ends_block}
use Rattle.mon_survey.proofs.editing.block_end.Given as goal

-- how many octets are passed, with those of what is left, and that none is passed twice
abbrev pub invariant-scan : goal.invariant-scan
invariant-scan l = (l.count + first_piece ends_block l.before l.rest ≡ first_piece ends_block 10 l.text) × (l.count + length l.rest ≡ length l.text)

abbrev pub decreases-scan : goal.decreases-scan
decreases-scan l = length l.rest
