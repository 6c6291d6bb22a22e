use Rattle.std.proofs.Common.{◌≡◌, ◌≤◌, ◌*◌}
use Rattle.mon_board.specs.Board.{window_of}
use Rattle.mon_carry.specs.Carried.{samples_before}
use Rattle.mon_carry.proofs.counts.count_samples.Given as goal

-- the samples of the windows before this place, at most 64 in each
abbrev pub invariant-loop-i : goal.invariant-loop-i
invariant-loop-i l = (l.samples ≡ samples_before (window_of l.board) l.i) × (l.samples ≤ 64 * l.i)
