use Rattle.std.proofs.Common.{◌<◌, ℕ, slice_index_or}
use Rattle.mon_board.specs.declared.instance.Watched.{Watched}
use Rattle.mon_carry_commands.specs.Alike.{IsAlike}
use Rattle.mon_carry_commands.proofs.alike.have_alike.Given as goal

-- those before this place are alike
abbrev pub invariant-loop-i : goal.invariant-loop-i
invariant-loop-i l = (k : ℕ) (d : Watched) → k < l.i → IsAlike (slice_index_or l.old k d) (slice_index_or l.new k d)
