use Rattle.std.proofs.Common.{◌≡◌, ◌≤◌, ◌+◌, ℕ, List, Bor, Option, Some, None, length, string_bytes}
use Rattle.std.specs.Option.{option_map}
use Rattle.mon_app.specs.Replay.{lines_of, lines_left}
use Rattle.mon_app.proofs.Lines.{SoFar}
use Rattle.mon_app.proofs.replaying.take_lines.Given as goal

abbrev pub left : Option (Bor (List ℕ)) → ℕ
left None = 0
left (Some text) = length text.now + 1

abbrev pub invariant-loop-rest : goal.invariant-loop-rest
invariant-loop-rest l = record {
  size : l.table.size ≡ l.fn.table.size;
  so_far : SoFar l.fn.table.size (lines_of l.input) (lines_left (option_map (λ rest. rest.now) l.rest)) l.number l.table.rows.items (string_bytes l.fn.text) (string_bytes l.text) l.refused;
  bounded : l.number + left l.rest ≤ length l.input + 1;
  fewer : l.refused ≤ l.number;
}

abbrev pub decreases-loop-rest : goal.decreases-loop-rest
decreases-loop-rest l = left l.rest
