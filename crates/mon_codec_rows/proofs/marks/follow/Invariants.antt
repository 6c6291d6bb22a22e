use Rattle.std.proofs.Common.{◌≡◌}
use Rattle.mon_codec_rows.proofs.marks.follow.Given as goal

-- the watch stays
abbrev pub invariant-loop-step : goal.invariant-loop-step
invariant-loop-step l = l.board.watch ≡ l.fn.board.watch
