use Rattle.std.proofs.Common.{◌≡◌, ◌++◌, drop, None}
use Rattle.mon_page.specs.Plot.{points_from}
use Rattle.mon_page.proofs.plot.put_points.Given as goal

-- what is written, and the strokes that are left, are all strokes
abbrev pub invariant-loop-place : goal.invariant-loop-place
invariant-loop-place l =
    l.text.items ++ points_from l.samples l.frame l.spot l.elapsed l.place (drop l.place l.samples)
    ≡ l.fn.text.items ++ points_from l.samples l.frame None 0 0 l.samples
