use Rattle.std.proofs.Common.{◌≡◌, drop}
use Rattle.mon_page.specs.Plot.{scale_from, scale_of}
use Rattle.mon_page.proofs.plot.scale_of.Given as goal

-- the scale found so far, continued with the samples that are left, is the scale of all samples
abbrev pub invariant-loop-place : goal.invariant-loop-place
invariant-loop-place l = scale_from l.samples l.scale l.place (drop l.place l.samples) ≡ scale_of l.counted l.samples
