use Rattle.std.proofs.Common.{◌≡◌, drop}
use Rattle.mon_page.specs.Plot.{span_from, span_of}
use Rattle.mon_page.proofs.plot.span_of.Given as goal

-- what is found so far, with what the samples that are left hold, is the whole
abbrev pub invariant-loop-place : goal.invariant-loop-place
invariant-loop-place l = span_from l.samples l.elapsed l.place (drop l.place l.samples) ≡ span_of l.samples
