use Rattle.std.proofs.Common.{◌≡◌, ◌≤◌, ◌-◌, ◌^◌}
use Rattle.mon_display.specs.Rate.{exponent_from, exponent_of}
use Rattle.mon_display.proofs.rate.scale.Given as goal

-- the step is the power of the exponent, and the exponents before it were too small
abbrev pub invariant-loop-exponent : goal.invariant-loop-exponent
invariant-loop-exponent l =
    (l.step ≡ 10 ^ l.exponent) × (exponent_from (30 - l.exponent) l.exponent l.n ≡ exponent_of l.n)
