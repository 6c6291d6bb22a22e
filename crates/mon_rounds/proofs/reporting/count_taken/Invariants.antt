use Rattle.std.proofs.Common.{◌≡◌, ◌-◌, ◌^◌, take}
use Rattle.std.specs.Prelude.{min, sum_by}
use Rattle.mon_rounds.specs.Noted.{samples_in}
use Rattle.mon_rounds.proofs.reporting.count_taken.Given as goal

-- those so far are counted
abbrev pub invariant-loop-answer : goal.invariant-loop-answer
invariant-loop-answer l = l.taken ≡ min (sum_by samples_in (take l.answer-index l.answers)) (2 ^ 64 - 1)
