use Rattle.std.proofs.Common.{◌≡◌, take}
use Rattle.mon_rounds.specs.Noted.{answered_of}
use Rattle.mon_rounds.proofs.reporting.answered_of.Given as goal

-- those so far
abbrev pub invariant-loop-answer : goal.invariant-loop-answer
invariant-loop-answer l = l.answered.items ≡ answered_of (take l.answer-index l.answers)
