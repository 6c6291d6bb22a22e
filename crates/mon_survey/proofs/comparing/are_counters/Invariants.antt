use Rattle.std.proofs.Common.{ℕ, ◌<◌, get_or}
use Rattle.mon_poller.specs.declared.target.Object.{Object}
use Rattle.mon_survey.specs.declared.counter.Planned.{Planned}
use Rattle.mon_survey.specs.Meant.{IsCounter}
use Rattle.mon_survey.proofs.comparing.are_counters.Given as goal

-- they agree so far
abbrev pub invariant-loop-place : goal.invariant-loop-place
invariant-loop-place l = (k : ℕ) (d : Object) (e : Planned) → k < l.place → IsCounter l.answers (get_or l.objects k d) (get_or l.planned k e)
