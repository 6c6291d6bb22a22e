use Rattle.std.proofs.Common.{◌≡◌, true, rules, subst, sym}
use Rattle.mon_survey.specs.Answers.{IsRising, is_after}
use Rattle.mon_survey.proofs.Cells.{pushed}
use Rattle.mon_survey.proofs.answers.Answers.put.Goals as goal

pub invariant_of-self-2 : goal.invariant_of-self-2
invariant_of-self-2 c =
    let cells = c.self.inside.cells.items in
    let after : is_after cells c.key-key.result ≡ true = search rules in
    subst IsRising (sym c.in_ok-push.ensures.items) (pushed cells _ c.self.invariant after)
