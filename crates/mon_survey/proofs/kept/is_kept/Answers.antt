use Rattle.std.proofs.Common.{◌≡◌, sym, ◌∙◌}
use Rattle.std.specs.Prelude.{not}
use Rattle.std.specs.List.{AllZip, filter}
use Rattle.std.proofs.lemmas.Bool.{false≢true}
use Rattle.mon_survey.specs.Meant.{is_own}
use Rattle.mon_survey.proofs.Steps.{moved}
use Rattle.mon_survey.proofs.kept.is_kept.Goals as goal

pub returns-else-are_kept_instances : goal.returns-else-are_kept_instances
returns-else-are_kept_instances c = (
  λ t. absurd (false≢true (sym c.if-are_kept_instances.false ∙ t)),
  λ kept. c.are_kept_instances.ensures.1 (moved (λ new old. AllZip (λ w was. w ≡ was) (filter (λ w. not (is_own c.args.watches.now.engine.now w)) new) old) (sym c.requires.new) (sym c.requires.old) kept.instances),
)
