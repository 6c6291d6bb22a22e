use Rattle.std.proofs.Common.{List, ℕ, subst}
use Rattle.hex.specs.Hex.{encode_lower}
use Rattle.mon_survey.specs.Labels.{IsNoLabels, indexes_of}
use Rattle.mon_survey.specs.declared.answers.Cell.{Cell}
use Rattle.mon_settings_commands.proofs.labelling.labels_text.Goals as goal

pub returns-in-Err : goal.returns-in-Err
returns-in-Err c =
    let is = c.choice.ensures in
    let old = c.args.old.now in
    let fault = c.in-Err.fault in (
      c.choice.result,
      fault,
      record { kinds = is.kinds; up = is.up; part = is.part; group = is.group },
      record { survey = c.labels_failure.ensures.survey; more = c.labels_failure.ensures.more },
      subst (λ (cells : List Cell). IsNoLabels old (encode_lower c.args.input.now.survey.now.engine.items) cells (indexes_of c.choice.result cells) fault) c.agent.ensures.answers
          (subst (λ (engine : List ℕ). IsNoLabels old (encode_lower engine) c.agent.result.answers.now (indexes_of c.choice.result c.agent.result.answers.now) fault) c.agent.ensures.engine c.in-Err.ensures.fault),
    )
