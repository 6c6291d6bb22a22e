use Rattle.std.proofs.Common.{◌∙◌, ◌++◌, ap}
use Rattle.mon_faults.specs.Fault.{innermost_of}
use Rattle.mon_settings_commands.specs.Settings.{labels_words}
use Rattle.mon_settings_commands.proofs.Lines.{has_line}
use Rattle.mon_settings_commands.proofs.failing.labels_failure.Goals as goal

pub returns : goal.returns
returns c = record {
  survey = record {
    part = ap (λ f. (innermost_of f).part) c.said.ensures.fault ∙ c.survey_fault.ensures.part;
    number = ap (λ f. (innermost_of f).number) c.said.ensures.fault ∙ c.survey_fault.ensures.number;
    name = ap (λ f. (innermost_of f).name) c.said.ensures.fault ∙ c.survey_fault.ensures.name;
  };
  more = has_line c.labels_text.result (c.args.path.now ++ labels_words c.args.fault) c.said.result.more c.labels_text.ensures c.said.ensures.more;
}
