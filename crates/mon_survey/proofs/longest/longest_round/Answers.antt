use Rattle.std.proofs.Common.{◌∙◌, ap}
use Rattle.mon_settings.specs.RoundTime.{greatest_tries}
use Rattle.mon_survey.proofs.longest.longest_round.Goals as goal

pub returns : goal.returns
returns c = λ i. record {
  most = c.round_time.ensures.most i;
  wait_ms = c.args.settings.now.wait_ms;
  tries = (c.greatest_tries.ensures ∙ ap greatest_tries c.targets.ensures.targets) i;
}
