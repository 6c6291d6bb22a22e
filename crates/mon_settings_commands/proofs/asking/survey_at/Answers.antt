use Rattle.std.proofs.Common.{ℕ, subst}
use Rattle.mon_settings_commands.specs.Exchange.{AsksBy}
use Rattle.mon_settings_commands.specs.Surveyed.{IsSurvey}
use Rattle.mon_settings_commands.proofs.Reached.{surveyed}
use Rattle.mon_settings_commands.proofs.asking.survey_at.Goals as goal

pub returns : goal.returns
returns g c =
    let asked = c.args.asked in
    let before = c.in_ok-asker.asker.wire in
    let after = c.survey_by.new.asker.wire in
    let last = c.survey_by.new.asker.last_id in
    let r = c.survey_by.result in
    surveyed (g.N.Opens.has_opened c.args.net.now) (g.N.Opens.has_failed c.args.net.now) g.N.Wire.Wire.log asked r before after last c.in_ok-asker.ensures.opened
    (subst (λ (id : ℕ). AsksBy (λ log. IsSurvey asked.agent.word.now asked.kinds log r) asked.community.now id last (g.N.Wire.Wire.log before) (g.N.Wire.Wire.log after))
    c.in_ok-asker.ensures.first c.survey_by.ensures)
