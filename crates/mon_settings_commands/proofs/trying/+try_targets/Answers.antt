use Rattle.mon_settings_commands.proofs.Trials.{first_and_rest, first_fails, then_others}
use Rattle.mon_settings_commands.proofs.trying.+try_targets.Goals as goal

pub returns-in_err-try_target : goal.returns-in_err-try_target
returns-in_err-try_target g t c =
    first_fails c.args.asked.agent.word.now c.args.asked.community.now c.args.targets.now c.first-item.result _ c.in_err-try_target.field-0.0 c.from_residual.result c.args.asker.now.last_id
    c.try_target.new.asker.last_id (g.W.Wire.log c.args.asker.now.wire) (g.W.Wire.log c.try_target.new.asker.wire)
    (first_and_rest c.args.targets.now c.first-item.result c.in-len1-up.len_at_least c.first-item.is) c.from_residual.ensures.1 c.in_err-try_target.ensures

pub returns : goal.returns
returns g t c =
    then_others c.args.asked.agent.word.now c.args.asked.community.now c.args.targets.now c.first-item.result _ c.in_ok-try_target.field-0 c.try_targets.result c.args.asker.now.last_id
    c.try_target.new.asker.last_id c.try_targets.new.asker.last_id (g.W.Wire.log c.args.asker.now.wire) (g.W.Wire.log c.try_target.new.asker.wire)
    (g.W.Wire.log c.try_targets.new.asker.wire) (first_and_rest c.args.targets.now c.first-item.result c.in-len1-up.len_at_least c.first-item.is) c.in_ok-try_target.ensures c.try_targets.ensures
