use Rattle.std.proofs.Common.{◌∙◌}
use Rattle.mon_settings_commands.proofs.Trials.{polled}
use Rattle.mon_settings_commands.proofs.trying.try_target.Goals as goal

pub returns-in-Ok : goal.returns-in-Ok
returns-in-Ok g c = polled c.args.asked.agent.word.now c.args.asked.community.now c.args.target.now c.deref.result.now _ c.args.asker.now.last_id c.exchange.new.asker.last_id
    (g.W.Wire.log c.args.asker.now.wire) (g.W.Wire.log c.exchange.new.asker.wire) (c.deref.ensures.value ∙ c.in_ok-names.ensures) c.in-Ok.ensures
