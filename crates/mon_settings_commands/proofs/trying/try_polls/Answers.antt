use Rattle.std.proofs.Common.{ℕ, subst}
use Rattle.mon_settings_commands.specs.Exchange.{AsksBy}
use Rattle.mon_settings_commands.specs.Tried.{AreTried}
use Rattle.mon_settings_commands.proofs.Trials.{tried_at}
use Rattle.mon_settings_commands.proofs.trying.try_polls.Goals as goal

pub returns : goal.returns
returns g c =
    let asked = c.args.asked in
    let before = c.in_ok-asker.asker.wire in
    let after = c.try_targets.new.asker.wire in
    let last = c.try_targets.new.asker.last_id in
    let r = c.try_targets.result in
    tried_at (g.N.Opens.has_opened c.args.net.now) (g.N.Opens.has_failed c.args.net.now) g.N.Wire.Wire.log asked c.args.targets.now r before after last c.in_ok-asker.ensures.opened
    (subst (λ (id : ℕ). AsksBy (λ log. AreTried asked.agent.word.now c.args.targets.now log r) asked.community.now id last (g.N.Wire.Wire.log before) (g.N.Wire.Wire.log after))
    c.in_ok-asker.ensures.first c.try_targets.ensures)
