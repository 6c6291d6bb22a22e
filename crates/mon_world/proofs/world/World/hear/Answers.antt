use Rattle.std.proofs.Common.{List, length, subst}
use Rattle.mon_poller.specs.declared.target.Target.{Target}
use Rattle.mon_station.specs.declared.event.Event.TheVariants.{FromAgent}
use Rattle.mon_world.specs.Outcome.{Hands, Hears, IsSpeaker}
use Rattle.mon_world.specs.Places.{setting_at}
use Rattle.mon_world.proofs.Leading.{leads_as}
use Rattle.mon_world.proofs.world.World.hear.Goals as goal

pub returns-clause-outcome : goal.returns-clause-outcome
returns-clause-outcome c past was =
    let self = c.args.self.now in
    let w = setting_at self.core (length self.stations.items) c.args.number in
    let speaks : IsSpeaker self.core.targets c.args.target c.speaker-from.result = subst (λ (targets : List Target). IsSpeaker targets c.args.target c.speaker-from.result) c.targets.ensures.targets c.speaker-from.ensures in
    leads_as c.handle.new.self.core c.handle.new.self.stations.items c.handle.new.self.sent.items past (Hands w c.args.number (FromAgent c.speaker-from.result c.args.octets.now)) (Hears w c.args.number c.args.target c.args.octets.now) c.handle.result
    (λ answer now hands. record { from = c.speaker-from.result; speaks = speaks; hands = hands })
    (c.handle.ensures.outcome past was)
