use Rattle.std.proofs.Common.{subst, sym}
use Rattle.mon_mib.specs.Map.{known_by, map_device}
use Rattle.mon_agent.specs.Answer.{IsAnswer}
use Rattle.mon_agent.proofs.agent.Agent.answer_into.Goals as goal

pub returns-in-Ok-clause-answer : goal.returns-in-Ok-clause-answer
returns-in-Ok-clause-answer g c =
    let D = g.D.Device in
    let policy = c.args.self.now.policy in
    let moment = c.args.moment in
    let datagram = c.args.datagram.now in
    subst (λ m. IsAnswer D.held D.failed D.refuses policy (known_by D.held m moment) (map_device m) (map_device c.raise.new.mib) datagram c.finish-reply.result) c.count.ensures
    (subst (λ m. IsAnswer D.held D.failed D.refuses policy (known_by D.held c.count.new.self moment) (map_device c.count.new.self) (map_device m) datagram c.finish-reply.result) (sym c.raise.ensures)
    (c.finish-reply.ensures.answer policy (known_by D.held c.count.new.self moment) datagram c.in-Ok.ensures.ready))
