use Rattle.std.proofs.Common.{subst}
use Rattle.mon_agent.specs.Ready.{IsReady}
use Rattle.mon_agent.proofs.Sent.{assigned_answers}
use Rattle.mon_agent.proofs.agent.Agent.finish.Goals as goal

pub returns-in-Assign-clause-answer : goal.returns-in-Assign-clause-answer
returns-in-Assign-clause-answer g c = λ policy k datagram ready.
    let D = g.D.Device in
    let before = c.args.self.now.mib.device in
    let done = c.assign.ensures.assigned in
    assigned_answers D.held D.failed D.refuses policy k before c.assign.new.self.mib.device datagram c.in-Assign.set done.0 c.assign.result
    (subst (IsReady D.held D.failed D.refuses policy k before datagram) c.in-Assign.is ready) done.1 done.2 done.3 c.assign.ensures.shorter
