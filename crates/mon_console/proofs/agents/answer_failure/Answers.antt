use Rattle.std.proofs.Common.{subst, sym}
use Rattle.mon_app.specs.declared.fault.AppFault.{AppFault}
use Rattle.mon_console.specs.Agents.{IsUnanswered, status_line}
use Rattle.std.specs.Int.{w32}
use Rattle.std.proofs.Common.{rules}
use Rattle.std.proofs.lemmas.Int.{to_z-of_z}
use Rattle.mon_console.proofs.Statuses.{line_of}
use Rattle.mon_console.proofs.Lines.{has_line}
use Rattle.mon_console.specs.Failure.{IsSaid}
use Rattle.mon_faults.specs.declared.fault.Fault.TheVariants.{App}
use Rattle.mon_app.specs.declared.fault.AppFault.TheVariants.{AgentStatus}
use Rattle.mon_console.proofs.agents.answer_failure.Goals as goal

pub returns-in-AgentStatus-clause-more : goal.returns-in-AgentStatus-clause-more
returns-in-AgentStatus-clause-more c =
    let status = c.in-AgentStatus.status in
    let index = c.in-AgentStatus.index in
    let said : IsSaid (App (AgentStatus status index)) (status_line c.args.agent.now status index) c.said.result = record {
      fault = c.said.ensures.fault;
      more = has_line c.status_text.result (status_line c.args.agent.now status index) c.said.result.more
          (line_of c.status_text.result c.args.agent.now status index _ _ (to_z-of_z w32 status (search rules)) (to_z-of_z w32 index (search rules)) c.status_text.ensures) c.said.ensures.more;
      whole = c.said.ensures.whole;
    } in
    subst (λ (f : AppFault). IsUnanswered c.args.agent.now f c.said.result) (sym c.in-AgentStatus.is) said

pub returns-in-SocketFault-clause-more : goal.returns-in-SocketFault-clause-more
returns-in-SocketFault-clause-more c =
    subst (λ (f : AppFault). IsUnanswered c.args.agent.now f c.without_socket.result) (sym c.in-SocketFault.is) c.without_socket.ensures
