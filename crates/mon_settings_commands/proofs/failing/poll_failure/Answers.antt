use Rattle.std.proofs.Common.{◌≡◌, ◌∙◌, ℤ, ap, rules, string_bytes, subst, sym}
use Rattle.std.specs.Prelude.{IfOk}
use Rattle.std.specs.Int.{w32}
use Rattle.std.proofs.lemmas.Int.{to_z-of_z}
use Rattle.mon_app.specs.declared.fault.AppFault.{AppFault}
use Rattle.mon_app.specs.declared.fault.AppFault.TheVariants.{AgentStatus, Timeout}
use Rattle.mon_console.specs.Failure.{IsSaid}
use Rattle.mon_faults.specs.declared.fault.Fault.TheVariants.{App}
use Rattle.mon_settings_commands.specs.Tried.{IsUnpolled, refused_line, silent_line}
use Rattle.mon_settings_commands.proofs.Lines.{has_line}
use Rattle.mon_settings_commands.proofs.failing.poll_failure.Goals as goal

pub returns-in-AgentStatus-clause-more : goal.returns-in-AgentStatus-clause-more
returns-in-AgentStatus-clause-more c =
    let agent = c.args.agent.now in
    let t = c.args.target.now in
    let status = c.in-AgentStatus.status in
    let said : IsSaid (App (AgentStatus status c.in-AgentStatus.index)) (refused_line agent t status) c.said.result = record {
      fault = c.said.ensures.fault;
      more = has_line c.refused_line.result (refused_line agent t status) c.said.result.more
          (subst (λ (s : ℤ). IfOk c.refused_line.result (λ text. string_bytes text ≡ refused_line agent t s)) (to_z-of_z w32 status (search rules)) c.refused_line.ensures) c.said.ensures.more;
      whole = c.said.ensures.whole;
    } in
    subst (λ (f : AppFault). IsUnpolled agent t f c.said.result) (sym c.in-AgentStatus.is) said

pub returns-in-Timeout-clause-more : goal.returns-in-Timeout-clause-more
returns-in-Timeout-clause-more c =
    let agent = c.args.agent.now in
    let t = c.args.target.now in
    let said : IsSaid (App Timeout) (silent_line agent t) c.said-in-Timeout.result = record {
      fault = c.said-in-Timeout.ensures.fault ∙ ap (λ (f : AppFault). App f) c.in-Timeout.is;
      more = has_line c.silent_line.result (silent_line agent t) c.said-in-Timeout.result.more c.silent_line.ensures c.said-in-Timeout.ensures.more;
      whole = c.said-in-Timeout.ensures.whole;
    } in
    subst (λ (f : AppFault). IsUnpolled agent t f c.said-in-Timeout.result) (sym c.in-Timeout.is) said
