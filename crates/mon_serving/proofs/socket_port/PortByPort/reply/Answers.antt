use Rattle.std.proofs.Common.{subst, sym}
use Rattle.std.specs.Prelude.{ℕ, None}
use Rattle.mon_serving.specs.AtPort.{Happens, IsReplied}
use Rattle.mon_serving.proofs.Servings.{sent_over}
use Rattle.mon_serving.proofs.socket_port.PortByPort.reply.Goals as goal

pub returns-clause-happens : goal.returns-clause-happens
returns-clause-happens g c =
    subst (λ (n : ℕ). Happens (IsReplied c.args.octets.now) None None c.args.self.now.failures n) (sym c.failed_after-self.ensures)
    (sent_over c.args.octets.now c.send-sent.result c.args.self.now.failures)
