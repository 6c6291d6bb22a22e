use Rattle.std.proofs.Common.{List, ℕ, rules, subst}
use Rattle.std.specs.Fmt.{HasWritten}
use Rattle.std.specs.Int.{w32}
use Rattle.std.proofs.lemmas.Int.{to_z-of_z}
use Rattle.mon_poller.proofs.Said.{named}
use Rattle.mon_poller.proofs.fault.ResponseFaultDisplay.fmt.Goals as goal

pub returns-in-Some-clause-writes : goal.returns-in-Some-clause-writes
returns-in-Some-clause-writes g c = λ plain ok.
    subst (λ (t : List ℕ). HasWritten {W = g.row.W.Denot} g.W.Write.write_str_gives c.args.f.now t c.write.new.self)
    (named c.args.self.now c.status_name.result c.in-Some.name _ _ c.in-AgentError.status _ c.in-AgentError.index c.in-AgentError.is
    (to_z-of_z w32 c.in-AgentError.status (search rules)) (to_z-of_z w32 c.in-AgentError.status (search rules)) (to_z-of_z w32 c.in-AgentError.index (search rules)) c.in-Some.is c.status_name.ensures)
    (c.write.ensures.writes plain ok)
