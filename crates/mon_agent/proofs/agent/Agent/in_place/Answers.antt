use Rattle.mon_pdu.specs.Framed.{framed}
use Rattle.mon_agent.proofs.Filling.{mapped}
use Rattle.mon_agent.proofs.agent.Agent.in_place.Goals as goal

pub returns-in-Some : goal.returns-in-Some
returns-in-Some g c =
    mapped c.answer_frame.result _ _ c.answer_frame.ensures (λ octets found. (framed c.in-Some.frame found.0, c.in-Some.ensures.found found.0 found.1, found.2))
