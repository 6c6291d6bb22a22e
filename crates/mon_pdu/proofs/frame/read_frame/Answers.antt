use Rattle.std.proofs.Common.{arith}
use Rattle.mon_pdu.proofs.Frames.{frame_clauses}
use Rattle.mon_pdu.proofs.frame.read_frame.Goals as goal

pub returns-clause-framed : goal.returns-clause-framed
returns-clause-framed c = (frame_clauses c.args.octets.now c.frame_at.result c.ok.result (λ i. omega (arith, c.type_inv.octets i)) c.ok.ensures.value c.frame_at.ensures.no_memory c.frame_at.ensures.gives).holds

pub returns-clause-none : goal.returns-clause-none
returns-clause-none c = (frame_clauses c.args.octets.now c.frame_at.result c.ok.result (λ i. omega (arith, c.type_inv.octets i)) c.ok.ensures.value c.frame_at.ensures.no_memory c.frame_at.ensures.gives).none

pub returns-clause-found : goal.returns-clause-found
returns-clause-found c = (frame_clauses c.args.octets.now c.frame_at.result c.ok.result (λ i. omega (arith, c.type_inv.octets i)) c.ok.ensures.value c.frame_at.ensures.no_memory c.frame_at.ensures.gives).found

pub returns-clause-only : goal.returns-clause-only
returns-clause-only c = (frame_clauses c.args.octets.now c.frame_at.result c.ok.result (λ i. omega (arith, c.type_inv.octets i)) c.ok.ensures.value c.frame_at.ensures.no_memory c.frame_at.ensures.gives).only

pub returns-clause-spells : goal.returns-clause-spells
returns-clause-spells c = (frame_clauses c.args.octets.now c.frame_at.result c.ok.result (λ i. omega (arith, c.type_inv.octets i)) c.ok.ensures.value c.frame_at.ensures.no_memory c.frame_at.ensures.gives).spells
