use Rattle.std.proofs.Common.{arith}
use Rattle.mon_pdu.proofs.Frames.{bulk_clauses}
use Rattle.mon_pdu.proofs.frame.read_bulk_frame.Goals as goal

pub returns-clause-framed : goal.returns-clause-framed
returns-clause-framed c = (bulk_clauses c.args.octets.now c.bulk_frame_at.result c.ok.result (λ i. omega (arith, c.type_inv.octets i)) c.ok.ensures.value c.bulk_frame_at.ensures.no_memory c.bulk_frame_at.ensures.gives).holds

pub returns-clause-none : goal.returns-clause-none
returns-clause-none c = (bulk_clauses c.args.octets.now c.bulk_frame_at.result c.ok.result (λ i. omega (arith, c.type_inv.octets i)) c.ok.ensures.value c.bulk_frame_at.ensures.no_memory c.bulk_frame_at.ensures.gives).none

pub returns-clause-found : goal.returns-clause-found
returns-clause-found c = (bulk_clauses c.args.octets.now c.bulk_frame_at.result c.ok.result (λ i. omega (arith, c.type_inv.octets i)) c.ok.ensures.value c.bulk_frame_at.ensures.no_memory c.bulk_frame_at.ensures.gives).found

pub returns-clause-only : goal.returns-clause-only
returns-clause-only c = (bulk_clauses c.args.octets.now c.bulk_frame_at.result c.ok.result (λ i. omega (arith, c.type_inv.octets i)) c.ok.ensures.value c.bulk_frame_at.ensures.no_memory c.bulk_frame_at.ensures.gives).only

pub returns-clause-spells : goal.returns-clause-spells
returns-clause-spells c = (bulk_clauses c.args.octets.now c.bulk_frame_at.result c.ok.result (λ i. omega (arith, c.type_inv.octets i)) c.ok.ensures.value c.bulk_frame_at.ensures.no_memory c.bulk_frame_at.ensures.gives).spells
