use Rattle.std.proofs.Common.{◌≡◌, ◌≤◌, pos, length, sym, ap, subst, arith}
use Rattle.std.specs.Prelude.{IfOk}
use Rattle.mon_pdu.specs.Grammar.{bindings_of}
use Rattle.mon_pdu.specs.Writing.{written_message}
use Rattle.mon_mib.specs.declared.set_fault.SetFault.{SetFault}
use Rattle.mon_mib.specs.SetStatus.{status_number}
use Rattle.mon_agent.specs.Assigned.{returned}
use Rattle.mon_agent.specs.Ready.{IsNumbered, IsReturned}
use Rattle.mon_agent.proofs.Sent.{returned_with}
use Rattle.mon_agent.proofs.Shrinking.{has_length, passed_on, refusal_fits, refused_shorter}
use Rattle.mon_agent.proofs.assigning.make_refusal.Goals as goal

pub write-requires-clause-size : goal.write-requires-clause-size
write-requires-clause-size c =
    let m = c.args.response in
    let status = c.in-Refused.status in
    let index = c.in-Refused.index in
    let place : index ≤ length (bindings_of m.body) = subst (IsNumbered (length (bindings_of m.body))) c.in-Refused.is c.requires.number in
    let told : c.make_return-response.result ≡ returned m (status_number status) (pos index) =
    passed_on m c.make_return-response.result c.number.result c.index_of.result (status_number status) index (refusal_fits status)
    (omega (arith, place, c.requires.few)) c.make_return-response.ensures c.number.ensures c.index_of.ensures in
    omega (arith, ap (λ r. length (written_message r)) told, refused_shorter c.shrinks.ensures m c.requires.greatest status index place, c.requires.size)

pub write-requires-clause-length : goal.write-requires-clause-length
write-requires-clause-length c = has_length c.make_return-response.result c.args.size (write-requires-clause-size c) c.requires.small

pub returns-in-Refused : goal.returns-in-Refused
returns-in-Refused c =
    let m = c.args.response in
    let status = c.in-Refused.status in
    let index = c.in-Refused.index in
    let place : index ≤ length (bindings_of m.body) = subst (IsNumbered (length (bindings_of m.body))) c.in-Refused.is c.requires.number in
    let told : c.make_return-response.result ≡ returned m (status_number status) (pos index) =
    passed_on m c.make_return-response.result c.number.result c.index_of.result (status_number status) index (refusal_fits status)
    (omega (arith, place, c.requires.few)) c.make_return-response.ensures c.number.ensures c.index_of.ensures in
    subst (λ (f : SetFault). IfOk c.write.result (IsReturned m f)) (sym c.in-Refused.is)
    (returned_with m c.make_return-response.result status index c.write.result told c.write.ensures)
