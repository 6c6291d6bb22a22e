use Rattle.std.proofs.Common.{◌≡◌, ◌≤◌, ◌⊎◌, [], w32, to_z, of_z, ℤ, length, pos, subst, rules}
use Rattle.std.specs.Global.{Vec}
use Rattle.std.specs.Prelude.{IfSome}
use Rattle.mon_pdu.specs.declared.message.Message.{Message}
use Rattle.mon_pdu.specs.declared.message.PduKind.TheVariants as kinds
use Rattle.mon_pdu.specs.Framed.{framed}
use Rattle.mon_pdu.specs.Writing.{written_message}
use Rattle.mon_vacm.specs.View.{IsInView}
use Rattle.mon_mib.specs.Map.{known_by}
use Rattle.mon_mib.specs.Search.{IsSeenIn, known_in}
use Rattle.mon_agent.specs.InPlace.{ArePut, IsAnswerOf}
use Rattle.mon_agent.specs.Reply.{count_of, response_body}
use Rattle.mon_agent.proofs.Filling.{both_mapped}
use Rattle.mon_agent.proofs.InPlace.{of_frame, read_answered, reads}
use Rattle.mon_agent.proofs.agent.Agent.answer_frame.Goals as goal

pub returns : goal.returns
returns g c =
    let D = g.D.Device in
    let policy = c.args.self.now.policy in
    let mib = c.args.self.now.mib in
    let known = known_by D.held mib c.args.moment in
    let f = c.args.frame.now in
    let view = c.in_ok-search.ensures.0 in
    let list = c.put_answers.new.out.items in
    let kind : (f.kind ≡ kinds.Get) ⊎ (f.kind ≡ kinds.GetNext) = c.is_in_place.ensures.0 c.if-not-is_in_place.false in
    let put : ArePut (IsAnswerOf known (IsInView policy.families view) f.kind) f.list.now [] list =
    subst (λ old. ArePut (IsAnswerOf known (IsInView policy.families view) f.kind) f.list.now old list) c.clear.ensures.items
    (subst (λ s. ArePut (IsAnswerOf (known_in D.held s) (IsSeenIn s) f.kind) f.list.now c.clear.new.self.items list) c.in_ok-search.ensures.2 c.in_ok-put_answers.ensures) in
    let limit_is : to_z w32 (of_z w32 c.settings.result.now.max_message_size) ≡ mib.settings.max_message_size = search rules in
    let id_is : to_z w32 (of_z w32 f.request_id) ≡ f.request_id = search rules in
    let made : ℤ → Message = λ id. record { community = f.community.now; body = response_body id (pos 0) (pos 0) put.answers } in
    both_mapped c.take_response.result (λ (octets : Vec _). octets.items ≡ written_message (made f.request_id)) (λ (octets : Vec _). length octets.items ≤ count_of mib.settings.max_message_size) _
    (subst (λ id. IfSome c.take_response.result (λ octets. octets.items ≡ written_message (made id))) id_is (c.take_response.ensures.written put.answers put.put))
    (subst (λ (z : ℤ). IfSome c.take_response.result (λ octets. length octets.items ≤ count_of z)) limit_is c.take_response.ensures.within)
    (λ octets written within. (
      put.asked,
      put.spelled,
      read_answered D.held D.failed D.refuses policy known mib.device (framed f put.asked) view put.answers octets (reads f.kind kind).0 (reads f.kind kind).1 c.in_ok-search.ensures.1
          (of_frame known (IsInView policy.families view) f.kind put.asked put.answers kind put.right) written within,
    ))
