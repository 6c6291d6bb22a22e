use Rattle.std.proofs.Common.{◌≡◌, ◌≤◌, ◌∙◌, ◌++◌, [], w32, to_z, of_z, ℤ, length, map, take, drop, pos, refl, ap, subst, rules}
use Rattle.std.specs.Global.{Vec}
use Rattle.std.specs.Prelude.{IfSome}
use Rattle.mon_pdu.specs.declared.message.Message.{Message}
use Rattle.mon_pdu.specs.Framed.{bulk_framed}
use Rattle.mon_pdu.specs.Writing.{written_message}
use Rattle.mon_vacm.specs.View.{IsInView}
use Rattle.mon_mib.specs.Map.{known_by}
use Rattle.mon_mib.specs.Search.{IsSeenIn, known_in}
use Rattle.mon_agent.specs.Bulk.{rounds}
use Rattle.mon_agent.specs.Filling.{AreNamed, FitsIn, IsFilled}
use Rattle.mon_agent.specs.Reply.{count_of, response_body}
use Rattle.mon_agent.proofs.Filling.{both_mapped, bulk_answered}
use Rattle.mon_agent.proofs.InPlace.{read_answered}
use Rattle.mon_agent.proofs.agent.Agent.answer_bulk.Goals as goal

pub returns : goal.returns
returns g c =
    let D = g.D.Device in
    let policy = c.args.self.now.policy in
    let mib = c.args.self.now.mib in
    let known = known_by D.held mib c.args.moment in
    let f = c.args.frame.now in
    let view = c.in_ok-search.ensures.0 in
    let sees = IsInView policy.families view in
    let plan = c.new-plan.result in
    let named : AreNamed f.list.now [] c.read_names.new.names.items = subst (λ old. AreNamed f.list.now old c.read_names.new.names.items) c.clear.ensures.items c.in_ok-read_names.ensures in
    let asked = named.asked in
    let names = c.as_mut_slice.result.now in
    let filled : IsFilled known sees (FitsIn plan) (λ next. map next (take plan.once names) ++ rounds next plan.rounds (drop plan.once names)) c.fill.new.list.items =
    subst (λ s. IsFilled (known_in D.held s) (IsSeenIn s) (FitsIn plan) (λ next. map next (take plan.once names) ++ rounds next plan.rounds (drop plan.once names)) c.fill.new.list.items)
    c.in_ok-search.ensures.2 c.in_ok-fill.ensures in
    let limit_is : to_z w32 (of_z w32 c.settings.result.now.max_message_size) ≡ mib.settings.max_message_size = search rules in
    let id_is : to_z w32 (of_z w32 f.request_id) ≡ f.request_id = search rules in
    let made : ℤ → Message = λ id. record { community = f.community.now; body = response_body id (pos 0) (pos 0) filled.reply } in
    both_mapped c.take_response.result (λ (octets : Vec _). octets.items ≡ written_message (made f.request_id)) (λ (octets : Vec _). length octets.items ≤ count_of mib.settings.max_message_size) _
    (subst (λ id. IfSome c.take_response.result (λ octets. octets.items ≡ written_message (made id))) id_is (c.take_response.ensures.written filled.reply filled.put))
    (subst (λ (z : ℤ). IfSome c.take_response.result (λ octets. length octets.items ≤ count_of z)) limit_is c.take_response.ensures.within)
    (λ octets written within. (
      asked,
      named.spelled,
      read_answered D.held D.failed D.refuses policy known mib.device (bulk_framed f asked) view filled.reply octets refl refl c.in_ok-search.ensures.1
          (bulk_answered known sees plan f asked names c.fill.new.list.items mib.settings.max_message_size c.new-plan.ensures.once c.new-plan.ensures.rounds c.new-plan.ensures.head
          (c.new-plan.ensures.max_message_size ∙ ap count_of limit_is) (c.as_mut_slice.ensures.value ∙ named.named) c.grows.ensures filled (subst (λ text. length text ≤ count_of mib.settings.max_message_size) written within))
          written within,
    ))
