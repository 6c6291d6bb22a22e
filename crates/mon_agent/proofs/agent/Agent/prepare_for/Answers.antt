use Rattle.std.proofs.Common.{◌≡◌, rules, arith, w32, to_z, of_z, pos, refl, sym, ap, subst, ◌∙◌}
use Rattle.mon_vacm.specs.Access.{access_of}
use Rattle.mon_vacm.specs.Borrowed.{granted}
use Rattle.mon_mib.specs.Map.{known_by}
use Rattle.mon_agent.specs.Answer.{IsKnown, IsSilenceOf, need_of}
use Rattle.mon_agent.specs.Ready.{IsReadyFor}
use Rattle.mon_agent.proofs.Sent.{denied_ready, read_ready, ready_with, roomy_with, set_ready, silent_ready}
use Rattle.mon_agent.proofs.Shrinking.{passed_on}
use Rattle.mon_agent.proofs.agent.Agent.prepare_for.Goals as goal

pub returns-in-Some-clause-ready : goal.returns-in-Some-clause-ready
returns-in-Some-clause-ready g c =
    let D = g.D.Device in
    let mib = c.args.self.now.mib in
    let policy = c.args.self.now.policy in
    let known = known_by D.held mib c.args.moment in
    let m = c.args.message in
    let asked : granted c.access-access.result ≡ access_of policy m.community (need_of m.body) =
    c.access-access.ensures ∙ (λ i. access_of policy (c.as_slice.ensures i) (c.need_of-need.ensures i)) in
    silent_ready D.held D.failed D.refuses policy known mib.device m c.in-Some.cause
    (subst (λ a. IsSilenceOf a m.body c.in-Some.cause) asked c.in-Some.ensures.some)

pub returns-in-Some-clause-room : goal.returns-in-Some-clause-room
returns-in-Some-clause-room g c = tt

pub returns-in-Err-clause-ready : goal.returns-in-Err-clause-ready
returns-in-Err-clause-ready g c =
    let D = g.D.Device in
    let mib = c.args.self.now.mib in
    let policy = c.args.self.now.policy in
    let known = known_by D.held mib c.args.moment in
    let m = c.args.message in
    let asked : granted c.access-access.result ≡ access_of policy m.community (need_of m.body) =
    c.access-access.ensures ∙ (λ i. access_of policy (c.as_slice.ensures i) (c.need_of-need.ensures i)) in
    let reply = c.make_return-denied.result in
    let told = passed_on m reply (pos 16) (pos 0) (pos 16) 0 (record { sfits = omega arith }) (omega arith) c.make_return-denied.ensures refl refl in
    let limit_is : to_z w32 (of_z w32 c.settings.result.now.max_message_size) ≡ mib.settings.max_message_size = search rules in
    let is_known : IsKnown policy m = λ unknown. c.in_default.ensures.none.0 (asked ∙ unknown) in
    ready_with (IsReadyFor D.held D.failed D.refuses policy known mib.device m) c.send.result c.make_answer.result c.make_answer.ensures
    (denied_ready D.held D.failed D.refuses policy known mib.device m reply c.in-Err.field-0 (to_z w32 (of_z w32 c.settings.result.now.max_message_size)) c.send.result is_known
    c.in_default.ensures.none.1 (sym asked ∙ ap granted c.in-Err.is) told limit_is c.send.ensures)

pub returns-in-Err-clause-room : goal.returns-in-Err-clause-room
returns-in-Err-clause-room g c = roomy_with c.send.result c.make_answer.result c.make_answer.ensures

pub returns-in-Write-clause-ready : goal.returns-in-Write-clause-ready
returns-in-Write-clause-ready g c =
    let D = g.D.Device in
    let mib = c.args.self.now.mib in
    let policy = c.args.self.now.policy in
    let known = known_by D.held mib c.args.moment in
    let m = c.args.message in
    let asked : granted c.access-access.result ≡ access_of policy m.community (need_of m.body) =
    c.access-access.ensures ∙ (λ i. access_of policy (c.as_slice.ensures i) (c.need_of-need.ensures i)) in
    let set = sym c.need_of-need.ensures ∙ c.in-Write.is in
    set_ready D.held D.failed D.refuses policy known mib.device m c.in-Ok.access.view.now c.prepare_set.result set (sym asked ∙ ap granted c.in-Ok.is) c.prepare_set.ensures.ready

pub returns-in-Write-clause-room : goal.returns-in-Write-clause-room
returns-in-Write-clause-room g c = c.prepare_set.ensures.room

pub returns-in-Read-clause-ready : goal.returns-in-Read-clause-ready
returns-in-Read-clause-ready g c =
    let D = g.D.Device in
    let mib = c.args.self.now.mib in
    let policy = c.args.self.now.policy in
    let known = known_by D.held mib c.args.moment in
    let m = c.args.message in
    let asked : granted c.access-access.result ≡ access_of policy m.community (need_of m.body) =
    c.access-access.ensures ∙ (λ i. access_of policy (c.as_slice.ensures i) (c.need_of-need.ensures i)) in
    let read = sym c.need_of-need.ensures ∙ c.in-Read.is in
    ready_with (IsReadyFor D.held D.failed D.refuses policy known mib.device m) c.read_in.result c.make_answer-in-Read.result c.make_answer-in-Read.ensures
    (read_ready D.held D.failed D.refuses policy known mib.device m c.in-Ok.access.view.now c.read_in.result read c.in_default.ensures.none.1
    (sym asked ∙ ap granted c.in-Ok.is) c.read_in.ensures)

pub returns-in-Read-clause-room : goal.returns-in-Read-clause-room
returns-in-Read-clause-room g c = roomy_with c.read_in.result c.make_answer-in-Read.result c.make_answer-in-Read.ensures

pub read_in-requires-clause-request : goal.read_in-requires-clause-request
read_in-requires-clause-request g c = c.in_default.ensures.none.1

pub read_in-requires-clause-read : goal.read_in-requires-clause-read
read_in-requires-clause-read g c = sym c.need_of-need.ensures ∙ c.in-Read.is
