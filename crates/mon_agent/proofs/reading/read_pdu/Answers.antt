use Rattle.std.proofs.Common.{◌≡◌, [], rules, sym, subst}
use Rattle.mon_pdu.specs.declared.message.Body.TheVariants as bodies
use Rattle.mon_pdu.specs.declared.message.Message.{Message}
use Rattle.mon_pdu.specs.declared.message.PduKind.TheVariants as kinds
use Rattle.mon_mib.specs.Search.{IsSeenIn, known_in}
use Rattle.mon_agent.specs.Answer.{IsOfKind}
use Rattle.mon_agent.specs.Reply.{answered}
use Rattle.mon_agent.specs.Step.{IsGetAnswer, IsNextAnswer}
use Rattle.mon_agent.proofs.Read.{of_kind, read_out}
use Rattle.mon_agent.proofs.reading.read_pdu.Goals as goal

pub returns-then-eq : goal.returns-then-eq
returns-then-eq g c =
    let known = known_in g.D.Device.held c.args.search.now in
    let sees = IsSeenIn c.args.search.now in
    let p = c.args.pdu in
    let m : Message = record { community = c.args.community; body = bodies.Pdu p } in
    let told : c.make_response-head.result ≡ answered m [] = search rules in
    let get : p.kind ≡ kinds.Get = search rules in
    read_out known sees c.args.community p (IsGetAnswer known sees) c.make_response-head.result c.into_vec-asked.result.items c.read_names.result told c.into_vec-asked.ensures
    (λ answers each. subst (λ kind. IsOfKind known sees kind p.bindings answers) (sym get) each) c.read_names.ensures

pub returns-else-eq : goal.returns-else-eq
returns-else-eq g c =
    let known = known_in g.D.Device.held c.args.search.now in
    let sees = IsSeenIn c.args.search.now in
    let p = c.args.pdu in
    let m : Message = record { community = c.args.community; body = bodies.Pdu p } in
    let told : c.make_response-head.result ≡ answered m [] = search rules in
    let other : p.kind ≡ kinds.Get → ⊥ = search rules in
    read_out known sees c.args.community p (IsNextAnswer known sees) c.make_response-head.result c.as_slice.result.now c.read_next.result told (search rules)
    (λ answers each. of_kind known sees p.kind p.bindings answers c.requires.answered c.requires.read other each) c.read_next.ensures
