use Rattle.std.proofs.Common.{List, ℕ, ◌∷◌, [], subst}
use Rattle.std.specs.Global.{Vec}
use Rattle.std.specs.Prelude.{Ok}
use Rattle.mon_host.specs.Then.{Quietly}
use Rattle.mon_pdu.specs.declared.message.Binding.{Binding}
use Rattle.mon_settings_commands.specs.Exchange.{AsksBy, IsQuestion}
use Rattle.mon_settings_commands.specs.Walked.{IsReplyPut, bulk, stand, turned}
use Rattle.mon_settings_commands.proofs.Exchanged.{asks_quietly, asks_then}
use Rattle.mon_settings_commands.proofs.asking.step.Goals as goal

pub returns : goal.returns
returns g c =
    let agent = c.args.asked.agent.word.now in
    let community = c.args.asked.community.now in
    let s = stand c.args.place.now c.args.answers.now in
    let id = c.args.asker.now.last_id in
    let last = c.ask.new.asker.last_id in
    let before = g.W.Wire.log c.args.asker.now.wire in
    let after = g.W.Wire.log c.ask.new.asker.wire in
    let bindings = c.in_ok-bindings.bindings in
    let result = turned (stand c.take.new.place c.take.new.answers) c.take.result in
    asks_then community (IsQuestion agent bulk (c.args.place.now.last ∷ [])) (λ (given : Vec Binding). Quietly (IsReplyPut agent s given.items)) bindings result id last last before after after
    (subst (λ (names : List (List ℕ)). AsksBy (λ log. IsQuestion agent bulk names log (Ok bindings)) community id last before after) c.from_ref.ensures.value c.in_ok-bindings.ensures)
    (asks_quietly community (IsReplyPut agent s bindings.items) result last after
    (subst (λ (items : List Binding). IsReplyPut agent s items result) c.deref_mut.ensures.value c.take.ensures))
