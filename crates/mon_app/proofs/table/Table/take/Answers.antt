use Rattle.std.proofs.Common.{◌≡◌, ◌++◌, ◌∷◌, [], List, take, refl, sym, ap, ◌∙◌, append_assoc, Some, None}
use Rattle.std.specs.Option.{option_map}
use Rattle.std.proofs.lemmas.List.{append-nil}
use Rattle.mon_app.specs.Offer.{Offer}
use Rattle.mon_app.specs.Reading.{offer_in, offers_of}
use Rattle.mon_app.specs.Response.{stamp_in, offered_by}
use Rattle.mon_app.specs.Windows.{rows_of}
use Rattle.mon_app.proofs.Counting.{offers_more, offers_same, no_offers}
use Rattle.mon_app.proofs.table.Table.take.Goals as goal
use Rattle.mon_app.proofs.table.Table.take.Goals.{in-Some+in_ok-take_sample, in_default}

pub loop-binding-init : goal.loop-binding-init
loop-binding-init c = record {
  size = refl;
  rows = λ taken is. is ∙ ap (rows_of c.args.self.now.size) (sym (append-nil taken) ∙ ap (λ xs. taken ++ xs) (sym (no_offers (stamp_in c.args.response.now) c.args.response.now.bindings.now)));
}

pub loop-binding-preserved : goal.loop-binding-preserved
loop-binding-preserved c =
    let n = c.args.self.now.size in
    let response = c.args.response.now in
    let bindings = response.bindings.now in
    let at = c.loop-binding.binding-index in
    let before = c.loop-binding.invariant in
    let binding = c.binding-item.result in
    let stamp = stamp_in response in
    let offers = offers_of stamp (take at bindings) in
    let prior : (taken : List Offer) → c.args.self.now.rows.items ≡ rows_of n taken → c.loop-binding.self.rows.items ≡ rows_of c.loop-binding.self.size (taken ++ offers) =
    λ taken is. before.rows taken is ∙ ap (λ m. rows_of m (taken ++ offers)) (sym before.size) in
    record {
      size = elim c.match-sample.branch [
        | in-Some+in_ok-take_sample w ↦ ap (λ t. t.size) w.self-is ∙ w.take_sample.ensures.size ∙ before.size
        | in_default w ↦ ap (λ t. t.size) w.self-is ∙ before.size
      ];
      rows = λ taken is. elim c.match-sample.branch [
        | in-Some+in_ok-take_sample w ↦
            let x : Offer = offered_by response binding.name w.in-Some.sample in
            let offered : offer_in stamp binding ≡ Some x = sym c.sample.ensures ∙ ap (option_map (λ s. offered_by response binding.name s)) w.in-Some.is in
            ap (λ t. t.rows.items) w.self-is ∙ w.in_ok-take_sample.ensures.rows (taken ++ offers) (prior taken is)
            ∙ (λ j. rows_of (before.size j) (append_assoc taken offers (x ∷ []) j))
            ∙ ap (λ xs. rows_of n (taken ++ xs)) (sym (offers_more stamp bindings at binding x c.loop-binding-test.true c.binding-item.is offered))
        | in_default w ↦
            let none : offer_in stamp binding ≡ None = sym c.sample.ensures ∙ ap (option_map (λ s. offered_by response binding.name s)) w.in_default.is in
            ap (λ t. t.rows.items) w.self-is ∙ before.rows taken is
            ∙ ap (λ xs. rows_of n (taken ++ xs)) (sym (offers_same stamp bindings at binding c.loop-binding-test.true c.binding-item.is none))
      ];
    }
