use Rattle.std.proofs.Common.{◌≡◌, ◌+◌, ◌≤◌, ◌++◌, ◌∷◌, [], length, not, ◌||◌, take, refl, sym, ap, ◌∙◌, subst, arith, rules, Some, None}
use Rattle.std.specs.FinSet.{contains}
use Rattle.std.specs.Option.{option_map}
use Rattle.mon_board.specs.Instance.{named}
use Rattle.mon_app.specs.Offer.{Offer}
use Rattle.mon_app.specs.Reading.{offer_in, offers_of}
use Rattle.mon_app.specs.Response.{stamp_in, offered_by}
use Rattle.mon_app.specs.Windows.{instances}
use Rattle.mon_app.proofs.Counting.{Counted, all_fit, is_one_of, none_counted, found_new, counted_known, counted_before, offers_more, offers_same, no_offers, not_true, not_false}
use Rattle.mon_app.proofs.table.Table.has_room.Goals as goal
use Rattle.mon_app.proofs.table.Table.has_room.Goals.{then-is_new+in_ok-push+else-len-gt-LIMIT, else-is_new}

pub loop-binding-init : goal.loop-binding-init
loop-binding-init c = λ taken is.
    let response = c.args.response.now in
    let rows = c.args.self.now.rows.items in
    subst (λ fresh. Counted taken (offers_of (stamp_in response) []) response.stamp.engine.now rows fresh) (sym c.new-fresh.ensures.items)
    (subst (λ offers. Counted taken offers response.stamp.engine.now rows []) (sym (no_offers (stamp_in response) response.bindings.now))
    (none_counted c.args.self.now.size taken response.stamp.engine.now rows is))

pub loop-binding-preserved-in_default : goal.loop-binding-preserved-in_default
loop-binding-preserved-in_default c = λ taken is.
    let response = c.args.response.now in
    let stamp = stamp_in response in
    let binding = c.binding-item.result in
    let none : offer_in stamp binding ≡ None = sym c.sample.ensures ∙ ap (option_map (λ s. offered_by response binding.name s)) c.in_default.is in
    subst (λ offers. Counted taken offers response.stamp.engine.now c.args.self.now.rows.items c.loop-binding.fresh.items)
    (sym (offers_same stamp response.bindings.now c.loop-binding.binding-index binding c.loop-binding-test.true c.binding-item.is none))
    (c.loop-binding.invariant taken is)

pub returns-then-len-gt-LIMIT : goal.returns-then-len-gt-LIMIT
returns-then-len-gt-LIMIT c = λ taken is.
    let response = c.args.response.now in
    let stamp = stamp_in response in
    let rows = c.args.self.now.rows.items in
    let binding = c.binding-item.result in
    let at = c.loop-binding.binding-index in
    let fresh = c.loop-binding.fresh.items in
    let i = named stamp.engine binding.name in
    let x : Offer = offered_by response binding.name c.in-Some.field-0 in
    let offered : offer_in stamp binding ≡ Some x = sym c.sample.ensures ∙ ap (option_map (λ s. offered_by response binding.name s)) c.in-Some.is in
    let new : c.is_new.result ≡ not (contains (instances taken) i || is_one_of fresh binding.name) =
    c.is_new.ensures c.args.self.now.size taken (c.rows.ensures ∙ is) ∙ ap (λ f. not (contains (instances taken) i || is_one_of f binding.name)) c.as_slice.ensures.value in
    let counted : Counted taken (offers_of stamp (take (at + 1) response.bindings.now)) stamp.engine rows c.push.new.self.items =
    subst (λ f. Counted taken (offers_of stamp (take (at + 1) response.bindings.now)) stamp.engine rows f) (sym c.in_ok-push.ensures.items)
    (found_new taken stamp response.bindings.now at binding c.in-Some.field-0 rows fresh _ (c.loop-binding.invariant taken is)
    c.loop-binding-test.true c.binding-item.is offered refl (not_true _ (sym new ∙ c.if-is_new.true))) in
    let many = counted_before taken stamp response.bindings.now (at + 1) stamp.engine rows c.push.new.self.items counted in
    let held : c.len-then-is_new.result ≡ length rows = search rules in
    let listed : c.len-then-is_new-2.result ≡ length c.push.new.self.items = search rules in
    (λ t. absurd (search rules), λ few. absurd (omega arith))

pub loop-binding-preserved : goal.loop-binding-preserved
loop-binding-preserved c = λ taken is.
    let response = c.args.response.now in
    let stamp = stamp_in response in
    let rows = c.args.self.now.rows.items in
    let binding = c.binding-item.result in
    let at = c.loop-binding.binding-index in
    let fresh = c.loop-binding.fresh.items in
    let offers = offers_of stamp (take at response.bindings.now) in
    let i = named stamp.engine binding.name in
    let x : Offer = offered_by response binding.name c.in-Some.field-0 in
    let offered : offer_in stamp binding ≡ Some x = sym c.sample.ensures ∙ ap (option_map (λ s. offered_by response binding.name s)) c.in-Some.is in
    let counted = c.loop-binding.invariant taken is in
    let new : c.is_new.result ≡ not (contains (instances taken) i || is_one_of fresh binding.name) =
    c.is_new.ensures c.args.self.now.size taken (c.rows.ensures ∙ is) ∙ ap (λ f. not (contains (instances taken) i || is_one_of f binding.name)) c.as_slice.ensures.value in
    elim c.if-is_new.branch [
      | then-is_new+in_ok-push+else-len-gt-LIMIT w ↦
          subst (λ f. Counted taken (offers_of stamp (take (at + 1) response.bindings.now)) stamp.engine rows f) (sym (ap (λ v. v.items) w.fresh-is ∙ w.in_ok-push.ensures.items))
          (found_new taken stamp response.bindings.now at binding c.in-Some.field-0 rows fresh _ counted
          c.loop-binding-test.true c.binding-item.is offered refl (not_true _ (sym new ∙ w.if-is_new.true)))
      | else-is_new w ↦
          subst (λ os. Counted taken os stamp.engine rows c.if-is_new.fresh.items) (sym (offers_more stamp response.bindings.now at binding x c.loop-binding-test.true c.binding-item.is offered))
          (subst (λ f. Counted taken (offers ++ x ∷ []) stamp.engine rows f) (sym (ap (λ v. v.items) w.fresh-is))
          (counted_known taken offers stamp.engine rows fresh counted binding.name c.in-Some.field-0 (not_false _ (sym new ∙ w.if-is_new.false))))
    ]

pub returns-then-len-response-le-LIMIT : goal.returns-then-len-response-le-LIMIT
returns-then-len-response-le-LIMIT c = λ taken is.
    let response = c.args.response.now in
    let rows = c.args.self.now.rows.items in
    let held : c.len.result ≡ length rows = search rules in
    let room : length rows + length response.bindings.now ≤ 256 = search rules in
    (λ yes. all_fit c.args.self.now.size taken rows (stamp_in response) response.bindings.now is room, λ few. refl)
