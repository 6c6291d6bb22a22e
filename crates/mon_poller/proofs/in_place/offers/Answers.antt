use Rattle.std.proofs.Common.{ℕ, List, [], sym, ap, subst, ◌∙◌, Ok, Some, refl}
use Rattle.std.specs.List.{flat_map}
use Rattle.mon_poller.specs.declared.poller.Offered.{Offered}
use Rattle.mon_poller.specs.declared.target.Object.{Object}
use Rattle.mon_poller.specs.InPlace.{OffersSo}
use Rattle.mon_poller.specs.Stamp.{Stamp}
use Rattle.mon_poller.specs.Target.{SpellNames, object_names}
use Rattle.mon_poller.proofs.InPlace.{objects_left, own_stamp, stamp_spelled, stamped, stamped_named, stamped_offers}
use Rattle.mon_poller.proofs.in_place.offers.Goals as goal

pub put_pairs-requires : goal.put_pairs-requires
put_pairs-requires c =
    let left = objects_left c.args.target.now _ _ _ c.in_ok-time.unread.names.now _ _ _ c.in_ok-time.unread.list.now _ _ _ c.requires c.in_ok-unread.ensures.1 c.in_ok-boots.ensures.number.1 c.in_ok-time.ensures.number.1 in
    subst (λ (os : List Object). SpellNames c.in_ok-time.unread.names.now (flat_map object_names os)) (sym c.as_slice-2.ensures) left

pub returns : goal.returns
returns c =
    let t = c.args.target.now in
    let rest = c.in_ok-time.unread.list.now in
    let new = c.put_pairs.new.pairs in
    let e = c.in_ok-unread.ensures in
    let b = c.in_ok-boots.ensures.number in
    let n = c.in_ok-time.ensures.number in
    let stamp : Stamp = record { engine = t.engine; boots = c.in_ok-boots.boots; time = c.in_ok-time.time } in
    let given : OffersSo stamp c.as_slice-2.result.now rest c.new-pairs.result new = c.in_ok-put_pairs.ensures in
    let offered : OffersSo stamp t.objects rest [] new =
    subst (λ (os : List Object). OffersSo stamp os rest [] new) c.as_slice-2.ensures (subst (λ (ps : List (ℕ × ℕ)). OffersSo stamp c.as_slice-2.result.now rest ps new) c.new-pairs.ensures given) in
    let is = own_stamp t.engine e.0 b.0 n.0 c.in_ok-boots.boots c.in_ok-time.time (e.2 ∙ ap (λ (o : List ℕ). Some o) c.as_slice.ensures) b.2 n.2 in (
      stamped e.0 b.0 n.0 offered.bindings,
      stamp_spelled t _ _ _ c.in_ok-time.unread.names.now _ _ _ rest e.0 b.0 n.0 c.requires e.1 b.1 n.1 offered.bindings offered.spelled,
      stamped_named t e.0 b.0 n.0 offered.bindings offered.named,
      stamped_offers c.args.number t stamp e.0 b.0 n.0 offered.bindings is refl
          ∙ ap (λ (ps : List (ℕ × ℕ)). let o : Offered = record { target = c.args.number; boots = stamp.boots; time = stamp.time; pairs = ps } in Ok o) (sym offered.offers),
    )
