-- What an insertion by a plan makes of a window of rising samples.
use Rattle.std.proofs.Common.{◌≡◌, ℕ, ◌-◌, ◌≤◌, ◌<◌, false, List, length, get_or, refl, sym, ap, ◌∙◌, subst, Some, None}
use Rattle.std.specs.List.{insert, remove, slice_get}
use Rattle.std.proofs.lemmas.Bool.{true≢false}
use Rattle.std.specs.List.Sorted.{IsStrictlySortedBy}
use Rattle.std.specs.FinSet as set
use Rattle.std.specs.Ordering.{nat_cmp}
use Rattle.std.specs.Cmp.{nat_cmp_total}
use Rattle.std.specs.FinSet.{nat_cmp-IsAntisymmetric}
use Rattle.mon_sample.specs.Key.{boots_of}
use Rattle.mon_window.specs.declared.window.Inserted.TheVariants.{Added, Known, TooOld}
use Rattle.mon_window.specs.Inserted.{IsAddition, IsInsertion}
use Rattle.mon_window.specs.Keep.{keep}
use Rattle.mon_window.specs.Leaving.{Fits, HasRoom, IsLeaving}
use Rattle.mon_window.specs.Place.{IsPlace}
use Rattle.mon_window.specs.Plan.{IsJoining, IsReplacing, IsTooOld}
use Rattle.mon_window.specs.Top.{rising}
use Rattle.mon_window.specs.Window.{Window, In}
use Rattle.mon_window.proofs.Rising.{rising-from_list}
use Rattle.mon_window.proofs.Members.{in_from_place}
use Rattle.mon_window.proofs.Kept.{insert-known, from_list-placed, sorted-placed, place_of_placed}
use Rattle.mon_window.proofs.Leaving.{keep-fits, fits-room, keep-room, keep-old, sorted-moved, fits-moved, keep-moved, insert-moved, left-moved, place-moved, regain-moved}

abbrev window : ℕ → ℕ → List ℕ → Window
window n m xs = record { size = n; epoch = m; items = set.from_list xs }

abbrev kept : Window → ℕ → Window
kept w x = record { size = w.size; epoch = w.epoch; items = keep boots_of w.size w.epoch (set.insert w.items x) }

module _ (n m x : ℕ) (xs : List ℕ) (w : Window) (view : window n m xs ≡ w) (s : IsStrictlySortedBy nat_cmp xs) (f : Fits boots_of n m xs) where
  list_is : rising w.items ≡ xs
  list_is = ap (λ (v : Window). rising v.items) (sym view) ∙ rising-from_list nat_cmp_total nat_cmp-IsAntisymmetric xs s

  -- the window as it is kept
  became : (new : List ℕ) → set.from_list {R = nat_cmp} new ≡ keep boots_of n m (set.insert (set.from_list xs) x) → window n m new ≡ kept w x
  became new is = subst (λ v. window n m new ≡ kept v x) view (λ i. record { size = n; epoch = m; items = is i })

  -- only the items are new
  pub same-sizes : (new : List ℕ) → window n m new ≡ record { size = w.size; epoch = w.epoch; items = set.from_list new }
  same-sizes new = subst (λ v. window n m new ≡ record { size = v.size; epoch = v.epoch; items = set.from_list new }) view refl

  -- ---- it was there
  pub known-inserted : In x w.items → IsInsertion (keep boots_of w.size w.epoch) w.items w.items x Known
  known-inserted there = record {
    items = ap (λ (v : Window). v.items) (subst (λ v. v ≡ kept v x) view (λ i. record { size = n; epoch = m; items = sym same i }));
    known = ((λ _. there), (λ _. refl));
    too_old = ((λ e. cc), (λ h. absurd (true≢false (sym there ∙ h.0))));
    added = tt;
    same = refl;
  }
    where
      here : In x (set.from_list xs)
      here = subst (λ (v : Window). In x v.items) (sym view) there

      same : keep boots_of n m (set.insert (set.from_list {R = nat_cmp} xs) x) ≡ set.from_list xs
      same = ap (keep boots_of n m) (insert-known nat_cmp_total nat_cmp-IsAntisymmetric (set.from_list xs) x here) ∙ keep-fits nat_cmp_total nat_cmp-IsAntisymmetric boots_of n m xs s f

  -- ---- the sample itself would leave
  pub too_old-inserted : IsTooOld w x → IsInsertion (keep boots_of w.size w.epoch) w.items w.items x TooOld
  too_old-inserted old = record {
    items = old.kept;
    known = ((λ e. cc), (λ there. absurd (true≢false (sym there ∙ old.absent))));
    too_old = ((λ _. (old.absent, old.absent)), (λ _. refl));
    added = tt;
    same = refl;
  }

  pub plan-too_old : (at : ℕ) → IsPlace nat_cmp xs x at → IsLeaving boots_of n m (boots_of x) xs at at → IsTooOld w x
  plan-too_old at p leaving = subst (λ v. IsTooOld v x) view (record { absent = p.absent; kept = keep-old nat_cmp_total nat_cmp-IsAntisymmetric boots_of n m x xs at s p f leaving })

  -- ---- the window is not full
  pub plan-joins : (at : ℕ) → IsPlace nat_cmp xs x at → HasRoom boots_of n m (boots_of x) xs → IsJoining w x at
  plan-joins at p room =
      let list = sym (rising-from_list nat_cmp_total nat_cmp-IsAntisymmetric xs s) in
      subst (λ v. IsJoining v x at) view (record { place = subst (λ ys. IsPlace nat_cmp ys x at) list p; room = subst (HasRoom boots_of n m (boots_of x)) list room })

  module _ (at : ℕ) (j : IsJoining w x at) (new : List ℕ) (is : new ≡ insert xs at x) where
    here : IsJoining (window n m xs) x at
    here = subst (λ v. IsJoining v x at) (sym view) j

    place : IsPlace nat_cmp xs x at
    place = subst (λ ys. IsPlace nat_cmp ys x at) (rising-from_list nat_cmp_total nat_cmp-IsAntisymmetric xs s) here.place

    room : HasRoom boots_of n m (boots_of x) xs
    room = subst (HasRoom boots_of n m (boots_of x)) (rising-from_list nat_cmp_total nat_cmp-IsAntisymmetric xs s) here.room

    pub joined-within : at ≤ length xs
    joined-within = place.within

    pub joined-few : length xs < n
    joined-few = room.few

    pub joined-sorted : IsStrictlySortedBy nat_cmp new
    joined-sorted = subst (IsStrictlySortedBy nat_cmp) (sym is) (sorted-placed nat_cmp_total nat_cmp-IsAntisymmetric x xs at s place)

    pub joined-fits : Fits boots_of n m new
    joined-fits = subst (Fits boots_of n m) (sym is) (fits-room nat_cmp_total nat_cmp-IsAntisymmetric boots_of n m x xs at s place f room)

    joined-set : set.from_list {R = nat_cmp} new ≡ keep boots_of n m (set.insert (set.from_list xs) x)
    joined-set = ap set.from_list is ∙ keep-room nat_cmp_total nat_cmp-IsAntisymmetric boots_of n m x xs at s place f room

    joined-absent : set.contains w.items x ≡ false
    joined-absent = subst (λ (v : Window). set.contains v.items x ≡ false) view place.absent

    list : rising (set.from_list {R = nat_cmp} new) ≡ insert xs at x
    list = rising-from_list nat_cmp_total nat_cmp-IsAntisymmetric new joined-sorted ∙ is

    joined-kept : In x (set.from_list new)
    joined-kept =
        ap (λ ys. set.contains (set.from_list {R = nat_cmp} ys) x) is
        ∙ in_from_place (insert xs at x) at x (place_of_placed nat_cmp_total nat_cmp-IsAntisymmetric x xs at s place)

    joined-added : IsAddition w.items (set.from_list new) x at None
    joined-added = record {
      place = ap (λ ys. slice_get ys at) list ∙ place_of_placed nat_cmp_total nat_cmp-IsAntisymmetric x xs at s place;
      displaced = ap set.from_list is ∙ from_list-placed nat_cmp_total nat_cmp-IsAntisymmetric x xs at s place ∙ ap (λ (v : Window). set.insert v.items x) view;
    }

    pub joined-inserted : IsInsertion (keep boots_of w.size w.epoch) w.items (set.from_list new) x (Added at None)
    joined-inserted = record {
      items = ap (λ (v : Window). v.items) (became new joined-set);
      known = ((λ e. cc), (λ h. absurd (true≢false (sym h ∙ joined-absent))));
      too_old = ((λ e. cc), (λ h. absurd (true≢false (sym joined-kept ∙ h.1))));
      added = joined-added;
      same = tt;
    }

    pub joined-done : rising (set.from_list {R = nat_cmp} new) ≡ insert (rising w.items) at x
    joined-done = list ∙ ap (λ ys. insert ys at x) (sym list_is)

  -- ---- another leaves
  pub plan-replaces : (at out : ℕ) → IsPlace nat_cmp xs x at → IsLeaving boots_of n m (boots_of x) xs at out → out < at → IsReplacing w x at out
  plan-replaces at out p leaving before =
      let list = sym (rising-from_list nat_cmp_total nat_cmp-IsAntisymmetric xs s) in
      subst (λ v. IsReplacing v x at out) view (record {
        place = subst (λ ys. IsPlace nat_cmp ys x at) list p;
        leaving = subst (λ ys. IsLeaving boots_of n m (boots_of x) ys at out) list leaving;
        before = before;
      })

  module _ (at out : ℕ) (j : IsReplacing w x at out) where
    then : IsReplacing (window n m xs) x at out
    then = subst (λ v. IsReplacing v x at out) (sym view) j

    stands : IsPlace nat_cmp xs x at
    stands = subst (λ ys. IsPlace nat_cmp ys x at) (rising-from_list nat_cmp_total nat_cmp-IsAntisymmetric xs s) then.place

    leaves : IsLeaving boots_of n m (boots_of x) xs at out
    leaves = subst (λ ys. IsLeaving boots_of n m (boots_of x) ys at out) (rising-from_list nat_cmp_total nat_cmp-IsAntisymmetric xs s) then.leaving

    pub replaced-within : at ≤ length xs
    replaced-within = stands.within

    module _ (new : List ℕ) (is : new ≡ insert (remove xs out) (at - 1) x) where
      pub replaced-sorted : IsStrictlySortedBy nat_cmp new
      replaced-sorted = subst (IsStrictlySortedBy nat_cmp) (sym is) (sorted-moved nat_cmp_total nat_cmp-IsAntisymmetric boots_of n m x xs at s stands f out leaves j.before)

      pub replaced-fits : Fits boots_of n m new
      replaced-fits = subst (Fits boots_of n m) (sym is) (fits-moved nat_cmp_total nat_cmp-IsAntisymmetric boots_of n m x xs at s stands f out leaves j.before)

      replaced-items : window n m new ≡ kept w x
      replaced-items = became new (ap set.from_list is ∙ keep-moved nat_cmp_total nat_cmp-IsAntisymmetric boots_of n m x xs at s stands f out leaves j.before)

      replaced-absent : set.contains w.items x ≡ false
      replaced-absent = subst (λ (v : Window). set.contains v.items x ≡ false) view stands.absent

      new_list : rising (set.from_list {R = nat_cmp} new) ≡ insert (remove xs out) (at - 1) x
      new_list = rising-from_list nat_cmp_total nat_cmp-IsAntisymmetric new replaced-sorted ∙ is

      replaced-kept : In x (set.from_list new)
      replaced-kept =
          ap (λ ys. set.contains (set.from_list {R = nat_cmp} ys) x) is
          ∙ in_from_place (insert (remove xs out) (at - 1) x) (at - 1) x (place-moved nat_cmp_total nat_cmp-IsAntisymmetric boots_of n m x xs at s stands f out leaves j.before)

      module _ (d : ℕ) (was : d ≡ get_or xs out d) where
        replaced-added : IsAddition w.items (set.from_list new) x (at - 1) (Some d)
        replaced-added = record {
          place = ap (λ ys. slice_get ys (at - 1)) new_list ∙ place-moved nat_cmp_total nat_cmp-IsAntisymmetric boots_of n m x xs at s stands f out leaves j.before;
          displaced = (
            ap (λ ys. set.insert (set.from_list {R = nat_cmp} ys) d) is
                ∙ insert-moved nat_cmp_total nat_cmp-IsAntisymmetric boots_of n m x xs at s stands f out leaves j.before d was
                ∙ ap (λ (v : Window). set.insert v.items x) view,
            ap (λ ys. set.contains (set.from_list {R = nat_cmp} ys) d) is
                ∙ left-moved nat_cmp_total nat_cmp-IsAntisymmetric boots_of n m x xs at s stands f out leaves j.before d was,
          );
        }

        pub replaced-inserted : IsInsertion (keep boots_of w.size w.epoch) w.items (set.from_list new) x (Added (at - 1) (Some d))
        replaced-inserted = record {
          items = ap (λ (v : Window). v.items) replaced-items;
          known = ((λ e. cc), (λ h. absurd (true≢false (sym h ∙ replaced-absent))));
          too_old = ((λ e. cc), (λ h. absurd (true≢false (sym replaced-kept ∙ h.1))));
          added = replaced-added;
          same = tt;
        }

        pub replaced-done : (out ≤ length (rising (set.from_list {R = nat_cmp} new))) × (insert (rising (set.from_list {R = nat_cmp} new)) out d ≡ insert (rising w.items) at x)
        replaced-done =
            let back = regain-moved nat_cmp_total nat_cmp-IsAntisymmetric boots_of n m x xs at s stands f out leaves j.before d was in
            (subst (λ ys. out ≤ length ys) (sym new_list) back.0, ap (λ ys. insert ys out d) new_list ∙ back.1 ∙ ap (λ ys. insert ys at x) (sym list_is))
