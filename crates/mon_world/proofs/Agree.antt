-- Stations that owe each other nothing agree.
use Rattle.std.proofs.Common.{ℕ, zero, suc, ◌≡◌, ◌≤◌, ◌<◌, ◌∙◌, inl, inr, List, [], ◌∷◌, Option, Some, None, length, map, get_or, refl, sym, ap, subst, arith}
use Rattle.std.specs.FinSet as set
use Rattle.std.specs.Option.{option_and_then}
use Rattle.std.specs.Ordering.{nat_cmp}
use Rattle.std.specs.Cmp.{nat_cmp_total}
use Rattle.std.specs.FinSet.{nat_cmp-IsAntisymmetric}
use Rattle.std.proofs.lemmas.Bool.{cases_lt}
use Rattle.std.proofs.lemmas.List.{length-map, nil_from_length}
use Rattle.mon_sample.specs.Key.{boots_of}
use Rattle.mon_window.specs.Keep.{keep}
use Rattle.mon_window.specs.Top.{rising}
use Rattle.mon_window.specs.Window.{Samples, In}
use Rattle.mon_window.proofs.Promised.{from_list-rising, in_none}
use Rattle.mon_board.specs.declared.instance.Watched.{Watched}
use Rattle.mon_board.specs.Watch.{Watch, epoch_of, size_of}
use Rattle.mon_board.specs.Windows.{kept_by}
use Rattle.mon_board.proofs.Promised.{kept_meet}
use Rattle.mon_exchange.specs.Peers.{incarnation_in}
use Rattle.mon_station.specs.State.{State, known_of, owed_below, owed_count, owed_to, setting_of}
use Rattle.mon_station.specs.Verdict.{slot_of}
use Rattle.mon_world.proofs.Lives.{not_some}

-- a peer whose incarnation is known has a slot
pub has_slot : (s : State) (y j : ℕ) → known_of s y ≡ Some j → (slot : ℕ) × (slot_of (setting_of s).peers y ≡ Some slot)
has_slot s y j known = at (slot_of (setting_of s).peers y) refl
  where
    at : (o : Option ℕ) → slot_of (setting_of s).peers y ≡ o → (slot : ℕ) × (slot_of (setting_of s).peers y ≡ Some slot)
    at None is = absurd (not_some (sym (ap (option_and_then (incarnation_in s.peers.peers)) is) ∙ known))
    at (Some slot) is = (slot, is)

-- a set of no members
no_members : (a : Samples) (k : ℕ) → length (rising a) ≡ 0 → In k a → ⊥
no_members a k none there =
    let empty : rising a ≡ [] = nil_from_length (rising a) none in
    in_none k (subst (λ (l : List ℕ). In k (set.from_list {R = nat_cmp} l)) empty (subst (λ (b : Samples). In k b) (sym (from_list-rising nat_cmp_total nat_cmp-IsAntisymmetric a)) there))

none_below : (owed : ℕ → Samples) (n : ℕ) → owed_below owed n ≡ 0 → (i : ℕ) → i < n → length (rising (owed i)) ≡ 0
none_below owed zero none i lt = absurd (omega (arith, lt))
none_below owed (suc n) none i lt = elim (cases_lt i n) [
  | inl less ↦ none_below owed n (omega (arith, none)) i less
  | inr last ↦ let same : i ≡ n = omega (arith, lt, last) in ap (λ j. length (rising (owed j))) same ∙ omega (arith, none)
]

-- where the count is 0, nothing of an instance is owed
pub nothing_owed : (s : State) (slot i k : ℕ) → owed_count s (Some slot) ≡ 0 → i < length s.board.watch.instances → In k (owed_to s slot i) → ⊥
nothing_owed s slot i k none lt = no_members (owed_to s slot i) k (none_below (owed_to s slot) (length s.board.watch.instances) none i lt)

beyond : (xs : List ℕ) (i : ℕ) → length xs ≤ i → get_or xs i 0 ≡ 0
beyond [] zero le = refl
beyond [] (suc i) le = refl
beyond (x ∷ xs) zero le = absurd (omega (arith, le))
beyond (x ∷ xs) (suc i) le = beyond xs i (omega (arith, le))

module _ (keep_few : (epoch : ℕ → ℕ) (n m : ℕ) (a : Samples) → set.len (keep epoch n m a) ≤ n) (count : (a : Samples) → set.len a ≡ length (rising a)) where
  -- an instance that is not watched has an empty window
  pub no_window : (watch : Watch) (i k : ℕ) (a : Samples) → length watch.instances ≤ i → In k (kept_by watch i a) → ⊥
  no_window watch i k a le =
      let none : size_of watch i ≡ 0 = beyond (map (λ (w : Watched). w.window) watch.instances) i (omega (arith, le, length-map watch.instances (λ (w : Watched). w.window))) in
      no_members (kept_by watch i a) k (omega (arith, none, count (kept_by watch i a), keep_few boots_of (size_of watch i) (epoch_of watch i) a))

-- windows that keep of what each other took
pub windows_meet : (watch : Watch) (i : ℕ) (one two a b : Samples) → one ≡ kept_by watch i a → two ≡ kept_by watch i b → ((k : ℕ) → In k one → In k b) → ((k : ℕ) → In k two → In k a) → one ≡ two
windows_meet watch i one two a b is as_well ab ba =
    is
    ∙ kept_meet watch i a b (λ k there. ab k (subst (λ (c : Samples). In k c) (sym is) there)) (λ k there. ba k (subst (λ (c : Samples). In k c) (sym as_well) there))
    ∙ sym as_well
