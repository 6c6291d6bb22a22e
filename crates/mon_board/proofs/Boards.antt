-- Windows of a board, one for each number.
use Rattle.std.specs.Prelude.{◌↔◌, false}
use Rattle.std.proofs.Common.{◌≡◌, ◌≢◌, ℕ, ◌+◌, ◌<◌, ◌≤◌, zero, suc, List, [], ◌∷◌, length, get_or, map, set, refl, sym, ap, ◌∙◌, subst, arith, inl, inr}
use Rattle.std.specs.Cmp.{nat_cmp_total}
use Rattle.std.specs.FinSet as finset
use Rattle.std.specs.FinSet.{nat_cmp-IsAntisymmetric}
use Rattle.std.specs.Ordering.{nat_cmp}
use Rattle.std.proofs.lemmas.Bool.{cases_eq, cases_lt}
use Rattle.std.proofs.lemmas.List.{get_or-map, length-map, map-set, get_or-set_same, get_or-set_other, get_or_past}
use Rattle.mon_sample.specs.Key.{boots_of}
use Rattle.mon_window.specs.Keep.{keep}
use Rattle.mon_window.specs.Window.{Samples, Window}
use Rattle.mon_window.proofs.Promised.{kept_none, kept_twice, union_none}
use Rattle.mon_board.specs.Board.{sets_of, AreWindows}
use Rattle.mon_board.specs.Each.{AreChanged}
use Rattle.mon_board.specs.Empty.{empty_window_of}
use Rattle.mon_board.specs.declared.instance.Watched.{Watched}
use Rattle.mon_board.specs.Instance.{named}
use Rattle.mon_board.specs.Marks.{Marks, AreKept}
use Rattle.mon_board.specs.Watch.{Watch, size_of, epoch_of}
use Rattle.mon_board.specs.Windows.{IsTaken, kept_by}
use Rattle.mon_window.specs.declared.window.Inserted.{Inserted}
use Rattle.mon_window.specs.Inserted.{IsInsertion}

-- the set at a place of the windows
abbrev pub set_at : List Window → ℕ → Samples
set_at ws i = get_or (sets_of ws) i finset.empty

pub set_at_is : (ws : List Window) (i : ℕ) (d : Window) → i < length ws → set_at ws i ≡ (get_or ws i d).items
set_at_is ws i d lt = get_or-map (λ (w : Window). w.items) ws i d finset.empty lt

pub set_past : (ws : List Window) (i : ℕ) → length ws ≤ i → set_at ws i ≡ finset.empty
set_past ws i le = let past : length (sets_of ws) ≤ i = omega (arith, length-map ws (λ (w : Window). w.items)) in get_or_past (sets_of ws) i finset.empty past

-- ---- the sizes of an instance
abbrev pub nobody : Watched
nobody = record { instance = named [] []; discontinuity = Rattle.std.specs.Prelude.None; window = 0; epoch = 0 }

pub size_at : (watch : Watch) (i : ℕ) → i < length watch.instances → size_of watch i ≡ (get_or watch.instances i nobody).window
size_at watch i lt = get_or-map (λ (w : Watched). w.window) watch.instances i nobody 0 lt

epoch_at : (watch : Watch) (i : ℕ) → i < length watch.instances → epoch_of watch i ≡ (get_or watch.instances i nobody).epoch
epoch_at watch i lt = get_or-map (λ (w : Watched). w.epoch) watch.instances i nobody 0 lt

-- ---- empty windows
pub empty_at : (instances : List Watched) (i : ℕ) → set_at (map empty_window_of instances) i ≡ finset.empty
empty_at [] i = refl
empty_at (w ∷ ws) zero = refl
empty_at (w ∷ ws) (suc i) = empty_at ws i

module _ (watch : Watch) (ws : List Window) (is : ws ≡ map empty_window_of watch.instances) where
  empty_here : (i : ℕ) (d : Window) → i < length watch.instances → get_or ws i d ≡ empty_window_of (get_or watch.instances i nobody)
  empty_here i d lt = ap (λ (l : List Window). get_or l i d) is ∙ get_or-map empty_window_of watch.instances i nobody d lt

  pub are_empty : AreWindows (size_of watch) (epoch_of watch) (length watch.instances) ws
  are_empty = record {
    number = ap length is ∙ length-map watch.instances empty_window_of;
    sized = λ i d lt. ap (λ (w : Window). w.size) (empty_here i d lt) ∙ sym (size_at watch i lt);
    epochs = λ i d lt. ap (λ (w : Window). w.epoch) (empty_here i d lt) ∙ sym (epoch_at watch i lt);
    whole = λ i. subst (λ (s : Samples). keep boots_of (size_of watch i) (epoch_of watch i) s ≡ s)
        (sym (ap (λ (l : List Window). set_at l i) is ∙ empty_at watch.instances i)) (kept_none (size_of watch i) (epoch_of watch i));
  }

-- ---- one window changed
module _ (n m : ℕ → ℕ) (k : ℕ) (ws : List Window) (are : AreWindows n m k ws) (i : ℕ) (lt : i < k) (w : Window) where
  within : i < length ws
  within = omega (arith, are.number)

  sets_set : sets_of (set ws i w) ≡ set (sets_of ws) i w.items
  sets_set = map-set (λ (v : Window). v.items) ws i w

  pub changed_at : set_at (set ws i w) i ≡ w.items
  changed_at =
      let there : i < length (sets_of ws) = omega (arith, within, length-map ws (λ (v : Window). v.items)) in
      ap (λ (ss : List Samples). get_or ss i finset.empty) sets_set ∙ get_or-set_same (sets_of ws) i w.items finset.empty there

  pub others_stay : (j : ℕ) → j ≢ i → set_at (set ws i w) j ≡ set_at ws j
  others_stay j ne = ap (λ (ss : List Samples). get_or ss j finset.empty) sets_set ∙ get_or-set_other (sets_of ws) i j w.items finset.empty ne

  pub kept_changed : (old new : Marks) → AreKept w.items old new → AreKept (set_at (set ws i w) i) old new
  kept_changed old new kept = subst (λ (a : Samples). AreKept a old new) (sym changed_at) kept

  -- a window that holds no more than it keeps may replace another
  pub still_windows : w.size ≡ n i → w.epoch ≡ m i → keep boots_of (n i) (m i) w.items ≡ w.items → AreWindows n m k (set ws i w)
  still_windows size epoch whole = record {
    number = Rattle.std.proofs.Common.length-set ws i w ∙ are.number;
    sized = λ j d below. elim (cases_eq j i) [
      | inl e ↦ ap (λ (q : ℕ). (get_or (set ws i w) q d).size) e ∙ ap (λ (v : Window). v.size) (get_or-set_same ws i w d within) ∙ size ∙ sym (ap n e)
      | inr ne ↦ ap (λ (v : Window). v.size) (get_or-set_other ws i j w d ne) ∙ are.sized j d below
    ];
    epochs = λ j d below. elim (cases_eq j i) [
      | inl e ↦ ap (λ (q : ℕ). (get_or (set ws i w) q d).epoch) e ∙ ap (λ (v : Window). v.epoch) (get_or-set_same ws i w d within) ∙ epoch ∙ sym (ap m e)
      | inr ne ↦ ap (λ (v : Window). v.epoch) (get_or-set_other ws i j w d ne) ∙ are.epochs j d below
    ];
    whole = λ j. elim (cases_eq j i) [
      | inl e ↦ subst (λ (q : ℕ). keep boots_of (n q) (m q) (set_at (set ws i w) q) ≡ set_at (set ws i w) q) (sym e)
          (subst (λ (s : Samples). keep boots_of (n i) (m i) s ≡ s) (sym changed_at) whole)
      | inr ne ↦ subst (λ (s : Samples). keep boots_of (n j) (m j) s ≡ s) (sym (others_stay j ne)) (are.whole j)
    ];
  }

-- ---- a sample taken
module _ (watch : Watch) (ws : List Window) (are : AreWindows (size_of watch) (epoch_of watch) (length watch.instances) ws) (i : ℕ) (lt : i < length ws)
    (w v : Window) (was : w ≡ get_or ws i w) (s : ℕ) (how : Inserted) (sizes : v ≡ record { size = w.size; epoch = w.epoch; items = v.items })
    (is : IsInsertion (keep boots_of w.size w.epoch) w.items v.items s how) where
  numbered : i < length watch.instances
  numbered = omega (arith, are.number)

  size_was : w.size ≡ size_of watch i
  size_was = ap (λ (u : Window). u.size) was ∙ are.sized i w numbered

  epoch_was : w.epoch ≡ epoch_of watch i
  epoch_was = ap (λ (u : Window). u.epoch) was ∙ are.epochs i w numbered

  items_were : w.items ≡ set_at ws i
  items_were = ap (λ (u : Window). u.items) was ∙ sym (set_at_is ws i w lt)

  changed_is : set_at (set ws i v) i ≡ v.items
  changed_is = changed_at (size_of watch) (epoch_of watch) (length watch.instances) ws are i numbered v

  pub insertion_is : IsInsertion (kept_by watch i) (set_at ws i) (set_at (set ws i v) i) s how
  insertion_is =
      subst (λ (a : Samples). IsInsertion (kept_by watch i) (set_at ws i) a s how) (sym changed_is)
      (subst (λ (a : Samples). IsInsertion (kept_by watch i) a v.items s how) items_were
      (subst (λ (k : Samples → Samples). IsInsertion k w.items v.items s how) (λ j. keep boots_of (size_was j) (epoch_was j)) is))

  pub windows_after : AreWindows (size_of watch) (epoch_of watch) (length watch.instances) (set ws i v)
  windows_after = still_windows (size_of watch) (epoch_of watch) (length watch.instances) ws are i numbered v (ap (λ (u : Window). u.size) sizes ∙ size_was) (ap (λ (u : Window). u.epoch) sizes ∙ epoch_was)
      (subst (λ (a : Samples). kept_by watch i a ≡ a) (sym insertion_is.items ∙ changed_is) (kept_twice (size_of watch i) (epoch_of watch i) _))

  pub taken_is : IsTaken watch (set_at ws) (set_at (set ws i v)) i s
  taken_is = record {
    changed = insertion_is.items;
    others = others_stay (size_of watch) (epoch_of watch) (length watch.instances) ws are i numbered v;
  }

-- ---- windows joined
-- a window with all samples of another one put in
abbrev pub IsJoined : List Window → ℕ → Window → Window → Type 0
IsJoined theirs i old new = new ≡ record { size = old.size; epoch = old.epoch; items = keep boots_of old.size old.epoch (finset.union old.items (set_at theirs i)) }

module _ (n m : ℕ → ℕ) (k : ℕ) (old theirs ours : List Window) (are : AreWindows n m k old) (other : length theirs ≡ k) (changed : AreChanged (IsJoined theirs) old ours) where
  module _ (i : ℕ) (lt : i < length old) where
    in_watch : i < k
    in_watch = omega (arith, are.number)

    joined_here : (d : Window) → set_at ours i ≡ keep boots_of (n i) (m i) (finset.union (set_at old i) (set_at theirs i))
    joined_here d =
        let there : i < length ours = omega (arith, changed.number) in
        let size : (get_or old i d).size ≡ n i = are.sized i d in_watch in
        let epochs : (get_or old i d).epoch ≡ m i = are.epochs i d in_watch in
        let items : (get_or old i d).items ≡ set_at old i = sym (set_at_is old i d lt) in
        set_at_is ours i d there ∙ ap (λ (w : Window). w.items) (changed.each i d lt) ∙ (λ j. keep boots_of (size j) (epochs j) (finset.union (items j) (set_at theirs i)))

  pub all_joined : (i : ℕ) → set_at ours i ≡ keep boots_of (n i) (m i) (finset.union (set_at old i) (set_at theirs i))
  all_joined i = elim (cases_lt i (length old)) [
    | inl below ↦ joined_here i below (record { size = n i; epoch = m i; items = finset.empty })
    | inr above ↦
        let none : set_at old i ≡ finset.empty = set_past old i above in
        let none_there : set_at theirs i ≡ finset.empty = set_past theirs i (omega (arith, other, are.number)) in
        set_past ours i (omega (arith, changed.number))
        ∙ sym ((λ j. keep boots_of (n i) (m i) (finset.union (none j) (none_there j))) ∙ ap (keep boots_of (n i) (m i)) (union_none finset.empty) ∙ kept_none (n i) (m i))
  ]

  pub windows_joined : AreWindows n m k ours
  windows_joined = record {
    number = changed.number ∙ are.number;
    epochs = λ i d lt. let here : i < length old = omega (arith, are.number) in ap (λ (w : Window). w.epoch) (changed.each i d here) ∙ are.epochs i d lt;
    sized = λ i d lt. let here : i < length old = omega (arith, are.number) in ap (λ (w : Window). w.size) (changed.each i d here) ∙ are.sized i d lt;
    whole = λ i. subst (λ (a : Samples). keep boots_of (n i) (m i) a ≡ a) (sym (all_joined i)) (kept_twice (n i) (m i) _);
  }
