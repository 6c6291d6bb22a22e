-- Marks of a board, one list for each window.
use Rattle.std.proofs.Common.{◌≡◌, ◌≢◌, ℕ, ◌<◌, ◌≤◌, Bool, true, false, cond, ◌||◌, ◌&&◌, not, List, [], ◌∷◌, length, get_or, map, set, refl, sym, ap, ◌∙◌, subst, arith, inl, inr}
use Rattle.std.specs.Prelude.{◌==◌}
use Rattle.std.specs.Cmp.{nat_cmp_total, unsigned_tied}
use Rattle.std.specs.FinSet as finset
use Rattle.std.specs.FinSet.{nat_cmp-IsAntisymmetric, contains-insert}
use Rattle.std.specs.List.{filter}
use Rattle.std.specs.List.Sorted.{IsStrictlySortedBy}
use Rattle.std.specs.Ordering.{nat_cmp, eq_by_cmp}
use Rattle.std.proofs.lemmas.Bool.{cases_Bool, cases_eq, cases_lt, eq-eqb, ne_eqb, eqb-true, true≢false, or_cases}
use Rattle.std.proofs.lemmas.List.{get_or-map, length-map, map-set, get_or-set_same, get_or-set_other, get_or_past, length-set}
use Rattle.mon_window.specs.Top.{put, rising}
use Rattle.mon_window.specs.Keep.{keep}
use Rattle.mon_sample.specs.Key.{boots_of}
use Rattle.mon_window.specs.Window.{Samples, Window, In}
use Rattle.mon_window.proofs.Promised.{rising-from_list, rising-insert, sorted-rising, from_list-rising, rising-retain, len-rising, len_within, len-keep, in_none, in_head, in_tail}
use Rattle.mon_board.specs.Board.{sets_of, marks_of, AreAllMarks}
use Rattle.mon_board.specs.Each.{AreChanged}
use Rattle.mon_board.specs.Marks.{Marks, AreMarks, AreKept, AreCleared, has_bit, bits_at, marked_in, samples_in}
use Rattle.mon_board.specs.Owed.{kept_marks}
use Rattle.mon_board.proofs.Bits.{no_bit}
use Rattle.mon_board.specs.Empty.{no_marks_of}
use Rattle.mon_board.specs.Watch.{Watch, size_of}
use Rattle.mon_board.proofs.Boards.{nobody, set_at, size_at}

-- the marks of a window
abbrev pub marks_at : List Marks → ℕ → List (ℕ × ℕ)
marks_at ms i = get_or (marks_of ms) i []

pub marks_at_is : (ms : List Marks) (i : ℕ) (d : Marks) → i < length ms → marks_at ms i ≡ (get_or ms i d).items
marks_at_is ms i d lt = get_or-map (λ (m : Marks). m.items) ms i d [] lt

marks_past : (ms : List Marks) (i : ℕ) → length ms ≤ i → marks_at ms i ≡ []
marks_past ms i le = let past : length (marks_of ms) ≤ i = omega (arith, length-map ms (λ (m : Marks). m.items)) in get_or_past (marks_of ms) i [] past

unmarked_past : (ms : List Marks) (slot i s : ℕ) → length ms ≤ i → marked_in slot s (marks_at ms i) ≡ false
unmarked_past ms slot i s le = ap (λ (l : List (ℕ × ℕ)). marked_in slot s l) (marks_past ms i le) ∙ no_bit slot

as_many : (ws : List Window) → length (sets_of ws) ≡ length ws
as_many ws = length-map ws (λ (w : Window). w.items)

and_implied : (b c : Bool) → (b ≡ true → c ≡ true) → b ≡ (b && c)
and_implied true c implied = sym (implied refl)
and_implied false c implied = refl

marked_there : (slot s : ℕ) (xs : List (ℕ × ℕ)) → marked_in slot s xs ≡ true → In s (finset.from_list (samples_in xs))
marked_there slot s [] h = absurd (true≢false (sym h ∙ no_bit slot))
marked_there slot s (x ∷ xs) h = elim (cases_Bool (x.0 == s)) [
  | inl is ↦ subst (λ (t : ℕ). In t (finset.from_list (x.0 ∷ samples_in xs))) (eqb-true x.0 s is) (in_head x.0 (samples_in xs))
  | inr ne ↦ in_tail s x.0 (samples_in xs) (marked_there slot s xs (sym (ap (λ (b : Bool). has_bit slot (cond b x.1 (bits_at s xs))) ne) ∙ h))
]

-- ---- no marks
none_rising : IsStrictlySortedBy nat_cmp []
unfolding IsStrictlySortedBy
none_rising = tt

no_marks : (n room : ℕ) (window : Samples) → n ≤ room → AreMarks n window (record { room = room; items = [] })
no_marks n room window fits = record { rising = none_rising; within = λ s h. absurd (in_none s h); room = fits }

module _ (watch : Watch) (ws : List Window) (ms : List Marks) (number : length ws ≡ length watch.instances) (none : ms ≡ map no_marks_of watch.instances) where
  as_watched : length ms ≡ length watch.instances
  as_watched = ap length none ∙ length-map watch.instances no_marks_of

  none_here : (i : ℕ) (d : Marks) → i < length watch.instances → get_or ms i d ≡ no_marks_of (get_or watch.instances i nobody)
  none_here i d lt = ap (λ (l : List Marks). get_or l i d) none ∙ get_or-map no_marks_of watch.instances i nobody d lt

  pub all_unmarked : AreAllMarks (size_of watch) (sets_of ws) ms
  all_unmarked = record {
    number = as_watched ∙ sym number ∙ sym (as_many ws);
    each = λ i d lt.
        let there : i < length watch.instances = omega (arith, as_many ws, number) in
        subst (AreMarks (size_of watch i) (set_at ws i)) (sym (none_here i d there)) (no_marks (size_of watch i) _ (set_at ws i) (omega (arith, size_at watch i there)));
  }

  pub none_marked : (slot i s : ℕ) → marked_in slot s (marks_at ms i) ≡ false
  none_marked slot i s = elim (cases_lt i (length ms)) [
    | inl lt ↦
        let d : Marks = record { room = 0; items = [] } in
        let there : i < length watch.instances = omega (arith, as_watched) in
        ap (λ (l : List (ℕ × ℕ)). marked_in slot s l) (marks_at_is ms i d lt ∙ ap (λ (m : Marks). m.items) (none_here i d there)) ∙ no_bit slot
    | inr le ↦ unmarked_past ms slot i s le
  ]

-- ---- only entries are marked
module _ (n : ℕ → ℕ) (ws : List Window) (ms : List Marks) (all : AreAllMarks n (sets_of ws) ms) where
  pub same_number : length ms ≡ length ws
  same_number = all.number ∙ as_many ws

  pub marks_of_window : (i : ℕ) (d : Marks) → i < length ws → AreMarks (n i) (set_at ws i) (get_or ms i d)
  marks_of_window i d lt = let there : i < length (sets_of ws) = omega (arith, as_many ws) in all.each i d there

  pub entries_marked : (slot i s : ℕ) → marked_in slot s (marks_at ms i) ≡ true → In s (set_at ws i)
  entries_marked slot i s h = elim (cases_lt i (length ms)) [
    | inl lt ↦
        let d : Marks = record { room = 0; items = [] } in
        let here : i < length ws = omega (arith, same_number) in
        (marks_of_window i d here).within s (marked_there slot s (get_or ms i d).items (sym (ap (λ (l : List (ℕ × ℕ)). marked_in slot s l) (marks_at_is ms i d lt)) ∙ h))
    | inr le ↦ absurd (true≢false (sym h ∙ unmarked_past ms slot i s le))
  ]

  pub kept_same : (slot i s : ℕ) → marked_in slot s (marks_at ms i) ≡ (marked_in slot s (marks_at ms i) && finset.contains (set_at ws i) s)
  kept_same slot i s = and_implied _ _ (entries_marked slot i s)

  -- by the windows and marks of a station
  pub as_kept : (after : ℕ → ℕ → ℕ → Bool) (windows : ℕ → Samples) → ((slot i s : ℕ) → after slot i s ≡ (marked_in slot s (marks_at ms i) && finset.contains (windows i) s))
      → (slot : ℕ) → after slot ≡ kept_marks (set_at ws) windows (λ i s. marked_in slot s (marks_at ms i))
  as_kept after windows is slot = λ j i s. (is slot i s ∙ ap (λ (b : Bool). b && finset.contains (windows i) s) (kept_same slot i s)) j

-- ---- the marks of one window changed
module _ (n : ℕ → ℕ) (ws : List Window) (ms : List Marks) (i : ℕ) (lt : i < length ms) (new : Marks) where
  pub changed_marks : marks_at (set ms i new) i ≡ new.items
  changed_marks =
      let there : i < length (set ms i new) = omega (arith, length-set ms i new) in
      marks_at_is (set ms i new) i new there ∙ ap (λ (m : Marks). m.items) (get_or-set_same ms i new new lt)

  pub other_marks : (j : ℕ) → j ≢ i → marks_at (set ms i new) j ≡ marks_at ms j
  other_marks j ne =
      ap (λ (l : List (List (ℕ × ℕ))). get_or l j []) (map-set (λ (m : Marks). m.items) ms i new) ∙ get_or-set_other (marks_of ms) i j new.items [] ne

  pub still_marks : (us : List Window) → AreAllMarks n (sets_of ws) ms → length us ≡ length ws → ((j : ℕ) → j ≢ i → set_at us j ≡ set_at ws j) → AreMarks (n i) (set_at us i) new
      → AreAllMarks n (sets_of us) (set ms i new)
  still_marks us all as_long stay here = record {
    number = length-set ms i new ∙ same_number n ws ms all ∙ sym as_long ∙ sym (as_many us);
    each = λ j d below. elim (cases_eq j i) [
      | inl e ↦ subst (λ (q : ℕ). AreMarks (n q) (set_at us q) (get_or (set ms i new) q d)) (sym e)
          (subst (AreMarks (n i) (set_at us i)) (sym (get_or-set_same ms i new d lt)) here)
      | inr ne ↦
          let old : j < length ws = omega (arith, as_many us, as_long) in
          subst (λ (a : Samples). AreMarks (n j) a (get_or (set ms i new) j d)) (sym (stay j ne))
          (subst (AreMarks (n j) (set_at ws j)) (sym (get_or-set_other ms i j new d ne)) (marks_of_window n ws ms all j d old))
    ];
  }

-- ---- a sample taken
module _ (n : ℕ → ℕ) (ws us : List Window) (ms : List Marks) (all : AreAllMarks n (sets_of ws) ms) (as_long : length us ≡ length ws) (i : ℕ) (lt : i < length ws)
    (stay : (j : ℕ) → j ≢ i → set_at us j ≡ set_at ws j) (old new : Marks) (was : old ≡ get_or ms i old) (kept : AreKept (set_at us i) old new) where
  here : i < length ms
  here = omega (arith, same_number n ws ms all)

  pub marks_after : AreAllMarks n (sets_of us) (set ms i new)
  marks_after =
      let room : n i ≤ old.room = subst (λ (m : Marks). n i ≤ m.room) (sym was) (marks_of_window n ws ms all i old lt).room in
      still_marks n ws ms i here new us all as_long stay (kept.beside (n i) room)

  pub marks_taken : (slot j s : ℕ) → marked_in slot s (marks_at (set ms i new) j) ≡ (marked_in slot s (marks_at ms j) && finset.contains (set_at us j) s)
  marks_taken slot j s = elim (cases_eq j i) [
    | inl e ↦
        let items : old.items ≡ marks_at ms i = ap (λ (m : Marks). m.items) was ∙ sym (marks_at_is ms i old here) in
        ap (λ (m : ℕ). marked_in slot s (marks_at (set ms i new) m)) e ∙ ap (λ (l : List (ℕ × ℕ)). marked_in slot s l) (changed_marks n ws ms i here new)
        ∙ kept.marks slot s ∙ (λ k. marked_in slot s (items k) && finset.contains (set_at us i) s)
        ∙ ap (λ (m : ℕ). marked_in slot s (marks_at ms m) && finset.contains (set_at us m) s) (sym e)
    | inr ne ↦
        ap (λ (l : List (ℕ × ℕ)). marked_in slot s l) (other_marks n ws ms i here new j ne) ∙ kept_same n ws ms all slot j s
        ∙ ap (λ (a : Samples). marked_in slot s (marks_at ms j) && finset.contains a s) (sym (stay j ne))
  ]

-- ---- all marks changed
module _ (n : ℕ → ℕ) (ws us : List Window) (ms ns : List Marks) (all : AreAllMarks n (sets_of ws) ms) (as_long : length us ≡ length ws) where
  module _ (changed : AreChanged (λ i. AreKept (set_at us i)) ms ns) where
    pub all_kept : AreAllMarks n (sets_of us) ns
    all_kept = record {
      number = changed.number ∙ same_number n ws ms all ∙ sym as_long ∙ sym (as_many us);
      each = λ i d below.
          let lt : i < length ws = omega (arith, as_many us, as_long) in
          let there : i < length ms = omega (arith, same_number n ws ms all) in
          (changed.each i d there).beside (n i) (marks_of_window n ws ms all i d lt).room;
    }

    pub marks_kept : (slot i s : ℕ) → marked_in slot s (marks_at ns i) ≡ (marked_in slot s (marks_at ms i) && finset.contains (set_at us i) s)
    marks_kept slot i s = elim (cases_lt i (length ms)) [
      | inl lt ↦
          let d : Marks = record { room = 0; items = [] } in
          let there : i < length ns = omega (arith, changed.number) in
          ap (λ (l : List (ℕ × ℕ)). marked_in slot s l) (marks_at_is ns i d there) ∙ (changed.each i d lt).marks slot s
          ∙ ap (λ (l : List (ℕ × ℕ)). marked_in slot s l && finset.contains (set_at us i) s) (sym (marks_at_is ms i d lt))
      | inr le ↦ unmarked_past ns slot i s (omega (arith, changed.number)) ∙ sym (ap (λ (b : Bool). b && finset.contains (set_at us i) s) (unmarked_past ms slot i s le))
    ]

  module _ (gone : ℕ) (changed : AreChanged (λ i. AreCleared gone) ms ns) where
    pub all_cleared : AreAllMarks n (sets_of ws) ns
    all_cleared = record {
      number = changed.number ∙ all.number;
      each = λ i d below.
          let there : i < length ms = omega (arith, all.number) in
          let old = all.each i d below in
          let new = changed.each i d there in
          record {
            rising = subst (IsStrictlySortedBy nat_cmp) (sym new.samples) old.rising;
            within = λ s h. old.within s (subst (λ (l : List ℕ). In s (finset.from_list l)) new.samples h);
            room = omega (arith, old.room, new.room);
          };
    }

    pub marks_cleared : (slot i s : ℕ) → marked_in slot s (marks_at ns i) ≡ (marked_in slot s (marks_at ms i) && not (slot == gone))
    marks_cleared slot i s = elim (cases_lt i (length ms)) [
      | inl lt ↦
          let d : Marks = record { room = 0; items = [] } in
          let there : i < length ns = omega (arith, changed.number) in
          ap (λ (l : List (ℕ × ℕ)). marked_in slot s l) (marks_at_is ns i d there) ∙ (changed.each i d lt).marks slot s
          ∙ ap (λ (l : List (ℕ × ℕ)). marked_in slot s l && not (slot == gone)) (sym (marks_at_is ms i d lt))
      | inr le ↦ unmarked_past ns slot i s (omega (arith, changed.number)) ∙ sym (ap (λ (b : Bool). b && not (slot == gone)) (unmarked_past ms slot i s le))
    ]

-- ---- a sample marked
pub few_in : (n m : ℕ) (window : Samples) → keep boots_of n m window ≡ window → length (rising window) ≤ n
few_in n m window whole =
    let few : finset.len (keep boots_of n m window) ≤ n = len-keep nat_cmp_total nat_cmp-IsAntisymmetric boots_of n m window in
    omega (arith, few, ap finset.len whole, len-rising nat_cmp_total nat_cmp-IsAntisymmetric window)

module _ (n : ℕ) (window : Samples) (few : length (rising window) ≤ n) (old : Marks) (are : AreMarks n window old) (s : ℕ) (there : finset.contains window s ≡ true) where
  abbrev ks : List ℕ
  ks = samples_in old.items

  abbrev more : Samples
  more = finset.insert (finset.from_list ks) s

  put_is : put nat_cmp s ks ≡ rising more
  put_is =
      ap (put nat_cmp s) (sym (rising-from_list nat_cmp_total nat_cmp-IsAntisymmetric ks are.rising)) ∙ sym (rising-insert nat_cmp_total nat_cmp-IsAntisymmetric (finset.from_list ks) s)

  more_within : (q : ℕ) → In q more → In q window
  more_within q h = elim (or_cases (eq_by_cmp nat_cmp q s) (finset.contains (finset.from_list {R = nat_cmp} ks) q) (sym (contains-insert nat_cmp_total (finset.from_list ks) s q) ∙ h)) [
    | inl e ↦ ap (finset.contains window) (eqb-true q s (sym (unsigned_tied q s) ∙ e)) ∙ there
    | inr h ↦ are.within q h
  ]

  pub has_room : length (put nat_cmp s ks) ≤ old.room
  has_room =
      let count : length (put nat_cmp s ks) ≡ finset.len more = ap length put_is ∙ sym (len-rising nat_cmp_total nat_cmp-IsAntisymmetric more) in
      let fewer : finset.len more ≤ finset.len window = len_within nat_cmp_total nat_cmp-IsAntisymmetric more window more_within in
      let all : finset.len window ≡ length (rising window) = len-rising nat_cmp_total nat_cmp-IsAntisymmetric window in
      omega (arith, count, fewer, all, few, are.room)

  pub one_marked : (new : Marks) → samples_in new.items ≡ put nat_cmp s ks → old.room ≤ new.room → AreMarks n window new
  one_marked new samples room =
      let is : samples_in new.items ≡ rising more = samples ∙ put_is in
      record {
        rising = subst (IsStrictlySortedBy nat_cmp) (sym is) (sorted-rising nat_cmp_total nat_cmp-IsAntisymmetric more);
        within = λ q h. more_within q (subst (In q) (ap (λ (l : List ℕ). finset.from_list {R = nat_cmp} l) is ∙ from_list-rising nat_cmp_total nat_cmp-IsAntisymmetric more) h);
        room = omega (arith, room, are.room);
      }

or_nothing : (a b c : Bool) → (a || ((b && false) && c)) ≡ a
or_nothing true true c = refl
or_nothing true false c = refl
or_nothing false true c = refl
or_nothing false false c = refl

and_grouped : (a b c d : Bool) → c ≡ d → (a || (b && c)) ≡ (a || ((b && true) && d))
and_grouped true b c d e = refl
and_grouped false true c d e = e
and_grouped false false c d e = refl

-- s is in the window, so no more is said by its being there
module _ (window : Samples) (s : ℕ) (there : finset.contains window s ≡ true) where
  if_there : (t : ℕ) → (t == s) ≡ ((t == s) && finset.contains window t)
  if_there t = and_implied _ _ (λ h. ap (finset.contains window) (eqb-true t s h) ∙ there)

module _ (n : ℕ → ℕ) (ws : List Window) (ms : List Marks) (i : ℕ) (lt : i < length ms) (old new : Marks) (was : old ≡ get_or ms i old) (slot s : ℕ)
    (there : finset.contains (set_at ws i) s ≡ true) (more : (k t : ℕ) → marked_in k t new.items ≡ (marked_in k t old.items || ((k == slot) && (t == s)))) where
  pub marks_marked : (k j t : ℕ) → marked_in k t (marks_at (set ms i new) j)
      ≡ (marked_in k t (marks_at ms j) || (((k == slot) && (j == i)) && ((t == s) && finset.contains (set_at ws j) t)))
  marks_marked k j t = elim (cases_eq j i) [
    | inl e ↦
        let items : old.items ≡ marks_at ms i = ap (λ (m : Marks). m.items) was ∙ sym (marks_at_is ms i old lt) in
        ap (λ (m : ℕ). marked_in k t (marks_at (set ms i new) m)) e ∙ ap (λ (l : List (ℕ × ℕ)). marked_in k t l) (changed_marks n ws ms i lt new) ∙ more k t
        ∙ ap (λ (l : List (ℕ × ℕ)). marked_in k t l || ((k == slot) && (t == s))) items
        ∙ and_grouped (marked_in k t (marks_at ms i)) (k == slot) (t == s) _ (if_there (set_at ws i) s there t)
        ∙ ap (λ (b : Bool). marked_in k t (marks_at ms i) || (((k == slot) && b) && ((t == s) && finset.contains (set_at ws i) t))) (sym (eq-eqb j i e))
        ∙ ap (λ (m : ℕ). marked_in k t (marks_at ms m) || (((k == slot) && (j == i)) && ((t == s) && finset.contains (set_at ws m) t))) (sym e)
    | inr ne ↦
        ap (λ (l : List (ℕ × ℕ)). marked_in k t l) (other_marks n ws ms i lt new j ne)
        ∙ sym (ap (λ (b : Bool). marked_in k t (marks_at ms j) || (((k == slot) && b) && ((t == s) && finset.contains (set_at ws j) t))) (ne_eqb j i ne)
        ∙ or_nothing (marked_in k t (marks_at ms j)) (k == slot) ((t == s) && finset.contains (set_at ws j) t))
  ]

-- ---- what is not marked
pub unmarked_rising : (slot : ℕ) (marks marks' : List (ℕ × ℕ)) (window : Samples) → marks ≡ marks' → filter (λ s. not (marked_in slot s marks)) (rising window) ≡ rising (finset.retain window (λ s. not (marked_in slot s marks')))
unmarked_rising slot marks marks' window same =
    ap (λ (l : List (ℕ × ℕ)). filter (λ s. not (marked_in slot s l)) (rising window)) same
    ∙ sym (rising-retain nat_cmp_total nat_cmp-IsAntisymmetric window (λ s. not (marked_in slot s marks')))
