-- Lists of samples with their bits.
use Rattle.std.proofs.Common.{◌≡◌, ◌≢◌, ℕ, zero, suc, ◌<◌, ◌≤◌, ◌*◌, ◌^◌, ◌%◌, Bool, true, false, cond, ◌||◌, ◌&&◌, not, List, [], ◌∷◌, length, get_or, set, refl, sym, ap, ◌∙◌, subst, arith, ◌⊎◌, inl, inr}
use Rattle.std.specs.Prelude.{◌==◌}
use Rattle.std.specs.Cmp.{nat_cmp_total}
use Rattle.std.specs.declared.cmp.Ordering.TheVariants.{Less}
use Rattle.std.specs.FinSet as finset
use Rattle.std.specs.FinSet.{nat_cmp-IsAntisymmetric}
use Rattle.std.specs.List.{filter, insert}
use Rattle.std.specs.List.Sorted.{IsStrictlySortedBy}
use Rattle.std.specs.Ordering.{nat_cmp, is_lt}
use Rattle.std.proofs.Math.Seq.{map-set_same}
use Rattle.std.proofs.lemmas.Bool.{cases_Bool, cases_eq, eq-eqb, ne_eqb, eqb-true, true≢false}
use Rattle.std.proofs.lemmas.Cmp.{tied_itself}
use Rattle.std.proofs.lemmas.List.{get_or-map, length-map}
use Rattle.std.proofs.lemmas.List.Kept.{IsStrictlySortedBy-filter}
use Rattle.std.proofs.lemmas.Map.Keys.{Less-from_sorted}
use Rattle.std.specs.Int.Bits.{bit_or}
use Rattle.mon_window.specs.Place.{IsPlace}
use Rattle.mon_window.specs.Top.{put, rising}
use Rattle.mon_window.specs.Window.{Samples, In}
use Rattle.mon_window.proofs.Promised.{rising-from_list, rising-insert, insert-known, in_none, in_head, in_tail, in_cons}
use Rattle.mon_board.specs.Marks.{has_bit, bits_at, marked_in, samples_in, Marks, AreKept, AreCleared}
use Rattle.mon_board.specs.Each.{AreChanged}
use Rattle.mon_board.proofs.Bits.{no_bit, bit_set, bit_alone}

-- ---- what passes a test of the samples
module _ (p : ℕ → Bool) where
  samples_filter : (xs : List (ℕ × ℕ)) → samples_in (filter (λ x. p x.0) xs) ≡ filter p (samples_in xs)
  samples_filter [] = refl
  samples_filter (x ∷ xs) = elim (cases_Bool (p x.0)) [
    | inl t ↦ rw t (ap (λ l. x.0 ∷ l) (samples_filter xs))
    | inr f ↦ rw f (samples_filter xs)
  ]

  in_filter : (s : ℕ) (xs : List ℕ) → In s (finset.from_list (filter p xs)) → p s ≡ true
  in_filter s [] h = absurd (in_none s h)
  in_filter s (x ∷ xs) h = elim (cases_Bool (p x)) [
    | inl t ↦ elim (in_cons s x (filter p xs) (subst (λ (b : Bool). In s (finset.from_list (cond b (x ∷ filter p xs) (filter p xs)))) t h)) [
      | inl e ↦ ap p e ∙ t
      | inr r ↦ in_filter s xs r
    ]
    | inr f ↦ in_filter s xs (subst (λ (b : Bool). In s (finset.from_list (cond b (x ∷ filter p xs) (filter p xs)))) f h)
  ]

  abbrev kept_in : List (ℕ × ℕ) → List (ℕ × ℕ)
  kept_in xs = filter (λ x. p x.0) xs

  bits_filter : (s : ℕ) (xs : List (ℕ × ℕ)) → bits_at s (kept_in xs) ≡ cond (p s) (bits_at s xs) 0
  bits_filter s [] = elim (cases_Bool (p s)) [ inl t ↦ sym (ap (λ (b : Bool). cond b 0 0) t) | inr f ↦ sym (ap (λ (b : Bool). cond b 0 0) f) ]
  bits_filter s (x ∷ xs) = elim (cases_Bool (x.0 == s)) [
    | inl is ↦ here (bits_filter s xs) (eqb-true x.0 s is) is (cases_Bool (p s))
    | inr ne ↦
        elim (cases_Bool (p x.0)) [
          | inl t ↦ ap (λ (b : Bool). bits_at s (cond b (x ∷ kept_in xs) (kept_in xs))) t ∙ ap (λ (b : Bool). cond b x.1 (bits_at s (kept_in xs))) ne
          | inr f ↦ ap (λ (b : Bool). bits_at s (cond b (x ∷ kept_in xs) (kept_in xs))) f
        ] ∙ bits_filter s xs ∙ ap (λ (n : ℕ). cond (p s) n 0) (sym (ap (λ (b : Bool). cond b x.1 (bits_at s xs)) ne))
  ]
    where
      here : bits_at s (kept_in xs) ≡ cond (p s) (bits_at s xs) 0 → x.0 ≡ s → (x.0 == s) ≡ true → (p s ≡ true) ⊎ (p s ≡ false) → bits_at s (kept_in (x ∷ xs)) ≡ cond (p s) (bits_at s (x ∷ xs)) 0
      here rest e is (inl t) =
          ap (λ (b : Bool). bits_at s (cond b (x ∷ kept_in xs) (kept_in xs))) (ap p e ∙ t) ∙ ap (λ (b : Bool). cond b x.1 (bits_at s (kept_in xs))) is
          ∙ sym (ap (λ (b : Bool). cond b (bits_at s (x ∷ xs)) 0) t ∙ ap (λ (b : Bool). cond b x.1 (bits_at s xs)) is)
      here rest e is (inr f) =
          ap (λ (b : Bool). bits_at s (cond b (x ∷ kept_in xs) (kept_in xs))) (ap p e ∙ f) ∙ rest ∙ ap (λ (b : Bool). cond b (bits_at s xs) 0) f
          ∙ sym (ap (λ (b : Bool). cond b (bits_at s (x ∷ xs)) 0) f)

  pub marked_filter : (slot s : ℕ) (xs : List (ℕ × ℕ)) → marked_in slot s (filter (λ x. p x.0) xs) ≡ (marked_in slot s xs && p s)
  marked_filter slot s xs = ap (has_bit slot) (bits_filter s xs) ∙ moved (p s)
    where
      and_true : (b : Bool) → b ≡ (b && true)
      and_true true = refl
      and_true false = refl

      and_false : (b : Bool) → false ≡ (b && false)
      and_false true = refl
      and_false false = refl

      moved : (b : Bool) → has_bit slot (cond b (bits_at s xs) 0) ≡ (has_bit slot (bits_at s xs) && b)
      moved true = and_true (has_bit slot (bits_at s xs))
      moved false = no_bit slot ∙ and_false (has_bit slot (bits_at s xs))

  pub rising_filter : (xs : List (ℕ × ℕ)) → IsStrictlySortedBy nat_cmp (samples_in xs) → IsStrictlySortedBy nat_cmp (samples_in (filter (λ x. p x.0) xs))
  rising_filter xs sorted = subst (IsStrictlySortedBy nat_cmp) (sym (samples_filter xs)) (IsStrictlySortedBy-filter nat_cmp p (samples_in xs) sorted)

  pub within_filter : (s : ℕ) (xs : List (ℕ × ℕ)) → In s (finset.from_list (samples_in (filter (λ x. p x.0) xs))) → p s ≡ true
  within_filter s xs h = in_filter s (samples_in xs) (subst (λ (l : List ℕ). In s (finset.from_list l)) (samples_filter xs) h)

-- ---- the bits of one sample
itself : (s b c : ℕ) → cond (s == s) b c ≡ b
itself s b c = ap (λ (t : Bool). cond t b c) (eq-eqb s s refl)

passed : (x s b c : ℕ) → x ≢ s → cond (x == s) b c ≡ c
passed x s b c ne = ap (λ (t : Bool). cond t b c) (ne_eqb x s ne)

-- where the samples before a place are others
pub bits_here : (xs : List (ℕ × ℕ)) (at s : ℕ) (d : ℕ × ℕ) → at < length xs → ((k : ℕ) → k < at → (get_or xs k d).0 ≢ s) → (get_or xs at d).0 ≡ s → bits_at s xs ≡ (get_or xs at d).1
bits_here [] at s d lt others is = absurd (omega arith)
bits_here (x ∷ xs) zero s d lt others is = ap (λ (t : Bool). cond t x.1 (bits_at s xs)) (eq-eqb x.0 s is)
bits_here (x ∷ xs) (suc at) s d lt others is = passed x.0 s x.1 (bits_at s xs) (others 0 (omega arith)) ∙ bits_here xs at s d (omega arith) (λ k h. others (suc k) (omega arith)) is

set_here : (xs : List (ℕ × ℕ)) (at s b : ℕ) (d : ℕ × ℕ) → at < length xs → ((k : ℕ) → k < at → (get_or xs k d).0 ≢ s) → bits_at s (set xs at (s, b)) ≡ b
set_here [] at s b d lt others = absurd (omega arith)
set_here (x ∷ xs) zero s b d lt others = itself s b (bits_at s xs)
set_here (x ∷ xs) (suc at) s b d lt others = passed x.0 s x.1 (bits_at s (set xs at (s, b))) (others 0 (omega arith)) ∙ set_here xs at s b d (omega arith) (λ k h. others (suc k) (omega arith))

set_other : (xs : List (ℕ × ℕ)) (at s t b : ℕ) (d : ℕ × ℕ) → at < length xs → (get_or xs at d).0 ≡ s → t ≢ s → bits_at t (set xs at (s, b)) ≡ bits_at t xs
set_other [] at s t b d lt is ne = absurd (omega arith)
set_other (x ∷ xs) zero s t b d lt is ne = passed s t b (bits_at t xs) (λ e. ne (sym e)) ∙ sym (passed x.0 t x.1 (bits_at t xs) (λ e. ne (sym e ∙ is)))
set_other (x ∷ xs) (suc at) s t b d lt is ne = ap (λ (n : ℕ). cond (x.0 == t) x.1 n) (set_other xs at s t b d (omega arith) is ne)

insert_here : (xs : List (ℕ × ℕ)) (at s b : ℕ) → at ≤ length xs → (In s (finset.from_list (samples_in xs)) → ⊥) → bits_at s (insert xs at (s, b)) ≡ b
insert_here xs zero s b le absent = itself s b (bits_at s xs)
insert_here [] (suc at) s b le absent = absurd (omega arith)
insert_here (x ∷ xs) (suc at) s b le absent =
    passed x.0 s x.1 (bits_at s (insert xs at (s, b))) (λ e. absent (subst (λ (t : ℕ). In t (finset.from_list (x.0 ∷ samples_in xs))) e (in_head x.0 (samples_in xs))))
    ∙ insert_here xs at s b (omega arith) (λ h. absent (in_tail s x.0 (samples_in xs) h))

insert_other : (xs : List (ℕ × ℕ)) (at s t b : ℕ) → at ≤ length xs → t ≢ s → bits_at t (insert xs at (s, b)) ≡ bits_at t xs
insert_other xs zero s t b le ne = passed s t b (bits_at t xs) (λ e. ne (sym e))
insert_other [] (suc at) s t b le ne = absurd (omega arith)
insert_other (x ∷ xs) (suc at) s t b le ne = ap (λ (n : ℕ). cond (x.0 == t) x.1 n) (insert_other xs at s t b (omega arith) ne)

samples_insert : (xs : List (ℕ × ℕ)) (at s b : ℕ) → at ≤ length xs → samples_in (insert xs at (s, b)) ≡ insert (samples_in xs) at s
samples_insert xs zero s b le = refl
samples_insert [] (suc at) s b le = absurd (omega arith)
samples_insert (x ∷ xs) (suc at) s b le = ap (λ l. x.0 ∷ l) (samples_insert xs at s b (omega arith))

pub bits_absent : (s : ℕ) (xs : List (ℕ × ℕ)) → (In s (finset.from_list (samples_in xs)) → ⊥) → bits_at s xs ≡ 0
bits_absent s [] absent = refl
bits_absent s (x ∷ xs) absent =
    passed x.0 s x.1 (bits_at s xs) (λ e. absent (subst (λ (t : ℕ). In t (finset.from_list (x.0 ∷ samples_in xs))) e (in_head x.0 (samples_in xs))))
    ∙ bits_absent s xs (λ h. absent (in_tail s x.0 (samples_in xs) h))

-- ---- a mark set
or_nothing : (b c : Bool) → (b || (c && false)) ≡ b
or_nothing true true = refl
or_nothing true false = refl
or_nothing false true = refl
or_nothing false false = refl

and_all : (b c : Bool) → (b || (c && true)) ≡ (b || c)
and_all true true = refl
and_all true false = refl
and_all false true = refl
and_all false false = refl

in_at : (ks : List ℕ) (at d : ℕ) → at < length ks → In (get_or ks at d) (finset.from_list ks)
in_at [] at d lt = absurd (omega arith)
in_at (k ∷ ks) zero d lt = in_head k ks
in_at (k ∷ ks) (suc at) d lt = in_tail (get_or ks at d) k ks (in_at ks at d (omega arith))

put_known : (s : ℕ) (ks : List ℕ) → IsStrictlySortedBy nat_cmp ks → In s (finset.from_list ks) → put nat_cmp s ks ≡ ks
put_known s ks sorted there =
    let list : rising (finset.from_list ks) ≡ ks = rising-from_list nat_cmp_total nat_cmp-IsAntisymmetric ks sorted in
    ap (put nat_cmp s) (sym list) ∙ sym (rising-insert nat_cmp_total nat_cmp-IsAntisymmetric (finset.from_list ks) s)
    ∙ ap (λ (a : Samples). rising a) (insert-known nat_cmp_total nat_cmp-IsAntisymmetric (finset.from_list ks) s there) ∙ list

module _ (slot : ℕ) (small : slot < 16) (xs : List (ℕ × ℕ)) (at s : ℕ) where
  as_long : length (samples_in xs) ≡ length xs
  as_long = length-map xs (λ (x : ℕ × ℕ). x.0)

  -- what is said of a sample other than s
  apart : (k t : ℕ) (ys : List (ℕ × ℕ)) → t ≢ s → bits_at t ys ≡ bits_at t xs → marked_in k t ys ≡ (marked_in k t xs || ((k == slot) && (t == s)))
  apart k t ys ne same =
      ap (has_bit k) same ∙ sym (ap (λ (b : Bool). marked_in k t xs || ((k == slot) && b)) (ne_eqb t s ne) ∙ or_nothing (marked_in k t xs) (k == slot))

  -- what is said of s
  together : (k t : ℕ) (ys : List (ℕ × ℕ)) → t ≡ s → has_bit k (bits_at s ys) ≡ (has_bit k (bits_at s xs) || (k == slot)) → marked_in k t ys ≡ (marked_in k t xs || ((k == slot) && (t == s)))
  together k t ys e more =
      ap (λ (m : ℕ). marked_in k m ys) e ∙ more ∙ ap (λ (m : ℕ). marked_in k m xs || (k == slot)) (sym e)
      ∙ sym (ap (λ (b : Bool). marked_in k t xs || ((k == slot) && b)) (eq-eqb t s e) ∙ and_all (marked_in k t xs) (k == slot))

  module _ (sorted : IsStrictlySortedBy nat_cmp (samples_in xs)) (lt : at < length xs) (is : (d : ℕ × ℕ) → (get_or xs at d).0 ≡ s) (old : ℕ × ℕ) (was : old ≡ get_or xs at old) where
    key_at : (k : ℕ) → k < length xs → get_or (samples_in xs) k old.0 ≡ (get_or xs k old).0
    key_at k h = get_or-map (λ (x : ℕ × ℕ). x.0) xs k old old.0 h

    others : (k : ℕ) → k < at → (get_or xs k old).0 ≢ s
    others k h e =
        let below : at < length (samples_in xs) = omega (arith, as_long) in
        let one : get_or (samples_in xs) k old.0 ≡ s = key_at k (omega arith) ∙ e in
        let two : get_or (samples_in xs) at old.0 ≡ s = key_at at lt ∙ is old in
        let less : nat_cmp s s ≡ Less = sym (λ j. nat_cmp (one j) (two j)) ∙ Less-from_sorted nat_cmp (samples_in xs) k at old.0 sorted h below in
        true≢false (sym (ap is_lt less) ∙ ap is_lt (tied_itself nat_cmp_total s))

    first : old.0 ≡ s
    first = ap (λ (x : ℕ × ℕ). x.0) was ∙ is old

    there : In s (finset.from_list (samples_in xs))
    there =
        let below : at < length (samples_in xs) = omega (arith, as_long) in
        subst (λ (t : ℕ). In t (finset.from_list (samples_in xs))) (key_at at lt ∙ is old) (in_at (samples_in xs) at old.0 below)

    pub samples_set : (b : ℕ) → samples_in (set xs at (old.0, b)) ≡ put nat_cmp s (samples_in xs)
    samples_set b = map-set_same (λ (x : ℕ × ℕ). x.0) xs at (old.0, b) old (ap (λ (x : ℕ × ℕ). x.0) was) ∙ sym (put_known s (samples_in xs) sorted there)

    pub has_here : (k : ℕ) → has_bit k old.1 ≡ marked_in k s xs
    has_here k = ap (has_bit k) (ap (λ (x : ℕ × ℕ). x.1) was ∙ sym (bits_here xs at s old lt others (is old)))

    pub marks_set : (k t : ℕ) → marked_in k t (set xs at (old.0, bit_or old.1 (1 * 2 ^ slot % 2 ^ 16))) ≡ (marked_in k t xs || ((k == slot) && (t == s)))
    marks_set k t =
        ap (λ (m : ℕ). marked_in k t (set xs at (m, b))) first
        ∙ elim (cases_eq t s) [
          | inl e ↦ together k t (set xs at (s, b)) e (ap (has_bit k) (set_here xs at s b old lt others) ∙ bit_set slot small k old.1 ∙ ap (λ (h : Bool). h || (k == slot)) (has_here k))
          | inr ne ↦ apart k t (set xs at (s, b)) ne (set_other xs at s t b old lt (is old) ne)
        ]
      where
        b : ℕ
        b = bit_or old.1 (1 * 2 ^ slot % 2 ^ 16)

  module _ (place : IsPlace nat_cmp (samples_in xs) s at) where
    le : at ≤ length xs
    le = omega (arith, place.within, as_long)

    absent : In s (finset.from_list (samples_in xs)) → ⊥
    absent h = true≢false (sym h ∙ place.absent)

    pub samples_put : (b : ℕ) → samples_in (insert xs at (s, b)) ≡ put nat_cmp s (samples_in xs)
    samples_put b = samples_insert xs at s b le ∙ sym place.put

    pub not_here : (k : ℕ) → marked_in k s xs ≡ false
    not_here k = ap (has_bit k) (bits_absent s xs absent) ∙ no_bit k

    pub marks_put : (k t : ℕ) → marked_in k t (insert xs at (s, 1 * 2 ^ slot % 2 ^ 16)) ≡ (marked_in k t xs || ((k == slot) && (t == s)))
    marks_put k t = elim (cases_eq t s) [
      | inl e ↦ together k t (insert xs at (s, 1 * 2 ^ slot % 2 ^ 16)) e
          (ap (has_bit k) (insert_here xs at s (1 * 2 ^ slot % 2 ^ 16) le absent) ∙ bit_alone slot small k ∙ ap (λ (n : ℕ). has_bit k n || (k == slot)) (sym (bits_absent s xs absent)))
      | inr ne ↦ apart k t (insert xs at (s, 1 * 2 ^ slot % 2 ^ 16)) ne (insert_other xs at s t (1 * 2 ^ slot % 2 ^ 16) le ne)
    ]

-- ---- what is left of marks
pub kept_marks : (window : Samples) (old : Marks) (room : ℕ) → IsStrictlySortedBy nat_cmp (samples_in old.items) → old.room ≤ room
    → AreKept window old (record { room = room; items = filter (λ x. finset.contains window x.0) old.items })
kept_marks window old room sorted le = record {
  beside = λ n few. record {
    rising = rising_filter (finset.contains window) old.items sorted;
    within = λ s h. within_filter (finset.contains window) s old.items h;
    room = omega arith;
  };
  marks = λ slot s. marked_filter (finset.contains window) slot s old.items;
}

-- a sample as before, without the bit of a slot
abbrev pub IsCleared : ℕ → ℕ × ℕ → ℕ × ℕ → Type 0
IsCleared slot x y = (y.0 ≡ x.0) × ((k : ℕ) → has_bit k y.1 ≡ (has_bit k x.1 && not (k == slot)))

-- each so
abbrev EachCleared : ℕ → List (ℕ × ℕ) → List (ℕ × ℕ) → Type 0
EachCleared slot old new = (i : ℕ) (d : ℕ × ℕ) → i < length old → IsCleared slot (get_or old i d) (get_or new i d)

cleared_samples : (slot : ℕ) (old new : List (ℕ × ℕ)) → length new ≡ length old → EachCleared slot old new → samples_in new ≡ samples_in old
cleared_samples slot [] [] e each = refl
cleared_samples slot [] (y ∷ ys) e each = absurd (omega (arith, e))
cleared_samples slot (x ∷ xs) [] e each = absurd (omega (arith, e))
cleared_samples slot (x ∷ xs) (y ∷ ys) e each =
    let rest : samples_in ys ≡ samples_in xs = cleared_samples slot xs ys (omega (arith, e)) (λ i d lt. each (suc i) d (omega arith)) in
    (λ j. (each 0 x (omega arith)).0 j ∷ rest j)

cleared_marks : (slot : ℕ) (old new : List (ℕ × ℕ)) → length new ≡ length old → EachCleared slot old new → (k s : ℕ) → marked_in k s new ≡ (marked_in k s old && not (k == slot))
cleared_marks slot [] [] e each k s = no_bit k ∙ sym (ap (λ (b : Bool). b && not (k == slot)) (no_bit k))
cleared_marks slot [] (y ∷ ys) e each k s = absurd (omega (arith, e))
cleared_marks slot (x ∷ xs) [] e each k s = absurd (omega (arith, e))
cleared_marks slot (x ∷ xs) (y ∷ ys) e each k s =
    let here = each 0 x (omega arith) in
    let rest : marked_in k s ys ≡ (marked_in k s xs && not (k == slot)) = cleared_marks slot xs ys (omega (arith, e)) (λ i d lt. each (suc i) d (omega arith)) k s in
    ap (λ (t : ℕ). has_bit k (cond (t == s) y.1 (bits_at s ys))) here.0 ∙ by_test (x.0 == s) (here.1 k) rest
  where
    by_test : (t : Bool) → has_bit k y.1 ≡ (has_bit k x.1 && not (k == slot)) → marked_in k s ys ≡ (marked_in k s xs && not (k == slot))
        → has_bit k (cond t y.1 (bits_at s ys)) ≡ (has_bit k (cond t x.1 (bits_at s xs)) && not (k == slot))
    by_test true h r = h
    by_test false h r = r

pub cleared_all : (slot room : ℕ) (old new : List (ℕ × ℕ)) → AreChanged (λ i. IsCleared slot) old new → AreCleared slot (record { room = room; items = old }) (record { room = room; items = new })
cleared_all slot room old new changed = record {
  samples = cleared_samples slot old new changed.number changed.each;
  room = omega arith;
  marks = cleared_marks slot old new changed.number changed.each;
}
