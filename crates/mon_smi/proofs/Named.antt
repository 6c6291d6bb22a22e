-- There is one text for an identifier.
use Rattle.std.proofs.Common.{◌≡◌, ◌≢◌, ℕ, zero, suc, ◌<◌, ◌≤◌, Bool, true, false, List, [], ◌∷◌, ◌++◌, length, take, drop, Option, Some, None, sym, refl, ap, ◌∙◌, subst, arith, append-nil, append_assoc, ⊎_elim, inl, inr}
use Rattle.std.specs.Prelude.{◌↔◌, ◌==◌, if◌then◌else◌}
use Rattle.std.specs.List.{fold}
use Rattle.std.specs.Option.{option_map_or}
use Rattle.std.specs.Ordering.{nat_cmp, is_eq, is_le}
use Rattle.std.specs.Str.{bytes_eq}
use Rattle.std.specs.Cmp.Lexicographic.{slice_cmp, nat_list_cmp_total}
use Rattle.std.specs.declared.cmp.Ordering.{Ordering}
use Rattle.std.specs.declared.cmp.Ordering.TheVariants.{Less, Equal, Greater}
use Rattle.std.proofs.lemmas.List.{length-take-le, take-append-drop, take-append-le, take_all}
use Rattle.std.proofs.lemmas.Bool.{eqb-true, eqb-false}
use Rattle.std.proofs.lemmas.Map.Text.{is_eq-slice_cmp}
use Rattle.std.proofs.lemmas.Slice.Eq.{bytes_eq-Decides}
use Rattle.mon_oid.specs.Oid.{IsOid, IsPrefix}
use Rattle.mon_smi.specs.declared.definition.Definition.{Definition}
use Rattle.mon_smi.specs.Names.{AreDistinct, IsOneOf, StandsFor}
use Rattle.mon_smi.specs.Parents.{numbers_of}
use Rattle.mon_smi.specs.Nearest.{Covers, IsAsNear, IsNearest, IsNameOf, dotted_after}
use Rattle.mon_smi.specs.Labels.{is_name_for, lesser, label_of, longest, named_by, name_text}
use Rattle.mon_smi.proofs.Nearness.{not_after, at_most_trans, one_of, defined, covers_within}
use Rattle.mon_smi.proofs.Labelled.{begins}
use Rattle.mon_smi.proofs.Standing.{numbers_are}

-- ---- the label of numbers

-- the least of the names of these definitions that mean the numbers
abbrev IsLeast : List Definition → List Definition → List ℕ → Option (List ℕ) → Type 0
IsLeast defs seen q None = (d : Definition) → IsOneOf seen d → StandsFor defs d.name q → ⊥
IsLeast defs seen q (Some w) = StandsFor defs w q × ((d : Definition) → IsOneOf seen d → StandsFor defs d.name q → slice_cmp nat_cmp w d.name ≢ Greater)

module _ (defs : List Definition) (distinct : AreDistinct defs) (q : List ℕ) where
  is_named : (d : Definition) → is_name_for defs q d ≡ true → StandsFor defs d.name q
  is_named d t = go (numbers_of defs d.name) refl t
    where
      go : (r : Option (List ℕ)) → numbers_of defs d.name ≡ r → option_map_or (λ p. bytes_eq p q) r false ≡ true → StandsFor defs d.name q
      go None is t = absurd (cc)
      go (Some p) is t = (numbers_are defs d.name q distinct).0 (is ∙ ap Some ((bytes_eq-Decides p q).0 t))

  is_unnamed : (d : Definition) → is_name_for defs q d ≡ false → StandsFor defs d.name q → ⊥
  is_unnamed d f stands =
      let is : numbers_of defs d.name ≡ Some q = (numbers_are defs d.name q distinct).1 stands in
      let t : is_name_for defs q d ≡ true = ap (λ (r : Option (List ℕ)). option_map_or (λ p. bytes_eq p q) r false) is ∙ (bytes_eq-Decides q q).1 refl in
      absurd (cc)

  other_name : (seen : List Definition) (d : Definition) (best : Option (List ℕ)) → IsLeast defs seen q best → (StandsFor defs d.name q → ⊥) → IsLeast defs (seen ++ d ∷ []) q best
  other_name seen d None least none = λ e one stands. ⊎_elim (λ front. least e front stands) (λ last. none (subst (λ (f : Definition). StandsFor defs f.name q) last stands)) (one_of seen d e one)
  other_name seen d (Some w) least none = (least.0, λ e one stands. ⊎_elim (λ front. least.1 e front stands) (λ last. absurd (none (subst (λ (f : Definition). StandsFor defs f.name q) last stands))) (one_of seen d e one))

  one_more : (seen : List Definition) (d : Definition) (best : Option (List ℕ)) → IsLeast defs seen q best → StandsFor defs d.name q → IsLeast defs (seen ++ d ∷ []) q (lesser best d.name)
  one_more seen d None least stands = (
    stands,
    λ e one there. ⊎_elim (λ front. absurd (least e front there)) (λ last. subst (λ (f : Definition). slice_cmp nat_cmp d.name f.name ≢ Greater) (sym last) (λ bad. not_after d.name d.name bad bad)) (one_of seen d e one),
  )
  one_more seen d (Some w) least stands = go (slice_cmp nat_cmp w d.name) refl
    where
      stays : slice_cmp nat_cmp w d.name ≢ Greater → IsLeast defs (seen ++ d ∷ []) q (Some w)
      stays less = (
        least.0,
        λ e one there. ⊎_elim (λ front. least.1 e front there) (λ last. subst (λ (f : Definition). slice_cmp nat_cmp w f.name ≢ Greater) (sym last) less) (one_of seen d e one),
      )

      go : (o : Ordering) → slice_cmp nat_cmp w d.name ≡ o → IsLeast defs (seen ++ d ∷ []) q (if is_le o then Some w else Some d.name)
      go Less is = stays (λ bad. let same : Less ≡ Greater = sym is ∙ bad in absurd (cc))
      go Equal is = stays (λ bad. let same : Equal ≡ Greater = sym is ∙ bad in absurd (cc))
      go Greater is = (
        stands,
        λ e one there. ⊎_elim (λ front. at_most_trans d.name w e.name (not_after w d.name is) (least.1 e front there))
            (λ last. subst (λ (f : Definition). slice_cmp nat_cmp d.name f.name ≢ Greater) (sym last) (λ bad. not_after d.name d.name bad bad)) (one_of seen d e one),
      )

  step : (seen : List Definition) (d : Definition) (best : Option (List ℕ)) (t : Bool) → is_name_for defs q d ≡ t → IsLeast defs seen q best → IsLeast defs (seen ++ d ∷ []) q (if t then lesser best d.name else best)
  step seen d best true is least = one_more seen d best least (is_named d is)
  step seen d best false is least = other_name seen d best least (is_unnamed d is)

  least_on : (seen ds : List Definition) (best : Option (List ℕ)) → IsLeast defs seen q best → IsLeast defs (seen ++ ds) q (fold (λ (b : Option (List ℕ)) (d : Definition). if is_name_for defs q d then lesser b d.name else b) best ds)
  least_on seen [] best least = subst (λ (l : List Definition). IsLeast defs l q best) (sym (append-nil seen)) least
  least_on seen (d ∷ ds) best least =
      subst (λ (l : List Definition). IsLeast defs l q (fold (λ (b : Option (List ℕ)) (e : Definition). if is_name_for defs q e then lesser b e.name else b) (if is_name_for defs q d then lesser best d.name else best) ds)) (append_assoc seen (d ∷ []) ds)
      (least_on (seen ++ d ∷ []) ds (if is_name_for defs q d then lesser best d.name else best) (step seen d best (is_name_for defs q d) refl least))

  label_is : IsLeast defs defs q (label_of defs q)
  label_is = least_on [] defs None (λ d one stands. let none : one.0 < 0 = one.1.0 in absurd (omega arith))

-- ---- the longest beginning

-- a beginning of this length is the only one
the_beginning : (oid q : List ℕ) (n : ℕ) → IsPrefix q oid → length q ≡ n → q ≡ take n oid
the_beginning oid q n prefix len =
    let is : q ++ prefix.0 ≡ oid = prefix.1 in
    let whole : take (length q) q ≡ q = take_all (length q) q (omega arith) in
    sym whole ∙ sym (take-append-le (length q) q prefix.0 (omega arith)) ∙ ap (λ (l : List ℕ). take (length q) l) is ∙ ap (λ (k : ℕ). take k oid) len

-- the nearest of the names that cover at most n of the identifier, or there is none
abbrev IsNearestUpTo : List Definition → List ℕ → ℕ → Option (List ℕ × ℕ) → Type 0
IsNearestUpTo defs oid n None = (w : List ℕ) (m : ℕ) → m ≤ n → Covers defs oid w m → ⊥
IsNearestUpTo defs oid n (Some b) = Covers defs oid b.0 b.1 × ((other : List ℕ) (m : ℕ) → m ≤ n → Covers defs oid other m → IsAsNear b.0 b.1 other m)

two_at_least : (defs : List Definition) (oid w : List ℕ) (m : ℕ) → Covers defs oid w m → 2 ≤ m
two_at_least defs oid w m covers =
    let long : 2 ≤ length covers.0 = covers.2.long in
    let len : length covers.0 ≡ m = covers.4 in
    omega arith

module _ (defs : List Definition) (distinct : AreDistinct defs) (oid : List ℕ) (is_oid : IsOid oid) where
  -- what covers this many means the beginning of this length
  stands_there : (w : List ℕ) (m n : ℕ) → m ≡ n → Covers defs oid w m → StandsFor defs w (take n oid)
  stands_there w m n same covers = subst (λ (q : List ℕ). StandsFor defs w q) (the_beginning oid covers.0 n covers.3 (covers.4 ∙ same)) covers.1

  at_name : (n : ℕ) (w : List ℕ) → 2 ≤ n → n ≤ length oid → IsLeast defs defs (take n oid) (Some w) → IsNearestUpTo defs oid n (Some (w, n))
  at_name n w two within least = (
    (take n oid, least.0, begins oid n is_oid two within, (drop n oid, take-append-drop n oid), length-take-le n oid within),
    λ other m few covers. go other m few covers (m == n) refl,
  )
    where
      equal : (other : List ℕ) (m : ℕ) → m ≡ n → Covers defs oid other m → slice_cmp nat_cmp w other ≢ Greater
      equal other m same covers =
          let d = defined defs other covers.1.0 covers.1.1 in
          subst (λ (v : List ℕ). slice_cmp nat_cmp w v ≢ Greater) d.2 (least.1 d.0 d.1 (subst (λ (v : List ℕ). StandsFor defs v (take n oid)) (sym d.2) (stands_there other m n same covers)))

      go : (other : List ℕ) (m : ℕ) → m ≤ n → Covers defs oid other m → (t : Bool) → (m == n) ≡ t → IsAsNear w n other m
      go other m few covers true is = let same : m ≡ n = eqb-true m n is in inr (same, equal other m same covers)
      go other m few covers false is = let differ : m ≢ n = eqb-false m n is in inl (omega arith)

  no_name : (n : ℕ) → IsLeast defs defs (take n oid) None → (w : List ℕ) (m : ℕ) → m ≡ n → Covers defs oid w m → ⊥
  no_name n least w m same covers =
      let d = defined defs w covers.1.0 covers.1.1 in
      least d.0 d.1 (subst (λ (v : List ℕ). StandsFor defs v (take n oid)) (sym d.2) (stands_there w m n same covers))

  one_longer : (n : ℕ) (r : Option (List ℕ × ℕ)) → ((w : List ℕ) (m : ℕ) → m ≡ suc n → Covers defs oid w m → ⊥) → IsNearestUpTo defs oid n r → IsNearestUpTo defs oid (suc n) r
  one_longer n None none near = λ w m few covers. go w m few covers (m == suc n) refl
    where
      go : (w : List ℕ) (m : ℕ) → m ≤ suc n → Covers defs oid w m → (t : Bool) → (m == suc n) ≡ t → ⊥
      go w m few covers true is = none w m (eqb-true m (suc n) is) covers
      go w m few covers false is = let differ : m ≢ suc n = eqb-false m (suc n) is in near w m (omega arith) covers
  one_longer n (Some b) none near = (near.0, λ w m few covers. go w m few covers (m == suc n) refl)
    where
      go : (w : List ℕ) (m : ℕ) → m ≤ suc n → Covers defs oid w m → (t : Bool) → (m == suc n) ≡ t → IsAsNear b.0 b.1 w m
      go w m few covers true is = absurd (none w m (eqb-true m (suc n) is) covers)
      go w m few covers false is = let differ : m ≢ suc n = eqb-false m (suc n) is in near.1 w m (omega arith) covers

  nearest_is : (n : ℕ) → n ≤ length oid → IsNearestUpTo defs oid n (longest (label_of defs) oid n)
  nearest_is zero within = λ w m few covers. let two : 2 ≤ m = two_at_least defs oid w m covers in absurd (omega arith)
  nearest_is (suc zero) within = λ w m few covers. let two : 2 ≤ m = two_at_least defs oid w m covers in absurd (omega arith)
  nearest_is (suc (suc k)) within = go (label_of defs (take (suc (suc k)) oid)) (label_is defs distinct (take (suc (suc k)) oid)) (nearest_is (suc k) (omega arith))
    where
      go : (r : Option (List ℕ)) → IsLeast defs defs (take (suc (suc k)) oid) r → IsNearestUpTo defs oid (suc k) (longest (label_of defs) oid (suc k))
          → IsNearestUpTo defs oid (suc (suc k)) (option_map_or (λ w. Some (w, suc (suc k))) r (longest (label_of defs) oid (suc k)))
      go None least rest = one_longer (suc k) (longest (label_of defs) oid (suc k)) (no_name (suc (suc k)) least) rest
      go (Some w) least rest = at_name (suc (suc k)) w (omega arith) within least

  named : (r : Option (List ℕ × ℕ)) → IsNearestUpTo defs oid (length oid) r → IsNameOf defs oid (named_by oid r)
  named None none = inr (λ w n covers. none w n (covers_within defs oid w n covers) covers, refl)
  named (Some b) near = inl (b.0, b.1, (near.0, λ other m covers. near.1 other m (covers_within defs oid other m covers) covers), refl)

-- ---- one text

-- words that are no greater than each other are one
one_word : (a b : List ℕ) → slice_cmp nat_cmp a b ≢ Greater → slice_cmp nat_cmp b a ≢ Greater → a ≡ b
one_word a b ab ba = go (slice_cmp nat_cmp a b) refl
  where
    go : (o : Ordering) → slice_cmp nat_cmp a b ≡ o → a ≡ b
    go Greater is = absurd (ab is)
    go Equal is = (bytes_eq-Decides a b).0 (sym (is_eq-slice_cmp a b) ∙ ap is_eq is)
    go Less is = let turned = nat_list_cmp_total.antisymm b a in absurd (ba (cc))

one_nearest : (defs : List Definition) (oid v w : List ℕ) (m n : ℕ) → IsNearest defs oid v m → IsNearest defs oid w n → (v ≡ w) × (m ≡ n)
one_nearest defs oid v w m n a b = both (a.1 w n b.0) (b.1 v m a.0)
  where
    both : IsAsNear v m w n → IsAsNear w n v m → (v ≡ w) × (m ≡ n)
    both near back =
        ⊎_elim
        (λ less. ⊎_elim (λ less2. absurd (omega arith)) (λ same2. let e = same2.0 in absurd (omega arith)) back)
        (λ same. ⊎_elim (λ less2. let e = same.0 in absurd (omega arith)) (λ same2. (one_word v w same.1 same2.1, sym same.0)) back)
        near

same_text : (defs : List Definition) (oid a b : List ℕ) → IsNameOf defs oid a → IsNameOf defs oid b → a ≡ b
same_text defs oid a b one two =
    ⊎_elim
    (λ p. ⊎_elim
    (λ r. let same = one_nearest defs oid p.0 r.0 p.1 r.1 p.2 r.2 in p.3 ∙ ap (λ (w : List ℕ). w ++ dotted_after (drop p.1 oid)) same.0 ∙ ap (λ (n : ℕ). r.0 ++ dotted_after (drop n oid)) same.1 ∙ sym r.3)
    (λ none. absurd (none.0 p.0 p.1 p.2.0))
    two)
    (λ none. ⊎_elim (λ r. absurd (none.0 r.0 r.1 r.2.0)) (λ again. none.1 ∙ sym again.1) two)
    one

name_is : (defs : List Definition) (oid : List ℕ) → AreDistinct defs → IsOid oid → IsNameOf defs oid (name_text defs oid)
unfolding name_text
name_is defs oid distinct is_oid = named defs distinct oid is_oid (longest (label_of defs) oid (length oid)) (nearest_is defs distinct oid is_oid (length oid) (omega arith))

pub one_text : (defs : List Definition) (oid text : List ℕ) → AreDistinct defs → IsOid oid → (text ≡ name_text defs oid) ↔ IsNameOf defs oid text
one_text defs oid text distinct is_oid = (
  λ is. subst (λ (t : List ℕ). IsNameOf defs oid t) (sym is) (name_is defs oid distinct is_oid),
  λ name. same_text defs oid text (name_text defs oid) name (name_is defs oid distinct is_oid),
)
