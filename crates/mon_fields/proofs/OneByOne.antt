-- Things that are read one by one.
use Rattle.std.proofs.Common.{◌≡◌, ℕ, zero, suc, ◌-◌, ◌<◌, List, [], ◌∷◌, ◌++◌, length, Option, Some, Result, Ok, Err, refl, sym, ap, subst, ◌∙◌, append_assoc, arith}
use Rattle.std.specs.List.{flat_map}
use Rattle.std.proofs.lemmas.List.{append-nil}
use Rattle.std.proofs.lemmas.List.Concat.{flat_map-cons}
use Rattle.mon_oid.specs.Steps.{◌>>=◌}
use Rattle.mon_ber.proofs.Promised.{IsBytes, IsBytes-after, bind_ok, pair_is}
use Rattle.mon_fields.specs.Reading.{one_by_one, with_front}

-- each is so to the one before it
abbrev pub Chain : {A : Type 0} → (Option A → A → Type 0) → Option A → List A → Type 0
Chain V last [] = Unit {0}
Chain V last (x ∷ xs) = V last x × Chain V (Some x) xs

module _ {A E : Type 0} (read : Option A → List ℕ → Result (A × List ℕ) E) where
  pub step : (last : Option A) (n : ℕ) (octets : List ℕ) → 0 < n → one_by_one read last n octets ≡ (read last octets >>= λ x. one_by_one read (Some x.0) (n - 1) x.1 >>= λ xs. Ok (x.0 ∷ xs.0, xs.1))
  unfolding one_by_one
  step last zero octets h = absurd (omega (arith, h))
  step last (suc n) octets h = let e : suc n - 1 ≡ n = omega arith in rw e refl

  regroup : (front : List A) (x : A) (r : Result (List A × List ℕ) E) → with_front front (r >>= λ xs. Ok (x ∷ xs.0, xs.1)) ≡ with_front (front ++ x ∷ []) r
  regroup front x (Ok xs) = ap (λ (ys : List A). Ok (ys, xs.1)) (sym (append_assoc front (x ∷ []) xs.0))
  regroup front x (Err e) = refl

  -- a loop's step, and its ends
  pub goes_on : (front : List A) (last : Option A) (n : ℕ) (octets : List ℕ) (total : Result (List A × List ℕ) E) → with_front front (one_by_one read last n octets) ≡ total
      → (x : A) (after : List ℕ) → 0 < n → read last octets ≡ Ok (x, after) → with_front (front ++ x ∷ []) (one_by_one read (Some x) (n - 1) after) ≡ total
  goes_on front last n octets total so_far x after some h =
      let one : with_front front (one_by_one read last n octets) ≡ with_front (front ++ x ∷ []) (one_by_one read (Some x) (n - 1) after) =
      rw (step last n octets some, h) (regroup front x (one_by_one read (Some x) (n - 1) after)) in
      sym one ∙ so_far

  pub stops : (front : List A) (last : Option A) (n : ℕ) (octets : List ℕ) (total : Result (List A × List ℕ) E) → with_front front (one_by_one read last n octets) ≡ total
      → (e : E) → 0 < n → read last octets ≡ Err e → total ≡ Err e
  stops front last n octets total so_far e some h =
      let one : with_front front (one_by_one read last n octets) ≡ Err e = rw (step last n octets some, h) refl in
      sym so_far ∙ one

  pub is_done : (front : List A) (last : Option A) (n : ℕ) (octets : List ℕ) (total : Result (List A × List ℕ) E) → with_front front (one_by_one read last n octets) ≡ total
      → n ≡ 0 → total ≡ Ok (front, octets)
  unfolding one_by_one
  is_done front last zero octets total so_far none = sym so_far ∙ ap (λ (v : List A). Ok (v, octets)) (append-nil front)
  is_done front last (suc n) octets total so_far none = absurd (omega (arith, none))

  module _ (S : A → List ℕ) (V : Option A → A → Type 0) where
    -- what is read was laid out so
    pub one_by_one_takes : ((last : Option A) (octets : List ℕ) (x : A) (rest : List ℕ) → IsBytes octets → read last octets ≡ Ok (x, rest) → (octets ≡ S x ++ rest) × V last x)
        → (last : Option A) (n : ℕ) (octets : List ℕ) (xs : List A) (rest : List ℕ) → IsBytes octets → one_by_one read last n octets ≡ Ok (xs, rest)
        → (octets ≡ flat_map S xs ++ rest) × (length xs ≡ n) × Chain V last xs
    unfolding one_by_one
    one_by_one_takes takes last zero octets xs rest b e =
        let none : List A = [] in
        let p = pair_is none octets xs rest e in
        subst (λ (v : List A). (octets ≡ flat_map S v ++ rest) × (length v ≡ 0) × Chain V last v) p.0 (p.1, refl, tt)
    one_by_one_takes takes last (suc n) octets xs rest b e =
        let whole : List A × List ℕ = (xs, rest) in
        let x = bind_ok (read last octets) (λ y. one_by_one read (Some y.0) n y.1 >>= λ ys. Ok (y.0 ∷ ys.0, ys.1)) whole e in
        let y = bind_ok (one_by_one read (Some x.0.0) n x.0.1) (λ ys. Ok (x.0.0 ∷ ys.0, ys.1)) whole x.2 in
        let p = pair_is (x.0.0 ∷ y.0.0) y.0.1 xs rest y.2 in
        let t = takes last octets x.0.0 x.0.1 b x.1 in
        let others = one_by_one_takes takes (Some x.0.0) n x.0.1 y.0.0 y.0.1 (IsBytes-after octets (S x.0.0) x.0.1 b t.0) y.1 in
        let laid : octets ≡ flat_map S (x.0.0 ∷ y.0.0) ++ rest =
        t.0 ∙ ap (λ (r : List ℕ). S x.0.0 ++ r) (others.0 ∙ ap (λ (r : List ℕ). flat_map S y.0.0 ++ r) p.1)
        ∙ sym (append_assoc (S x.0.0) (flat_map S y.0.0) rest) ∙ ap (λ (r : List ℕ). r ++ rest) (sym (flat_map-cons S x.0.0 y.0.0)) in
        subst (λ (v : List A). (octets ≡ flat_map S v ++ rest) × (length v ≡ suc n) × Chain V last v) p.0 (laid, ap (λ (k : ℕ). suc k) others.1, (t.1, others.2))

    -- what is laid out so is read, whatever follows
    pub one_by_one_again : ((last : Option A) (x : A) (rest : List ℕ) → V last x → read last (S x ++ rest) ≡ Ok (x, rest))
        → (last : Option A) (xs : List A) (rest : List ℕ) → Chain V last xs → one_by_one read last (length xs) (flat_map S xs ++ rest) ≡ Ok (xs, rest)
    unfolding one_by_one
    one_by_one_again again last [] rest c = refl
    one_by_one_again again last (x ∷ xs) rest c =
        ap (one_by_one read last (suc (length xs))) (ap (λ (r : List ℕ). r ++ rest) (flat_map-cons S x xs) ∙ append_assoc (S x) (flat_map S xs) rest)
        ∙ rw (again last x (flat_map S xs ++ rest) c.0, one_by_one_again again (Some x) xs rest c.1) refl
