-- Fields: what is read was laid out so, and what is laid out so is read.
use Rattle.std.proofs.Common.{◌≡◌, ℕ, zero, suc, ◌+◌, ◌*◌, ◌/◌, ◌%◌, ◌^◌, ◌<◌, Bool, true, false, cond, List, [], ◌∷◌, ◌++◌, length, take, drop, Result, Ok, Err, refl, sym, ap, subst, ◌∙◌, inl, inr, append_assoc, arith}
use Rattle.std.specs.Prelude.{nat_lt}
use Rattle.std.specs.Int.{w32, to_be_bytes, from_be_bytes}
use Rattle.std.proofs.lemmas.Bool.{cases_lt, ltb-false, le-ltb}
use Rattle.std.proofs.lemmas.List.{append-nil, get_or_append_left, get_or_past, length-append, length-take-le, take-append-drop}
use Rattle.std.proofs.Math.Seq.{take-append_seam, drop-append_seam}
use Rattle.std.proofs.lemmas.Nat.{be_bytes_4, from_be_bytes-to_be_bytes_4}
use Rattle.mon_ber.proofs.Promised.{IsBytes, bind_ok, pair_is}
use Rattle.mon_sample.specs.Record.{low_octets, octets_of, spelled, spelled_on}
use Rattle.mon_fields.specs.declared.fault.LayoutFault.TheVariants.{Truncated}
use Rattle.mon_fields.specs.Reading.{octet_at, field_at, u32_at}

-- a test that found no fault
pub guard : {A E : Type 0} (t : Bool) (d : E) (x : Result A E) (y : A) → cond t (Err d) x ≡ Ok y → (t ≡ false) × (x ≡ Ok y)
guard true d x y e = absurd cc
guard false d x y e = (refl, e)

pub bytes_front : (x y : List ℕ) → IsBytes (x ++ y) → IsBytes x
bytes_front x y b i =
    elim (cases_lt i (length x)) [
      | inl lt ↦ subst (λ (n : ℕ). n < 256) (get_or_append_left x y 0 i lt) (b i)
      | inr le ↦ subst (λ (n : ℕ). n < 256) (sym (get_or_past x i 0 le)) (omega arith)
    ]

pub octet_takes : (octets : List ℕ) (b : ℕ) (rest : List ℕ) → octet_at octets ≡ Ok (b, rest) → octets ≡ b ∷ rest
unfolding octet_at
octet_takes [] b rest e = absurd cc
octet_takes (x ∷ xs) b rest e = let p = pair_is x xs b rest e in λ i. p.0 i ∷ p.1 i

pub octet_again : (b : ℕ) (rest : List ℕ) → octet_at (b ∷ rest) ≡ Ok (b, rest)
unfolding octet_at
octet_again b rest = refl

pub field_takes : (n : ℕ) (octets front rest : List ℕ) → field_at n octets ≡ Ok (front, rest) → (octets ≡ front ++ rest) × (length front ≡ n)
unfolding field_at
field_takes n octets front rest e =
    let made : List ℕ × List ℕ = (front, rest) in
    let g = guard (nat_lt (length octets) n) Truncated (Ok (take n octets, drop n octets)) made e in
    let p = pair_is (take n octets) (drop n octets) front rest g.1 in
    (sym (take-append-drop n octets) ∙ (λ i. p.0 i ++ p.1 i), ap (λ (v : List ℕ). length v) (sym p.0) ∙ length-take-le n octets (ltb-false _ _ g.0))

pub field_again : (front rest : List ℕ) → field_at (length front) (front ++ rest) ≡ Ok (front, rest)
unfolding field_at
field_again front rest =
    let enough = le-ltb (length (front ++ rest)) (length front) (omega (arith, length-append front rest)) in
    rw (enough, take-append_seam front rest, drop-append_seam front rest) refl

pub u32_below : (bs : List ℕ) → length bs ≡ 4 → IsBytes bs → from_be_bytes w32 bs < 2 ^ 32
u32_below [] n b = absurd (omega (arith, n))
u32_below (p ∷ []) n b = absurd (omega (arith, n))
u32_below (p ∷ q ∷ []) n b = absurd (omega (arith, n))
u32_below (p ∷ q ∷ r ∷ []) n b = absurd (omega (arith, n))
u32_below (p ∷ q ∷ r ∷ s ∷ []) n b = omega (arith, b 0, b 1, b 2, b 3)
u32_below (p ∷ q ∷ r ∷ s ∷ t ∷ u) n b = absurd (omega (arith, n))

pub u32_takes : (octets : List ℕ) (n : ℕ) (rest : List ℕ) → IsBytes octets → u32_at octets ≡ Ok (n, rest) → (octets ≡ to_be_bytes w32 n ++ rest) × (n < 2 ^ 32)
unfolding u32_at
u32_takes octets n rest b e =
    let made : ℕ × List ℕ = (n, rest) in
    let f = bind_ok (field_at 4 octets) (λ field. Ok (from_be_bytes w32 field.0, field.1)) made e in
    let c = field_takes 4 octets f.0.0 f.0.1 f.1 in
    let p = pair_is (from_be_bytes w32 f.0.0) f.0.1 n rest f.2 in
    let bytes = bytes_front f.0.0 f.0.1 (subst (λ (v : List ℕ). IsBytes v) c.0 b) in
    (c.0 ∙ (λ i. sym (be_bytes_4 f.0.0 n c.1 bytes (sym p.0)) i ++ p.1 i), subst (λ (k : ℕ). k < 2 ^ 32) p.0 (u32_below f.0.0 c.1 bytes))

pub u32_again : (n : ℕ) (rest : List ℕ) → n < 2 ^ 32 → u32_at (to_be_bytes w32 n ++ rest) ≡ Ok (n, rest)
unfolding u32_at
u32_again n rest lt = rw (field_again (to_be_bytes w32 n) rest, from_be_bytes-to_be_bytes_4 n lt) refl

-- ---- records
-- n more than m
abbrev more : ℕ → ℕ → ℕ
more m zero = m
more m (suc n) = suc (more m n)

more_suc : (m n : ℕ) → more (suc m) n ≡ suc (more m n)
more_suc m zero = refl
more_suc m (suc n) = ap (λ k. suc k) (more_suc m n)

back : (m k : ℕ) (o : List ℕ) → IsBytes o → low_octets (more m (length o)) (spelled_on k o) ≡ low_octets m k ++ o
back m k [] b = sym (append-nil (low_octets m k))
back m k (x ∷ xs) b =
    let h : (k * 256 + x) / 256 ≡ k = omega (arith, b 0) in
    let l : (k * 256 + x) % 256 ≡ x = omega (arith, b 0) in
    ap (λ (n : ℕ). low_octets n (spelled_on (k * 256 + x) xs)) (sym (more_suc m (length xs)))
    ∙ back (suc m) (k * 256 + x) xs (λ i. b (suc i))
    ∙ (λ i. (low_octets m (h i) ++ l i ∷ []) ++ xs)
    ∙ append_assoc (low_octets m k) (x ∷ []) xs

-- 21 octets are those of the number that they spell
pub record_back : (octets : List ℕ) → length octets ≡ 21 → IsBytes octets → octets_of (spelled octets) ≡ octets
unfolding octets_of spelled
record_back octets n b = ap (λ (k : ℕ). low_octets (more 0 k) (spelled_on 0 octets)) (sym n) ∙ back 0 0 octets b

length-big_endian : (n k : ℕ) → length (low_octets n k) ≡ n
length-big_endian zero k = refl
length-big_endian (suc n) k = omega (arith, length-append (low_octets n (k / 256)) (k % 256 ∷ []), length-big_endian n (k / 256))

pub length-octets_of : (s : ℕ) → length (octets_of s) ≡ 21
unfolding octets_of
length-octets_of s = length-big_endian 21 s
