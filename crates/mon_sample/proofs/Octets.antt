-- A sample's octets, as the number's and as the fields'.
use Rattle.std.proofs.Common.{◌≡◌, ℕ, zero, suc, ◌^◌, ◌*◌, ◌/◌, ◌%◌, ◌<◌, ◌≤◌, ◌+◌, ◌-◌, List, [], ◌∷◌, ◌++◌, length, get_or, drop, refl, inl, inr, sym, ap, ◌∙◌, arith}
use Rattle.std.specs.List.{slice_range}
use Rattle.std.specs.Int.{w32, w64, to_be_bytes, from_be_bytes}
use Rattle.std.proofs.lemmas.Grind.{common_steps}
use Rattle.std.proofs.lemmas.List.{append-nil, append_assoc, get_or-take, get_or-drop, get_or_past, length-take}
use Rattle.std.proofs.lemmas.Bool.{cases_lt}
use Rattle.std.proofs.lemmas.List.Folds.{drop_split}
use Rattle.std.proofs.Math.Nat.{mul_assoc}
use Rattle.std.proofs.Math.Seq.{drop-cons}
use Rattle.std.proofs.Math.ListN.{drop_of_length-le}
use Rattle.std.proofs.lemmas.Nat.{be_bytes_4, be_bytes_8}
use Rattle.mon_sample.specs.Key.{key}
use Rattle.mon_sample.specs.Record.{low_octets, octets_of, spelled_on, spelled, layout, boots_at, time_at, discontinuity_at, tag_at, value_at}

abbrev IsBytes : List ℕ → Type 0
IsBytes octets = (i : ℕ) → get_or octets i 0 < 256

bytes_range : (octets : List ℕ) (a b : ℕ) → IsBytes octets → IsBytes (slice_range octets a b)
bytes_range octets a b bytes i =
    elim (cases_lt i (b - a)) [
      | inl h ↦ rw (get_or-take (b - a) (drop a octets) i 0 h, get_or-drop a octets i 0) (bytes (a + i))
      | inr h ↦
          let short : length (slice_range octets a b) ≤ b - a = omega (arith, length-take (b - a) (drop a octets)) in
          let none : get_or (slice_range octets a b) i 0 ≡ 0 = get_or_past (slice_range octets a b) i 0 (omega arith) in
          omega arith
    ]

length_range : (octets : List ℕ) (a b : ℕ) → a ≤ b → b ≤ length octets → length (slice_range octets a b) + a ≡ b
length_range octets a b h k = grind (arith, common_steps)

four : (octets : List ℕ) (a b : ℕ) → a + 4 ≡ b → b ≤ length octets → IsBytes octets → to_be_bytes w32 (from_be_bytes w32 (slice_range octets a b)) ≡ slice_range octets a b
four octets a b e h bytes = be_bytes_4 (slice_range octets a b) _ (omega (arith, length_range octets a b (omega arith) h)) (bytes_range octets a b bytes) refl

eight : (octets : List ℕ) (a b : ℕ) → a + 8 ≡ b → b ≤ length octets → IsBytes octets → to_be_bytes w64 (from_be_bytes w64 (slice_range octets a b)) ≡ slice_range octets a b
eight octets a b e h bytes = be_bytes_8 (slice_range octets a b) _ (omega (arith, length_range octets a b (omega arith) h)) (bytes_range octets a b bytes) refl

pub laid : (octets : List ℕ) (boots_ time_ discontinuity_ tag_ value_ : ℕ) → length octets ≡ 21 → IsBytes octets
    → boots_ ≡ boots_at octets → time_ ≡ time_at octets → discontinuity_ ≡ discontinuity_at octets → tag_ ≡ tag_at octets → value_ ≡ value_at octets → octets ≡ layout boots_ time_ discontinuity_ tag_ value_
unfolding layout boots_at time_at discontinuity_at tag_at value_at
laid octets boots_ time_ discontinuity_ tag_ value_ n bytes b t m k v =
    let boots : slice_range octets 0 4 ≡ to_be_bytes w32 boots_ = sym (ap (to_be_bytes w32) b ∙ four octets 0 4 refl (omega arith) bytes) in
    let time : slice_range octets 4 8 ≡ to_be_bytes w32 time_ = sym (ap (to_be_bytes w32) t ∙ four octets 4 8 refl (omega arith) bytes) in
    let discontinuity : slice_range octets 8 12 ≡ to_be_bytes w32 discontinuity_ = sym (ap (to_be_bytes w32) m ∙ four octets 8 12 refl (omega arith) bytes) in
    let value : slice_range octets 13 21 ≡ to_be_bytes w64 value_ = sym (ap (to_be_bytes w64) v ∙ eight octets 13 21 refl (omega arith) bytes) in
    let past : drop 21 octets ≡ [] = drop_of_length-le octets {i = 21} (omega arith) in
    let at_value : drop 13 octets ≡ to_be_bytes w64 value_ = drop_split octets 13 21 (omega arith) ∙ (λ i. value i ++ past i) ∙ append-nil (to_be_bytes w64 value_) in
    let at_tag : drop 12 octets ≡ tag_ ∷ to_be_bytes w64 value_ = drop-cons octets 12 0 (omega arith) ∙ (λ i. sym k i ∷ at_value i) in
    let at_discontinuity : drop 8 octets ≡ to_be_bytes w32 discontinuity_ ++ (tag_ ∷ to_be_bytes w64 value_) = drop_split octets 8 12 (omega arith) ∙ (λ i. discontinuity i ++ at_tag i) in
    let at_time : drop 4 octets ≡ to_be_bytes w32 time_ ++ (to_be_bytes w32 discontinuity_ ++ (tag_ ∷ to_be_bytes w64 value_)) = drop_split octets 4 8 (omega arith) ∙ (λ i. time i ++ at_discontinuity i) in
    drop_split octets 0 4 (omega arith) ∙ (λ i. boots i ++ at_time i)

-- ---- the number's octets
-- one more than the greatest number of n octets
abbrev pub weight : ℕ → ℕ
weight zero = 1
weight (suc n) = weight n * 256

-- n more than m
abbrev pub more : ℕ → ℕ → ℕ
more m zero = m
more m (suc n) = suc (more m n)

-- the octets of a number whose lowest n octets are b's
pub big_endian-append : (m n a b : ℕ) → b < weight n → low_octets (more m n) (a * weight n + b) ≡ low_octets m a ++ low_octets n b
big_endian-append m zero a b h = let same : a * 1 + b ≡ a = omega (arith, h) in ap (low_octets m) same ∙ sym (append-nil (low_octets m a))
big_endian-append m (suc n) a b h =
    let e : a * (weight n * 256) ≡ (a * weight n) * 256 = sym (mul_assoc a (weight n) 256) in
    let high : (a * (weight n * 256) + b) / 256 ≡ a * weight n + b / 256 = shifted (a * weight n) b (a * (weight n * 256)) e in
    let low : (a * (weight n * 256) + b) % 256 ≡ b % 256 = lowest (a * weight n) b (a * (weight n * 256)) e in
    (λ i. low_octets (more m n) (high i) ++ low i ∷ [])
    ∙ ap (λ l. l ++ b % 256 ∷ []) (big_endian-append m n a (b / 256) (omega (arith, h)))
    ∙ append_assoc (low_octets m a) (low_octets n (b / 256)) (b % 256 ∷ [])
  where
    shifted : (x b p : ℕ) → p ≡ x * 256 → (p + b) / 256 ≡ x + b / 256
    shifted x b p e = omega (arith, e)

    lowest : (x b p : ℕ) → p ≡ x * 256 → (p + b) % 256 ≡ b % 256
    lowest x b p e = omega (arith, e)

four_octets : (b : ℕ) → low_octets 4 b ≡ to_be_bytes w32 b
four_octets b =
    let d2 : b / 256 / 256 ≡ b / 65536 = omega arith in
    let d3 : b / 256 / 256 / 256 ≡ b / 16777216 = omega arith in
    λ i. d3 i % 256 ∷ d2 i % 256 ∷ b / 256 % 256 ∷ b % 256 ∷ []

eight_octets : (b : ℕ) → low_octets 8 b ≡ to_be_bytes w64 b
eight_octets b =
    let d2 : b / 256 / 256 ≡ b / 65536 = omega arith in
    let d3 : b / 256 / 256 / 256 ≡ b / 16777216 = ap (λ n. n / 256) d2 ∙ by16 b in
    let d4 : b / 256 / 256 / 256 / 256 ≡ b / 4294967296 = ap (λ n. n / 256) d3 ∙ by24 b in
    let d5 : b / 256 / 256 / 256 / 256 / 256 ≡ b / 1099511627776 = ap (λ n. n / 256) d4 ∙ by32 b in
    let d6 : b / 256 / 256 / 256 / 256 / 256 / 256 ≡ b / 281474976710656 = ap (λ n. n / 256) d5 ∙ by40 b in
    let d7 : b / 256 / 256 / 256 / 256 / 256 / 256 / 256 ≡ b / 72057594037927936 = ap (λ n. n / 256) d6 ∙ by48 b in
    λ i. d7 i % 256 ∷ d6 i % 256 ∷ d5 i % 256 ∷ d4 i % 256 ∷ d3 i % 256 ∷ d2 i % 256 ∷ b / 256 % 256 ∷ b % 256 ∷ []
  where
    by16 : (b : ℕ) → b / 65536 / 256 ≡ b / 16777216
    by16 b = omega arith

    by24 : (b : ℕ) → b / 16777216 / 256 ≡ b / 4294967296
    by24 b = omega arith

    by32 : (b : ℕ) → b / 4294967296 / 256 ≡ b / 1099511627776
    by32 b = omega arith

    by40 : (b : ℕ) → b / 1099511627776 / 256 ≡ b / 281474976710656
    by40 b = omega arith

    by48 : (b : ℕ) → b / 281474976710656 / 256 ≡ b / 72057594037927936
    by48 b = omega arith

one_octet : (g : ℕ) → g < 2 ^ 8 → low_octets 1 g ≡ g ∷ []
one_octet g h = let same : g % 256 ≡ g = omega (arith, h) in λ i. same i ∷ []

-- the fields one after another are the octets of the number
pub layout-key : (b t m g v : ℕ) → t < 2 ^ 32 → m < 2 ^ 32 → g < 2 ^ 8 → v < 2 ^ 64 → octets_of (key b t m g v) ≡ layout b t m g v
unfolding octets_of layout
layout-key b t m g v ht hm hg hv =
    big_endian-append 13 8 (((b * 2 ^ 32 + t) * 2 ^ 32 + m) * 2 ^ 8 + g) v hv
    ∙ (λ i. big_endian-append 12 1 ((b * 2 ^ 32 + t) * 2 ^ 32 + m) g hg i ++ eight_octets v i)
    ∙ (λ i. (big_endian-append 8 4 (b * 2 ^ 32 + t) m hm i ++ one_octet g hg i) ++ to_be_bytes w64 v)
    ∙ (λ i. ((big_endian-append 4 4 b t ht i ++ four_octets m i) ++ g ∷ []) ++ to_be_bytes w64 v)
    ∙ (λ i. (((four_octets b i ++ four_octets t i) ++ to_be_bytes w32 m) ++ g ∷ []) ++ to_be_bytes w64 v)

-- ---- the number that octets spell
spelled_rest : (n k : ℕ) (octets : List ℕ) → k < weight n → spelled_on 0 (low_octets n k ++ octets) ≡ spelled_on k octets
spelled_rest zero k octets h = let none : 0 ≡ k = omega (arith, h) in ap (λ n. spelled_on n octets) none
spelled_rest (suc n) k octets h =
    let again : k / 256 * 256 + k % 256 ≡ k = omega arith in
    ap (spelled_on 0) (append_assoc (low_octets n (k / 256)) (k % 256 ∷ []) octets)
    ∙ spelled_rest n (k / 256) (k % 256 ∷ octets) (omega (arith, h))
    ∙ ap (λ n. spelled_on n octets) again

pub spelled-octets_of : (k : ℕ) → k < 2 ^ 168 → spelled (octets_of k) ≡ k
unfolding octets_of spelled
spelled-octets_of k h = ap (spelled_on 0) (sym (append-nil (low_octets 21 k))) ∙ spelled_rest 21 k [] h

pub key_below : (b t m g v : ℕ) → b < 2 ^ 32 → t < 2 ^ 32 → m < 2 ^ 32 → g < 2 ^ 8 → v < 2 ^ 64 → key b t m g v < 2 ^ 168
key_below b t m g v hb ht hm hg hv = omega (arith, hb, ht, hm, hg, hv)

-- the fields that octets hold make the number that they spell
pub spelled_key : (octets : List ℕ) (b t m g v : ℕ) → octets ≡ layout b t m g v → b < 2 ^ 32 → t < 2 ^ 32 → m < 2 ^ 32 → g < 2 ^ 8 → v < 2 ^ 64 → spelled octets ≡ key b t m g v
spelled_key octets b t m g v is hb ht hm hg hv =
    ap spelled (is ∙ sym (layout-key b t m g v ht hm hg hv)) ∙ spelled-octets_of (key b t m g v) (key_below b t m g v hb ht hm hg hv)
