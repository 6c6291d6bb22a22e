-- No spelling of a value is shorter than what is written.
use Rattle.std.proofs.Common.{◌≡◌, ℕ, suc, ◌-◌, ◌*◌, ◌^◌, ◌<◌, ◌≤◌, ℤ, pos, negsuc, List, [], ◌∷◌, ◌++◌, length, ap, subst, arith, inl, inr}
use Rattle.std.specs.Prelude.{All}
use Rattle.std.specs.List.{flat_map}
use Rattle.std.specs.Int.{w128, cast_unsigned}
use Rattle.std.proofs.lemmas.Bool.{cases_lt, lt-ltb, le-ltb}
use Rattle.std.proofs.lemmas.List.{length-append, get_or_past}
use Rattle.std.proofs.lemmas.Nat.{mul-add-lt, mul-le}
use Rattle.std.proofs.Math.Nat.{pow-suc, pow-le-pow_right}
use Rattle.mon_ber.specs.declared.value.Value.{Value}
use Rattle.mon_ber.specs.declared.value.Value.TheVariants.{Integer, Octets, Null, Name, IpAddress, Counter32, Gauge32, TimeTicks, Opaque, Counter64, NoSuchObject, NoSuchInstance, EndOfMibView}
use Rattle.mon_ber.specs.Numbers.{big_endian, IsNumber, IsBase128, AreSubidentifiers, encoded}
use Rattle.mon_ber.specs.Grammar.{octet_of, tag_of, IsContents, IsLength, Spells}
use Rattle.mon_ber.specs.Writing.{octets_for, width, number_octets, base128, contents_of, length_octets, written, size_for}
use Rattle.mon_ber.proofs.Numbers.{IsBytes, big_endian_below, power_up_to}
use Rattle.mon_ber.proofs.Values.{IsBytes-middle, IsBytes-after}
use Rattle.mon_ber.proofs.Written.{length-high_first, written_size}

pub all_bytes : (bytes : List ℕ) → All (λ octet. octet < 256) bytes → IsBytes bytes
all_bytes bytes fits i =
    elim (cases_lt i (length bytes)) [
      | inl lt ↦ fits i 0 lt
      | inr le ↦ rw (get_or_past bytes i 0 le) (omega arith)
    ]

-- ---- a number between two powers

between_256 : (c j k n : ℕ) → 0 < c → c * 256 ^ j ≤ n → n < c * 256 ^ k → j < k
between_256 c j k n some low high =
    elim (cases_lt j k) [
      | inl lt ↦ lt
      | inr le ↦ (let grows : c * 256 ^ k ≤ c * 256 ^ j = mul-le c (256 ^ k) c (256 ^ j) (omega arith) (power_up_to k j le) in absurd (omega (arith, low, high, grows)))
    ]

between_128 : (j k n : ℕ) → 128 ^ j ≤ n → n < 128 ^ k → j < k
between_128 j k n low high =
    elim (cases_lt j k) [
      | inl lt ↦ lt
      | inr le ↦ (
          let some : 0 < 128 = omega arith in
          let grows : 128 ^ k ≤ 128 ^ j = pow-le-pow_right some le in
          absurd (omega (arith, low, high, grows)))
    ]

-- ---- lengths

length_least : (len : List ℕ) (m n : ℕ) → IsBytes len → IsLength len n → m ≤ n → length (length_octets m) ≤ length len
unfolding length_octets
length_least [] m n fits is le = absurd is
length_least (b ∷ bs) m n fits (inl h) le = rw (lt-ltb m 128 (omega (arith, h.0, h.2, le))) (omega arith)
length_least (b ∷ bs) m n fits (inr h) le =
    let k = length bs in
    let below = big_endian_below bs (λ i. fits (suc i)) in
    let high : m < 1 * 256 ^ k = omega (arith, below, h.3, le) in
    elim (cases_lt m 128) [
      | inl lt ↦ rw (lt-ltb m 128 lt) (omega arith)
      | inr a ↦ rw (le-ltb m 128 a) (elim (cases_lt m (2 ^ 8)) [
        | inl lt ↦ rw (lt-ltb m (2 ^ 8) lt) (omega (arith, h.1))
        | inr b1 ↦ rw (le-ltb m (2 ^ 8) b1) (elim (cases_lt m (2 ^ 16)) [
          | inl lt ↦ rw (lt-ltb m (2 ^ 16) lt) (omega (arith, between_256 1 1 k m (omega arith) (omega (arith, b1)) high))
          | inr b2 ↦ rw (le-ltb m (2 ^ 16) b2) (elim (cases_lt m (2 ^ 24)) [
            | inl lt ↦ rw (lt-ltb m (2 ^ 24) lt) (omega (arith, between_256 1 2 k m (omega arith) (omega (arith, b2)) high))
            | inr b3 ↦ rw (le-ltb m (2 ^ 24) b3) (omega (arith, between_256 1 3 k m (omega arith) (omega (arith, b3)) high))
          ])
        ])
      ])
    ]

-- ---- numbers

octets_for_least : (n k : ℕ) → n < 128 * 256 ^ k → octets_for n ≤ suc k
octets_for_least n k high =
    let reach = λ (j : ℕ) (low : 128 * 256 ^ j ≤ n). between_256 128 j k n (omega arith) low high in
    elim (cases_lt n (2 ^ 7)) [
      | inl lt ↦ rw (lt-ltb n (2 ^ 7) lt) (omega arith)
      | inr b1 ↦ rw (le-ltb n (2 ^ 7) b1) (
          elim (cases_lt n (2 ^ 15)) [
            | inl lt ↦ rw (lt-ltb n (2 ^ 15) lt) (omega (arith, reach 0 (omega (arith, b1))))
            | inr b2 ↦ rw (le-ltb n (2 ^ 15) b2) (
                elim (cases_lt n (2 ^ 23)) [
                  | inl lt ↦ rw (lt-ltb n (2 ^ 23) lt) (omega (arith, reach 1 (omega (arith, b2))))
                  | inr b3 ↦ rw (le-ltb n (2 ^ 23) b3) (
                      elim (cases_lt n (2 ^ 31)) [
                        | inl lt ↦ rw (lt-ltb n (2 ^ 31) lt) (omega (arith, reach 2 (omega (arith, b3))))
                        | inr b4 ↦ rw (le-ltb n (2 ^ 31) b4) (
                            elim (cases_lt n (2 ^ 39)) [
                              | inl lt ↦ rw (lt-ltb n (2 ^ 39) lt) (omega (arith, reach 3 (omega (arith, b4))))
                              | inr b5 ↦ rw (le-ltb n (2 ^ 39) b5) (
                                  elim (cases_lt n (2 ^ 47)) [
                                    | inl lt ↦ rw (lt-ltb n (2 ^ 47) lt) (omega (arith, reach 4 (omega (arith, b5))))
                                    | inr b6 ↦ rw (le-ltb n (2 ^ 47) b6) (
                                        elim (cases_lt n (2 ^ 55)) [
                                          | inl lt ↦ rw (lt-ltb n (2 ^ 55) lt) (omega (arith, reach 5 (omega (arith, b6))))
                                          | inr b7 ↦ rw (le-ltb n (2 ^ 55) b7) (
                                              elim (cases_lt n (2 ^ 63)) [
                                                | inl lt ↦ rw (lt-ltb n (2 ^ 63) lt) (omega (arith, reach 6 (omega (arith, b7))))
                                                | inr b8 ↦ rw (le-ltb n (2 ^ 63) b8) (omega (arith, reach 7 (omega (arith, b8))))
                                              ])
                                        ])
                                  ])
                            ])
                      ])
                ])
          ])
    ]

width_least : (bytes : List ℕ) (z : ℤ) → IsBytes bytes → IsNumber bytes z → width z ≤ length bytes
width_least [] z fits is = absurd is.value
width_least (b ∷ bs) (pos n) fits is =
    let value = is.value in
    let below = big_endian_below bs (λ i. fits (suc i)) in
    let top = mul-add-lt b (256 ^ length bs) (big_endian bs) 128 value.0 below in
    octets_for_least n (length bs) (omega (arith, top, value.1))
width_least (b ∷ bs) (negsuc n) fits is =
    let value = is.value in
    let wider : 256 ^ length (b ∷ bs) ≡ 256 ^ length bs * 256 = pow-suc 256 (length bs) in
    let grows : 128 * 256 ^ length bs ≤ b * 256 ^ length bs = mul-le 128 (256 ^ length bs) b (256 ^ length bs) value.0 (omega arith) in
    octets_for_least n (length bs) (omega (arith, value.1, wider, grows))

number_least : (bytes : List ℕ) (z : ℤ) → IsBytes bytes → IsNumber bytes z → length (number_octets z) ≤ length bytes
unfolding number_octets
number_least bytes z fits is = omega (arith, length-high_first (width z) (cast_unsigned w128 z), width_least bytes z fits is)

-- ---- identifiers

base128_below : (bytes : List ℕ) (n : ℕ) → IsBytes bytes → IsBase128 bytes n → (n < 128 ^ length bytes) × (0 < length bytes)
base128_below [] n fits is = absurd is
base128_below (b ∷ []) n fits is = (omega (arith, is.0, is.1), omega arith)
base128_below (b ∷ c ∷ bs) n fits is =
    let low = base128_below (c ∷ bs) is.1 (λ i. fits (suc i)) is.3 in
    let octet : b < 256 = fits 0 in
    let top = mul-add-lt (b - 128) (128 ^ length (c ∷ bs)) is.1 128 (omega (arith, octet, is.0)) low.0 in
    let wider : 128 ^ length (b ∷ c ∷ bs) ≡ 128 ^ length (c ∷ bs) * 128 = pow-suc 128 (length (c ∷ bs)) in
    (omega (arith, top, wider, is.2), omega arith)

base128_least : (n k : ℕ) → 0 < k → n < 128 ^ k → length (base128 n) ≤ k
unfolding base128
base128_least n k some high =
    elim (cases_lt n (2 ^ 7)) [
      | inl lt ↦ rw (lt-ltb n (2 ^ 28) (omega arith), lt-ltb n (2 ^ 21) (omega arith), lt-ltb n (2 ^ 14) (omega arith), lt-ltb n (2 ^ 7) lt) (omega arith)
      | inr a ↦ elim (cases_lt n (2 ^ 14)) [
        | inl lt ↦ rw (lt-ltb n (2 ^ 28) (omega arith), lt-ltb n (2 ^ 21) (omega arith), lt-ltb n (2 ^ 14) lt, le-ltb n (2 ^ 7) a) (omega (arith, between_128 1 k n (omega (arith, a)) high))
        | inr b ↦ elim (cases_lt n (2 ^ 21)) [
          | inl lt ↦ rw (lt-ltb n (2 ^ 28) (omega arith), lt-ltb n (2 ^ 21) lt, le-ltb n (2 ^ 14) b, le-ltb n (2 ^ 7) a) (omega (arith, between_128 2 k n (omega (arith, b)) high))
          | inr c ↦ elim (cases_lt n (2 ^ 28)) [
            | inl lt ↦ rw (lt-ltb n (2 ^ 28) lt, le-ltb n (2 ^ 21) c, le-ltb n (2 ^ 14) b, le-ltb n (2 ^ 7) a) (omega (arith, between_128 3 k n (omega (arith, c)) high))
            | inr d ↦ rw (le-ltb n (2 ^ 28) d, le-ltb n (2 ^ 21) c, le-ltb n (2 ^ 14) b, le-ltb n (2 ^ 7) a) (omega (arith, between_128 4 k n (omega (arith, d)) high))
          ]
        ]
      ]
    ]

subidentifiers_least : (bytes ns : List ℕ) → IsBytes bytes → AreSubidentifiers bytes ns → length (flat_map base128 ns) ≤ length bytes
subidentifiers_least bytes [] fits is = omega arith
subidentifiers_least bytes (n ∷ ns) fits is =
    let first = is.0 in
    let others = is.1 in
    let here : IsBytes (first ++ others) = subst (λ (x : List ℕ). IsBytes x) is.2 fits in
    let one = base128_below first n (IsBytes-middle [] first others here) is.3.value in
    omega (
      arith,
      base128_least n (length first) one.1 one.0,
      subidentifiers_least others ns (IsBytes-after bytes first others fits is.2) is.4,
      length-append first others,
      length-append (base128 n) (flat_map base128 ns),
      ap (λ (x : List ℕ). length x) is.2,
    )

-- ---- values

contents_least : (v : Value) (contents : List ℕ) → IsBytes contents → IsContents contents v → length (contents_of v) ≤ length contents
contents_least (Integer z) contents fits is = number_least contents z fits is.0
contents_least (Octets o) contents fits is = omega (arith, ap (λ (x : List ℕ). length x) is)
contents_least Null contents fits is = omega arith
contents_least (Name o) contents fits is = subidentifiers_least contents (encoded o) fits is.spelled
contents_least (IpAddress a) contents fits is = omega (arith, ap (λ (x : List ℕ). length x) is.0)
contents_least (Counter32 n) contents fits is = number_least contents (pos n) fits is.0
contents_least (Gauge32 n) contents fits is = number_least contents (pos n) fits is.0
contents_least (TimeTicks n) contents fits is = number_least contents (pos n) fits is.0
contents_least (Opaque o) contents fits is = omega (arith, ap (λ (x : List ℕ). length x) is)
contents_least (Counter64 n) contents fits is = number_least contents (pos n) fits is.0
contents_least NoSuchObject contents fits is = omega arith
contents_least NoSuchInstance contents fits is = omega arith
contents_least EndOfMibView contents fits is = omega arith

pub shortest : (text : List ℕ) (v : Value) → All (λ octet. octet < 256) text → Spells text v → length (written v) ≤ length text
unfolding size_for
shortest text v octets is =
    let fits = all_bytes text octets in
    let tag = octet_of (tag_of v) in
    let len = is.element.len in
    let contents = is.contents in
    let whole = is.element.whole in
    let around : IsBytes (tag ∷ len ++ contents) = subst (λ (x : List ℕ). IsBytes x) whole fits in
    let inside : IsBytes contents = IsBytes-after text (tag ∷ len) contents fits whole in
    let least = contents_least v contents inside is.value in
    omega (
      arith,
      written_size v,
      least,
      length_least len (length (contents_of v)) (length contents) (IsBytes-middle (tag ∷ []) len contents around) is.element.spelled least,
      length-append len contents,
      ap (λ (x : List ℕ). length x) whole,
    )
