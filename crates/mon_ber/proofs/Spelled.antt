-- What is written is spelled so.
use Rattle.std.proofs.Common.{ℕ, suc, ◌+◌, ◌-◌, ◌*◌, ◌/◌, ◌%◌, ◌^◌, ◌<◌, ◌≤◌, ℤ, pos, negsuc, List, [], ◌∷◌, length, refl, arith, inl, inr}
use Rattle.std.specs.Prelude.{FitsSigned}
use Rattle.std.specs.Int.{w32, bytes_high_first}
use Rattle.std.specs.List.{flat_map, AllByRecursion}
use Rattle.std.proofs.lemmas.Bool.{cases_lt, lt-ltb, le-ltb}
use Rattle.mon_ber.specs.declared.value.Value.{Value}
use Rattle.mon_ber.specs.declared.value.Value.TheVariants.{Integer, Octets, Null, Name, IpAddress, Counter32, Gauge32, TimeTicks, Opaque, Counter64, NoSuchObject, NoSuchInstance, EndOfMibView}
use Rattle.mon_oid.specs.Oid.{IsOid}
use Rattle.mon_ber.specs.Numbers.{IsNumber, IsSubidentifier, AreSubidentifiers, IsName}
use Rattle.mon_ber.specs.Grammar.{octet_of, tag_of, IsContents, IsLength, IsElement, Spells}
use Rattle.mon_ber.specs.Writing.{octets_for, number_octets, base128, name_octets, contents_of, length_octets, element, written, HasLength, IsValid}
use Rattle.mon_ber.proofs.Names.{apart}

-- ---- lengths

pub length_written : (n : ℕ) → n < 2 ^ 32 → IsLength (length_octets n) n
unfolding length_octets
length_written n fits =
    elim (cases_lt n 128) [
      | inl lt ↦ rw (lt-ltb n 128 lt) (inl (lt, refl, refl))
      | inr high ↦ rw (le-ltb n 128 high) (elim (cases_lt n (2 ^ 8)) [
        | inl lt ↦ rw (lt-ltb n (2 ^ 8) lt) (inr (refl, omega arith, omega arith, omega arith))
        | inr b ↦ rw (le-ltb n (2 ^ 8) b) (elim (cases_lt n (2 ^ 16)) [
          | inl lt ↦ rw (lt-ltb n (2 ^ 16) lt) (inr (refl, omega arith, omega arith, omega arith))
          | inr c ↦ rw (le-ltb n (2 ^ 16) c) (elim (cases_lt n (2 ^ 24)) [
            | inl lt ↦ rw (lt-ltb n (2 ^ 24) lt) (inr (refl, omega arith, omega arith, omega arith))
            | inr d ↦ rw (le-ltb n (2 ^ 24) d) (inr (refl, omega arith, omega arith, omega arith))
          ])
        ])
      ])
    ]

-- ---- numbers

pos_1 : (n : ℕ) → n < 2 ^ 7 → IsNumber (bytes_high_first 1 n) (pos n)
pos_1 n lt = record { value = (omega arith, omega arith); short = omega arith }

neg_1 : (n : ℕ) → n < 2 ^ 7 → IsNumber (bytes_high_first 1 (2 ^ 128 - suc n)) (negsuc n)
neg_1 n lt = record { value = (omega arith, omega arith); short = omega arith }

pos_2 : (n : ℕ) → n < 2 ^ 15 → IsNumber (bytes_high_first 2 n) (pos n)
pos_2 n lt = record { value = (omega arith, omega arith); short = omega arith }

neg_2 : (n : ℕ) → n < 2 ^ 15 → IsNumber (bytes_high_first 2 (2 ^ 128 - suc n)) (negsuc n)
neg_2 n lt = record { value = (omega arith, omega arith); short = omega arith }

pos_3 : (n : ℕ) → n < 2 ^ 23 → IsNumber (bytes_high_first 3 n) (pos n)
pos_3 n lt = record { value = (omega arith, omega arith); short = omega arith }

neg_3 : (n : ℕ) → n < 2 ^ 23 → IsNumber (bytes_high_first 3 (2 ^ 128 - suc n)) (negsuc n)
neg_3 n lt = record { value = (omega arith, omega arith); short = omega arith }

pos_4 : (n : ℕ) → n < 2 ^ 31 → IsNumber (bytes_high_first 4 n) (pos n)
pos_4 n lt = record { value = (omega arith, omega arith); short = omega arith }

neg_4 : (n : ℕ) → n < 2 ^ 31 → IsNumber (bytes_high_first 4 (2 ^ 128 - suc n)) (negsuc n)
neg_4 n lt = record { value = (omega arith, omega arith); short = omega arith }

pos_5 : (n : ℕ) → n < 2 ^ 39 → IsNumber (bytes_high_first 5 n) (pos n)
pos_5 n lt = record { value = (omega arith, omega arith); short = omega arith }

neg_5 : (n : ℕ) → n < 2 ^ 39 → IsNumber (bytes_high_first 5 (2 ^ 128 - suc n)) (negsuc n)
neg_5 n lt = record { value = (omega arith, omega arith); short = omega arith }

pos_6 : (n : ℕ) → n < 2 ^ 47 → IsNumber (bytes_high_first 6 n) (pos n)
pos_6 n lt = record { value = (omega arith, omega arith); short = omega arith }

neg_6 : (n : ℕ) → n < 2 ^ 47 → IsNumber (bytes_high_first 6 (2 ^ 128 - suc n)) (negsuc n)
neg_6 n lt = record { value = (omega arith, omega arith); short = omega arith }

pos_7 : (n : ℕ) → n < 2 ^ 55 → IsNumber (bytes_high_first 7 n) (pos n)
pos_7 n lt = record { value = (omega arith, omega arith); short = omega arith }

neg_7 : (n : ℕ) → n < 2 ^ 55 → IsNumber (bytes_high_first 7 (2 ^ 128 - suc n)) (negsuc n)
neg_7 n lt = record { value = (omega arith, omega arith); short = omega arith }

pos_8 : (n : ℕ) → n < 2 ^ 63 → IsNumber (bytes_high_first 8 n) (pos n)
pos_8 n lt = record { value = (omega arith, omega arith); short = omega arith }

neg_8 : (n : ℕ) → n < 2 ^ 63 → IsNumber (bytes_high_first 8 (2 ^ 128 - suc n)) (negsuc n)
neg_8 n lt = record { value = (omega arith, omega arith); short = omega arith }

pos_9 : (n : ℕ) → n < 2 ^ 71 → IsNumber (bytes_high_first 9 n) (pos n)
pos_9 n lt = record { value = (omega arith, omega arith); short = omega arith }

neg_9 : (n : ℕ) → n < 2 ^ 71 → IsNumber (bytes_high_first 9 (2 ^ 128 - suc n)) (negsuc n)
neg_9 n lt = record { value = (omega arith, omega arith); short = omega arith }

pos_written : (n : ℕ) → n < 2 ^ 64 → IsNumber (bytes_high_first (octets_for n) n) (pos n)
pos_written n fits =
    elim (cases_lt n (2 ^ 7)) [
      | inl lt ↦ rw (lt-ltb n (2 ^ 7) lt) (pos_1 n lt)
      | inr b1 ↦ rw (le-ltb n (2 ^ 7) b1) (
          elim (cases_lt n (2 ^ 15)) [
            | inl lt ↦ rw (lt-ltb n (2 ^ 15) lt) (pos_2 n lt)
            | inr b2 ↦ rw (le-ltb n (2 ^ 15) b2) (
                elim (cases_lt n (2 ^ 23)) [
                  | inl lt ↦ rw (lt-ltb n (2 ^ 23) lt) (pos_3 n lt)
                  | inr b3 ↦ rw (le-ltb n (2 ^ 23) b3) (
                      elim (cases_lt n (2 ^ 31)) [
                        | inl lt ↦ rw (lt-ltb n (2 ^ 31) lt) (pos_4 n lt)
                        | inr b4 ↦ rw (le-ltb n (2 ^ 31) b4) (
                            elim (cases_lt n (2 ^ 39)) [
                              | inl lt ↦ rw (lt-ltb n (2 ^ 39) lt) (pos_5 n lt)
                              | inr b5 ↦ rw (le-ltb n (2 ^ 39) b5) (
                                  elim (cases_lt n (2 ^ 47)) [
                                    | inl lt ↦ rw (lt-ltb n (2 ^ 47) lt) (pos_6 n lt)
                                    | inr b6 ↦ rw (le-ltb n (2 ^ 47) b6) (
                                        elim (cases_lt n (2 ^ 55)) [
                                          | inl lt ↦ rw (lt-ltb n (2 ^ 55) lt) (pos_7 n lt)
                                          | inr b7 ↦ rw (le-ltb n (2 ^ 55) b7) (
                                              elim (cases_lt n (2 ^ 63)) [
                                                | inl lt ↦ rw (lt-ltb n (2 ^ 63) lt) (pos_8 n lt)
                                                | inr b8 ↦ rw (le-ltb n (2 ^ 63) b8) (
                                                    pos_9 n (omega (arith, fits)))
                                              ])
                                        ])
                                  ])
                            ])
                      ])
                ])
          ])
    ]

neg_written : (n : ℕ) → n < 2 ^ 64 → IsNumber (bytes_high_first (octets_for n) (2 ^ 128 - suc n)) (negsuc n)
neg_written n fits =
    elim (cases_lt n (2 ^ 7)) [
      | inl lt ↦ rw (lt-ltb n (2 ^ 7) lt) (neg_1 n lt)
      | inr b1 ↦ rw (le-ltb n (2 ^ 7) b1) (
          elim (cases_lt n (2 ^ 15)) [
            | inl lt ↦ rw (lt-ltb n (2 ^ 15) lt) (neg_2 n lt)
            | inr b2 ↦ rw (le-ltb n (2 ^ 15) b2) (
                elim (cases_lt n (2 ^ 23)) [
                  | inl lt ↦ rw (lt-ltb n (2 ^ 23) lt) (neg_3 n lt)
                  | inr b3 ↦ rw (le-ltb n (2 ^ 23) b3) (
                      elim (cases_lt n (2 ^ 31)) [
                        | inl lt ↦ rw (lt-ltb n (2 ^ 31) lt) (neg_4 n lt)
                        | inr b4 ↦ rw (le-ltb n (2 ^ 31) b4) (
                            elim (cases_lt n (2 ^ 39)) [
                              | inl lt ↦ rw (lt-ltb n (2 ^ 39) lt) (neg_5 n lt)
                              | inr b5 ↦ rw (le-ltb n (2 ^ 39) b5) (
                                  elim (cases_lt n (2 ^ 47)) [
                                    | inl lt ↦ rw (lt-ltb n (2 ^ 47) lt) (neg_6 n lt)
                                    | inr b6 ↦ rw (le-ltb n (2 ^ 47) b6) (
                                        elim (cases_lt n (2 ^ 55)) [
                                          | inl lt ↦ rw (lt-ltb n (2 ^ 55) lt) (neg_7 n lt)
                                          | inr b7 ↦ rw (le-ltb n (2 ^ 55) b7) (
                                              elim (cases_lt n (2 ^ 63)) [
                                                | inl lt ↦ rw (lt-ltb n (2 ^ 63) lt) (neg_8 n lt)
                                                | inr b8 ↦ rw (le-ltb n (2 ^ 63) b8) (
                                                    neg_9 n (omega (arith, fits)))
                                              ])
                                        ])
                                  ])
                            ])
                      ])
                ])
          ])
    ]

pub number_written : (z : ℤ) → FitsSigned w32 z → IsNumber (number_octets z) z
unfolding number_octets
number_written (pos n) fits = pos_written n (omega (arith, fits.sfits))
number_written (negsuc n) fits = neg_written n (omega (arith, fits.sfits))

pub unsigned_written : (n : ℕ) → n < 2 ^ 64 → IsNumber (number_octets (pos n)) (pos n)
unfolding number_octets
unsigned_written n fits = pos_written n fits

-- ---- identifiers

base_1 : (n : ℕ) → n < 2 ^ 7 → IsSubidentifier (n % 128 ∷ []) n
base_1 n high = record { value = (omega arith, omega arith); begins = omega arith }

base_2 : (n : ℕ) → 2 ^ 7 ≤ n → n < 2 ^ 14 → IsSubidentifier ((128 + n / 2 ^ 7 % 128) ∷ n % 128 ∷ []) n
base_2 n low high = record { value = (omega arith, n % 2 ^ 7, omega arith, (omega arith, omega arith)); begins = omega arith }

base_3 : (n : ℕ) → 2 ^ 14 ≤ n → n < 2 ^ 21 → IsSubidentifier ((128 + n / 2 ^ 14 % 128) ∷ (128 + n / 2 ^ 7 % 128) ∷ n % 128 ∷ []) n
base_3 n low high = record { value = (omega arith, n % 2 ^ 14, omega arith, (omega arith, n % 2 ^ 7, omega arith, (omega arith, omega arith))); begins = omega arith }

base_4 : (n : ℕ) → 2 ^ 21 ≤ n → n < 2 ^ 28 → IsSubidentifier ((128 + n / 2 ^ 21 % 128) ∷ (128 + n / 2 ^ 14 % 128) ∷ (128 + n / 2 ^ 7 % 128) ∷ n % 128 ∷ []) n
base_4 n low high = record { value = (omega arith, n % 2 ^ 21, omega arith, (omega arith, n % 2 ^ 14, omega arith, (omega arith, n % 2 ^ 7, omega arith, (omega arith, omega arith)))); begins = omega arith }

base_5 : (n : ℕ) → 2 ^ 28 ≤ n → n < 2 ^ 35 → IsSubidentifier ((128 + n / 2 ^ 28 % 128) ∷ (128 + n / 2 ^ 21 % 128) ∷ (128 + n / 2 ^ 14 % 128) ∷ (128 + n / 2 ^ 7 % 128) ∷ n % 128 ∷ []) n
base_5 n low high = record { value = (omega arith, n % 2 ^ 28, omega arith, (omega arith, n % 2 ^ 21, omega arith, (omega arith, n % 2 ^ 14, omega arith, (omega arith, n % 2 ^ 7, omega arith, (omega arith, omega arith))))); begins = omega arith }

pub base_written : (n : ℕ) → n < 2 ^ 35 → IsSubidentifier (base128 n) n
unfolding base128
base_written n fits =
    elim (cases_lt n (2 ^ 7)) [
      | inl lt ↦ rw (lt-ltb n (2 ^ 28) (omega arith), lt-ltb n (2 ^ 21) (omega arith), lt-ltb n (2 ^ 14) (omega arith), lt-ltb n (2 ^ 7) lt) (base_1 n lt)
      | inr a ↦ elim (cases_lt n (2 ^ 14)) [
        | inl lt ↦ rw (lt-ltb n (2 ^ 28) (omega arith), lt-ltb n (2 ^ 21) (omega arith), lt-ltb n (2 ^ 14) lt, le-ltb n (2 ^ 7) a) (base_2 n a lt)
        | inr b ↦ elim (cases_lt n (2 ^ 21)) [
          | inl lt ↦ rw (lt-ltb n (2 ^ 28) (omega arith), lt-ltb n (2 ^ 21) lt, le-ltb n (2 ^ 14) b, le-ltb n (2 ^ 7) a) (base_3 n b lt)
          | inr c ↦ elim (cases_lt n (2 ^ 28)) [
            | inl lt ↦ rw (lt-ltb n (2 ^ 28) lt, le-ltb n (2 ^ 21) c, le-ltb n (2 ^ 14) b, le-ltb n (2 ^ 7) a) (base_4 n c lt)
            | inr d ↦ rw (le-ltb n (2 ^ 28) d, le-ltb n (2 ^ 21) c, le-ltb n (2 ^ 14) b, le-ltb n (2 ^ 7) a) (base_5 n d fits)
          ]
        ]
      ]
    ]

all_written : (ns : List ℕ) → AllByRecursion (λ n. n < 2 ^ 35) ns → AreSubidentifiers (flat_map base128 ns) ns
all_written [] fits = refl
all_written (n ∷ ns) fits = (base128 n, flat_map base128 ns, refl, base_written n fits.0, all_written ns fits.1)

wider : (ns : List ℕ) → AllByRecursion (λ n. n < 2 ^ 32) ns → AllByRecursion (λ n. n < 2 ^ 35) ns
wider [] fits = tt
wider (n ∷ ns) fits = (omega (arith, fits.0), wider ns fits.1)

pub name_written : (parts : List ℕ) → IsOid parts → IsName (name_octets parts) parts
name_written [] is = absurd (omega (arith, is.long))
name_written (a ∷ []) is = absurd (omega (arith, is.long))
name_written (a ∷ b ∷ rest) is =
    let p = apart a b rest is in
    record { valid = is; spelled = all_written ((40 * a + b) ∷ rest) (omega (arith, p.first, p.fits), wider rest p.others_fit) }

-- ---- values

contents_written : (v : Value) → IsValid v → IsContents (contents_of v) v
contents_written (Integer z) is = (number_written z is, is)
contents_written (Octets o) is = refl
contents_written Null is = refl
contents_written (Name o) is = name_written o is
contents_written (IpAddress a) is = (refl, is)
contents_written (Counter32 n) is = (unsigned_written n (omega (arith, is)), is)
contents_written (Gauge32 n) is = (unsigned_written n (omega (arith, is)), is)
contents_written (TimeTicks n) is = (unsigned_written n (omega (arith, is)), is)
contents_written (Opaque o) is = refl
contents_written (Counter64 n) is = (unsigned_written n is, is)
contents_written NoSuchObject is = refl
contents_written NoSuchInstance is = refl
contents_written EndOfMibView is = refl

pub element_written : (tag : ℕ) (contents : List ℕ) → length contents < 2 ^ 32 → IsElement tag contents (element tag contents)
unfolding element
element_written tag contents fits = record { len = length_octets (length contents); spelled = length_written (length contents) fits; whole = refl }

pub value_written : (v : Value) → IsValid v → HasLength v → Spells (written v) v
unfolding written
value_written v is fits = record { contents = contents_of v; element = element_written (octet_of (tag_of v)) (contents_of v) fits; value = contents_written v is }
