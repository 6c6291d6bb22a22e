-- Numbers in decimal.
use Rattle.std.proofs.Common.{◌≡◌, ℕ, ◌<◌, ◌^◌, true, false, List, Option, Some, None, refl, sym, ap, ◌∙◌, arith}
use Rattle.std.specs.Prelude.{decimal, nat_lt, ◌&&◌, if◌then◌else◌}
use Rattle.std.specs.Str.{bytes_eq}
use Rattle.std.specs.Str.Parse.{digits_value}
use Rattle.std.proofs.lemmas.Bool.{and_parts, ltb-true}
use Rattle.std.proofs.lemmas.Bool.Decides.{nat_tests}
use Rattle.std.proofs.lemmas.Fmt.{decimal_is_IsNumeral}
use Rattle.std.proofs.lemmas.Slice.Eq.{bytes_eq-Decides}
use Rattle.mon_rehearsal.specs.Fields.{number_in}

small_true : (n : ℕ) → n < 2 ^ 32 → nat_lt n 4294967296 ≡ true
small_true n h = grind (arith, nat_tests)

of_decimal : (n : ℕ) → n < 2 ^ 32 → number_in (decimal n) ≡ Some n
unfolding number_in
of_decimal n h =
    let value : digits_value 10 (decimal n) ≡ n = (decimal_is_IsNumeral n (omega arith)).1 in
    let test : nat_lt n 4294967296 ≡ true = small_true n h in
    let same : bytes_eq (decimal n) (decimal n) ≡ true = (bytes_eq-Decides (decimal n) (decimal n)).1 refl in
    rw (value, test, same)

-- a number in decimal is read
pub number_read : (text : List ℕ) (n : ℕ) → n < 2 ^ 32 → text ≡ decimal n → number_in text ≡ Some n
number_read text n h is = ap number_in is ∙ of_decimal n h

-- what is no number in decimal is none
pub number_none : (text : List ℕ) → ((n : ℕ) → n < 2 ^ 32 → text ≡ decimal n → ⊥) → number_in text ≡ None
unfolding number_in
number_none text other =
    let v = digits_value 10 text in
    elim (nat_lt v 4294967296 && bytes_eq (decimal v) text) as (λ t. (nat_lt v 4294967296 && bytes_eq (decimal v) text) ≡ t → (let r : Option ℕ = (if t then Some v else None) in r ≡ None)) [
      | true ↦ λ e.
          let parts = and_parts (nat_lt v 4294967296) (bytes_eq (decimal v) text) e in
          let low : v < 4294967296 = ltb-true _ _ parts.0 in
          absurd (other v (omega arith) (sym ((bytes_eq-Decides (decimal v) text).0 parts.1)))
      | false ↦ λ e. refl
    ] refl

-- what is read is a number in decimal
pub number_spelled : (text : List ℕ) (n : ℕ) → number_in text ≡ Some n → (n < 2 ^ 32) × (text ≡ decimal n)
unfolding number_in
number_spelled text n =
    let v = digits_value 10 text in
    elim (nat_lt v 4294967296 && bytes_eq (decimal v) text) as (λ t. (nat_lt v 4294967296 && bytes_eq (decimal v) text) ≡ t → (let r : Option ℕ = (if t then Some v else None) in r ≡ Some n) → (n < 2 ^ 32) × (text ≡ decimal n)) [
      | true ↦ λ e g.
          let parts = and_parts (nat_lt v 4294967296) (bytes_eq (decimal v) text) e in
          let low : v < 4294967296 = ltb-true _ _ parts.0 in
          let is : v ≡ n = cc in
          (omega arith, sym ((bytes_eq-Decides (decimal v) text).0 parts.1) ∙ ap decimal is)
      | false ↦ λ e g. cc
    ] refl
