-- The dotted texts of object identifiers, and how they are read.
use Rattle.std.proofs.Common.{◌≡◌, ◌↔◌, ℕ, ◌<◌, ◌≤◌, ◌^◌, ◌==◌, Bool, true, false, ◌&&◌, ◌||◌, nat_le, nat_lt, List, [], ◌∷◌, length, map, slice_index, Option, Some, None, refl, ap, ◌∙◌, subst, arith, rules, inl, inr}
use Rattle.std.specs.Prelude.{decimal, All}
use Rattle.std.specs.Char.{is_ascii_digit}
use Rattle.std.specs.Str.{all_ascii_digits, bytes_eq}
use Rattle.std.specs.Str.Parse.{digits_value}
use Rattle.std.specs.List.{slice_split, list_all}
use Rattle.std.proofs.lemmas.Bool.{and_parts, cases_Bool}
use Rattle.std.proofs.lemmas.Bool.Decides.{nat_tests}
use Rattle.std.proofs.lemmas.Fmt.{digits_decimal, decimal_is_IsNumeral}
use Rattle.std.proofs.lemmas.List.Elements.{All-cons, All-tail, All-nil}
use Rattle.std.proofs.lemmas.List.Splits.{slice_split_none, slice_split_at}
use Rattle.std.proofs.lemmas.Slice.Eq.{bytes_eq-Decides}
use Rattle.std.proofs.lemmas.Str.Parse.{IsNumeralModel, numerals_by_value}
use Rattle.std.specs.Prelude.{Err, ◌⊎◌}
use Rattle.mon_oid.specs.declared.fault.OidFault.{OidFault}
use Rattle.mon_oid.specs.declared.fault.OidFault.TheVariants as oid_fault
use Rattle.mon_settings.specs.declared.key.Key.{Key}
use Rattle.mon_settings.specs.declared.fault.SettingsFault.TheVariants as fault
use Rattle.mon_settings.specs.SettingsFault.{bad_value}
use Rattle.mon_settings.specs.Keys.{or_bad}
use Rattle.mon_oid.specs.Oid.{IsOid, AreNumbers, Spells, dotted}
use Rattle.mon_settings.specs.Leaf.{is_rooted, is_oid, refuse, numbers_in, checked_oid, oid_of}

abbrev pub is_dot : ℕ → Bool
is_dot c = c == 46

pub own : IsNumeralModel (λ ds. all_ascii_digits ds ≡ true) (digits_value 10)
own = numerals_by_value _ (search rules)

digit_no_dot : (c : ℕ) → is_ascii_digit c ≡ true → is_dot c ≡ false
digit_no_dot c h = grind (arith, nat_tests)

pub no_dots : (ds : List ℕ) → all_ascii_digits ds ≡ true → All (λ b. is_dot b ≡ false) ds
no_dots [] h = λ i d low. absurd (omega arith)
no_dots (c ∷ cs) h =
    let parts = and_parts (is_ascii_digit c) (all_ascii_digits cs) h in
    All-cons (λ b. is_dot b ≡ false) c cs (digit_no_dot c parts.0) (no_dots cs parts.1)

first_small : (y : ℕ) (ys : List ℕ) → All (λ n. n < 2 ^ 32) (y ∷ ys) → y < 2 ^ 32
first_small y ys h = h 0 y (omega arith)

split_dotted : (y : ℕ) (ys : List ℕ) → All (λ n. n < 2 ^ 32) (y ∷ ys) → slice_split is_dot (dotted (y ∷ ys)) ≡ map decimal (y ∷ ys)
split_dotted y [] small = slice_split_none is_dot (decimal y) (no_dots (decimal y) (digits_decimal own y (omega (arith, first_small y [] small))))
split_dotted y (z ∷ ys) small =
    slice_split_at is_dot (decimal y) 46 (dotted (z ∷ ys)) (no_dots (decimal y) (digits_decimal own y (omega (arith, first_small y (z ∷ ys) small)))) refl
    ∙ ap (λ t. decimal y ∷ t) (split_dotted z ys (All-tail (λ n. n < 2 ^ 32) y (z ∷ ys) small))

split_spelled : (parts : List ℕ) → 0 < length parts → All (λ n. n < 2 ^ 32) parts → slice_split is_dot (dotted parts) ≡ map decimal parts
split_spelled [] some small = absurd (omega arith)
split_spelled (y ∷ ys) some small = split_dotted y ys small

pub values : (parts : List ℕ) → All (λ n. n < 2 ^ 32) parts → map (digits_value 10) (map decimal parts) ≡ parts
values [] small = refl
values (y ∷ ys) small =
    let first = (decimal_is_IsNumeral y (omega (arith, first_small y ys small))).1 in
    let rest = values ys (All-tail (λ n. n < 2 ^ 32) y ys small) in
    λ i. first i ∷ rest i

numbers_back : (parts : List ℕ) → AreNumbers parts → numbers_in (dotted parts) ≡ parts
numbers_back parts h = ap (map (digits_value 10)) (split_spelled parts h.some h.small) ∙ values parts h.small

-- the test is that of an identifier
pub small_true : (parts : List ℕ) → All (λ n. n < 2 ^ 32) parts → list_all (λ n. nat_lt n (2 ^ 32)) parts ≡ true
small_true [] h = refl
small_true (y ∷ ys) h =
    let first = first_small y ys h in
    let here : nat_lt y (2 ^ 32) ≡ true = grind (arith, nat_tests) in
    rw (here, small_true ys (All-tail (λ n. n < 2 ^ 32) y ys h))

pub true_small : (parts : List ℕ) → list_all (λ n. nat_lt n (2 ^ 32)) parts ≡ true → All (λ n. n < 2 ^ 32) parts
true_small [] h = All-nil (λ n. n < 2 ^ 32)
true_small (y ∷ ys) h =
    let (here, rest) = and_parts (nat_lt y (2 ^ 32)) (list_all (λ n. nat_lt n (2 ^ 32)) ys) h in
    let first : y < 2 ^ 32 = grind (arith, nat_tests) in
    All-cons (λ n. n < 2 ^ 32) y ys first (true_small ys rest)

second_true : (a b : ℕ) → (a < 2 → b ≤ 39) → (nat_le 2 a || nat_le b 39) ≡ true
second_true a b h =
    elim (cases_Bool (nat_le 2 a)) [
      | inl h ↦ rw h
      | inr high ↦
          let low : a < 2 = grind (arith, nat_tests) in
          let fits = h low in
          let e : nat_le b 39 ≡ true = grind (arith, nat_tests) in
          rw (high, e)
    ]

true_second : (a b : ℕ) → (nat_le 2 a || nat_le b 39) ≡ true → a < 2 → b ≤ 39
true_second a b h low =
    let no : nat_le 2 a ≡ false = grind (arith, nat_tests) in
    let e : nat_le b 39 ≡ true = rw no at h in
    grind (arith, nat_tests)

pub is_oid-true : (parts : List ℕ) → IsOid parts → is_oid parts ≡ true
is_oid-true parts h =
    let long = h.long in
    let short = h.short in
    let first = h.rooted.first in
    let a : nat_le 2 (length parts) ≡ true = grind (arith, nat_tests) in
    let b : nat_le (length parts) 128 ≡ true = grind (arith, nat_tests) in
    let c : nat_le (slice_index parts 0) 2 ≡ true = grind (arith, nat_tests) in
    rw (a, b, c, second_true (slice_index parts 0) (slice_index parts 1) h.rooted.second, small_true parts h.small)

pub true-is_oid : (parts : List ℕ) → is_oid parts ≡ true → IsOid parts
true-is_oid parts h =
    let (size, rest) = and_parts (nat_le 2 (length parts) && nat_le (length parts) 128) (is_rooted parts && list_all (λ n. nat_lt n (2 ^ 32)) parts) h in
    let (long, short) = and_parts (nat_le 2 (length parts)) (nat_le (length parts) 128) size in
    let (rooted, small) = and_parts (is_rooted parts) (list_all (λ n. nat_lt n (2 ^ 32)) parts) rest in
    let (first, second) = and_parts (nat_le (slice_index parts 0) 2) (nat_le 2 (slice_index parts 0) || nat_le (slice_index parts 1) 39) rooted in
    record {
      long = grind (arith, nat_tests);
      short = grind (arith, nat_tests);
      rooted = record { first = grind (arith, nat_tests); second = true_second (slice_index parts 0) (slice_index parts 1) second };
      small = true_small parts small;
    }

pub same_text : (xs ys : List ℕ) → xs ≡ ys → bytes_eq xs ys ≡ true
same_text xs ys e = (bytes_eq-Decides xs ys).1 e

pub oid_complete : (text parts : List ℕ) → IsOid parts → Spells text parts → oid_of text ≡ Some parts
oid_complete text parts is h =
    let numbers : numbers_in text ≡ parts = ap numbers_in h.is ∙ numbers_back parts h.numbers in
    rw (numbers, is_oid-true parts is, same_text text (dotted parts) h.is)

checked : (text parts q : List ℕ) → checked_oid text q ≡ Some parts → IsOid parts × Spells text parts
checked text parts q e =
    elim (cases_Bool (is_oid q && bytes_eq text (dotted q))) [
      | inl h ↦
          let (oid, written) = and_parts (is_oid q) (bytes_eq text (dotted q)) h in
          let is : IsOid q = true-is_oid q oid in
          let found : Some q ≡ Some parts = rw h at e in
          let same : q ≡ parts = cc in
          let spelled : Spells text q = record {
            numbers = record { some = omega (arith, is.long); small = is.small };
            is = (bytes_eq-Decides text (dotted q)).0 written;
          } in
          subst (λ p. IsOid p × Spells text p) same (is, spelled)
      | inr h ↦ let nothing : None ≡ Some parts = rw h at e in absurd cc
    ]

pub oid_sound : (text parts : List ℕ) → oid_of text ≡ Some parts → IsOid parts × Spells text parts
oid_sound text parts e = checked text parts (numbers_in text) e

none : (o : Option (List ℕ)) → ((parts : List ℕ) → o ≡ Some parts → ⊥) → o ≡ None
none None h = refl
none (Some parts) h = absurd (h parts refl)

pub oid_none : (text : List ℕ) → ((parts : List ℕ) → IsOid parts → Spells text parts → ⊥) → oid_of text ≡ None
oid_none text h = none (oid_of text) (λ parts e. let both = oid_sound text parts e in h parts both.0 both.1)

pub oid_texts : (text parts : List ℕ) → (oid_of text ≡ Some parts) ↔ (IsOid parts × Spells text parts)
oid_texts text parts = (oid_sound text parts, λ h. oid_complete text parts h.0 h.1)

-- where a text is refused for another cause than memory, it is that of no identifier
module _ (key : Key) (text : List ℕ) where
  bad : (e : OidFault) → (e ≡ oid_fault.OutOfMemory → ⊥) → ((parts : List ℕ) → IsOid parts → Spells text parts → e ≡ oid_fault.OutOfMemory)
      → or_bad key (oid_of text) ≡ Err (bad_value key)
  bad e other h = ap (or_bad key) (oid_none text (λ parts is spelled. other (h parts is spelled)))

  pub refused_is : (e : OidFault) → ((parts : List ℕ) → IsOid parts → Spells text parts → e ≡ oid_fault.OutOfMemory)
      → (refuse key e ≡ fault.OutOfMemory) ⊎ (or_bad key (oid_of text) ≡ Err (refuse key e))
  refused_is oid_fault.OutOfMemory h = inl refl
  refused_is oid_fault.TooShort h = inr (bad oid_fault.TooShort (λ e. absurd cc) h)
  refused_is oid_fault.TooLong h = inr (bad oid_fault.TooLong (λ e. absurd cc) h)
  refused_is oid_fault.BadFirst h = inr (bad oid_fault.BadFirst (λ e. absurd cc) h)
  refused_is oid_fault.BadText h = inr (bad oid_fault.BadText (λ e. absurd cc) h)
