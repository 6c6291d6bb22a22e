-- Places from the first on, of which those that are late are freed.
use native.Mathlib.Omega.{arith}
use Rattle.std.proofs.Common.{◌≡◌, ◌≢◌, ◌≤◌, ◌<◌, ◌+◌, ◌⊎◌, inl, inr, ◌∙◌, ap, sym, subst, refl, ℕ, List, length, Some}
use Rattle.std.specs.Prelude.{slice_get, slice_set, slice_index_or}
use Rattle.std.proofs.lemmas.List.{get_or-set_same, get_or-set_other, length-set}
use Rattle.std.proofs.lemmas.Option.{slice_get-get_or, slice_get_past}
use Rattle.mon_web.specs.declared.slot.Slot.{Slot}
use Rattle.mon_web.specs.Slot.{IsLate, KeepsOthers, NoneLate, free_slot}

cases_le : (a b : ℕ) → (a ≤ b) ⊎ (b < a)
cases_le a b = grind arith

get_same : (xs : List Slot) (i : ℕ) (y : Slot) → i < length xs → slice_get (slice_set xs i y) i ≡ Some y
get_same xs i y within =
    let here : i < length (slice_set xs i y) = omega (arith, length-set xs i y) in
    slice_get-get_or (slice_set xs i y) i y here ∙ ap (λ (s : Slot). Some s) (get_or-set_same xs i y y within)

get_other : (xs : List Slot) (i j : ℕ) (y : Slot) → j ≢ i → slice_get (slice_set xs i y) j ≡ slice_get xs j
get_other xs i j y apart = at (cases_le (length xs) j)
  where
    at : (length xs ≤ j) ⊎ (j < length xs) → slice_get (slice_set xs i y) j ≡ slice_get xs j
    at (inl past) =
        let there : length (slice_set xs i y) ≤ j = omega (arith, length-set xs i y) in
        slice_get_past (slice_set xs i y) j there ∙ sym (slice_get_past xs j past)
    at (inr within) =
        let there : j < length (slice_set xs i y) = omega (arith, length-set xs i y) in
        slice_get-get_or (slice_set xs i y) j y there ∙ ap (λ (s : Slot). Some s) (get_or-set_other xs i j y y apart)
        ∙ sym (slice_get-get_or xs j y within)

-- of the first `place` places none is late; the others are as they were
pub record Swept (now : ℕ) (place : ℕ) (old new : List Slot) : Type 0 where
  pub clean : (k : ℕ) (slot : Slot) → k < place → slice_get new k ≡ Some slot → ¬ (IsLate now slot)
  pub others : KeepsOthers (IsLate now) old new

pub swept_start : (now : ℕ) (old : List Slot) → Swept now 0 old old
swept_start now old = record {
  clean = λ k slot few. absurd (omega arith);
  others = record { many = refl; kept = λ place slot is stays. is };
}

-- one that is late is freed
pub swept_late : (now place : ℕ) (old new : List Slot) (late : Slot) → place < length new → slice_get new place ≡ Some late
    → IsLate now late → Swept now place old new → Swept now (place + 1) old (slice_set new place free_slot)
swept_late now place old new late within is over s = record {
  clean = λ k slot few at. elim (cases_le place k) as (λ _. ¬ (IsLate now slot)) [
    | inl far ↦ (let same : k ≡ place = omega arith in
        let freed : Some slot ≡ Some free_slot = sym at ∙ ap (slice_get (slice_set new place free_slot)) same ∙ get_same new place free_slot within in
        let it : slot ≡ free_slot = cc in
        λ x. subst (IsLate now) it x)
    | inr near ↦ s.clean k slot near (sym (get_other new place k free_slot (λ e. omega (arith, e))) ∙ at)
  ];
  others = record {
    many = length-set new place free_slot ∙ s.others.many;
    kept = λ k slot was stays. elim (cases_eq k place) as (λ _. slice_get (slice_set new place free_slot) k ≡ Some slot) [
      | inl same ↦ (let here : slice_get new k ≡ Some slot = s.others.kept k slot was stays in
          let both : Some slot ≡ Some late = sym here ∙ ap (slice_get new) same ∙ is in
          let it : late ≡ slot = cc in
          absurd (stays (subst (IsLate now) it over)))
      | inr apart ↦ get_other new place k free_slot apart ∙ s.others.kept k slot was stays
    ];
  };
}
  where
    cases_eq : (a b : ℕ) → (a ≡ b) ⊎ (a ≢ b)
    cases_eq a b = grind arith

-- one that is not late stays
pub swept_other : (now place : ℕ) (old new : List Slot) → ((slot : Slot) → slice_get new place ≡ Some slot → ¬ (IsLate now slot))
    → Swept now place old new → Swept now (place + 1) old new
swept_other now place old new stays s = record {
  clean = λ k slot few at. elim (cases_le place k) as (λ _. ¬ (IsLate now slot)) [
    | inl far ↦ (let same : k ≡ place = omega arith in stays slot (ap (slice_get new) (sym same) ∙ at))
    | inr near ↦ s.clean k slot near at
  ];
  others = s.others;
}

pub swept_all : (now place : ℕ) (old new : List Slot) → length new ≤ place → Swept now place old new → NoneLate now new
swept_all now place old new whole s = λ k d few over.
    s.clean k (slice_index_or new k d) (omega arith) (slice_get-get_or new k d few) over
