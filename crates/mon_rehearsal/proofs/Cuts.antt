-- Texts that are cut at a mark.
use Rattle.std.proofs.Common.{◌≡◌, ℕ, suc, ◌+◌, ◌-◌, ◌<◌, ◌≤◌, Bool, true, false, not, cond, List, [], ◌∷◌, ◌++◌, length, take, drop, Option, Some, None, refl, sym, ap, ◌∙◌, arith, length-drop, length-append}
use Rattle.std.specs.Prelude.{nat_lt, ◌==◌, if◌then◌else◌}
use Rattle.std.specs.List.{position, position_or_len}
use Rattle.std.proofs.lemmas.Bool.{ltb-true, ltb-false}
use Rattle.std.proofs.lemmas.Bool.Decides.{nat_tests}
use Rattle.std.proofs.lemmas.List.{take_all}
use Rattle.mon_rehearsal.specs.Fields.{cut, with_first}
use Rattle.mon_rehearsal.specs.Script.{lines_of, onto_line}

abbrev is_mark : ℕ → ℕ → Bool
is_mark mark octet = octet == mark

-- where no octet is the mark, nothing is cut
none_below : (mark : ℕ) (xs : List ℕ) → length xs ≤ position_or_len (is_mark mark) xs → cut mark xs ≡ None
none_below mark [] h = refl
none_below mark (x ∷ xs) h =
    elim (x == mark) as (λ t. (length (x ∷ xs) ≤ cond (not t) (1 + position_or_len (is_mark mark) xs) 0) → (if t then Some ([], xs) else with_first x (cut mark xs)) ≡ None) [
      | true ↦ λ g. absurd (omega arith)
      | false ↦ λ g. ap (with_first x) (none_below mark xs (omega arith))
    ] h

abbrev both : List ℕ → List ℕ → Option (List ℕ × List ℕ)
both a b = Some (a, b)

-- one octet more
one_more : (x : ℕ) (xs : List ℕ) (k : ℕ) → both (take (1 + k) (x ∷ xs)) (drop (1 + k + 1) (x ∷ xs)) ≡ both (x ∷ take k xs) (drop (k + 1) xs)
one_more x xs k =
    let e : 1 + k ≡ suc k = omega arith in
    let f : 1 + k + 1 ≡ suc (k + 1) = omega arith in
    λ i. both (take (e i) (x ∷ xs)) (drop (f i) (x ∷ xs))

-- the first mark is where the text is cut
first_below : (mark : ℕ) (xs : List ℕ) → position_or_len (is_mark mark) xs < length xs
    → cut mark xs ≡ Some (take (position_or_len (is_mark mark) xs) xs, drop (position_or_len (is_mark mark) xs + 1) xs)
first_below mark [] h = absurd (omega arith)
first_below mark (x ∷ xs) h =
    elim (x == mark) as (λ t. (cond (not t) (1 + position_or_len (is_mark mark) xs) 0 < length (x ∷ xs))
    → (if t then Some ([], xs) else with_first x (cut mark xs)) ≡ Some (take (cond (not t) (1 + position_or_len (is_mark mark) xs) 0) (x ∷ xs), drop (cond (not t) (1 + position_or_len (is_mark mark) xs) 0 + 1) (x ∷ xs))) [
      | true ↦ λ g. refl
      | false ↦ λ g. ap (with_first x) (first_below mark xs (omega arith)) ∙ sym (one_more x xs (position_or_len (is_mark mark) xs))
    ] h

pub cut_none : (mark : ℕ) (xs : List ℕ) → position (is_mark mark) xs ≡ None → cut mark xs ≡ None
cut_none mark xs none =
    let k = position_or_len (is_mark mark) xs in
    elim (nat_lt k (length xs)) as (λ t. nat_lt k (length xs) ≡ t → cond t (Some k) None ≡ None → cut mark xs ≡ None) [
      | true ↦ λ e h. cc
      | false ↦ λ e h. none_below mark xs (ltb-false _ _ e)
    ] refl none

pub cut_some : (mark : ℕ) (xs : List ℕ) (place : ℕ) → position (is_mark mark) xs ≡ Some place → cut mark xs ≡ Some (take place xs, take (length xs - (place + 1)) (drop (place + 1) xs))
cut_some mark xs place some =
    let k = position_or_len (is_mark mark) xs in
    elim (nat_lt k (length xs)) as (λ t. nat_lt k (length xs) ≡ t → cond t (Some k) None ≡ Some place → cut mark xs ≡ Some (take place xs, take (length xs - (place + 1)) (drop (place + 1) xs))) [
      | true ↦ λ e h.
          let at : k ≡ place = cc in
          let rest : take (length xs - (place + 1)) (drop (place + 1) xs) ≡ drop (place + 1) xs = take_all (length xs - (place + 1)) (drop (place + 1) xs) (omega (arith, length-drop (place + 1) xs)) in
          first_below mark xs (ltb-true _ _ e) ∙ (λ i. Some (take (at i) xs, drop (at i + 1) xs)) ∙ (λ i. Some (take place xs, sym rest i))
      | false ↦ λ e h. cc
    ] refl some

-- ---- what was cut, put together again
abbrev front_of : Option (List ℕ × List ℕ) → List ℕ
front_of None = []
front_of (Some p) = p.0

abbrev back_of : Option (List ℕ × List ℕ) → List ℕ
back_of None = []
back_of (Some p) = p.1

first_parts : (c : ℕ) (r : Option (List ℕ × List ℕ)) (a b : List ℕ) → with_first c r ≡ Some (a, b) → (front : List ℕ) × (r ≡ Some (front, b)) × (a ≡ c ∷ front)
first_parts c None a b h = cc
first_parts c (Some p) a b h = (p.0, (λ i. Some (p.0, ap back_of h i)), sym (ap front_of h))

pub cut_joined : (mark : ℕ) (xs a b : List ℕ) → cut mark xs ≡ Some (a, b) → xs ≡ a ++ mark ∷ b
cut_joined mark [] a b h = cc
cut_joined mark (x ∷ xs) a b h =
    elim (x == mark) as (λ t. (x == mark) ≡ t → (let r : Option (List ℕ × List ℕ) = (if t then Some ([], xs) else with_first x (cut mark xs)) in r ≡ Some (a, b)) → x ∷ xs ≡ a ++ mark ∷ b) [
      | true ↦ λ e g.
          let is : x ≡ mark = grind (arith, nat_tests) in
          (λ i. ap front_of g i ++ is i ∷ ap back_of g i)
      | false ↦ λ e g.
          let parts = first_parts x (cut mark xs) a b g in
          ap (λ l. x ∷ l) (cut_joined mark xs parts.0 b parts.1) ∙ ap (λ l. l ++ mark ∷ b) (sym parts.2)
    ] refl h

-- ---- lines
none_after : (c : ℕ) (r : Option (List ℕ × List ℕ)) → with_first c r ≡ None → r ≡ None
none_after c None g = refl
none_after c (Some p) g = cc

pub line_alone : (xs : List ℕ) → 0 < length xs → cut 10 xs ≡ None → lines_of xs ≡ xs ∷ []
line_alone [] some h = absurd (omega arith)
line_alone (x ∷ []) some h =
    elim (x == 10) as (λ t. (let r : Option (List ℕ × List ℕ) = (if t then Some ([], []) else with_first x None) in r ≡ None) → (if t then [] ∷ [] else onto_line x []) ≡ (x ∷ []) ∷ []) [
      | true ↦ λ g. cc
      | false ↦ λ g. refl
    ] h
line_alone (x ∷ y ∷ ys) some h =
    elim (x == 10) as (λ t. (let r : Option (List ℕ × List ℕ) = (if t then Some ([], y ∷ ys) else with_first x (cut 10 (y ∷ ys))) in r ≡ None) → (if t then [] ∷ lines_of (y ∷ ys) else onto_line x (lines_of (y ∷ ys))) ≡ (x ∷ y ∷ ys) ∷ []) [
      | true ↦ λ g. cc
      | false ↦ λ g. ap (onto_line x) (line_alone (y ∷ ys) (omega arith) (none_after x (cut 10 (y ∷ ys)) g))
    ] h

pub line_first : (xs a b : List ℕ) → cut 10 xs ≡ Some (a, b) → lines_of xs ≡ a ∷ lines_of b
line_first [] a b h = cc
line_first (x ∷ xs) a b h =
    elim (x == 10) as (λ t. (let r : Option (List ℕ × List ℕ) = (if t then Some ([], xs) else with_first x (cut 10 xs)) in r ≡ Some (a, b)) → (if t then [] ∷ lines_of xs else onto_line x (lines_of xs)) ≡ a ∷ lines_of b) [
      | true ↦ λ g. (λ i. ap front_of g i ∷ lines_of (ap back_of g i))
      | false ↦ λ g.
          let parts = first_parts x (cut 10 xs) a b g in
          ap (onto_line x) (line_first xs parts.0 b parts.1) ∙ ap (λ l. l ∷ lines_of b) (sym parts.2)
    ] h

pub cut_shorter : (mark : ℕ) (xs a b : List ℕ) → cut mark xs ≡ Some (a, b) → length b < length xs
cut_shorter mark xs a b h = omega (arith, ap length (cut_joined mark xs a b h), length-append a (mark ∷ b))
