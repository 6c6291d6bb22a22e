-- Counting a rising list, from one number to the next.
use Rattle.std.proofs.Common.{ℕ, ◌≡◌, ◌<◌, ◌≤◌, ◌+◌, true, false, nat_lt, List, [], ◌∷◌, ◌++◌, length, Option, Some, None, refl, sym, ◌∙◌, ap, subst, arith, append_assoc, length-append}
use Rattle.std.specs.List.{AllByRecursion}
use Rattle.std.specs.List.Sorted.{IsStrictlySortedBy}
use Rattle.std.specs.Ordering.{nat_cmp}
use Rattle.std.specs.declared.cmp.Ordering.TheVariants.{Less}
use Rattle.std.proofs.lemmas.Bool.Decides.{nat_tests}
use Rattle.std.proofs.lemmas.Map.Keys.{below_from_sorted}
use Rattle.mon_board.specs.Owed.{next_above}

less_lt : (x y : ℕ) → nat_cmp x y ≡ Less → x < y
unfolding IsStrictlySortedBy
less_lt x y e = below_from_sorted (x ∷ y ∷ []) 0 1 0 ((e, tt), (tt, tt)) (omega arith) (omega arith)

-- the first of a list
abbrev pub first_of : List ℕ → Option ℕ
first_of [] = None
first_of (x ∷ xs) = Some x

-- below the last one
member_below : (x a : ℕ) (xs ys : List ℕ) → AllByRecursion (λ y. nat_cmp x y ≡ Less) (xs ++ a ∷ ys) → x < a
member_below x a [] ys h = less_lt x a h.0
member_below x a (z ∷ xs) ys h = member_below x a xs ys h.1

passed : (a x : ℕ) (xs : List ℕ) → x ≤ a → next_above (Some a) (x ∷ xs) ≡ next_above (Some a) xs
passed a x xs le = let no : nat_lt a x ≡ false = grind (arith, nat_tests) in rw no refl

reached : (a x : ℕ) (xs : List ℕ) → a < x → next_above (Some a) (x ∷ xs) ≡ Some x
reached a x xs lt = let yes_it : nat_lt a x ≡ true = grind (arith, nat_tests) in rw yes_it refl

-- what comes above the last one that was passed is the first of the rest
pub above_last : (before : List ℕ) (a : ℕ) (rest : List ℕ) → IsStrictlySortedBy nat_cmp (before ++ a ∷ rest) → next_above (Some a) (before ++ a ∷ rest) ≡ first_of rest
unfolding IsStrictlySortedBy
above_last [] a [] h = passed a a [] (omega arith)
above_last [] a (y ∷ ys) h = passed a a (y ∷ ys) (omega arith) ∙ reached a y ys (less_lt a y h.0.0)
above_last (x ∷ before) a rest h = passed a x (before ++ a ∷ rest) (omega (arith, member_below x a before rest h.0)) ∙ above_last before a rest h.1

pub above_none : (xs : List ℕ) → next_above None xs ≡ first_of xs
above_none [] = refl
above_none (x ∷ xs) = refl

nothing : {x : ℕ} → None ≡ Some x → ⊥
nothing e = cc

some_same : {x y : ℕ} → Some y ≡ Some x → y ≡ x
some_same e = cc

append_nil : (xs : List ℕ) → xs ++ [] ≡ xs
append_nil [] = refl
append_nil (x ∷ xs) = ap (λ l. x ∷ l) (append_nil xs)

-- how far one has come: what was passed, the last of it, and the rest
pub record IsAt (xs passed : List ℕ) (after : Option ℕ) : Type 0 where
  pub rest : List ℕ
  pub whole : xs ≡ passed ++ rest
  pub next : next_above after xs ≡ first_of rest

pub at_start : (xs : List ℕ) → IsAt xs [] None
at_start xs = record { rest = xs; whole = refl; next = above_none xs }

pub at_end : (xs passed : List ℕ) (after : Option ℕ) → IsAt xs passed after → next_above after xs ≡ None → passed ≡ xs
at_end xs passed after at none = end at.rest at.whole (sym at.next ∙ none)
  where
    end : (rest : List ℕ) → xs ≡ passed ++ rest → first_of rest ≡ None → passed ≡ xs
    end [] whole e = sym (whole ∙ append_nil passed)
    end (x ∷ rest) whole e = cc

pub at_next : (xs passed : List ℕ) (after : Option ℕ) (x : ℕ) → IsStrictlySortedBy nat_cmp xs → IsAt xs passed after → next_above after xs ≡ Some x → IsAt xs (passed ++ x ∷ []) (Some x)
at_next xs passed after x sorted at is = go at.rest at.whole (sym at.next ∙ is)
  where
    go : (rest : List ℕ) → xs ≡ passed ++ rest → first_of rest ≡ Some x → IsAt xs (passed ++ x ∷ []) (Some x)
    go [] whole e = absurd (nothing e)
    go (y ∷ rest) whole e =
        let same : y ≡ x = some_same e in
        let whole' : xs ≡ passed ++ x ∷ rest = whole ∙ ap (λ z. passed ++ z ∷ rest) same in
        record {
          rest = rest;
          whole = whole' ∙ sym (append_assoc passed (x ∷ []) rest);
          next = ap (next_above (Some x)) whole' ∙ above_last passed x rest (subst (IsStrictlySortedBy nat_cmp) whole' sorted);
        }

-- one more was passed, so fewer are left
pub at_room : (xs passed : List ℕ) (after : Option ℕ) (x : ℕ) → IsAt xs passed after → next_above after xs ≡ Some x → length passed < length xs
at_room xs passed after x at is = go at.rest at.whole (sym at.next ∙ is)
  where
    go : (rest : List ℕ) → xs ≡ passed ++ rest → first_of rest ≡ Some x → length passed < length xs
    go [] whole e = absurd (nothing e)
    go (y ∷ rest) whole e = omega (arith, ap length whole, length-append passed (y ∷ rest))

-- ---- counting
-- this many of a list have been passed
pub record IsPast (xs : List ℕ) (count : ℕ) (after : Option ℕ) : Type 0 where
  pub passed : List ℕ
  pub count_is : count ≡ length passed
  pub at : IsAt xs passed after

pub past_start : (xs : List ℕ) → IsPast xs 0 None
past_start xs = record { passed = []; count_is = refl; at = at_start xs }

pub past_next : (xs : List ℕ) (count : ℕ) (after : Option ℕ) (x : ℕ) → IsStrictlySortedBy nat_cmp xs → IsPast xs count after → next_above after xs ≡ Some x → IsPast xs (count + 1) (Some x)
past_next xs count after x sorted past is = record { passed = past.passed ++ x ∷ []; count_is = omega (arith, past.count_is, length-append past.passed (x ∷ [])); at = at_next xs past.passed after x sorted past.at is }

pub past_room : (xs : List ℕ) (count : ℕ) (after : Option ℕ) (x : ℕ) → IsPast xs count after → next_above after xs ≡ Some x → count < length xs
past_room xs count after x past is = omega (arith, past.count_is, at_room xs past.passed after x past.at is)

pub past_few : (xs : List ℕ) (count : ℕ) (after : Option ℕ) → IsPast xs count after → count ≤ length xs
past_few xs count after past = omega (arith, past.count_is, ap length past.at.whole, length-append past.passed past.at.rest)

pub past_end : (xs : List ℕ) (count : ℕ) (after : Option ℕ) → IsPast xs count after → next_above after xs ≡ None → count ≡ length xs
past_end xs count after past none = past.count_is ∙ ap length (at_end xs past.passed after past.at none)
