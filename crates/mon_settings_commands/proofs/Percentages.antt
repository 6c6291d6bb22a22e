-- What a percent sign at the end of a text changes.
use Rattle.std.proofs.Common.{◌≡◌, ◌≢◌, ◌∙◌, ℕ, Bool, true, false, cond, List, [], ◌∷◌, ◌++◌, inl, inr, sym, subst, drop, slice_index, arith}
use Rattle.std.specs.Prelude.{Option, Some, None, IfNone, ◌==◌}
use Rattle.std.specs.Str.Parse.{AllDigits, without_leading_plus}
use Rattle.std.proofs.lemmas.List.{append_cancel_right}
use Rattle.std.proofs.lemmas.Str.Parse.{digit_from_value}
use Rattle.mon_settings_commands.specs.Percent.{IsPercentage, MeansPercentage}

-- digits do not end with a percent sign
no_sign : (front : List ℕ) → AllDigits 10 (front ++ 37 ∷ []) → ⊥
no_sign [] all = let at = digit_from_value 37 all.0 in omega (arith, at.0)
no_sign (b ∷ bs) all = no_sign bs all.1

no_sign_after : (plus : Bool) (b : ℕ) (bs : List ℕ) → AllDigits 10 (drop (cond plus 1 0) (b ∷ (bs ++ 37 ∷ []))) → ⊥
no_sign_after true b bs all = no_sign bs all
no_sign_after false b bs all = no_sign bs all.1

not_digits : (front : List ℕ) → AllDigits 10 (without_leading_plus (front ++ 37 ∷ [])) → ⊥
not_digits [] all = no_sign [] all
not_digits (b ∷ bs) all = no_sign_after (slice_index (b ∷ (bs ++ 37 ∷ [])) 0 == 43) b bs all

-- a text with the sign means nothing if what precedes the sign spells no percentage
pub marked_none : (text front : List ℕ) → text ≡ front ++ 37 ∷ [] → ((n : ℕ) → ¬ (IsPercentage front n)) → (n : ℕ) → ¬ (MeansPercentage text n)
marked_none text front e none n (inl p) = not_digits front (subst (λ (t : List ℕ). AllDigits 10 (without_leading_plus t)) e p.digits.1)
marked_none text front e none n (inr (other, is, p)) = none n (subst (λ (t : List ℕ). IsPercentage t n) (append_cancel_right other front (37 ∷ []) (sym is ∙ e)) p)

-- a text without the sign means nothing if it spells no percentage
pub unmarked_none : (text : List ℕ) → ((front : List ℕ) → text ≢ front ++ 37 ∷ []) → ((n : ℕ) → ¬ (IsPercentage text n)) → (n : ℕ) → ¬ (MeansPercentage text n)
unmarked_none text lacks none n (inl p) = none n p
unmarked_none text lacks none n (inr (front, is, p)) = lacks front is

-- what follows if there is none follows from what is said of none
pub if_none : {X : Type 0} {P Q : Type 0} (r : Option X) → (P → Q) → IfNone r P → IfNone r Q
if_none None f p = f p
if_none (Some x) f p = tt
