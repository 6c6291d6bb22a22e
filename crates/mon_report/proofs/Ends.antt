-- The first and the last of some samples.
use Rattle.std.proofs.Common.{◌≡◌, ℕ, ◌-◌, ◌≤◌, List, [], ◌∷◌, ◌++◌, length, take, drop, get_or, ap, ◌∙◌, arith, codes, decimal}
use Rattle.std.proofs.lemmas.List.{get_or_default}
use Rattle.mon_rates.specs.Totals.{totals}
use Rattle.mon_report.proofs.Loops.{others-are}
use Rattle.mon_report.specs.Report.{stamps_text, value_text, totals_text, window_text, newest}

-- the text of samples of which these are the first and the last
abbrev pub range_text : List ℕ → ℕ → ℕ → List ℕ
range_text xs first last = (((((codes " n=" ++ decimal (length xs)) ++ codes " ") ++ stamps_text first last) ++ codes " ") ++ value_text last) ++ totals_text (totals xs)

pub range-is : (xs : List ℕ) (first last : ℕ) → 1 ≤ length xs → first ≡ get_or xs 0 first → last ≡ get_or xs (length (take (length xs - 1) (drop 1 xs))) last
    → range_text xs first last ≡ window_text xs
unfolding window_text
range-is [] first last some h g = absurd (omega arith)
range-is (x ∷ xs) first last some h g =
    let end : last ≡ newest x xs = g ∙ ap (λ l. get_or (x ∷ xs) (length l) last) (others-are x xs) ∙ get_or_default (x ∷ xs) (length xs) last x (omega arith) in
    λ i. range_text (x ∷ xs) (h i) (end i)
