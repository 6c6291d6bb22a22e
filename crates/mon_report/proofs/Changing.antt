-- The changes of no rule.
use Rattle.std.proofs.Common.{◌≡◌, ◌≤◌, ℕ, suc, List, [], ◌∷◌, ◌++◌, length, drop, map, refl, sym, ap, ◌∙◌, arith}
use Rattle.std.specs.Prelude.{zero, min}
use Rattle.std.proofs.lemmas.List.{append-nil}
use Rattle.mon_alarms.specs.declared.change.AlarmChange.{AlarmChange}
use Rattle.mon_alarms.specs.Rule.{Rule}
use Rattle.mon_board.specs.Board.{Board}
use Rattle.mon_report.specs.Alarms.{changes_from}

-- f returns the samples of a window
module _ {X : Type 0} (f : X → List ℕ) where
  none_from : (b : Board) (k n : ℕ) (rules : List Rule) (seen : List X) → min (length rules) (length seen) ≤ n → changes_from b k (drop n rules) (map f (drop n seen)) ≡ []
  none_from b k zero [] seen le = refl
  none_from b k zero (r ∷ rules) [] le = refl
  none_from b k zero (r ∷ rules) (s ∷ seen) le = absurd (omega arith)
  none_from b k (suc n) [] seen le = refl
  none_from b k (suc n) (r ∷ rules) [] le = after (drop n rules)
    where
      after : (l : List Rule) → changes_from b k l [] ≡ []
      after [] = refl
      after (x ∷ l) = refl
  none_from b k (suc n) (r ∷ rules) (s ∷ seen) le = none_from b k n rules seen (omega arith)

  -- changes after which none are left are all
  pub none_left : (b : Board) (k : ℕ) (rules : List Rule) (seen : List X) (changes all : List AlarmChange) → min (length rules) (length seen) ≤ k
      → changes ++ changes_from b k (drop k rules) (map f (drop k seen)) ≡ all → changes ≡ all
  none_left b k rules seen changes all le so_far =
      sym (append-nil changes) ∙ ap (λ l. changes ++ l) (sym (none_from b k k rules seen le)) ∙ so_far
