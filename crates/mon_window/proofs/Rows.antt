-- A row begins where those that left end.
use Rattle.std.proofs.Common.{◌≡◌, ◌+◌, ◌≤◌, ℕ, zero, suc, List, [], ◌∷◌, length, drop, ap, ◌∙◌, arith}
use Rattle.std.specs.List.{remove}

-- what is taken out behind those that left is taken out of the row
pub remove-behind : {X : Type 0} (start at : ℕ) (xs : List X) → start ≤ length xs → drop start (remove xs (start + at)) ≡ remove (drop start xs) at
remove-behind zero at xs within = ap (remove xs) (let is : 0 + at ≡ at = omega arith in is)
remove-behind (suc start) at [] within = absurd (omega arith)
remove-behind (suc start) at (y ∷ ys) within =
    ap (λ k. drop (suc start) (remove (y ∷ ys) k)) (let is : suc start + at ≡ suc (start + at) = omega arith in is) ∙ remove-behind start at ys (omega arith)
