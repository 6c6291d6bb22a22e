-- What is printed, one piece after another.
use Rattle.std.proofs.Common.{ℕ, suc, ◌≡◌, ◌+◌, List, [], ◌∷◌, ◌++◌, Result, Ok, Err, length, refl, sym, ap, ◌∙◌, append_assoc, subst, arith}
use Rattle.std.specs.Prelude.{codes, decimal, ◌==◌, if◌then◌else◌, Bool, true, false}
use Rattle.std.specs.List.{flat_map}
use Rattle.std.proofs.lemmas.Grind.{flat_map-append}
use Rattle.std.proofs.lemmas.List.{append-nil}
use Rattle.mon_station.specs.Lived.{last_state}
use Rattle.mon_world.specs.declared.fault.WorldFault.{WorldFault}
use Rattle.mon_world.specs.declared.sending.Sent.{Sent}
use Rattle.mon_world.specs.Moves.{Move, lives_of}
use Rattle.mon_world.specs.Places.{others_to}
use Rattle.mon_rehearsal.specs.Printed.{numbers_from, stations_text, step_line, step_lines, text_at}

-- one number more
pub numbers_more : (first i : ℕ) (start now new : List ℕ) → now ≡ start ++ numbers_from first i → new ≡ now ++ (codes " " ++ decimal (first + i)) → new ≡ start ++ numbers_from first (i + 1)
numbers_more first i start now new was grew =
    let next : suc i ≡ i + 1 = omega arith in
    grew ∙ ap (λ l. l ++ (codes " " ++ decimal (first + i))) was ∙ append_assoc start (numbers_from first i) (codes " " ++ decimal (first + i))
    ∙ ap (λ l. start ++ l) (sym (append_assoc (numbers_from first i) (codes " ") (decimal (first + i)))) ∙ ap (λ n. start ++ numbers_from first n) next

-- the lines of one peer more
pub debts_more : (f : ℕ → List ℕ) (x n : ℕ) (start now new : List ℕ) → now ≡ start ++ flat_map f (others_to x n) → new ≡ (if n + 1 == x then now else now ++ f (n + 1)) → new ≡ start ++ flat_map f (others_to x (n + 1))
debts_more f x n start now new was grew =
    let next : suc n ≡ n + 1 = omega arith in
    subst (λ m. new ≡ (if m == x then now else now ++ f m) → new ≡ start ++ flat_map f (others_to x m)) next one grew
  where
    by : (own : Bool) → new ≡ (if own then now else now ++ f (suc n)) → new ≡ start ++ flat_map f (if own then others_to x n else others_to x n ++ suc n ∷ [])
    by true is = is ∙ was
    by false is =
        is ∙ ap (λ l. l ++ f (suc n)) was ∙ append_assoc start (flat_map f (others_to x n)) (f (suc n))
        ∙ ap (λ l. start ++ (flat_map f (others_to x n) ++ l)) (sym (append-nil (f (suc n)))) ∙ ap (λ l. start ++ l) (sym (flat_map-append f (others_to x n) (suc n ∷ [])))

    one : new ≡ (if suc n == x then now else now ++ f (suc n)) → new ≡ start ++ flat_map f (others_to x (suc n))
    one = by (suc n == x)

-- one station more
pub stations_more : (count n : ℕ) (moves : List Move) (start now new : List ℕ) → now ≡ start ++ stations_text count moves n → new ≡ now ++ text_at count (n + 1) (last_state (lives_of (n + 1) moves))
    → new ≡ start ++ stations_text count moves (n + 1)
stations_more count n moves start now new was grew =
    let next : n + 1 ≡ suc n = omega arith in
    grew ∙ ap (λ l. l ++ text_at count (n + 1) (last_state (lives_of (n + 1) moves))) was
    ∙ append_assoc start (stations_text count moves n) (text_at count (n + 1) (last_state (lives_of (n + 1) moves)))
    ∙ ap (λ m. start ++ (stations_text count moves n ++ text_at count m (last_state (lives_of m moves)))) next
    ∙ ap (λ m. start ++ stations_text count moves m) (sym next)

-- one step more
pub lines_more : (number : ℕ) (answers : List (Result Sent WorldFault)) (answer : Result Sent WorldFault) → step_lines number (answers ++ answer ∷ []) ≡ step_lines number answers ++ step_line (number + length answers) answer
lines_more number [] answer =
    let same : number ≡ number + 0 = omega arith in
    append-nil (step_line number answer) ∙ ap (λ n. step_line n answer) same
lines_more number (a ∷ answers) answer =
    let same : number + 1 + length answers ≡ number + length (a ∷ answers) = omega arith in
    ap (λ l. step_line number a ++ l) (lines_more (number + 1) answers answer)
    ∙ ap (λ n. step_line number a ++ (step_lines (number + 1) answers ++ step_line n answer)) same
    ∙ sym (append_assoc (step_line number a) (step_lines (number + 1) answers) (step_line (number + length (a ∷ answers)) answer))
