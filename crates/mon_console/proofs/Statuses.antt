-- The line of an agent that answered with an error status.
use Rattle.std.proofs.Common.{◌≡◌, ◌≢◌, ◌∙◌, List, ℕ, ◌++◌, refl, sym, ap, subst}
use Rattle.std.specs.Global.{Global}
use Rattle.std.specs.Fmt.{signed_decimal}
use Rattle.std.specs.Prelude.{IfOk, Option, Some, None, Result, String, ℤ, pos, negsuc, zero, suc, codes, option_map, string_bytes, unwrap_or}
use Rattle.std.specs.declared.alloc.AllocError.{AllocError}
use Rattle.std.proofs.Common.{Bor}
use Rattle.mon_poller.specs.Status.{status_name}
use Rattle.mon_console.specs.Agents.{answered_with, status_line, status_word}
use Rattle.mon_console.proofs.Lines.{of_6, of_8, reads_as}

-- the word for a status, which was passed on
pub word_is : (name : Option (Bor (List ℕ))) (word other : Bor (List ℕ)) (shown status : ℤ) → shown ≡ status → word ≡ unwrap_or name other
    → option_map (λ n. n.now) name ≡ status_name shown → other.now ≡ codes "an unknown error-status" → word.now ≡ status_word status
word_is None word other shown status passed is named unknown = ap (λ w. w.now) is ∙ (unknown ∙ (ap (λ n. unwrap_or n (codes "an unknown error-status")) named ∙ ap status_word passed))
word_is (Some n) word other shown status passed is named unknown = ap (λ w. w.now) is ∙ (ap (λ n. unwrap_or n (codes "an unknown error-status")) named ∙ ap status_word passed)

with_word : (agent word : List ℕ) (status : ℤ) → word ≡ status_word status
    → agent ++ codes ": the agent answered " ++ word ++ codes " (" ++ signed_decimal status ++ codes ")" ≡ answered_with agent status
with_word agent word status is = ap (λ w. agent ++ codes ": the agent answered " ++ w ++ codes " (" ++ signed_decimal status ++ codes ")") is

-- of no variable binding
pub about_none : (made : Result (String Global) AllocError) (agent word : List ℕ) (status index shown : ℤ) → shown ≡ status
    → IfOk made (λ t. string_bytes t ≡ agent ++ (codes ": the agent answered " ++ (word ++ (codes " (" ++ (signed_decimal shown ++ codes ")")))))
    → word ≡ status_word status → index ≡ pos 0 → IfOk made (λ t. string_bytes t ≡ status_line agent status index)
about_none made agent word status index shown passed given same none =
    let begin : ℤ → List ℕ = λ s. agent ++ (codes ": the agent answered " ++ (word ++ (codes " (" ++ (signed_decimal s ++ codes ")")))) in
    let is = subst (λ (s : ℤ). IfOk made (λ t. string_bytes t ≡ begin s)) passed given in
    subst (λ (i : ℤ). IfOk made (λ t. string_bytes t ≡ status_line agent status i)) (sym none)
    (reads_as made (agent ++ (codes ": the agent answered " ++ (word ++ (codes " (" ++ (signed_decimal status ++ codes ")"))))) (answered_with agent status) is
    (of_6 agent (codes ": the agent answered ") word (codes " (") (signed_decimal status) (codes ")") ∙ with_word agent word status same))

-- the line has the index where it is not 0
index_line : (agent : List ℕ) (status index : ℤ) → index ≢ pos 0
    → answered_with agent status ++ codes " for variable binding " ++ signed_decimal index ≡ status_line agent status index
index_line agent status (pos zero) some = absurd (some refl)
index_line agent status (pos (suc n)) some = refl
index_line agent status (negsuc n) some = refl

-- of a variable binding
pub about : (made : Result (String Global) AllocError) (agent word : List ℕ) (status index shown place : ℤ) → shown ≡ status → place ≡ index
    → IfOk made (λ t. string_bytes t ≡ agent ++ (codes ": the agent answered " ++ (word ++ (codes " (" ++ (signed_decimal shown ++ (codes ") for variable binding " ++ signed_decimal place))))))
    → word ≡ status_word status → index ≢ pos 0 → IfOk made (λ t. string_bytes t ≡ status_line agent status index)
about made agent word status index shown place passed counted given same some =
    let begin : ℤ → ℤ → List ℕ = λ s p. agent ++ (codes ": the agent answered " ++ (word ++ (codes " (" ++ (signed_decimal s ++ (codes ")" ++ (codes " for variable binding " ++ signed_decimal p)))))) in
    let half = subst (λ (s : ℤ). IfOk made (λ t. string_bytes t ≡ begin s place)) passed given in
    let is = subst (λ (p : ℤ). IfOk made (λ t. string_bytes t ≡ begin status p)) counted half in
    reads_as made (begin status index) (status_line agent status index) is
    (of_8 agent (codes ": the agent answered ") word (codes " (") (signed_decimal status) (codes ")") (codes " for variable binding ") (signed_decimal index)
    ∙ (ap (λ b. b ++ codes " for variable binding " ++ signed_decimal index) (with_word agent word status same) ∙ index_line agent status index some))

-- a line of which the status and the index were passed on
pub line_of : (made : Result (String Global) AllocError) (agent : List ℕ) (status index shown place : ℤ) → shown ≡ status → place ≡ index
    → IfOk made (λ t. string_bytes t ≡ status_line agent shown place) → IfOk made (λ t. string_bytes t ≡ status_line agent status index)
line_of made agent status index shown place passed counted given = subst (λ (p : ℤ). IfOk made (λ t. string_bytes t ≡ status_line agent status p)) counted
    (subst (λ (s : ℤ). IfOk made (λ t. string_bytes t ≡ status_line agent s place)) passed given)
