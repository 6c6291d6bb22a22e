-- The text of a response with an error status.
use Rattle.std.proofs.Common.{◌≡◌, ◌∙◌, List, ℕ, ◌++◌, ap, append_assoc, sym, Bor}
use Rattle.std.specs.Prelude.{Option, Some, ℤ, codes, option_map}
use Rattle.std.specs.Fmt.{signed_decimal}
use Rattle.mon_poller.specs.Fault.{response_text, status_text}
use Rattle.mon_poller.specs.Status.{status_name}
use Rattle.mon_poller.specs.declared.fault.ResponseFault.{ResponseFault}
use Rattle.mon_poller.specs.declared.fault.ResponseFault.TheVariants.{AgentError}

-- pieces of a text, nested to the right as a format makes them
of_3 : (a b c : List ℕ) → a ++ (b ++ c) ≡ a ++ b ++ c
of_3 a b c = sym (append_assoc a b c)

of_4 : (a b c d : List ℕ) → a ++ (b ++ (c ++ d)) ≡ a ++ b ++ c ++ d
of_4 a b c d = of_3 a b (c ++ d) ∙ of_3 (a ++ b) c d

of_5 : (a b c d e : List ℕ) → a ++ (b ++ (c ++ (d ++ e))) ≡ a ++ b ++ c ++ d ++ e
of_5 a b c d e = of_3 a b (c ++ (d ++ e)) ∙ of_4 (a ++ b) c d e

-- what is written of a status that has a name
abbrev written : List ℕ → ℤ → ℤ → List ℕ
written name status index = codes "the agent answered " ++ (name ++ (codes " (error-status " ++ (signed_decimal status ++ (codes ") at " ++ signed_decimal index))))

same_text : (name : List ℕ) (status index : ℤ) → written name status index
    ≡ codes "the agent answered " ++ status_text (Some name) status ++ codes " at " ++ signed_decimal index
same_text name status index =
    ap (λ (t : List ℕ). codes "the agent answered " ++ t) (of_5 name (codes " (error-status ") (signed_decimal status) (codes ")") (codes " at " ++ signed_decimal index))
    ∙ of_4 (codes "the agent answered ") (status_text (Some name) status) (codes " at ") (signed_decimal index)

-- it is what is said of the fault; the status and the index were passed on
pub named : (fault : ResponseFault) (found : Option (Bor (List ℕ))) (name : Bor (List ℕ)) (asked shown status place index : ℤ) → fault ≡ AgentError status index
    → asked ≡ status → shown ≡ status → place ≡ index → found ≡ Some name → option_map (λ n. n.now) found ≡ status_name asked
    → codes "the agent answered " ++ (name.now ++ (codes " (error-status " ++ (signed_decimal shown ++ (codes ") at " ++ signed_decimal place)))) ≡ response_text fault
named fault found name asked shown status place index is same_asked same_shown same_place is_named names =
    let known : Some name.now ≡ status_name status = sym (ap (λ f. option_map (λ n. n.now) f) is_named) ∙ (names ∙ ap status_name same_asked) in
    ap (λ (s : ℤ). written name.now s place) same_shown ∙ (ap (λ (i : ℤ). written name.now status i) same_place ∙ (same_text name.now status index
    ∙ (ap (λ (n : Option (List ℕ)). codes "the agent answered " ++ status_text n status ++ codes " at " ++ signed_decimal index) known ∙ ap response_text (sym is))))
