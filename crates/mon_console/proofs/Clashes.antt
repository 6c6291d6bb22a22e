-- The line of a module that defines a name which is defined already.
use Rattle.std.proofs.Common.{◌≡◌, ◌∙◌, ◌<◌, ◌≤◌, Bool, List, ℕ, ◌++◌, arith, false, true, sym, ap}
use Rattle.std.proofs.lemmas.Bool.Decides.{nat_tests}
use Rattle.std.specs.Global.{Global}
use Rattle.std.specs.Prelude.{IfOk, Option, Some, None, Result, String, codes, nat_le, string_bytes}
use Rattle.std.specs.declared.alloc.AllocError.{AllocError}
use Rattle.mon_console.proofs.Lines.{of_3, of_6, reads_as}
use Rattle.mon_console.specs.Clashing.{clash_end, clash_line}

within : (known place : ℕ) → place < known → nat_le known place ≡ false
within known place inside = grind (arith, nat_tests)

beyond : (known place : ℕ) → known ≤ place → nat_le known place ≡ true
beyond known place past = grind (arith, nat_tests)

pub end_twice : (known place : ℕ) (owner : Option (List ℕ)) → known ≤ place → codes " twice" ≡ clash_end (nat_le known place) owner
end_twice known place owner past = ap (λ (b : Bool). clash_end b owner) (sym (beyond known place past))

pub end_other : (known place : ℕ) (owner : Option (List ℕ)) (other : List ℕ) → place < known → Some other ≡ owner
    → codes ", which " ++ (other ++ codes " defines too") ≡ clash_end (nat_le known place) owner
end_other known place owner other inside is = of_3 (codes ", which ") other (codes " defines too")
    ∙ (ap (clash_end false) is ∙ ap (λ (b : Bool). clash_end b owner) (sym (within known place inside)))

pub end_none : (known place : ℕ) (owner : Option (List ℕ)) → place < known → None ≡ owner
    → codes ", which is a built-in name" ≡ clash_end (nat_le known place) owner
end_none known place owner inside is = ap (clash_end false) is ∙ ap (λ (b : Bool). clash_end b owner) (sym (within known place inside))

pub line_with : (made : Result (String Global) AllocError) (path own name end module_name defined shown : List ℕ) → own ≡ module_name → name ≡ defined
    → shown ≡ end
    → IfOk made (λ t. string_bytes t ≡ path ++ (codes ": " ++ (own ++ (codes " defines " ++ (name ++ shown)))))
    → IfOk made (λ t. string_bytes t ≡ clash_line path module_name defined end)
line_with made path own name end module_name defined shown same called ends given =
    let begin : List ℕ → List ℕ → List ℕ → List ℕ = λ o n s. path ++ (codes ": " ++ (o ++ (codes " defines " ++ (n ++ s)))) in
    reads_as made (begin own name shown) (clash_line path module_name defined end) given
    ((λ i. begin (same i) (called i) (ends i)) ∙ of_6 path (codes ": ") module_name (codes " defines ") defined end)
