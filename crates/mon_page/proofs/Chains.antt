-- Texts that are added one after another.
use Rattle.std.proofs.Common.{◌≡◌, ◌++◌, ◌∙◌, ap, ℕ, List, Result, Ok, Err, append_assoc, Bool, true, false, [], sym, subst}
use Rattle.std.specs.Prelude.{OnOk, if◌then◌else◌, is_ok}

-- one text more
pub join : (start middle end first rest : List ℕ) → middle ≡ start ++ first → end ≡ middle ++ rest → end ≡ start ++ (first ++ rest)
join start middle end first rest e f = f ∙ ap (λ (s : List ℕ). s ++ rest) e ∙ append_assoc start first rest

-- a text in other words
pub said : (middle end rest' rest : List ℕ) → rest' ≡ rest → end ≡ middle ++ rest' → end ≡ middle ++ rest
said middle end rest' rest same f = f ∙ ap (λ (s : List ℕ). middle ++ s) same

-- the last text, which may fail
pub ends : {A E : Type 0} (r : Result A E) (start middle end first rest rest' : List ℕ) → middle ≡ start ++ first → rest' ≡ rest
    → OnOk r (end ≡ middle ++ rest') → OnOk r (end ≡ start ++ (first ++ rest))
ends (Ok x) start middle end first rest rest' e same f = join start middle end first rest e (f ∙ ap (λ (s : List ℕ). middle ++ s) same)
ends (Err x) start middle end first rest rest' e same f = tt

-- the last text, which is written or not
pub written : {A E : Type 0} (r : Result A E) (start middle end first rest : List ℕ) → middle ≡ start ++ first
    → end ≡ (if is_ok r then middle ++ rest else middle) → OnOk r (end ≡ start ++ (first ++ rest))
written (Ok x) start middle end first rest e f = join start middle end first rest e f
written (Err x) start middle end first rest e f = tt

-- a text that is added unless something is so, or only if it is
pub unless : {A E : Type 0} (r : Result A E) (b : Bool) (end start text : List ℕ) → b ≡ false → OnOk r (end ≡ start ++ text)
    → OnOk r (end ≡ start ++ (if b then [] else text))
unless r b end start text isnt added = subst (λ (x : Bool). OnOk r (end ≡ start ++ (if x then [] else text))) (sym isnt) added

pub only_if : {A E : Type 0} (r : Result A E) (b : Bool) (end start text : List ℕ) → b ≡ true → OnOk r (end ≡ start ++ text)
    → OnOk r (end ≡ start ++ (if b then text else []))
only_if r b end start text is added = subst (λ (x : Bool). OnOk r (end ≡ start ++ (if x then text else []))) (sym is) added
