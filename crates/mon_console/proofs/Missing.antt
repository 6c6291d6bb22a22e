-- The name that a word lacks.
use Rattle.std.proofs.Common.{◌≡◌, Bor, List, ℕ, ap, inl, inr, subst, sym}
use Rattle.std.specs.Prelude.{IfNone, IfSome, Option, Some, None, unwrap_or}
use Rattle.mon_console.specs.Naming.{Lacks}
use Rattle.mon_smi.specs.Names.{EndsAt, EndsUndefined, IsNamed}
use Rattle.mon_smi.specs.declared.definition.Definition.{Definition}

pub lacking : (names : List Definition) (word : Bor (List ℕ)) (found : Option (Bor (List ℕ))) (missing : Bor (List ℕ)) → missing ≡ unwrap_or found word
    → IfSome found (λ p. (w rest : List ℕ) → IsNamed word.now w rest → EndsAt names w p.now)
    → IfNone found ((w rest : List ℕ) → IsNamed word.now w rest → ¬ (EndsUndefined names w)) → Lacks names word.now missing.now
lacking names word (Some p) missing is some none = subst (λ (m : Bor (List ℕ)). Lacks names word.now m.now) (sym is) (inl some)
lacking names word None missing is some none = inr (ap (λ m. m.now) is, none)
