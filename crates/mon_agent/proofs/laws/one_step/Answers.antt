use Rattle.std.proofs.Common.{◌≡◌, inl, inr, ℕ, List, sym, ◌∙◌}
use Rattle.std.specs.Prelude.{Option, Some, None}
use Rattle.mon_pdu.specs.declared.message.Binding.{Binding}
use Rattle.mon_vacm.specs.View.{IsInView}
use Rattle.mon_mib.specs.Known.{Known}
use Rattle.mon_mib.specs.Next.{IsNext}
use Rattle.mon_mib.specs.Objects.{objects}
use Rattle.mon_agent.specs.Step.{IsNextAnswer}
use Rattle.mon_agent.proofs.laws.one_step.Goals as goal

some_is : {a b : Binding} → Some a ≡ Some b → a ≡ b
some_is e = cc

never : {A : Type 0} {a : Binding} → None ≡ Some a → A
never e = absurd cc

pub returns : goal.returns
returns c = λ k families view name a b p q. both (IsInView families view) name a b (c.one_next.ensures k families view name) p q
  where
    both : {k : Known} (sees : List ℕ → Type 0) (name : List ℕ) (a b : Binding)
        → ((r s : Option Binding) → IsNext objects k sees name r → IsNext objects k sees name s → r ≡ s)
        → IsNextAnswer k sees name a → IsNextAnswer k sees name b → a ≡ b
    both sees name a b one (inl p) (inl q) = some_is (one (Some a) (Some b) p q)
    both sees name a b one (inl p) (inr q) = never (one None (Some a) q.0 p)
    both sees name a b one (inr p) (inl q) = never (one None (Some b) p.0 q)
    both sees name a b one (inr p) (inr q) = p.1 ∙ sym q.1
