use Rattle.std.proofs.Common.{◌≡◌, ℕ, List, map, take, length, ap, subst, ◌∙◌, arith}
use Rattle.std.proofs.Math.Seq.{take-length}
use Rattle.std.specs.List.{AllByRecursion}
use Rattle.mon_ber.specs.declared.value.Value.TheVariants.{Name}
use Rattle.mon_ber.specs.Grammar.{Spells}
use Rattle.mon_pdu.specs.declared.message.Binding.{Binding}
use Rattle.mon_poller.specs.Target.{spelled_name}
use Rattle.mon_poller.proofs.asking.spelled.Goals as goal

-- the loop reaches the end
whole : (c : goal.After-new) → take c.loop-binding.binding-index c.args.bindings.now ≡ c.args.bindings.now
whole c =
    let end : c.loop-binding.binding-index ≡ length c.args.bindings.now = omega arith in
    ap (λ (i : ℕ). take i c.args.bindings.now) end ∙ take-length c.args.bindings.now

pub returns-clause-names : goal.returns-clause-names
returns-clause-names c = c.new.ensures ∙ c.loop-binding.invariant.0 ∙ ap (λ (bs : List Binding). map (λ (b : Binding). spelled_name b.name) bs) (whole c)

pub returns-clause-spells : goal.returns-clause-spells
returns-clause-spells c = subst (λ (bs : List Binding). AllByRecursion (λ (b : Binding). Spells (spelled_name b.name) (Name b.name)) bs) (whole c) c.loop-binding.invariant.1
