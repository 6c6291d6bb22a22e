use Rattle.std.proofs.Common.{◌≡◌, take, map}
use Rattle.std.specs.List.{AllByRecursion}
use Rattle.mon_ber.specs.declared.value.Value.TheVariants.{Name}
use Rattle.mon_ber.specs.Grammar.{Spells}
use Rattle.mon_poller.specs.Target.{spelled_name}
use Rattle.mon_poller.proofs.asking.spelled.Given as goal

-- the names so far are spelled
abbrev pub invariant-loop-binding : goal.invariant-loop-binding
invariant-loop-binding l = (l.names.items ≡ map (λ b. spelled_name b.name) (take l.binding-index l.bindings))
    × AllByRecursion (λ b. Spells (spelled_name b.name) (Name b.name)) (take l.binding-index l.bindings)
