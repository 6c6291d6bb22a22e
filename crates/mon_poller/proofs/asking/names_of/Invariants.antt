use Rattle.std.proofs.Common.{◌≡◌, take, map}
use Rattle.mon_poller.proofs.asking.names_of.Given as goal

-- the names so far
abbrev pub invariant-loop-binding : goal.invariant-loop-binding
invariant-loop-binding l = l.names.items ≡ map (λ b. b.name) (take l.binding-index l.bindings)
