use Rattle.std.proofs.Common.{◌≡◌, ◌<◌, ℕ, [], length, get_or}
use Rattle.mon_poller.specs.Target.{IsAsked, SpellNames, poll_names, target_at}
use Rattle.mon_poller.proofs.asked.PolledTargets.new.Given as goal

-- what the targets so far are asked for is written, and their names are spelled
abbrev pub invariant-loop-target : goal.invariant-loop-target
invariant-loop-target l = (length l.lists.items ≡ l.target-index) × ((k : ℕ) → k < length l.lists.items → IsAsked (target_at l.fn.targets.items k) (get_or l.lists.items k []))
    × (length l.names.items ≡ l.target-index) × ((k : ℕ) → k < length l.names.items → SpellNames (get_or l.names.items k []) (poll_names (target_at l.fn.targets.items k)))
