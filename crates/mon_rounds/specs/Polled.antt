-- Which target is polled for an instance.
use Rattle.std.specs.Prelude.{ℕ, ◌+◌, Bool, ◌==◌, if◌then◌else◌, List, [], ◌∷◌, Option, Some, None}
use Rattle.std.specs.List.{list_any}
use Rattle.mon_config.specs.StationCore.{Core}
use Rattle.mon_poller.specs.declared.target.Target.{Target}
use Rattle.mon_rounds.specs.Freshness.{numbered}

-- whether a target is polled for the instance of this number
abbrev pub polls : ℕ → Target → Bool
polls instance t = list_any (λ o. o.instance == instance) t.objects

-- the number of the first target that is polled for the instance of this number, of targets with
-- numbers from this one on
abbrev pub target_from : ℕ → ℕ → List Target → Option ℕ
target_from instance n [] = None
target_from instance n (t ∷ targets) = if polls instance t then Some n
    else target_from instance (n + 1) targets

-- the number of the first target that is polled for the instance of this number
abbrev pub target_for : List Target → ℕ → Option ℕ
target_for targets instance = target_from instance 0 targets

-- of each instance of a core's watch, the number of the target that is polled for it
abbrev pub polled_targets : Core → List (Option ℕ)
polled_targets core = numbered (λ number watched. target_for core.targets number) 0
    core.watch.instances
