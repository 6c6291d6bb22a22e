-- What a watch holds.
use Rattle.std.specs.Prelude.{ℕ, List, length, map, slice_index_or}
use Rattle.mon_alarms.specs.Rule.{Rule}
use Rattle.mon_board.specs.declared.instance.Watched.{Watched}
use Rattle.mon_board.specs.Instance.{AreInstances, AreSized}
use Rattle.mon_board.specs.RuleOrder.{AreRules}

-- the instances, and the alarm rules on them
pub record Watch : Type 0 where
  pub instances : List Watched
  pub rules : List Rule

-- 1 to 256 rising instances, each with sizes that a window may have, and at most 256 rising rules
-- on them
pub record IsWatch (w : Watch) : Type 0 where
  pub sized : AreSized w.instances
  pub listed : AreInstances w.instances
  pub ruled : AreRules (length w.instances) w.rules

-- how many samples the window of the instance of this number holds; of no instance, none
abbrev pub size_of : Watch → ℕ → ℕ
size_of watch i = slice_index_or (map (λ w. w.window) watch.instances) i 0

-- how many of these may have one boots number
abbrev pub epoch_of : Watch → ℕ → ℕ
epoch_of watch i = slice_index_or (map (λ w. w.epoch) watch.instances) i 0
