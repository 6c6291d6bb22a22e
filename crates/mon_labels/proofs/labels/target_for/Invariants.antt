use Rattle.std.proofs.Common.{◌≡◌, drop}
use Rattle.mon_labels.specs.Given.{target_from}
use Rattle.mon_labels.proofs.labels.target_for.Given as goal

-- the ones so far are not polled for it
abbrev pub invariant-loop-number : goal.invariant-loop-number
invariant-loop-number l = target_from l.instance l.number (drop l.number l.targets) ≡ target_from l.instance 0 l.targets
