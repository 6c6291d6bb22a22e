use Rattle.std.proofs.Common.{◌≡◌, ◌++◌, drop, map}
use Rattle.mon_labels.specs.Given.{given, given_from}
use Rattle.mon_labels.proofs.labels.Labels.of_instances.Given as goal

-- those so far, and those of the instances that are left, are all
abbrev pub invariant-loop-place : goal.invariant-loop-place
invariant-loop-place l =
    map given l.all.items ++ given_from l.self.interfaces.items l.reached.targets.now l.reached.addresses.now l.reached.devices.now l.place (drop l.place l.instances)
    ≡ given_from l.self.interfaces.items l.reached.targets.now l.reached.addresses.now l.reached.devices.now 0 l.instances
