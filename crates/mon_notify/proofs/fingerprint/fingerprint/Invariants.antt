use Rattle.std.proofs.Common.{◌≡◌, drop, map}
use Rattle.mon_notify.specs.Fingerprint.{fingerprint, labels_hashed}
use Rattle.mon_notify.specs.Labels.{pair_of}
use Rattle.mon_notify.proofs.fingerprint.fingerprint.Given as goal

abbrev pub invariant-loop-i : goal.invariant-loop-i
invariant-loop-i l = labels_hashed l.hash (map pair_of (drop l.i l.labels)) ≡ fingerprint (map pair_of l.labels)
