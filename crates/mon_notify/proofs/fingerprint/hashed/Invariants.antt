use Rattle.std.proofs.Common.{◌≡◌, drop}
use Rattle.mon_notify.specs.Fingerprint.{hashed}
use Rattle.mon_notify.proofs.fingerprint.hashed.Given as goal

abbrev pub invariant-loop-i : goal.invariant-loop-i
invariant-loop-i l = hashed l.hash (drop l.i l.octets) ≡ hashed l.initial.hash l.octets
