use Rattle.std.proofs.Common.{◌≡◌, drop}
use Rattle.std.specs.List.{find}
use Rattle.mon_notify.specs.Texts.{has_address}
use Rattle.mon_notify.proofs.devices.device_at.Given as goal

-- none of the instances so far has the address
abbrev pub invariant-loop-known : goal.invariant-loop-known
invariant-loop-known l = find (has_address l.address) l.labels ≡ find (has_address l.address) (drop l.known-index l.labels)
