use Rattle.std.proofs.Common.{◌≡◌, take}
use Rattle.mon_rounds.specs.Noted.{heard_of}
use Rattle.mon_rounds.proofs.reporting.heard_of.Given as goal

-- those so far
abbrev pub invariant-loop-address : goal.invariant-loop-address
invariant-loop-address l = l.heard.items ≡ heard_of (take l.address-index l.peers) l.events
