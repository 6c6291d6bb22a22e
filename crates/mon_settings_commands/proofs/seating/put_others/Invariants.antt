use Rattle.std.proofs.Common.{◌≡◌, ◌++◌, map}
use Rattle.mon_settings_commands.specs.Seats.{others_of, peer_at}
use Rattle.mon_settings_commands.proofs.seating.put_others.Given as goal

-- the peers among the stations so far were appended
abbrev pub invariant-loop-station : goal.invariant-loop-station
invariant-loop-station l = map peer_at l.peers.items ≡ map peer_at l.fn.peers.items ++ others_of l.seat l.station
