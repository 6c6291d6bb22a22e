use Rattle.std.proofs.Common.{◌≡◌, ℕ, ◌<◌, get_or}
use Rattle.std.specs.Prelude.{Some, string_bytes}
use Rattle.mon_udp.specs.declared.addr.Addr.{Addr}
use Rattle.mon_udp.specs.Addr.{addr_of}
use Rattle.mon_survey.specs.declared.options.Peer.{Peer}
use Rattle.mon_survey.proofs.comparing.are_placed.Given as goal

-- they agree so far
abbrev pub invariant-loop-place : goal.invariant-loop-place
invariant-loop-place l = (k : ℕ) (d : Addr) (e : Peer) → k < l.place → addr_of (string_bytes (get_or l.peers k e).address) ≡ Some (get_or l.addresses k d)
