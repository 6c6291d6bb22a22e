use Rattle.std.proofs.Common.{◌≡◌, ℕ, take}
use Rattle.mon_udp.specs.Told.{extended}
use Rattle.mon_station.specs.Ran.{HasFailed}
use Rattle.mon_station.proofs.running.hand.Given as goal

-- the datagrams so far were handed
abbrev pub invariant-loop-out : goal.invariant-loop-out
invariant-loop-out g l = record {
  handed : g.O.Outbox.log l.outbox ≡ extended (g.O.Outbox.log l.fn.outbox) (take l.out-index l.sends);
  failed : (first : ℕ) → HasFailed first (g.O.Outbox.failures l.fn.outbox) l.fn.send_faults → HasFailed first (g.O.Outbox.failures l.outbox) l.send_faults;
}
