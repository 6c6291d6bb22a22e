use Rattle.std.proofs.Common.{◌≡◌, ◌≤◌, length}
use Rattle.std.specs.Prelude.{All, vec_capacity}
use Rattle.mon_notify.specs.Mail.{IsRoomy}
use Rattle.mon_notify.proofs.outbox.buffers.Given as goal

abbrev pub invariant-loop : goal.invariant-loop
invariant-loop l = (length l.buffers.items ≡ l.counter) × All IsRoomy l.buffers.items × (256 ≤ vec_capacity l.buffers)
