use Rattle.std.proofs.Common.{◌≡◌, ◌≤◌, ◌+◌, ◌++◌, length, vec_len, vec_capacity}
use Rattle.mon_world.specs.Sending.{to_peers}
use Rattle.mon_world.proofs.sending.append.Given as goal

abbrev pub invariant-loop-send : goal.invariant-loop-send
invariant-loop-send l = record {
  parts : l.sent.items ++ to_peers l.send-iterator.rest.items ≡ l.initial.sent.items ++ to_peers l.fn.sends.items;
  room : vec_len l.sent + length l.send-iterator.rest.items ≤ vec_capacity l.sent;
  before : l.before ≡ vec_len l.initial.sent;
  longer : vec_len l.initial.sent ≤ vec_len l.sent;
}
