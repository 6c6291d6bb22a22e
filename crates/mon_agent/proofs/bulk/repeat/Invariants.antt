use Rattle.std.proofs.Common.{◌≡◌, ◌++◌, ◌≤◌, ℕ, List, length, map, take}
use Rattle.mon_pdu.specs.declared.message.Binding.{Binding}
use Rattle.mon_mib.specs.Search.{IsSeenIn, known_in}
use Rattle.mon_agent.specs.Bulk.{IsStepper, names_of}
use Rattle.mon_agent.specs.ResponseBuilder.{last}
use Rattle.mon_agent.proofs.bulk.repeat.Given as goal

-- the answers to those so far of the round before were added
abbrev pub invariant-loop : goal.invariant-loop
invariant-loop g l = record {
  stays : l.search ≡ l.fn.search;
  head : l.reply.head ≡ l.fn.reply.head;
  max_message_size : l.reply.max_message_size ≡ l.fn.reply.max_message_size;
  wide : l.width ≤ length l.reply.bindings;
  put : ((next : List ℕ → Binding) → IsStepper (known_in g.D.Device.held l.fn.search) (IsSeenIn l.fn.search) next
      → l.reply.bindings ≡ l.fn.reply.bindings ++ map next (names_of (take l.counter (last l.width l.fn.reply.bindings))));
}
