use Rattle.std.proofs.Common.{◌≡◌, ◌++◌, ◌+◌, ℕ, List, length, map, take}
use Rattle.mon_pdu.specs.declared.message.Binding.{Binding}
use Rattle.mon_mib.specs.Search.{IsSeenIn, known_in}
use Rattle.mon_agent.specs.Bulk.{IsStepper, names_of}
use Rattle.mon_agent.proofs.bulk.extend.Given as goal

-- the answers to those so far were added
abbrev pub invariant-loop-binding : goal.invariant-loop-binding
invariant-loop-binding g l = record {
  stays : l.search ≡ l.fn.search;
  head : l.reply.head ≡ l.fn.reply.head;
  max_message_size : l.reply.max_message_size ≡ l.fn.reply.max_message_size;
  long : length l.reply.bindings ≡ length l.fn.reply.bindings + l.binding-index;
  put : ((next : List ℕ → Binding) → IsStepper (known_in g.D.Device.held l.fn.search) (IsSeenIn l.fn.search) next
      → l.reply.bindings ≡ l.fn.reply.bindings ++ map next (names_of (take l.binding-index l.asked)));
}
