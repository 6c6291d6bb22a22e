use Rattle.std.proofs.Common.{◌≡◌, ◌++◌, ◌-◌, ◌≤◌, ℕ, List, length}
use Rattle.mon_pdu.specs.declared.message.Binding.{Binding}
use Rattle.mon_mib.specs.Search.{IsSeenIn, known_in}
use Rattle.mon_agent.specs.Bulk.{IsStepper}
use Rattle.mon_agent.specs.ResponseBuilder.{last, more_rounds}
use Rattle.mon_agent.proofs.bulk.repeat_all.Given as goal

-- what was still missing at first is what was added, and then what must be added to that
abbrev pub invariant-loop : goal.invariant-loop
invariant-loop g l = record {
  stays : l.search ≡ l.fn.search;
  head : l.reply.head ≡ l.fn.reply.head;
  max_message_size : l.reply.max_message_size ≡ l.fn.reply.max_message_size;
  wide : l.width ≤ length l.reply.bindings;
  put : ((next : List ℕ → Binding) → IsStepper (known_in g.D.Device.held l.fn.search) (IsSeenIn l.fn.search) next
      → l.fn.reply.bindings ++ more_rounds next l.rounds (last l.width l.fn.reply.bindings)
      ≡ l.reply.bindings ++ more_rounds next (l.rounds - l.counter) (last l.width l.reply.bindings));
}
