use Rattle.std.proofs.Common.{◌≡◌, List, length, take, drop}
use Rattle.mon_pdu.specs.declared.message.Binding.{Binding}
use Rattle.mon_pdu.specs.Writing.{list_contents}
use Rattle.mon_mib.specs.Search.{IsSeenIn, known_in}
use Rattle.mon_agent.proofs.Filling.{IsSoFar}
use Rattle.mon_agent.proofs.bulk_in_place.put_round.Given as goal

-- those so far are answered, and the others are still to answer
abbrev pub invariant-loop-name : goal.invariant-loop-name
invariant-loop-name g l = record {
  stays : l.search ≡ l.fn.search;
  long : length l.names ≡ length l.fn.names;
  rest : drop l.name-index l.names ≡ drop l.name-index l.fn.names;
  put : ((before : List Binding) → l.fn.list.items ≡ list_contents before
      → IsSoFar (known_in g.D.Device.held l.fn.search) (IsSeenIn l.fn.search) before (take l.name-index l.fn.names) (take l.name-index l.names) l.all_end l.list.items);
}
