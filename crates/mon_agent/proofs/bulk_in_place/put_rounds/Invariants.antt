use Rattle.std.proofs.Common.{◌≡◌, ◌-◌, ◌++◌, List}
use Rattle.mon_pdu.specs.declared.message.Binding.{Binding}
use Rattle.mon_pdu.specs.Writing.{list_contents}
use Rattle.mon_mib.specs.Search.{IsSeenIn, known_in}
use Rattle.mon_agent.specs.Bulk.{rounds}
use Rattle.mon_agent.proofs.Filling.{IsUnfilled}
use Rattle.mon_agent.proofs.bulk_in_place.put_rounds.Given as goal

-- those rounds were put that are not still to put
abbrev pub invariant-loop : goal.invariant-loop
invariant-loop g l = record {
  stays : l.search ≡ l.fn.search;
  put : ((before : List Binding) → l.fn.list.items ≡ list_contents before
      → IsUnfilled (known_in g.D.Device.held l.fn.search) (IsSeenIn l.fn.search) (λ next. before ++ rounds next l.fn.plan.rounds l.fn.names) (l.fn.plan.rounds - l.counter) l.names l.list.items);
}
