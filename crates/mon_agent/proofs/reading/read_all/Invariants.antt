use Rattle.std.proofs.Common.{◌≡◌, length, take, drop}
use Rattle.mon_mib.specs.Search.{IsSeenIn, known_in}
use Rattle.mon_agent.specs.Step.{AreFor, IsGetAnswer}
use Rattle.mon_agent.proofs.reading.read_all.Given as goal

abbrev pub invariant-loop-binding : goal.invariant-loop-binding
invariant-loop-binding g l = record {
  long : length l.binding-items ≡ length l.fn.asked.items;
  done : AreFor (IsGetAnswer (known_in g.D.Device.held l.search) (IsSeenIn l.search))
      (take l.binding-index l.fn.asked.items) (take l.binding-index l.binding-items);
  rest : drop l.binding-index l.binding-items ≡ drop l.binding-index l.fn.asked.items;
}
