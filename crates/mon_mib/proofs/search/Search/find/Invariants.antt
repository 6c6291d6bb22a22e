use Rattle.std.proofs.Common.{◌≡◌, take, ◌+◌}
use Rattle.std.specs.Prelude.{None}
use Rattle.mon_mib.specs.Next.{IsNext}
use Rattle.mon_mib.specs.Objects.{objects}
use Rattle.mon_mib.specs.Search.{IsSeenIn, known_in}
use Rattle.mon_mib.proofs.search.Search.find.Given as goal

-- no earlier object has a variable that is searched for
abbrev pub invariant-loop-object : goal.invariant-loop-object
invariant-loop-object g l = record {
  stays : l.self ≡ l.fn.self;
  none : IsNext (take (l.place + l.object-index) objects) (known_in g.D.Device.held l.fn.self) (IsSeenIn l.fn.self) l.name None;
}
