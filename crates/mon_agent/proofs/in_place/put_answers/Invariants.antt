use Rattle.std.proofs.Common.{◌≡◌, length}
use Rattle.mon_mib.specs.Search.{IsSeenIn, known_in}
use Rattle.mon_agent.specs.InPlace.{IsAnswerOf}
use Rattle.mon_agent.proofs.InPlace.{IsLeft}
use Rattle.mon_agent.proofs.in_place.put_answers.Given as goal

-- what is written for the names that are left completes it
abbrev pub invariant-loop-rest : goal.invariant-loop-rest
invariant-loop-rest g l = record {
  stays : l.search ≡ l.fn.search;
  left : IsLeft (IsAnswerOf (known_in g.D.Device.held l.fn.search) (IsSeenIn l.fn.search) l.fn.frame.kind) l.fn.frame.list.now l.fn.out.items l.rest l.out.items;
}

abbrev pub decreases-loop-rest : goal.decreases-loop-rest
decreases-loop-rest g l = length l.rest
