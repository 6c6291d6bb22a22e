use Rattle.std.proofs.Common.{◌≡◌, ◌<◌, ℕ, List, Result, Err, length, refl, sym, subst, ◌∙◌}
use Rattle.mon_station.specs.declared.event.Told.{Told}
use Rattle.mon_station.specs.declared.fault.StationFault.{StationFault}
use Rattle.std.specs.List.{All}
use Rattle.mon_station.specs.State.{state_of}
use Rattle.mon_station.proofs.Handled.{only_polls, response_memory_stays, response_refused, response_taken}
use Rattle.mon_station.proofs.life.Life.from_agent.Goals as goal

pub take_pairs-requires-clause-instances : goal.take_pairs-requires-clause-instances
take_pairs-requires-clause-instances c =
    let s = c.args.self.now in
    let n = length s.board.watch.instances in
    let r = c.in-Ok.ensures.read in
    subst (λ (l : List (ℕ × ℕ)). All (λ pair. pair.0 < n) l) (sym c.as_slice.ensures)
    (c.offered.ensures n s.poller.targets s.poller.polls.open_polls c.args.from r.0 c.in-Ok.offered s.watched (c.in-Ok.ensures.verdict r.0 r.1))

pub returns-in-Ok-clause-answered : goal.returns-in-Ok-clause-answered
returns-in-Ok-clause-answered c = λ r reads.
    let taken = c.take_pairs.ensures in
    response_taken (state_of c.args.self.now) c.settled.ensures.settled c.args.from r c.in-Ok.offered _ c.take_pairs.new.board _ c.as_slice.result.now
    (c.in-Ok.ensures.verdict r reads) (c.in-Ok.ensures.polls r reads) c.as_slice.ensures taken.watch taken.windows taken.marks refl c.new.ensures.items refl refl refl

pub returns-in-Err-clause-answered : goal.returns-in-Err-clause-answered
returns-in-Err-clause-answered c = λ r reads.
    response_refused (state_of c.args.self.now) c.settled.ensures.settled c.args.from r c.in-Err.fault c.from.result _ c.from.ensures (c.in-Err.ensures.polls r reads) (c.in-Err.ensures.verdict r reads)

pub returns-in-Err-clause-refused : goal.returns-in-Err-clause-refused
returns-in-Err-clause-refused c =
    let r = c.in-Err.ensures.read in
    only_polls (state_of c.args.self.now) _ _ (c.in-Err.ensures.polls r.0 r.1)

pub returns-in-Err-clause-memory : goal.returns-in-Err-clause-memory
returns-in-Err-clause-memory c = λ out.
    let r = c.in-Err.ensures.read in
    response_memory_stays (state_of c.args.self.now) r.0 c.in-Err.fault _ (c.in-Err.ensures.polls r.0 r.1) (sym c.from.ensures ∙ fault_of out)
  where
    fault_of : {f g : StationFault} → (let x : Result Told StationFault = Err f in x ≡ Err g) → f ≡ g
    fault_of e = cc
