use Rattle.std.proofs.Common.{ℕ, ◌∙◌, List, Some, length, ap, sym}
use Rattle.mon_station.specs.State.{State}
use Rattle.mon_world.specs.Moves.{Move}
use Rattle.mon_world.specs.Shows.{OweTruly}
use Rattle.mon_world.proofs.world.World.debts.Goals as goal

-- what is true of states is true of fewer of them
fewer : (IsAt Other : ℕ → State → Type 0) (moves : List Move) → ((x : ℕ) (s : State) → Other x s → IsAt x s) → OweTruly IsAt moves → OweTruly Other moves
fewer IsAt Other moves at truly = record {
  paid = λ x y s t here there. truly.paid x y s t (at x s here) (at y t there);
  equal = λ x y s t here there. truly.equal x y s t (at x s here) (at y t there);
  reports = λ x y s t here there. truly.reports x y s t (at x s here) (at y t there);
  offered = λ x s here. truly.offered x s (at x s here);
}

pub returns-clause-stations : goal.returns-clause-stations
returns-clause-stations c moves shows unforged =
    fewer _ _ moves (λ x s here. (shows.shown.stand x here.0 here.1).state ∙ ap (λ (o : State). Some o) (sym here.2))
    (c.debts.ensures.states c.args.self.now.core (length c.args.self.now.stations.items) moves c.watch.ensures.whole shows.shown.are unforged)

pub returns-clause-states : goal.returns-clause-states
returns-clause-states c moves shows unforged = c.debts.ensures.states c.args.self.now.core (length c.args.self.now.stations.items) moves c.watch.ensures.whole shows.shown.are unforged
