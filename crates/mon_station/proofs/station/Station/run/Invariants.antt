use Rattle.std.proofs.Common.{◌≡◌, ◌≤◌, true, vec_capacity}
use Rattle.mon_station.specs.Ran.{HasFailed, failures_after, faults_in}
use Rattle.mon_station.specs.Seen.{seen}
use Rattle.mon_station.specs.Turned.{RanSoFar}
use Rattle.mon_station.proofs.station.Station.run.Given as goal

-- the calls so far
abbrev pub invariant-loop-turn : goal.invariant-loop-turn
invariant-loop-turn g l = record {
  room : l.turns ≤ vec_capacity l.run.answers;
  turns : l.run.turns ≡ l.turn;
  source : g.S.Source.failures l.source ≡ failures_after l.run.source_faults (g.S.Source.failures l.fn.source);
  outbox : HasFailed (g.O.Outbox.failures l.fn.outbox) (g.O.Outbox.failures l.outbox) l.run.send_faults;
  refused : l.run.refused ≡ faults_in l.run.answers.items;
  ran : RanSoFar g.S.Source.gives (seen l.fn.self (g.S.Source.view l.fn.source) (g.O.Outbox.log l.fn.outbox)) (seen l.self (g.S.Source.view l.source) (g.O.Outbox.log l.outbox)) l.run l.last true;
}
