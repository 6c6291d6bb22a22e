-- What the clauses of a step say of the moves that it led to. Crates above only cite this file.
use Rattle.std.proofs.Common.{ℕ, ◌≡◌, ◌+◌, ◌∙◌, List, Result, Ok, Err, length, sym, ap, subst, arith}
use Rattle.std.specs.Prelude.{IfErr, IfOk, OnErr, OnOk}
use Rattle.std.proofs.lemmas.List.{length-map}
use Rattle.mon_disk.specs.declared.disk.Disk.{Ghosts}
use Rattle.mon_disk.specs.declared.memory.MemoryDisk.{MemoryDisk}
use Rattle.mon_config.specs.StationCore.{Core}
use Rattle.mon_station.specs.declared.station.Station.{Station}
use Rattle.mon_station.specs.Verdict.{Setting}
use Rattle.mon_world.specs.declared.fault.WorldFault.{WorldFault}
use Rattle.mon_world.specs.declared.sending.Datagram.{Datagram}
use Rattle.mon_world.specs.declared.sending.Sent.{Sent}
use Rattle.mon_world.specs.declared.step.Step.{Step}
use Rattle.mon_world.specs.Fault.{IsCause, IsThere}
use Rattle.mon_world.specs.Moves.{Move, sent_in}
use Rattle.mon_world.specs.Outcome.{IsStepAnswer, IsStepMade, IsStepOutcome}
use Rattle.mon_world.specs.Shows.{LeadsTo, Parcel, Shows, parcel_of, parcel_with}

-- as many datagrams as claims were sent
sent_count : {G : Ghosts MemoryDisk} (core : Core) (stations : List (Station MemoryDisk G)) (sent : List Datagram) (moves : List Move) → Shows core stations sent moves → length sent ≡ length (sent_in moves)
sent_count core stations sent moves shows = sym (length-map sent parcel_of) ∙ ap (λ (l : List Parcel). length l) shows.letters.parcels ∙ length-map (sent_in moves) parcel_with

step_answer : (n was now : ℕ) (past moves : List Move) (step : Step) (result : Result Sent WorldFault) → was ≡ length (sent_in past) → now ≡ length (sent_in moves) → OnOk result (IsThere n was step) → IfErr result (IsCause n was step)
    → IfOk result (λ sent. sent.first ≡ was + 1) → IfOk result (λ sent. was + sent.count ≡ now) → OnErr result (now ≡ was) → IsStepAnswer n past moves step result
step_answer n was now past moves step (Ok sent) before after there cause first count none = record {
  there = subst (λ m. IsThere n m step) before there;
  cause = tt;
  numbers = record { first = omega (arith, before, first); count = omega (arith, before, after, count) };
  none = tt;
}
step_answer n was now past moves step (Err f) before after there cause first count none = record {
  there = tt;
  cause = subst (λ m. IsCause n m step f) before cause;
  numbers = tt;
  none = sym after ∙ none ∙ before;
}

sent_same : (r : Result Sent WorldFault) (old new : List Datagram) → OnErr r (new ≡ old) → OnErr r (length new ≡ length old)
sent_same (Ok sent) old new same = tt
sent_same (Err f) old new same = ap (λ (l : List Datagram). length l) same

-- a step with its answer, from moves to moves
pub step_made : {G : Ghosts MemoryDisk} (core now_core : Core) (settings : ℕ → Setting) (n : ℕ) (stations now_stations : List (Station MemoryDisk G)) (sent now_sent : List Datagram) (step : Step) (result : Result Sent WorldFault) (past : List Move)
    → Shows core stations sent past → LeadsTo now_core now_stations now_sent (λ now. IsStepOutcome settings step result past now) → OnOk result (IsThere n (length sent) step) → IfErr result (IsCause n (length sent) step)
    → IfOk result (λ s. s.first ≡ length sent + 1) → IfOk result (λ s. length sent + s.count ≡ length now_sent) → OnErr result (now_sent ≡ sent)
    → LeadsTo now_core now_stations now_sent (λ now. IsStepMade settings n step result past now)
step_made core now_core settings n stations now_stations sent now_sent step result past shows leads there cause first count none = record {
  now = leads.now;
  shows = leads.shows;
  is = record {
    outcome = leads.is;
    answer = step_answer n (length sent) (length now_sent) past leads.now step result (sent_count core stations sent past shows) (sent_count now_core now_stations now_sent leads.now leads.shows) there cause first count
        (sent_same result sent now_sent none);
  };
}
