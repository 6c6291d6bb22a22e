-- Steps and their results, one after another.
use Rattle.std.proofs.Common.{ℕ, ◌≡◌, ◌+◌, ◌∙◌, List, [], ◌∷◌, ◌++◌, Result, Ok, Err, length, ap, refl, sym, subst, arith}
use Rattle.std.specs.Prelude.{IfErr, IfOk, OnErr, OnOk}
use Rattle.mon_disk.specs.declared.disk.Disk.{Ghosts}
use Rattle.mon_disk.specs.declared.memory.MemoryDisk.{MemoryDisk}
use Rattle.mon_config.specs.StationCore.{Core}
use Rattle.mon_station.specs.declared.station.Station.{Station}
use Rattle.mon_station.specs.Verdict.{Setting}
use Rattle.mon_world.specs.declared.fault.WorldFault.{WorldFault}
use Rattle.mon_world.specs.declared.sending.Datagram.{Datagram}
use Rattle.mon_world.specs.declared.sending.Sent.{Sent}
use Rattle.mon_world.specs.declared.step.Step.{Step}
use Rattle.mon_world.specs.Fault.{IsCause, IsThere}
use Rattle.mon_world.specs.Moves.{Move}
use Rattle.mon_world.specs.Outcome.{AreStepOutcomes, IsStepMade, IsStepOutcome}
use Rattle.mon_world.specs.Shows.{LeadsTo, Shows}

-- the step is known
pub outcome_of : {G : Ghosts MemoryDisk} (core : Core) (stations : List (Station MemoryDisk G)) (sent : List Datagram) (settings : ℕ → Setting) (step known : Step) (result : Result Sent WorldFault) (past : List Move)
    → step ≡ known → LeadsTo core stations sent (λ now. IsStepOutcome settings known result past now) → LeadsTo core stations sent (λ now. IsStepOutcome settings step result past now)
outcome_of core stations sent settings step known result past is leads = subst (λ s. LeadsTo core stations sent (λ now. IsStepOutcome settings s result past now)) (sym is) leads

-- one step more
outcomes_more : (settings : ℕ → Setting) (n : ℕ) (steps : List Step) (results : List (Result Sent WorldFault)) (step : Step) (result : Result Sent WorldFault) (past middle now : List Move)
    → AreStepOutcomes settings n steps results past middle → IsStepMade settings n step result middle now → AreStepOutcomes settings n (steps ++ step ∷ []) (results ++ result ∷ []) past now
outcomes_more settings n [] [] step result past middle now is one = (now, subst (λ m. IsStepMade settings n step result m now) is one, refl)
outcomes_more settings n [] (r ∷ results) step result past middle now is one = absurd is
outcomes_more settings n (s ∷ steps) [] step result past middle now is one = absurd is
outcomes_more settings n (s ∷ steps) (r ∷ results) step result past middle now is one = (is.0, is.1, outcomes_more settings n steps results step result is.0 middle now is.2 one)

pub outcomes_step : {G : Ghosts MemoryDisk} (core core_middle core_now : Core) (settings settings_middle : ℕ → Setting) (n n_middle : ℕ) (middle_stations now_stations : List (Station MemoryDisk G)) (middle_sent now_sent : List Datagram) (steps more : List Step)
    (results grown : List (Result Sent WorldFault)) (step : Step) (result : Result Sent WorldFault) (past : List Move) → more ≡ steps ++ step ∷ [] → grown ≡ results ++ result ∷ [] → settings_middle ≡ settings → n_middle ≡ n
    → LeadsTo core_middle middle_stations middle_sent (λ now. AreStepOutcomes settings n steps results past now)
    → ((middle : List Move) → Shows core_middle middle_stations middle_sent middle → LeadsTo core_now now_stations now_sent (λ now. IsStepMade settings_middle n_middle step result middle now))
    → LeadsTo core_now now_stations now_sent (λ now. AreStepOutcomes settings n more grown past now)
outcomes_step core core_middle core_now settings settings_middle n n_middle middle_stations now_stations middle_sent now_sent steps more results grown step result past is_more is_grown same same_n were next =
    let leads = next were.now were.shows in
    record {
      now = leads.now;
      shows = leads.shows;
      is = subst (λ (ss : List Step). AreStepOutcomes settings n ss grown past leads.now) (sym is_more)
          (subst (λ (rs : List (Result Sent WorldFault)). AreStepOutcomes settings n (steps ++ step ∷ []) rs past leads.now) (sym is_grown)
          (outcomes_more settings n steps results step result past were.now leads.now were.is
          (subst (λ m. IsStepMade settings m step result were.now leads.now) same_n (subst (λ (w : ℕ → Setting). IsStepMade w n_middle step result were.now leads.now) same leads.is))));
    }

-- what a step names, and its cause, by the kind of the step
pub there_of : (stations datagrams : ℕ) (entry step : Step) (result : Result Sent WorldFault) → entry ≡ step → OnOk result (IsThere stations datagrams step) → OnOk result (IsThere stations datagrams entry)
there_of stations datagrams entry step result is there = subst (λ (s : Step). OnOk result (IsThere stations datagrams s)) (sym is) there

pub cause_of : (stations datagrams : ℕ) (entry step : Step) (result : Result Sent WorldFault) → entry ≡ step → IfErr result (IsCause stations datagrams step) → IfErr result (IsCause stations datagrams entry)
cause_of stations datagrams entry step result is cause = subst (λ (s : Step). IfErr result (IsCause stations datagrams s)) (sym is) cause

add_nothing : (n : ℕ) → n + 0 ≡ n
add_nothing n = omega arith

-- a step that sends nothing
pub none_sent : (old new : List Datagram) (result : Result Sent WorldFault) → new ≡ old → IfOk result (λ sent. sent.count ≡ 0) → IfOk result (λ sent. length old + sent.count ≡ length new)
none_sent old new (Ok sent) same none = (λ i. length old + none i) ∙ add_nothing (length old) ∙ ap length (sym same)
none_sent old new (Err f) same none = tt

pub stay_on : (old new : List Datagram) (result : Result Sent WorldFault) → new ≡ old → OnErr result (new ≡ old)
stay_on old new (Ok sent) same = tt
stay_on old new (Err f) same = same
