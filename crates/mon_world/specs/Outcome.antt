-- What a step of a world does: the moves that it adds.
use Rattle.std.specs.Prelude.{ℕ, zero, suc, ◌≡◌, ◌+◌, ◌-◌, Bool, true, false, nat_lt, ◌&&◌}
use Rattle.std.specs.Prelude.{if◌then◌else◌, List, [], ◌∷◌, Option, Some, None, Result, Ok, Err}
use Rattle.std.specs.Prelude.{All, IfErr, IfOk, OnErr, OnOk, length}
use Rattle.mon_disk.specs.declared.fault.KeeperFault.TheVariants as keeper
use Rattle.mon_exchange.specs.Claim.{claim_octets}
use Rattle.mon_udp.specs.declared.addr.Addr.{Addr}
use Rattle.mon_poller.specs.declared.target.Target.{Target}
use Rattle.mon_poller.specs.Target.{target_at}
use Rattle.mon_station.specs.declared.fault.StationFault.{StationFault}
use Rattle.mon_station.specs.declared.fault.StationFault.TheVariants as fault
use Rattle.mon_station.specs.ReadEvent.{ReadEvent, ReadsAs, OwnedEvent}
use Rattle.mon_station.specs.declared.event.Event.TheVariants.{Save, StartPoll, Timeout, FromAgent}
use Rattle.mon_station.specs.declared.event.Event.TheVariants.{FromPeer, Share}
use Rattle.mon_station.specs.State.{State}
use Rattle.mon_station.specs.Taken.{Entry, Origin, Nothing, Saved, Restart, Answered}
use Rattle.mon_station.specs.Verdict.{Setting}
use Rattle.mon_world.specs.declared.fault.WorldFault.{WorldFault}
use Rattle.mon_world.specs.declared.sending.Sent.{Sent}
use Rattle.mon_world.specs.declared.step.Step.{Step}
use Rattle.mon_world.specs.declared.step.Step.TheVariants as step
use Rattle.mon_world.specs.Fault.{IsCause, IsThere, refusal_in}
use Rattle.mon_world.specs.Moves.{MayFind, Move, Letter, lives_of, sent_in}
use Rattle.mon_world.specs.Places.{HasNumber, IsNumberTo, IsNoNumberTo}

-- ---- moves
-- station x was given an event, and this is its answer and what it left
abbrev pub answers : ℕ → ReadEvent → Option StationFault → State → Move
answers x e answer s = record { station = x; entry = Answered e answer; after = s }

-- station x started a life of this setting from there, which is now so
abbrev pub life_begins : ℕ → Origin → Setting → State → Move
life_begins x origin w s = record { station = x; entry = Restart origin w; after = s }

-- the first lives of stations, from this number on
abbrev pub first_lives : (ℕ → Setting) → ℕ → List State → List Move
first_lives settings x [] = []
first_lives settings x (s ∷ states) = life_begins x Nothing (settings x) s
    ∷ first_lives settings (x + 1) states

-- ---- what is handed to stations
-- the number by which a station knows the target of this number, counted from 1; there is none of
-- number 65535
abbrev pub target_number : ℕ → ℕ
target_number t = if nat_lt 0 t && nat_lt t 65536 then t - 1 else 65535

-- the address of the target of this number, counted from 1, or an address of no target if there is
-- no such target
pub record IsSpeaker (targets : List Target) (t : ℕ) (from : Addr) : Type 0 where
  pub target : IsNumberTo (length targets) t → from ≡ (target_at targets (t - 1)).address
  pub stranger : IsNoNumberTo (length targets) t → All (λ target. ¬ (target.address ≡ from)) targets

-- station x is handed this event: it answers what it reads in it, by its own rules
pub record Hands (w : Setting) (x : ℕ) (event : OwnedEvent) (answer : Option StationFault)
    (past now : List Move) : Type 0 where
  pub read : ReadEvent
  pub reads : ReadsAs w.watch event read
  pub after : State
  pub is : now ≡ answers x read answer after ∷ past

-- station x is opened again: a new life begins, or the station runs on as it was
abbrev pub Opens : (settings : ℕ → Setting) → ℕ → Option StationFault → List Move → List Move
    → Type 0
Opens settings x None past now = (origin : Origin) × (s : State)
    × (now ≡ life_begins x origin (settings x) s ∷ past)
Opens settings x (Some f) past now = now ≡ past

-- the calls of a save after which an opening finds it: all but the last sync where what was written
-- stays, and else all six
abbrev pub calls_of_save : Bool → ℕ
calls_of_save true = 5
calls_of_save false = 6

-- From where a life begins after these lives and a save that was stopped: where that was too early,
-- from a save that an opening may find without it, and else from that save.
abbrev pub IsStopOrigin : (early : Bool) → List (Entry × State) → Origin → Type 0
IsStopOrigin true lives (Saved (suc later)) = MayFind lives later
IsStopOrigin false lives (Saved zero) = Unit {0}
IsStopOrigin early lives origin = ⊥

-- station x stops within a save after this many calls of the disk, of which what was written since
-- the last sync stays or is lost, and is opened again; the save met the disk's fault
pub record Stops (w : Setting) (x calls : ℕ) (keep : Bool) (past now : List Move) : Type 0 where
  pub running : State
  pub origin : Origin
  pub after : State
  pub is : now ≡ life_begins x origin w after ∷ answers x Save
      (Some (fault.Keeper keeper.DiskFault)) running ∷ past
  pub from : IsStopOrigin (nat_lt calls (calls_of_save keep)) (lives_of x past) origin

-- station x stops within a save and is opened again, or it runs on as it was
abbrev pub StopsAndOpens : (settings : ℕ → Setting) → (x calls : ℕ) → (keep : Bool)
    → Option StationFault → List Move → List Move → Type 0
StopsAndOpens settings x calls keep None past now = Stops (settings x) x calls keep past now
StopsAndOpens settings x calls keep (Some f) past now = now ≡ past

-- station x receives octets from the address of the target of this number, or from a strange one
pub record Hears (w : Setting) (x t : ℕ) (octets : List ℕ) (answer : Option StationFault)
    (past now : List Move) : Type 0 where
  pub from : Addr
  pub speaks : IsSpeaker w.targets t from
  pub hands : Hands w x (FromAgent from octets) answer past now

-- the datagram of this number comes to the station that it was sent to
pub record Delivers (settings : ℕ → Setting) (d : ℕ) (answer : Option StationFault)
    (past now : List Move) : Type 0 where
  pub letter : Letter
  pub there : HasNumber (sent_in past) d letter
  pub hands : Hands (settings letter.to) letter.to (FromPeer (claim_octets letter.claim)) answer
      past now

-- what a step does to which the station gives this answer
abbrev pub Makes : (ℕ → Setting) → Step → Option StationFault → List Move → List Move → Type 0
Makes settings (step.StartPoll s t) = Hands (settings s) s (StartPoll (target_number t))
Makes settings (step.AgentSays s t octets) = Hears (settings s) s t octets.now
Makes settings (step.Timeout s id) = Hands (settings s) s (Timeout id)
Makes settings (step.Share s peer) = Hands (settings s) s (Share peer)
Makes settings (step.Deliver d) = Delivers settings d
Makes settings (step.Save s) = Hands (settings s) s Save
Makes settings (step.Restart s) = Opens settings s
Makes settings (step.Forge s octets) = Hands (settings s) s (FromPeer octets.now)
Makes settings (step.Stop s calls keep) = StopsAndOpens settings s calls keep

-- what follows of an answer: nothing where no station gave one
abbrev pub DoesOr : (Option StationFault → List Move → List Move → Type 0) → Option StationFault
    → List Move → List Move → Type 0
DoesOr makes None past now = now ≡ past
DoesOr makes (Some f) past now = makes (Some f) past now

-- what follows of a result: nothing where what a step names is not there, or memory was refused
abbrev pub Does : (Option StationFault → List Move → List Move → Type 0) → Result Sent WorldFault
    → List Move → List Move → Type 0
Does makes (Ok sent) past now = makes None past now
Does makes (Err f) past now = DoesOr makes (refusal_in f) past now

-- a step forges no claim
abbrev pub IsUnforged : Step → Type 0
IsUnforged (step.Forge s octets) = ⊥
IsUnforged step = Unit {0}

-- what a step with this result does
abbrev pub IsStepOutcome : (ℕ → Setting) → Step → Result Sent WorldFault → List Move → List Move
    → Type 0
IsStepOutcome settings step result past now = Does (Makes settings step) result past now

-- the numbers of the datagrams between stations that were sent between two lists of moves
pub record AreNumbers (past now : List Move) (sent : Sent) : Type 0 where
  pub first : sent.first ≡ length (sent_in past) + 1
  pub count : length (sent_in past) + sent.count ≡ length (sent_in now)

-- Of this many stations, a step that led from moves to moves is answered so: what it names is there
-- and its numbers are those of the datagrams that it sent, or its fault has its cause and it sent
-- none.
pub record IsStepAnswer (stations : ℕ) (past now : List Move) (step : Step)
    (result : Result Sent WorldFault) : Type 0 where
  pub there : OnOk result (IsThere stations (length (sent_in past)) step)
  pub cause : IfErr result (IsCause stations (length (sent_in past)) step)
  pub numbers : IfOk result (AreNumbers past now)
  pub none : OnErr result (length (sent_in now) ≡ length (sent_in past))

-- of this many stations with these settings, a step with this result leads from moves to moves
pub record IsStepMade (settings : ℕ → Setting) (stations : ℕ) (step : Step)
    (result : Result Sent WorldFault) (past now : List Move) : Type 0 where
  pub outcome : IsStepOutcome settings step result past now
  pub answer : IsStepAnswer stations past now step result

-- what steps with these results do, the first first
abbrev pub AreStepOutcomes : (settings : ℕ → Setting) → (stations : ℕ) → List Step
    → List (Result Sent WorldFault) → List Move → List Move → Type 0
AreStepOutcomes settings n [] [] past now = now ≡ past
AreStepOutcomes settings n (s ∷ steps) (r ∷ results) past now = (middle : List Move)
    × IsStepMade settings n s r past middle × AreStepOutcomes settings n steps results middle now
AreStepOutcomes settings n steps results past now = ⊥
