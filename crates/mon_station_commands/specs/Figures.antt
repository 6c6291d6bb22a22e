-- What a running station says of itself.
use Rattle.std.specs.Prelude.{◌≡◌, ℕ, zero, suc, ◌+◌, Bool, List, [], ◌∷◌, ◌++◌, Option, Some, None}
use Rattle.std.specs.Prelude.{is_some, map, length, slice_get, string_bytes}
use Rattle.std.specs.Global.{Vec}
use Rattle.mon_page.specs.declared.figures.Figures.{Figures}
use Rattle.mon_page.specs.declared.figures.PeerFigures.{PeerFigures}
use Rattle.mon_page.specs.declared.figures.TargetFigures.{TargetFigures}
use Rattle.mon_rounds.specs.Changes.{is_lost}
use Rattle.mon_rounds.specs.Totals.{debts_to}
use Rattle.mon_rounds.specs.Freshness.{seconds_since}
use Rattle.mon_rounds.specs.declared.totals.Totals.{Totals}
use Rattle.mon_rounds.specs.declared.freshness.Freshness.{Freshness}
use Rattle.mon_rounds.specs.declared.freshness.InstanceAge.{InstanceAge}
use Rattle.mon_rounds.specs.declared.freshness.PeerAge.{PeerAge}
use Rattle.mon_rounds.specs.declared.freshness.TargetAge.{TargetAge}
use Rattle.mon_station.specs.State.{State}
use Rattle.mon_station_commands.specs.declared.live.Reports.{Reports}
use Rattle.mon_udp.specs.Addr.{addr_text}

-- what is said of a target, except its engine id; `refused` says whether a reason is given
pub record Said : Type 0 where
  pub number : ℕ
  pub address : List ℕ
  pub up : Bool
  pub rounds : ℕ
  pub seconds : ℕ
  pub given_up : ℕ
  pub refused : Bool

-- what must be said of a target at a time, in milliseconds since the station's start
abbrev pub said_of : ℕ → TargetAge → Said
said_of now t = record {
  number = t.number + 1;
  address = addr_text t.address;
  up = t.up;
  rounds = t.rounds;
  seconds = seconds_since now t;
  given_up = t.given_up;
  refused = is_some t.refusal;
}

-- what the figures of a target say of it
abbrev pub said_in : TargetFigures → Said
said_in f = record {
  number = f.number;
  address = string_bytes f.address;
  up = f.up;
  rounds = f.rounds;
  seconds = f.seconds;
  given_up = f.given_up;
  refused = is_some f.refusal;
}

-- the engine id in the figures of a target
abbrev pub engine_in : TargetFigures → List ℕ
engine_in f = f.engine.items

-- the octets of an engine id that may be there
abbrev pub engine_or_none : Option (Vec ℕ) → List ℕ
engine_or_none None = []
engine_or_none (Some engine) = engine.items

-- the engine id at a place, none if the list is shorter
abbrev pub engine_at : List (Vec ℕ) → ℕ → List ℕ
engine_at engines place = engine_or_none (slice_get engines place)

-- the engine ids of the first n targets
abbrev pub engines_for : ℕ → List (Vec ℕ) → List (List ℕ)
engines_for zero engines = []
engines_for (suc n) engines = engines_for n engines ++ (engine_at engines n ∷ [])

-- what is said of a peer, which is silent after this many rounds without a datagram
abbrev pub peer_of : (limit : ℕ) → PeerAge → PeerFigures
peer_of limit p = record { station = p.station; rounds = p.rounds; silent = is_lost limit p }

-- The figures are those of a station with this state, of what it did and received since its start,
-- with these peers and engine ids of targets, at this time in milliseconds since its start. Its
-- last round ended at `round_at`, in seconds since 1970.
pub record AreFigures (state : State) (course : Totals) (fresh : Freshness) (peers : List ℕ)
    (engines : List (Vec ℕ)) (now : ℕ) (round_at : Option ℕ) (reports : Reports) (f : Figures)
    : Type 0 where
  pub station : f.station ≡ reports.station
  pub at : f.round_at ≡ round_at
  pub incarnation : f.incarnation ≡ state.incarnation
  pub taken : f.taken ≡ course.taken
  pub given_up : f.given_up ≡ course.given_up
  pub debts : f.debts.items ≡ debts_to state peers
  pub heard : f.peers.items ≡ map (peer_of reports.stale_after) fresh.peers.items
  pub failed_saves : f.failed_saves ≡ fresh.failed_saves
  pub strangers : f.strangers ≡ fresh.strangers
  pub round_ms : f.round_ms ≡ fresh.round_ms
  pub overruns : f.overruns ≡ fresh.overruns
  pub targets : map said_in f.targets.items ≡ map (said_of now) fresh.targets.items
  pub named : map engine_in f.targets.items ≡ engines_for (length fresh.targets.items) engines
  pub ages : f.ages.items ≡ map (λ (i : InstanceAge). i.rounds) fresh.instances.items
  pub stale_after : f.stale_after ≡ reports.stale_after
  pub interval : f.interval ≡ reports.interval
