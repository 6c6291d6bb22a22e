-- What happened in a world of stations, one move after another, and what they sent each other.
use Rattle.std.specs.Prelude.{ℕ, zero, suc, ◌≡◌, List, [], ◌∷◌, ◌++◌, ◌==◌, if◌then◌else◌, Option}
use Rattle.std.specs.Prelude.{Some, None, Ok, map, Contains}
use Rattle.mon_board.specs.Watch.{Watch}
use Rattle.mon_disk.specs.declared.fault.KeeperFault.TheVariants as keeper
use Rattle.mon_exchange.specs.declared.claim.Claim.{Claim}
use Rattle.mon_station.specs.declared.fault.StationFault.{StationFault}
use Rattle.mon_station.specs.declared.fault.StationFault.TheVariants as fault
use Rattle.mon_station.specs.Lived.{IsLived, last_state}
use Rattle.mon_station.specs.ReadEvent.{ReadEvent, IsNumbered}
use Rattle.mon_station.specs.declared.event.Event.TheVariants.{FromPeer, Share, Save}
use Rattle.mon_station.specs.State.{State}
use Rattle.mon_station.specs.Taken.{Entry, Restart, Answered, Origin, Nothing, Saved}
use Rattle.mon_station.specs.Told.{claims_sent}
use Rattle.mon_station.specs.Verdict.{Setting}

-- one move of a world: the number of a station, what happened to it, and the state that this left
pub record Move : Type 0 where
  pub station : ℕ
  pub entry : Entry
  pub after : State

-- the lives of a station: what happened to it, each with the state that it left. Here, and in all
-- lists of moves, the newest is first.
abbrev pub lives_of : ℕ → List Move → List (Entry × State)
lives_of x [] = []
lives_of x (m ∷ moves) = if m.station == x then (m.entry, m.after) ∷ lives_of x moves
    else lives_of x moves

-- ---- datagrams between stations
-- a claim on its way to a station
pub record Letter : Type 0 where
  pub to : ℕ
  pub claim : Claim

-- this claim on its way to this station
abbrev pub letter : ℕ → Claim → Letter
letter y c = record { to = y; claim = c }

-- the station to which an event sends claims
abbrev pub addressee : ReadEvent → ℕ
addressee (FromPeer (Ok said)) = said.claim.station
addressee (Share y) = y
addressee e = 0

-- the claims that a station in this state sends where this happens to it: none where it refuses
abbrev pub letters_by : Option State → Entry → List Letter
letters_by (Some s) (Answered e None) = map (letter (addressee e)) (claims_sent s e)
letters_by s entry = []

-- every claim that was sent between stations, in the order of their numbers, from 1 on
abbrev pub sent_in : List Move → List Letter
sent_in [] = []
sent_in (m ∷ moves) = sent_in moves ++ letters_by (last_state (lives_of m.station moves)) m.entry

-- ---- lives from an honestly kept file
-- An opening may find the save that has this many later ones, after an event with this answer:
-- after a save that was answered without a fault only this one, and after a save that met the
-- disk's fault this one too.
abbrev pub MayFindAfter : ReadEvent → Option StationFault → (ℕ → Type 0) → ℕ → Type 0
MayFindAfter Save None before later = later ≡ 0
MayFindAfter Save (Some f) before zero = f ≡ fault.Keeper keeper.DiskFault
MayFindAfter Save (Some f) before (suc later) = before later
MayFindAfter e answer before later = before later

-- an opening may find the save that has this many later ones: the last that was answered without a
-- fault or with which a life started, or one after it that met the disk's fault
abbrev pub MayFind : List (Entry × State) → ℕ → Type 0
MayFind [] later = ⊥
MayFind ((Restart origin w, s) ∷ past) later = later ≡ 0
MayFind ((Answered e answer, s) ∷ past) later = MayFindAfter e answer (MayFind past) later

-- the first life begins from nothing, each other from a save that an opening may find
abbrev pub MayBegin : List (Entry × State) → Origin → Type 0
MayBegin [] Nothing = Unit {0}
MayBegin [] origin = ⊥
MayBegin (x ∷ past) (Saved later) = MayFind (x ∷ past) later
MayBegin (x ∷ past) origin = ⊥

-- an accepted claim has the number of its instance
abbrev pub IsNumberedIn : Watch → ReadEvent → Type 0
IsNumberedIn watch (FromPeer (Ok said)) = IsNumbered watch said.claim said.number
IsNumberedIn watch e = Unit {0}

-- every life has this setting and begins from where it may
abbrev pub AreLives : Setting → List (Entry × State) → Type 0
AreLives w [] = Unit {0}
AreLives w ((Restart origin v, s) ∷ past) = (v ≡ w) × MayBegin past origin × AreLives w past
AreLives w ((Answered e answer, s) ∷ past) = IsNumberedIn w.watch e × AreLives w past

-- The moves of a world whose station x is set up with `settings x`: each station lived as stations
-- do.
pub record AreMoves (settings : ℕ → Setting) (moves : List Move) : Type 0 where
  pub lived : (x : ℕ) → IsLived (lives_of x moves)
  pub lives : (x : ℕ) → AreLives (settings x) (lives_of x moves)

-- ---- no forgery
-- a claim that was accepted had been sent
abbrev pub WasSent : List Letter → Entry → Type 0
WasSent letters (Answered (FromPeer (Ok said)) None) = Contains (map (λ l. l.claim) letters)
    said.claim
WasSent letters entry = Unit {0}

-- every claim that was accepted had been sent
abbrev pub AreUnforged : List Move → Type 0
AreUnforged [] = Unit {0}
AreUnforged (m ∷ moves) = WasSent (sent_in moves) m.entry × AreUnforged moves
