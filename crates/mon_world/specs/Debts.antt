-- What stations owe each other, and what agents offered.
use Rattle.std.specs.Prelude.{ℕ, List, [], ◌∷◌, ◌++◌, Option, Some, None, Ok}
use Rattle.std.specs.FinSet as set
use Rattle.mon_board.specs.Board.{window_of}
use Rattle.mon_exchange.specs.declared.claim.Claim.{Claim}
use Rattle.mon_exchange.specs.Debts.{Heard, is_owed}
use Rattle.mon_station.specs.declared.fault.StationFault.{StationFault}
use Rattle.mon_station.specs.Lived.{entries_of}
use Rattle.mon_station.specs.ReadEvent.{ReadEvent}
use Rattle.mon_station.specs.declared.event.Event.TheVariants.{FromAgent, FromPeer}
use Rattle.mon_station.specs.State.{State}
use Rattle.mon_station.specs.Taken.{Entry, Restart, Answered, Past, past_of}
use Rattle.mon_station.specs.Verdict.{added}
use Rattle.mon_window.specs.Window.{Samples}
use Rattle.mon_world.specs.Moves.{Move, lives_of}

-- what a claim of the instance of this number says
abbrev pub heard_of_claim : Claim → Option ℕ → List Heard
heard_of_claim c None = []
heard_of_claim c (Some i) = record {
  station = c.station;
  incarnation = c.incarnation;
  instance = i;
  samples = c.samples;
} ∷ []

-- what is received by an event with this answer: an accepted claim
abbrev pub heard_by : ReadEvent → Option StationFault → List Heard
heard_by (FromPeer (Ok said)) None = heard_of_claim said.claim said.number
heard_by e answer = []

-- what the claims that a station accepted in its present life said, the newest first
abbrev pub heard_in : List (Entry × State) → List Heard
heard_in [] = []
heard_in ((Restart origin w, s) ∷ past) = []
heard_in ((Answered e answer, s) ∷ past) = heard_by e answer ++ heard_in past

-- what a station in this state owes station y: of what is in its windows, what no claim of y, of
-- the incarnation that it knows and accepted in its present life, has said
abbrev pub owed_by : State → List (Entry × State) → ℕ → ℕ → Samples
owed_by s lives y i = set.retain (window_of s.board i) (λ k. is_owed y (heard_in lives) i k)

-- what an accepted response of an agent offered
abbrev pub agent_offers : Past → Entry → List (ℕ × ℕ)
agent_offers p (Answered (FromAgent from read) answer) = added p.setting p.polls
    (FromAgent from read) answer
agent_offers p entry = []

-- all that accepted responses of agents offered, at any station and in any life of it
abbrev pub offered_in : List Move → List (ℕ × ℕ)
offered_in [] = []
offered_in (m ∷ moves) = agent_offers (past_of (entries_of (lives_of m.station moves))) m.entry
    ++ offered_in moves
