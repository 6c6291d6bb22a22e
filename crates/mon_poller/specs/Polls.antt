-- The open polls, and how each event changes them.
use Rattle.std.specs.Prelude.{ℕ, ◌+◌, ◌≤◌, ◌<◌, IsTrue, pos, negsuc, ℤ, nat_lt, if◌then◌else◌}
use Rattle.std.specs.Prelude.{Option, Some, None}
use Rattle.std.specs.FinMap as map
use Rattle.std.specs.Ordering.{nat_cmp}

-- an open poll: its target, and how often it was sent
pub record Poll : Type 0 where
  pub target : ℕ
  pub sends : ℕ

-- polls by request-id
abbrev pub Open : Type 0
Open = map.FinMap nat_cmp Poll

-- the open polls, and how many were ever started: their request-ids are the numbers from 1 to that
pub record Polls : Type 0 where
  pub open_polls : Open
  pub started : ℕ

-- no poll was started yet
abbrev pub no_polls : Polls
no_polls = record { open_polls = map.empty; started = 0 }

-- one more poll is open, sent once, under the next request-id
abbrev pub with_poll : ℕ → Polls → Polls
with_poll target p = record {
  open_polls = map.insert p.open_polls (p.started + 1) (record { target = target; sends = 1 });
  started = p.started + 1;
}

-- the poll of this request-id is not open any more
abbrev pub closed : ℕ → Polls → Polls
closed id p = record { open_polls = map.remove p.open_polls id; started = p.started }

-- a poll whose time ran out is sent again, or closed after the last try
abbrev pub resent : ℕ → ℕ → Poll → Polls → Polls
resent tries id poll p =
    if nat_lt poll.sends tries
    then record {
      open_polls = map.insert p.open_polls id (record
          { target = poll.target; sends = poll.sends + 1 });
      started = p.started;
    }
    else closed id p

-- after a timeout of this request-id, of the poll that is open under it, if any
abbrev pub timed_at : (ℕ → ℕ) → ℕ → Option Poll → Polls → Polls
timed_at tries id None p = p
timed_at tries id (Some poll) p = resent (tries poll.target) id poll p

-- the least of the open polls' request-ids that are greater than this one; None: none is greater
abbrev pub IsOldestAfter : ℕ → Open → Option ℕ → Type 0
IsOldestAfter id polls None = (other : ℕ) → IsTrue (map.contains_key polls other) → other ≤ id
IsOldestAfter id polls (Some oldest) =
    IsTrue (map.contains_key polls oldest) × (id < oldest)
    × ((other : ℕ) → IsTrue (map.contains_key polls other) → id < other → oldest ≤ other)

-- the poll that is open under a request-id, sent again or closed
abbrev pub timed : (ℕ → ℕ) → ℕ → Polls → Polls
timed tries id p = timed_at tries id (map.get p.open_polls id) p

-- the open poll that a response names
abbrev pub poll_of : Open → ℤ → Option Poll
poll_of polls (pos id) = map.get polls id
poll_of polls (negsuc n) = None

-- after a response with this request-id that ends its poll
abbrev pub closed_by : Option ℤ → Polls → Polls
closed_by None p = p
closed_by (Some (pos id)) p = closed id p
closed_by (Some (negsuc n)) p = p
