-- The peers of a station, and what a claim of one of them changes.
use Rattle.std.specs.Prelude.{ℕ, ◌≡◌, ◌≤◌, Bool, List, length, ◌==◌, ◌&&◌, ◌||◌, Option, Some, None}
use Rattle.std.specs.Prelude.{if◌then◌else◌, nat_lt, max, map, slice_get, slice_index_or}
use Rattle.std.specs.FinSet as set
use Rattle.std.specs.List.{position}
use Rattle.std.specs.Option.{option_and_then}
use Rattle.std.specs.Ordering.{nat_cmp}
use Rattle.mon_window.specs.Window.{Samples}
use Rattle.mon_board.specs.Instance.{instances_of, named}
use Rattle.mon_board.specs.Owed.{kept_marks}
use Rattle.mon_board.specs.Watch.{Watch}
use Rattle.mon_exchange.specs.declared.noted.Noted.{Noted}
use Rattle.mon_exchange.specs.declared.noted.Noted.TheVariants.{Counted, OlderIncarnation}
use Rattle.mon_exchange.specs.declared.noted.Noted.TheVariants.{NewIncarnation}
use Rattle.mon_exchange.specs.declared.peers.Peer.{Peer}

-- a station's own number, and its peers
pub record Peers : Type 0 where
  pub own : ℕ
  pub peers : List Peer

-- at most 15 peers of a station whose number is not 0
pub record ArePeers (p : Peers) : Type 0 where
  pub own : 1 ≤ p.own
  pub few : length p.peers ≤ 15

-- the peer of this number, of which no incarnation is known
abbrev pub unheard : ℕ → Peer
unheard number = record { number = number; known = None }

-- the numbers of the peers
abbrev pub peer_numbers : List Peer → List ℕ
peer_numbers peers = map (λ p. p.number) peers

-- the slot of a station: its place among the peers
abbrev pub peer_slot : List Peer → ℕ → Option ℕ
peer_slot peers station = position (λ number. number == station) (peer_numbers peers)

-- the incarnation that is known of the peer in a slot
abbrev pub incarnation_in : List Peer → ℕ → Option ℕ
incarnation_in peers slot = slice_index_or (map (λ p. p.known) peers) slot None

-- the incarnation that is known of a station; of one that is no peer, none
abbrev pub known_incarnation : List Peer → ℕ → Option ℕ
known_incarnation peers station = option_and_then (incarnation_in peers) (peer_slot peers station)

-- what is answered to a claim of this incarnation, by the one that was known
abbrev pub noted_as : Option ℕ → ℕ → Noted
noted_as None incarnation = NewIncarnation
noted_as (Some known) incarnation = if nat_lt known incarnation then NewIncarnation
    else (if known == incarnation then Counted else OlderIncarnation)

-- the greater of an incarnation and the one that was known
abbrev pub latest : Option ℕ → ℕ → ℕ
latest None incarnation = incarnation
latest (Some known) incarnation = max known incarnation

-- the object of this name at this engine has this number in the watch
abbrev pub IsWatchedAs : Watch → List ℕ → List ℕ → ℕ → Type 0
IsWatchedAs watch engine name i = slice_get (instances_of watch.instances) i
    ≡ Some (named engine name)

-- whether a sample of an instance is one of those claimed of the instance of this number, and is in
-- its window
abbrev pub is_claimed : ℕ → List ℕ → (ℕ → Samples) → ℕ → ℕ → Bool
is_claimed number samples windows i s = (i == number) && (set.contains
    (set.from_list {R = nat_cmp} samples) s && set.contains (windows i) s)

-- whether a sample is marked for the claim's peer, by the answer, whether it was claimed and
-- whether it was marked
abbrev pub marked_by : Noted → Bool → Bool → Bool
marked_by NewIncarnation claimed marked = claimed
marked_by Counted claimed marked = marked || claimed
marked_by OlderIncarnation claimed marked = marked

-- marks after a claim: for its peer's slot as the answer says, and for every other slot as they
-- were
abbrev pub marks_noted : Noted → ℕ → ℕ → List ℕ → (ℕ → Samples) → (ℕ → ℕ → ℕ → Bool) → ℕ → ℕ → ℕ
    → Bool
marks_noted noted slot number samples windows marked k i s =
    if k == slot then marked_by noted (is_claimed number samples windows i s) (marked k i s)
    else marked k i s

-- marks after a claim was taken and noted, from the old windows to the new
abbrev pub marks_after : Noted → ℕ → ℕ → List ℕ → (old new : ℕ → Samples) → (ℕ → ℕ → ℕ → Bool) → ℕ
    → ℕ → ℕ → Bool
marks_after noted slot number samples old new marked = marks_noted noted slot number samples new
    (λ k. kept_marks old new (marked k))
