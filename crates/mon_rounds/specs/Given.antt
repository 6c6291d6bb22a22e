-- What a round gave a station: its events, each with the octets of its datagram.
use Rattle.std.specs.Prelude.{ℕ, ◌≡◌, List, [], ◌∷◌}
use Rattle.mon_rounds.specs.Order.{RoundEvent}
use Rattle.mon_station.specs.ReadEvent.{OwnedEvent, map_event}

-- an event with the octets of its datagram, where it has one
abbrev pub with_octets : RoundEvent → List ℕ → OwnedEvent
with_octets e octets = map_event (λ none. octets) (λ from. octets) e

-- an event of a round was given with these or those octets
abbrev pub IsGiven : RoundEvent → OwnedEvent → Type 0
IsGiven e given = (octets : List ℕ) × (given ≡ with_octets e octets)

-- each event of a round was given so, in order, and no other
abbrev pub AreGiven : List RoundEvent → List OwnedEvent → Type 0
AreGiven [] [] = Unit {0}
AreGiven (e ∷ events) (given ∷ all) = IsGiven e given × AreGiven events all
AreGiven events all = ⊥
