-- Texts that wait to be delivered, in the order in which they came.
use Rattle.std.specs.Prelude.{ℕ, ◌≤◌, List, [], ◌∷◌, ◌++◌, drop, length, nat_lt, vec_capacity}
use Rattle.std.specs.Prelude.{if◌then◌else◌}
use Rattle.std.specs.Global.{Vec}
use Rattle.mon_udp.specs.Counts.{next_count}

-- the texts that wait, how many were dropped since more came, and how many were too long
pub record Mail : Type 0 where
  pub waiting : List (List ℕ)
  pub dropped : ℕ
  pub too_long : ℕ

-- no text came
abbrev pub empty : Mail
empty = record { waiting = []; dropped = 0; too_long = 0 }

-- the most texts that wait
abbrev pub most_texts : ℕ
most_texts = 256

-- the most octets of a text
abbrev pub most_octets : ℕ
most_octets = 4096

-- a text that is not too long came: where as many as may wait do, the oldest is dropped
abbrev pub after_text : List ℕ → Mail → Mail
after_text text m =
    if nat_lt (length m.waiting) most_texts
    then record { waiting = m.waiting ++ text ∷ []; dropped = m.dropped; too_long = m.too_long }
    else record {
      waiting = drop 1 m.waiting ++ text ∷ [];
      dropped = next_count m.dropped;
      too_long
          = m.too_long;
    }

-- a text came: one that is too long is counted
abbrev pub after_put : List ℕ → Mail → Mail
after_put text m =
    if nat_lt most_octets (length text)
    then record { waiting = m.waiting; dropped = m.dropped; too_long = next_count m.too_long }
    else after_text text m

-- the oldest text was taken
abbrev pub after_removal : Mail → Mail
after_removal m = record { waiting = drop 1 m.waiting; dropped = m.dropped; too_long = m.too_long }

-- the octets of a buffer
abbrev pub octets_of : Vec ℕ → List ℕ
octets_of v = v.items

-- a buffer has capacity for each text
abbrev pub IsRoomy : Vec ℕ → Type 0
IsRoomy v = most_octets ≤ vec_capacity v
