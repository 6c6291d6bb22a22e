-- What becomes of the texts that are put into an outbox.
use Rattle.std.specs.Prelude.{◌≡◌, ◌≤◌, ◌<◌, ◌+◌, ◌-◌, ◌^◌, ℕ, List, [], ◌∷◌, ◌++◌, length, map}
use Rattle.std.specs.Prelude.{min}
use Rattle.mon_notify.specs.Mail.{Mail, empty, most_octets, most_texts, after_put, after_removal}

-- A history of an outbox: the texts that came and were not too long, those that were taken, how
-- many were dropped, how many were too long, and what it holds. Its steps are those of the methods
-- of `Outbox`.
pub data History : (came taken : List (List ℕ)) → (dropped too_long : ℕ) → Mail → Type 0 where
  began : History [] [] 0 0 empty
  put : (came taken : List (List ℕ)) (d l : ℕ) (m : Mail) (text : List ℕ) → History came taken d l m
      → length text ≤ most_octets → length m.waiting < most_texts
      → History (came ++ text ∷ []) taken d l (after_put text m)
  put_full : (came taken : List (List ℕ)) (d l : ℕ) (m : Mail) (text : List ℕ)
      → History came taken d l m
      → length text ≤ most_octets → most_texts ≤ length m.waiting
      → History (came ++ text ∷ []) taken (d + 1) l (after_put text m)
  put_long : (came taken : List (List ℕ)) (d l : ℕ) (m : Mail) (text : List ℕ)
      → History came taken d l m
      → most_octets < length text → History came taken d (l + 1) (after_put text m)
  taken : (came taken : List (List ℕ)) (d l : ℕ) (m : Mail) (text : List ℕ) (rest : List (List ℕ))
      → History came taken d l m
      → m.waiting ≡ text ∷ rest → History came (taken ++ text ∷ []) d l (after_removal m)

-- what became of a text that does not wait any more
pub data Fate : Type 0 where
  Taken Dropped : Fate

-- the texts that were taken, in their order
abbrev pub taken_of : List (List ℕ × Fate) → List (List ℕ)
taken_of [] = []
taken_of ((text, Taken) ∷ gone) = text ∷ taken_of gone
taken_of ((text, Dropped) ∷ gone) = taken_of gone

-- how many were dropped
abbrev pub dropped_of : List (List ℕ × Fate) → ℕ
dropped_of [] = 0
dropped_of ((text, Taken) ∷ gone) = dropped_of gone
dropped_of ((text, Dropped) ∷ gone) = dropped_of gone + 1

-- Each text that came was taken, dropped or waits, and so in the order in which they came: those
-- that wait came last. What was dropped, and what was too long, is counted, up to the greatest
-- count.
pub record IsKept (came taken : List (List ℕ)) (d l : ℕ) (m : Mail) : Type 0 where
  pub gone : List (List ℕ × Fate)
  pub came_is : came ≡ map (λ g. g.0) gone ++ m.waiting
  pub taken_is : taken ≡ taken_of gone
  pub dropped_is : d ≡ dropped_of gone
  pub dropped_count : m.dropped ≡ min d (2 ^ 64 - 1)
  pub too_long_count : m.too_long ≡ min l (2 ^ 64 - 1)
