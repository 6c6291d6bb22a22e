-- What a station offers a peer: what is owed, in portions.
use Rattle.std.specs.Prelude.{ℕ, zero, suc, ◌≤◌, ◌<◌, ◌+◌, List, [], ◌∷◌, ◌++◌, ◌==◌, if◌then◌else◌}
use Rattle.std.specs.Prelude.{length, map, take, drop}
use Rattle.std.specs.List.Sorted.{IsStrictlySortedBy}
use Rattle.std.specs.Ordering.{nat_cmp}
use Rattle.mon_window.specs.Top.{rising}
use Rattle.mon_window.specs.Window.{Samples}
use Rattle.mon_exchange.specs.declared.sharing.Portion.{Portion}

-- the first 40 samples, then the next 40, and so on, at most n times
abbrev pub pieces_by : ℕ → List ℕ → List (List ℕ)
pieces_by zero samples = []
pieces_by (suc n) [] = []
pieces_by (suc n) (s ∷ samples) = take 40 (s ∷ samples) ∷ pieces_by n (drop 40 (s ∷ samples))

-- samples cut into pieces of 40, of which the last may be shorter; no samples have no pieces
abbrev pub pieces : List ℕ → List (List ℕ)
pieces samples = pieces_by (length samples) samples

-- these samples of the instance of this number
abbrev pub portion : ℕ → List ℕ → Portion
portion i samples = record { instance = i; samples = samples }

-- what is owed of an instance, the oldest first, a piece a portion
abbrev pub portions_of : (ℕ → Samples) → ℕ → List Portion
portions_of owed i = map (portion i) (pieces (rising (owed i)))

-- what is owed of n instances from i on
abbrev pub portions_from : (ℕ → Samples) → ℕ → ℕ → List Portion
portions_from owed i zero = []
portions_from owed i (suc n) = portions_of owed i ++ portions_from owed (i + 1) n

-- these portions, or one without samples for the first instance if there are none
abbrev pub or_empty : List Portion → List Portion
or_empty [] = portion 0 [] ∷ []
or_empty (p ∷ portions) = p ∷ portions

-- what is offered where this is owed of n instances
abbrev pub offered_portions : (ℕ → Samples) → ℕ → List Portion
offered_portions owed n = or_empty (portions_from owed 0 n)

-- at most 40 rising samples of one of n instances
pub record IsPortion (n : ℕ) (p : Portion) : Type 0 where
  pub instance : p.instance < n
  pub few : length p.samples ≤ 40
  pub rising : IsStrictlySortedBy nat_cmp p.samples

-- the serial of the next offer: after 4294967295 comes 1
abbrev pub serial_after : ℕ → ℕ
serial_after serial = if serial == 4294967295 then 1 else serial + 1
