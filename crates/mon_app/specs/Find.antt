-- What a search for an instance finds.
use Rattle.std.specs.Prelude.{◌≡◌, ℕ, List, map, Result, Ok, Err}
use Rattle.std.specs.List.{HoldsAt}
use Rattle.mon_window.specs.Place.{IsPlace}
use Rattle.mon_board.specs.declared.instance.Instance.{Instance}
use Rattle.mon_app.specs.declared.table.Row.{Row}
use Rattle.mon_board.specs.Instance.{instance_cmp}

-- the instances of the rows
abbrev pub instances_of : List Row → List Instance
instances_of rows = map (λ r. r.instance) rows

-- the place where the instance is, or belongs
abbrev pub StandsAt : List Instance → Instance → Result ℕ ℕ → Type 0
StandsAt is i (Ok at) = HoldsAt (λ j. j ≡ i) is at
StandsAt is i (Err at) = IsPlace instance_cmp is i at
