-- Which instances of a running station are stale: those without a new sample in as many rounds as
-- its limit says. Each format cites this.
use Rattle.std.specs.Prelude.{ℕ, Bool, true, List, [], ◌∷◌, Option, Some, None, nat_lt, slice_get}
use Rattle.std.specs.Prelude.{if◌then◌else◌}
use Rattle.mon_page.specs.declared.figures.Figures.{Figures}
use Rattle.mon_page.specs.Labelled.{Labelled}

-- whether an instance of this age is not stale: its age is below the limit, or it has none
abbrev pub is_fresh : ℕ → Option ℕ → Bool
is_fresh limit None = true
is_fresh limit (Some age) = nat_lt age limit

-- the instances that are not stale, by their ages
abbrev pub fresh : ℕ → List ℕ → List Labelled → List Labelled
fresh limit [] is = is
fresh limit (age ∷ ages) [] = []
fresh limit (age ∷ ages) (i ∷ is) = if is_fresh limit (Some age) then i ∷ fresh limit ages is
    else fresh limit ages is

-- the ages that a station has of its instances
abbrev pub ages_of : Option Figures → List ℕ
ages_of None = []
ages_of (Some f) = f.ages.items

-- from which age on an instance of a station is stale; without a station it does not matter, since
-- there is no age
abbrev pub limit_of : Option Figures → ℕ
limit_of None = 0
limit_of (Some f) = f.stale_after

-- of a running station whether the instance at a place is not stale; nothing without a station
abbrev pub fresh_at : Option Figures → ℕ → Option Bool
fresh_at None place = None
fresh_at (Some f) place = Some (is_fresh f.stale_after (slice_get f.ages.items place))
