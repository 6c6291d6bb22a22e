-- How many objects a target of settings has at most.
use Rattle.std.specs.Prelude.{ℕ, ◌+◌, ◌/◌, List, [], ◌∷◌, length, Option, Some, None}
use Rattle.mon_survey.specs.declared.counter.Planned.{Planned}
use Rattle.mon_survey.specs.declared.size.TargetSize.{TargetSize}
use Rattle.mon_survey.specs.declared.size.TargetSize.TheVariants.{Sixteen, Eight, Four, Two, One}

-- the number of objects
abbrev pub objects_in : TargetSize → ℕ
objects_in Sixteen = 16
objects_in Eight = 8
objects_in Four = 4
objects_in Two = 2
objects_in One = 1

-- the size of half as many objects; none after that of one
abbrev pub half_of : TargetSize → Option TargetSize
half_of Sixteen = Some Eight
half_of Eight = Some Four
half_of Four = Some Two
half_of Two = Some One
half_of One = None

-- a size and all smaller ones, the largest first
abbrev pub sizes_from : TargetSize → List TargetSize
sizes_from Sixteen = Sixteen ∷ Eight ∷ Four ∷ Two ∷ One ∷ []
sizes_from Eight = Eight ∷ Four ∷ Two ∷ One ∷ []
sizes_from Four = Four ∷ Two ∷ One ∷ []
sizes_from Two = Two ∷ One ∷ []
sizes_from One = One ∷ []

-- how many targets some counters are: as few as the size allows
abbrev pub targets_for : TargetSize → List Planned → ℕ
targets_for Sixteen ps = (length ps + 15) / 16
targets_for Eight ps = (length ps + 7) / 8
targets_for Four ps = (length ps + 3) / 4
targets_for Two ps = (length ps + 1) / 2
targets_for One ps = length ps
