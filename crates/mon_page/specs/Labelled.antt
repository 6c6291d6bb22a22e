-- Instances with the labels that are given for them.
use Rattle.std.specs.Prelude.{◌≡◌, List, [], ◌∷◌, Option, Some, None}
use Rattle.mon_report.specs.Report.{Entry}
use Rattle.mon_page.specs.declared.extras.InstanceLabels.{InstanceLabels}

-- an instance, and the labels that are given for it
abbrev pub Labelled : Type 0
Labelled = Entry × Option InstanceLabels

-- the instances, each with the labels at its place
abbrev pub labelled : List InstanceLabels → List Entry → List Labelled
labelled labels [] = []
labelled [] (e ∷ es) = (e, None) ∷ labelled [] es
labelled (l ∷ labels) (e ∷ es) = (e, Some l) ∷ labelled labels es

-- labels that say nothing
abbrev pub IsUnlabelled : InstanceLabels → Type 0
IsUnlabelled l = (l.target ≡ None) × (l.device ≡ None) × (l.if_name ≡ None) × (l.if_alias ≡ None)
    × (l.speed ≡ None)
