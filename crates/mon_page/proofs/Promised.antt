-- What crates above may cite: the labels of an instance are those at its place. No other file here
-- is for them.
use Rattle.std.proofs.Common.{◌≡◌, ℕ, zero, suc, ◌<◌, List, [], ◌∷◌, length, get_or, slice_get, ap, refl, arith}
use Rattle.mon_report.specs.Report.{Entry}
use Rattle.mon_page.specs.declared.extras.InstanceLabels.{InstanceLabels}
use Rattle.mon_page.specs.Labelled.{Labelled, labelled}

-- there are as many instances with their labels as instances
pub length-labelled : (labels : List InstanceLabels) (es : List Entry) → length (labelled labels es) ≡ length es
length-labelled labels [] = refl
length-labelled [] (e ∷ es) = ap suc (length-labelled [] es)
length-labelled (l ∷ labels) (e ∷ es) = ap suc (length-labelled labels es)

-- the instance at a place has the labels at that place
pub labelled-at : (labels : List InstanceLabels) (es : List Entry) (i : ℕ) (e : Entry) (other : Labelled) → i < length es
    → get_or (labelled labels es) i other ≡ (get_or es i e, slice_get labels i)
labelled-at labels [] i e other lt = absurd (omega arith)
labelled-at [] (x ∷ es) zero e other lt = refl
labelled-at [] (x ∷ es) (suc i) e other lt = labelled-at [] es i e other (omega arith)
labelled-at (l ∷ labels) (x ∷ es) zero e other lt = refl
labelled-at (l ∷ labels) (x ∷ es) (suc i) e other lt = labelled-at labels es i e other (omega arith)
