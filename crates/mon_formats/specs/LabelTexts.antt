-- For private clauses: the texts of the labels of instances, made once for all of their lines.
use Rattle.std.specs.Prelude.{◌≡◌, ℕ, List, map}
use Rattle.std.specs.Global.{Vec}
use Rattle.mon_report.specs.Report.{Entry}
use Rattle.mon_page.specs.declared.extras.InstanceLabels.{InstanceLabels}
use Rattle.mon_page.specs.Labelled.{Labelled, labelled}

-- the instances are these entries with what is given for them, and these are the texts of the
-- labels that a function has for them
pub record HaveLabels (labels : Labelled → List ℕ) (all : List Labelled) (entries : List Entry)
    (given : List InstanceLabels)
    (texts : List (Vec ℕ)) : Type 0 where
  pub are : all ≡ labelled given entries
  pub texts_are : map labels all ≡ map (λ t. t.items) texts

-- the labels of these entries with what is given for them, by texts that were made
abbrev pub AreLabelTexts : (labels : Labelled → List ℕ) → List Entry → (given : List InstanceLabels)
    → List (Vec ℕ) → Type 0
AreLabelTexts labels entries given texts = HaveLabels labels (labelled given entries) entries given
    texts
