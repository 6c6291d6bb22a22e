-- What a page has of an instance: what a report says of it, the labels that are given for it, its
-- age, and whether it is fresh.
use Rattle.std.specs.Prelude.{ℕ, ◌+◌, Bool, List, [], ◌∷◌, Option, Some, None, option_map}
use Rattle.std.specs.Prelude.{slice_get, string_bytes}
use Rattle.mon_report.specs.Report.{Entry}
use Rattle.mon_page.specs.declared.extras.InstanceLabels.{InstanceLabels}
use Rattle.mon_page.specs.declared.figures.Figures.{Figures}
use Rattle.mon_page.specs.Cells.{state_cell}
use Rattle.mon_page.specs.Freshness.{ages_of, is_fresh, limit_of}
use Rattle.mon_page.specs.Labelled.{Labelled}

-- the labels of an instance, each as far as it is known
pub record Labels : Type 0 where
  pub target : Option (List ℕ)
  pub device : Option (List ℕ)
  pub if_name : Option (List ℕ)
  pub if_alias : Option (List ℕ)
  pub speed : Option ℕ

-- those that are given
abbrev pub labels_of : Option InstanceLabels → Labels
labels_of None = record {
  target = None;
  device = None;
  if_name = None;
  if_alias = None;
  speed =
      None;
}
labels_of (Some l) =
    record {
      target = option_map (λ t. string_bytes t) l.target;
      device = option_map (λ t. string_bytes t) l.device;
      if_name = option_map (λ t. string_bytes t) l.if_name;
      if_alias = option_map (λ t. string_bytes t) l.if_alias;
      speed = l.speed;
    }

-- an instance, its labels, its age in rounds if that is known, and whether it is not stale
pub record Row : Type 0 where
  pub entry : Entry
  pub labels : Labels
  pub age : Option ℕ
  pub fresh : Bool

-- an instance of this age, where those of this limit and above are stale
abbrev pub row_of : ℕ → Option ℕ → Labelled → Row
row_of limit age i = record {
  entry = i.0;
  labels = labels_of i.1;
  age = age;
  fresh = is_fresh limit
      age;
}

-- instances from a place on, each with the age at its place
abbrev pub rows_from : ℕ → List ℕ → ℕ → List Labelled → List Row
rows_from limit ages place [] = []
rows_from limit ages place (i ∷ is) = row_of limit (slice_get ages place) i
    ∷ rows_from limit ages (place + 1) is

-- the instances of a report, with the ages that a station has of them
abbrev pub rows_of : Option Figures → List Labelled → List Row
rows_of station is = rows_from (limit_of station) (ages_of station) 0 is

-- what is said of its alarms
abbrev pub row_state : Row → List ℕ
row_state r = state_cell r.fresh r.entry.alarms
