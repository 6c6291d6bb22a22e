use Rattle.std.proofs.Common.{◌≡◌, ℕ, List, ◌++◌, drop}
use Rattle.std.specs.List.{flat_map}
use Rattle.mon_page.specs.Labelled.{Labelled}
use Rattle.mon_page.specs.Freshness.{fresh}
use Rattle.mon_formats.specs.LabelTexts.{HaveLabels}
use Rattle.mon_formats.specs.Prometheus.{entry_lines}
use Rattle.mon_formats.proofs.prometheus.put_metric.Given as goal

-- what is written, and the lines that are left, are all lines
abbrev pub invariant-loop-place : goal.invariant-loop-place
invariant-loop-place l = (labels : Labelled → List ℕ) (all : List Labelled) → HaveLabels labels all l.listing.entries.now l.listing.given.now l.listing.labels.now
    → l.text.items ++ flat_map (entry_lines l.metric labels) (fresh l.listing.limit (drop l.place l.listing.ages.now) (drop l.place all))
    ≡ l.initial.text.items ++ flat_map (entry_lines l.metric labels) (fresh l.listing.limit l.listing.ages.now all)
