-- What is said of an instance that is stale.
use Rattle.std.proofs.Common.{◌≡◌, ◌∙◌, ◌++◌, Bool, true, false, not, [], refl, codes, ap, sym}
use Rattle.std.specs.Prelude.{if◌then◌else◌}
use Rattle.mon_display.specs.Interface.{column_of}
use Rattle.mon_page.specs.Cells.{fresh_rate, newest_of, state_cell, value_cell}
use Rattle.mon_page.specs.Page.{figure_cells, raised_of, raised_on}
use Rattle.mon_page.specs.Rows.{Row, row_state}
use Rattle.mon_page.specs.Words.{rate_or_dash}

pub stale_state : (r : Row) → r.fresh ≡ false → row_state r ≡ codes "stale"
stale_state r stale = ap (λ (b : Bool). state_cell b r.entry.alarms) stale

pub no_alarms : (r : Row) → r.fresh ≡ false → raised_of r ≡ []
no_alarms r stale = ap (λ (b : Bool). if b then raised_on r r.entry.alarms else []) stale

no_rate : (r : Row) → r.fresh ≡ false → rate_or_dash (column_of r.entry.name) (fresh_rate r.fresh r.entry.items) ≡ codes "-"
no_rate r stale = ap (λ (b : Bool). rate_or_dash (column_of r.entry.name) (fresh_rate b r.entry.items)) stale

pub alike : (some other : Row) → some.fresh ≡ false → other.fresh ≡ false → newest_of some.entry.items ≡ newest_of other.entry.items
    → figure_cells some ≡ figure_cells other
unfolding figure_cells
alike some other a b same =
    λ k. codes "</th><td>" ++ value_cell (same k) ++ codes "</td><td>" ++ (no_rate some a ∙ sym (no_rate other b)) k

-- a test and its opposite
pub not_twice : (b : Bool) → b ≡ not (not b)
not_twice true = refl
not_twice false = refl
