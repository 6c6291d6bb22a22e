use Rattle.std.proofs.Common.{◌≡◌, ◌++◌, drop}
use Rattle.mon_page.specs.Labelled.{labelled}
use Rattle.mon_page.specs.Rows.{rows_from}
use Rattle.mon_page.proofs.row.rows_in.Given as goal

-- the rows so far, and those of the instances that are left, are all rows
abbrev pub invariant-loop-place : goal.invariant-loop-place
invariant-loop-place l =
    l.rows.items ++ rows_from l.listing.limit l.listing.ages.now l.place (drop l.place (labelled l.listing.labels.now l.listing.entries.now))
    ≡ rows_from l.listing.limit l.listing.ages.now 0 (labelled l.listing.labels.now l.listing.entries.now)
