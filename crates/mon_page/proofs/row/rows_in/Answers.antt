use Rattle.std.proofs.Common.{◌<◌, ◌≤◌, length, get_or, slice_get, arith}
use Rattle.mon_page.specs.Labelled.{Labelled, labelled}
use Rattle.mon_page.proofs.Instances.{all_rows, one_more}
use Rattle.mon_page.proofs.Promised.{labelled-at, length-labelled}
use Rattle.mon_page.proofs.row.rows_in.Goals as goal

pub loop-place-preserved : goal.loop-place-preserved
loop-place-preserved c =
    let entries = c.args.listing.entries.now in
    let labels = c.args.listing.labels.now in
    let is = labelled labels entries in
    let at = c.loop-place.place in
    let within : at < length entries = omega (arith, c.loop-place-test.true) in
    let e = c.in_ok-row_at.field-0.entry in
    let i : Labelled = (get_or entries at e, slice_get labels at) in
    let inside : at < length is = omega (arith, within, length-labelled labels entries) in
    one_more c.args.listing.limit c.args.listing.ages.now is at i _ c.loop-place.rows.items c.push.new.self.items _ inside
    (labelled-at labels entries at e i within) (c.in_ok-row_at.ensures e) c.in_ok-push.ensures.items c.loop-place.invariant

pub returns : goal.returns
returns c =
    let entries = c.args.listing.entries.now in
    let labels = c.args.listing.labels.now in
    let is = labelled labels entries in
    let past : length is ≤ c.loop-place.place = omega (arith, length-labelled labels entries, c.loop-place-test.false) in
    all_rows c.args.listing.limit c.args.listing.ages.now is c.loop-place.place c.loop-place.rows.items _ past c.loop-place.invariant
