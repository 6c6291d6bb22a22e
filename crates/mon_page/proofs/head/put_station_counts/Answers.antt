use Rattle.mon_page.specs.Page.{station_counts}
use Rattle.mon_page.proofs.Chains.{join, written}
use Rattle.mon_page.proofs.head.put_station_counts.Goals as goal

pub returns : goal.returns
unfolding station_counts
returns c =
    let start = c.args.text.now.items in
    written c.extend_from_slice-2.result start _ _ _ _ (join start _ _ _ _ (join start _ _ _ _ (join start _ _ _ _ (join start _ _ _ _ c.in_ok-extend_from_slice.ensures.items
    c.in_ok-put_part_item.ensures)
    c.in_ok-put_count_item.ensures)
    c.in_ok-put_count_item-2.ensures)
    c.in_ok-put_part_item-2.ensures)
    c.extend_from_slice-2.ensures.items
