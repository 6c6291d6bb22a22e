use Rattle.mon_page.specs.Page.{file_counts}
use Rattle.mon_page.proofs.Chains.{join, written}
use Rattle.mon_page.proofs.head.put_file_counts.Goals as goal

pub returns : goal.returns
unfolding file_counts
returns c =
    let start = c.args.text.now.items in
    written c.extend_from_slice-3.result start _ _ _ _ (join start _ _ _ _ (join start _ _ _ _ (join start _ _ _ _ c.in_ok-extend_from_slice.ensures.items
    c.in_ok-put_count.ensures)
    c.in_ok-extend_from_slice-2.ensures.items)
    c.in_ok-put_count_item.ensures)
    c.extend_from_slice-3.ensures.items
