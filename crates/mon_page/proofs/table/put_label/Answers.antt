use Rattle.mon_page.specs.Page.{label_line, label_start}
use Rattle.mon_page.proofs.Chains.{join, written}
use Rattle.mon_page.proofs.table.put_label.Goals as goal

pub returns : goal.returns
unfolding label_line label_start
returns c =
    let start = c.args.text.now.items in
    written c.extend_from_slice-4.result start _ _ _ _ (join start _ _ _ _ (join start _ _ _ _ (join start _ _ _ _ c.in_ok-extend_from_slice.ensures.items
    c.in_ok-extend_from_slice-2.ensures.items)
    c.in_ok-extend_from_slice-3.ensures.items)
    c.in_ok-put_escaped.ensures)
    c.extend_from_slice-4.ensures.items
