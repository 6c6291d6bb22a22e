use Rattle.std.proofs.Common.{codes}
use Rattle.mon_page.specs.Between.{between}
use Rattle.mon_page.specs.Page.{row_end}
use Rattle.mon_page.proofs.Chains.{join, said, written}
use Rattle.mon_page.proofs.table.put_row_end.Goals as goal

pub returns : goal.returns
unfolding row_end
returns c =
    let start = c.args.text.now.items in
    written c.extend_from_slice.result start _ _ _ _ (join start _ _ _ _ (said _ _ _ _ (λ i. between (codes "</td><td class=\"s\">") (c.as_bytes.ensures.value i) (codes "</td><td>")) c.in_ok-put_between.ensures)
    c.in_ok-put_age.ensures)
    c.extend_from_slice.ensures.items
