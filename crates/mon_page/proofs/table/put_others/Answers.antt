use Rattle.std.proofs.Common.{◌∙◌, sym}
use Rattle.mon_page.specs.Page.{other_lines}
use Rattle.mon_page.proofs.Chains.{join, unless, written}
use Rattle.mon_page.proofs.table.put_others.Goals as goal

pub returns : goal.returns
unfolding other_lines
returns g c =
    let start = c.args.text.now.items in
    unless c.extend_from_slice-2.result _ _ start _ (sym c.is_empty.ensures ∙ c.if-is_empty.false) (written c.extend_from_slice-2.result start _ _ _ _ (join start _ _ _ _ c.in_ok-extend_from_slice.ensures.items
    c.in_ok-put_other_rows.ensures)
    c.extend_from_slice-2.ensures.items)
