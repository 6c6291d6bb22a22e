use Rattle.mon_page.specs.Page.{head_text}
use Rattle.mon_page.proofs.Chains.{join, written}
use Rattle.mon_page.proofs.page.put_head.Goals as goal

pub returns : goal.returns
unfolding head_text
returns c =
    let start = c.args.text.now.items in
    written c.extend_from_slice-3.result start _ _ _ _ (join start _ _ _ _ (join start _ _ _ _ (join start _ _ _ _ (join start _ _ _ _ (join start _ _ _ _ c.in_ok-put_start.ensures
    c.in_ok-put_title.ensures)
    c.in_ok-extend_from_slice.ensures.items)
    c.in_ok-put_style.ensures)
    c.in_ok-extend_from_slice-2.ensures.items)
    c.in_ok-put_title-2.ensures)
    c.extend_from_slice-3.ensures.items
