use Rattle.mon_page.specs.Page.{target_item}
use Rattle.mon_page.proofs.Chains.{join, unless, written}
use Rattle.mon_page.proofs.wrong.put_down.Goals as goal

pub returns : goal.returns
unfolding target_item
returns c =
    let start = c.args.text.now.items in
    unless c.extend_from_slice-2.result _ _ start _ c.if-target.false (written c.extend_from_slice-2.result start _ _ _ _ (join start _ _ _ _ (join start _ _ _ _ (join start _ _ _ _ c.in_ok-extend_from_slice.ensures.items
    c.in_ok-put_target_words.ensures)
    c.in_ok-put_since_down.ensures)
    c.in_ok-put_reason.ensures)
    c.extend_from_slice-2.ensures.items)
