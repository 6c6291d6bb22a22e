use Rattle.mon_page.specs.Page.{silent_item}
use Rattle.mon_page.proofs.Chains.{join, only_if, written}
use Rattle.mon_page.proofs.wrong.put_peer.Goals as goal

pub returns : goal.returns
unfolding silent_item
returns c =
    let start = c.args.text.now.items in
    only_if c.extend_from_slice-3.result _ _ start _ c.if-not-peer.false (written c.extend_from_slice-3.result start _ _ _ _ (join start _ _ _ _ (join start _ _ _ _ (join start _ _ _ _ c.in_ok-extend_from_slice.ensures.items
    c.in_ok-put_small.ensures)
    c.in_ok-extend_from_slice-2.ensures.items)
    c.in_ok-put_small-2.ensures)
    c.extend_from_slice-3.ensures.items)
