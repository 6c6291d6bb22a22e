use Rattle.mon_page.specs.Page.{start_text}
use Rattle.mon_page.proofs.Chains.{join, written}
use Rattle.mon_page.proofs.page.put_start.Goals as goal

pub returns : goal.returns
unfolding start_text
returns c =
    let start = c.args.text.now.items in
    written c.extend_from_slice-2.result start _ _ _ _ (join start _ _ _ _ c.in_ok-extend_from_slice.ensures.items
    c.in_ok-put_refresh.ensures)
    c.extend_from_slice-2.ensures.items
