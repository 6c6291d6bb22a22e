use Rattle.std.proofs.Common.{decimal}
use Rattle.mon_page.specs.Page.{share_words}
use Rattle.mon_page.proofs.Chains.{join, said, written}
use Rattle.mon_page.proofs.table.put_share_words.Goals as goal

pub returns : goal.returns
unfolding share_words
returns c =
    let start = c.args.text.now.items in
    written c.extend_from_slice-3.result start _ _ _ _ (join start _ _ _ _ (join start _ _ _ _ (join start _ _ _ _ c.in_ok-extend_from_slice.ensures.items
    c.in_ok-put_percent.ensures)
    c.in_ok-extend_from_slice-2.ensures.items)
    (said _ _ _ _ (λ i. decimal (c.percent_of.ensures i)) c.in_ok-put_wide.ensures))
    c.extend_from_slice-3.ensures.items
