use Rattle.mon_page.specs.Page.{station_line}
use Rattle.mon_page.proofs.Chains.{join, written}
use Rattle.mon_page.proofs.head.put_station_line.Goals as goal

pub returns : goal.returns
unfolding station_line
returns c =
    let start = c.args.text.now.items in
    written c.extend_from_slice-3.result start _ _ _ _ (join start _ _ _ _ (join start _ _ _ _ (join start _ _ _ _ c.in_ok-extend_from_slice.ensures.items
    c.in_ok-put_small.ensures)
    c.in_ok-extend_from_slice-2.ensures.items)
    c.in_ok-put_round.ensures)
    c.extend_from_slice-3.ensures.items
