use Rattle.hex.specs.Hex.{encode_lower}
use Rattle.mon_page.specs.Page.{section_start}
use Rattle.mon_page.proofs.Chains.{join, said, written}
use Rattle.mon_page.proofs.section.put_start.Goals as goal

pub returns : goal.returns
unfolding section_start
returns c =
    let start = c.args.text.now.items in
    written c.extend_from_slice-7.result start _ _ _ _ (join start _ _ _ _ (join start _ _ _ _ (join start _ _ _ _ (join start _ _ _ _ (join start _ _ _ _ (join start _ _ _ _ (join start _ _ _ _ (join start _ _ _ _ (join start _ _ _ _ c.in_ok-extend_from_slice.ensures.items
    c.in_ok-put_count.ensures)
    c.in_ok-extend_from_slice-2.ensures.items)
    (said _ _ _ _ c.open_word.ensures c.in_ok-extend_from_slice-3.ensures.items))
    c.in_ok-extend_from_slice-4.ensures.items)
    c.in_ok-put_count-2.ensures)
    c.in_ok-extend_from_slice-5.ensures.items)
    c.in_ok-put_naming.ensures)
    c.in_ok-extend_from_slice-6.ensures.items)
    (said _ _ _ _ (λ i. encode_lower (c.engine_of.ensures i)) c.in_ok-put_engine.ensures))
    c.extend_from_slice-7.ensures.items
