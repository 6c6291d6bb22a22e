use Rattle.mon_page.specs.Page.{interface_row, octets_if, row_end, row_start}
use Rattle.mon_page.proofs.Chains.{ends, join, said}
use Rattle.mon_page.proofs.table.put_interface_row.Goals as goal

pub returns : goal.returns
unfolding interface_row
returns c =
    let start = c.args.text.now.items in
    ends c.put_row_end.result start _ _ _ _ _ (join start _ _ _ _ (join start _ _ _ _ (join start _ _ _ _ (join start _ _ _ _ (join start _ _ _ _ (join start _ _ _ _ (join start _ _ _ _ (join start _ _ _ _ (join start _ _ _ _ (said _ _ _ _ (λ i. row_start (c.worst_state-state.ensures i)) c.in_ok-put_row_start.ensures)
    c.in_ok-put_name.ensures)
    c.in_ok-extend_from_slice.ensures.items)
    c.in_ok-put_alias.ensures)
    c.in_ok-extend_from_slice-2.ensures.items)
    (said _ _ _ _ (λ i. octets_if (c.first_in.ensures i)) c.in_ok-put_octets_if.ensures))
    c.in_ok-extend_from_slice-3.ensures.items)
    (said _ _ _ _ (λ i. octets_if (c.first_out.ensures i)) c.in_ok-put_octets_if-2.ensures))
    c.in_ok-extend_from_slice-4.ensures.items)
    c.in_ok-put_faults.ensures)
    (λ i. row_end (c.worst_state-state.ensures i) (c.oldest.ensures i)) c.put_row_end.ensures
