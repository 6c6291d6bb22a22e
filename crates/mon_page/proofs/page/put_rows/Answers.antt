use Rattle.std.proofs.Common.{option_map}
use Rattle.mon_page.specs.Page.{body_text, counts_text}
use Rattle.mon_page.proofs.Chains.{join, said, written}
use Rattle.mon_page.proofs.page.put_rows.Goals as goal

pub returns : goal.returns
unfolding body_text
returns g c =
    let start = c.args.text.now.items in
    written c.extend_from_slice.result start _ _ _ _ (join start _ _ _ _ (join start _ _ _ _ (join start _ _ _ _ c.in_ok-put_origin.ensures
    (said _ _ _ _ (λ i. counts_text (option_map (λ f. f.now) c.args.origin.station) (c.in_ok-counts.ensures i)) c.in_ok-put_counts.ensures))
    c.in_ok-put_wrong.ensures)
    c.in_ok-put_row_sections.ensures)
    c.extend_from_slice.ensures.items
