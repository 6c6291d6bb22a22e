use Rattle.std.proofs.Common.{None}
use Rattle.mon_page.specs.Plot.{drawing_text, frame_of, limits_text, points_from}
use Rattle.mon_page.proofs.Chains.{join, said, written}
use Rattle.mon_page.proofs.plot.put_drawing.Goals as goal

pub returns : goal.returns
unfolding drawing_text
returns c =
    let start = c.args.text.now.items in
    let drawing = c.args.drawing in
    let items = drawing.samples.now in
    written c.extend_from_slice-5.result start _ _ _ _ (join start _ _ _ _ (join start _ _ _ _ (join start _ _ _ _ (join start _ _ _ _ (join start _ _ _ _ (join start _ _ _ _ (join start _ _ _ _ c.in_ok-extend_from_slice.ensures.items
    c.in_ok-put_now.ensures)
    c.in_ok-extend_from_slice-2.ensures.items)
    (said _ _ _ _ (λ i. points_from items (frame_of (c.with_rules-scale.ensures i) items) None 0 0 items) c.in_ok-put_strokes.ensures))
    c.in_ok-extend_from_slice-3.ensures.items)
    (said _ _ _ _ (λ i. limits_text drawing.counted (c.with_rules-scale.ensures i) drawing.rules.now) c.in_ok-put_limits.ensures))
    c.in_ok-extend_from_slice-4.ensures.items)
    c.in_ok-put_notes.ensures)
    c.extend_from_slice-5.ensures.items
