use Rattle.std.proofs.Common.{◌≡◌, ℕ, ◌+◌, ◌<◌, List, ◌++◌, ◌∙◌, ap, sym, refl, length, drop, get_or, option_map, arith, append_assoc, append-nil}
use Rattle.std.specs.List.{flat_map}
use Rattle.mon_page.specs.Labelled.{Labelled}
use Rattle.mon_page.specs.Freshness.{fresh}
use Rattle.mon_formats.specs.Prometheus.{entry_lines, head_text, help_of, lines_of, metric_text, name_of, type_of}
use Rattle.mon_formats.proofs.Fresh.{fresh_end, one_fresh, one_stale}
use Rattle.mon_formats.proofs.LabelTexts.{as_many, instance_at, label_at}
use Rattle.mon_formats.proofs.prometheus.put_metric.Goals.{then-is_fresh+in_ok-put_lines, else-is_fresh}
use Rattle.mon_formats.proofs.prometheus.put_metric.Goals as goal

pub loop-place-init : goal.loop-place-init
loop-place-init c = λ labels all have. refl

pub loop-place-preserved : goal.loop-place-preserved
loop-place-preserved c = λ labels all have.
    let lines : Labelled → List ℕ = entry_lines c.args.metric labels in
    let entries = c.args.listing.entries.now in
    let given = c.args.listing.given.now in
    let texts = c.args.listing.labels.now in
    let long : length all ≡ length entries = as_many labels all entries given texts have in
    let ages = c.args.listing.ages.now in
    let limit = c.args.listing.limit in
    let at = c.loop-place.place in
    let text = c.loop-place.text.items in
    let rest = flat_map lines (fresh limit (drop (at + 1) ages) (drop (at + 1) all)) in
    let within : at < length entries = omega (arith, c.loop-place-test.true) in
    let inside : at < length all = omega (arith, within, long) in
    elim c.if-is_fresh.branch [
      | then-is_fresh+in_ok-put_lines w ↦
          let found = w.labelled_at-labelled.result in
          let x : Labelled = (found.instance.now, option_map (λ l. l.now) found.labels) in
          let here : x ≡ get_or all at x =
          sym (instance_at labels all entries given texts have at x inside found.instance.now ∙ (λ k. (sym (w.labelled_at-labelled.ensures.instance found.instance.now) k, sym w.labelled_at-labelled.ensures.labels k))) in
          let its : w.as_slice-labels.result.now ≡ labels (get_or all at x) =
          w.as_slice-labels.ensures.value ∙ label_at labels all entries given texts have at x inside w.index-listing-place.result in
          let step = one_fresh limit ages all at x inside (sym c.is_fresh.ensures ∙ w.if-is_fresh.true) in
          ap (λ t. t.items ++ rest) w.text-is
          ∙ (λ i. w.in_ok-put_lines.ensures i ++ rest)
          ∙ append_assoc text (lines_of c.args.metric w.as_slice-labels.result.now x) rest
          ∙ (λ i. text ++ (lines_of c.args.metric (its i) (here i) ++ rest))
          ∙ ap (λ l. text ++ flat_map lines l) (sym step)
          ∙ c.loop-place.invariant labels all have
      | else-is_fresh w ↦
          let step = one_stale limit ages all at inside (sym c.is_fresh.ensures ∙ w.if-is_fresh.false) in
          ap (λ t. t.items ++ rest) w.text-is
          ∙ ap (λ l. text ++ flat_map lines l) (sym step)
          ∙ c.loop-place.invariant labels all have
    ]

pub returns : goal.returns
unfolding metric_text
returns c = λ labels all have.
    let lines : Labelled → List ℕ = entry_lines c.args.metric labels in
    let entries = c.args.listing.entries.now in
    let long : length all ≡ length entries = as_many labels all entries c.args.listing.given.now c.args.listing.labels.now have in
    let ages = c.args.listing.ages.now in
    let limit = c.args.listing.limit in
    let metric = c.args.metric in
    let end = fresh_end limit ages all c.loop-place.place (omega (arith, long, c.loop-place-test.false)) in
    sym (append-nil c.loop-place.text.items)
    ∙ (λ i. c.loop-place.text.items ++ flat_map lines (sym end i))
    ∙ c.loop-place.invariant labels all have
    ∙ (λ i. (c.in_ok-put_head.ensures ∙ (λ j. c.args.text.now.items ++ head_text c.args.listing.format (c.name.ensures j) (c.help.ensures j) (c.kind.ensures j))) i ++ flat_map lines (fresh limit ages all))
    ∙ append_assoc c.args.text.now.items (head_text c.args.listing.format (name_of metric) (help_of metric) (type_of metric)) (flat_map lines (fresh limit ages all))
