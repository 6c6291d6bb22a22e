use Rattle.std.proofs.Common.{◌≡◌, ℕ, ◌<◌, ◌∙◌, List, ap, get_or, length, map, option_map, sym, arith}
use Rattle.std.proofs.lemmas.List.{take_all}
use Rattle.mon_page.specs.Labelled.{Labelled, labelled}
use Rattle.mon_page.proofs.Promised.{labelled-at, length-labelled}
use Rattle.mon_formats.specs.Prometheus.{instance_labels}
use Rattle.mon_formats.proofs.LabelTexts.{all_texts, one_text, texts_of_all}
use Rattle.mon_formats.proofs.prometheus.label_texts.Goals as goal

pub loop-place-preserved : goal.loop-place-preserved
loop-place-preserved g c =
    let labels_by : Labelled → List ℕ = instance_labels c.args.station (g.S.NameTexts.shown c.args.names.now) in
    let entries = c.args.entries.now in
    let labels = c.args.labels.now in
    let all = labelled labels entries in
    let at = c.loop-place.place in
    let within : at < length entries = omega (arith, c.loop-place-test.true) in
    let inside : at < length all = omega (arith, within, length-labelled labels entries) in
    let found = c.labelled_at-labelled.result in
    let x : Labelled = (found.instance.now, option_map (λ l. l.now) found.labels) in
    let here : x ≡ get_or all at x =
    sym (labelled-at labels entries at found.instance.now x within ∙ (λ k. (sym (c.labelled_at-labelled.ensures.instance found.instance.now) k, sym c.labelled_at-labelled.ensures.labels k))) in
    ap (map (λ t. t.items)) c.in_ok-push.ensures.items
    ∙ one_text labels_by all at x c.loop-place.texts.items c.in_ok-labels_of.field-0 inside here c.in_ok-labels_of.ensures c.loop-place.invariant

pub returns : goal.returns
returns g c =
    let labels_by : Labelled → List ℕ = instance_labels c.args.station (g.S.NameTexts.shown c.args.names.now) in
    let entries = c.args.entries.now in
    let labels = c.args.labels.now in
    let all = labelled labels entries in
    let end = take_all c.loop-place.place all (omega (arith, c.loop-place-test.false, length-labelled labels entries)) in
    let are = c.loop-place.invariant ∙ ap (map labels_by) end in
    let texts = c.loop-place.texts.items in
    record { texts = all_texts labels_by labels entries texts are; as_many = texts_of_all labels_by labels entries texts are }
