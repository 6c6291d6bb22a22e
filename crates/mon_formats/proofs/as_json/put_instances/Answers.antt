use Rattle.std.proofs.Common.{◌≡◌, ℕ, ◌+◌, ◌<◌, Bool, List, Option, ◌++◌, ◌∙◌, ap, sym, subst, length, drop, get_or, option_map, arith, append_assoc, true}
use Rattle.std.proofs.lemmas.List.{at_drop_all, at_drop_more}
use Rattle.serde_json.specs.Data.{array, item}
use Rattle.serde_json.specs.View.{items_of}
use Rattle.serde_json.specs.Written.{comma_if, compact_text, items_text}
use Rattle.mon_report.specs.Report.{Entry}
use Rattle.mon_page.specs.Freshness.{fresh_at}
use Rattle.mon_page.specs.declared.figures.Figures.{Figures}
use Rattle.mon_formats.specs.Json.{entries_data, entry_data}
use Rattle.mon_formats.specs.Sound.{IsSound}
use Rattle.mon_formats.proofs.Pushed.{when_added}
use Rattle.mon_formats.proofs.Sound.{of_more, of_nothing}
use Rattle.mon_formats.proofs.as_json.put_instances.Goals as goal

-- an instance, and those behind it
one_more : (shown : List ℕ → List ℕ) (station : Option Figures) (es : List Entry) (i : ℕ) (e : Entry) (fresh : Option Bool) → i < length es → e ≡ get_or es i e
    → fresh ≡ fresh_at station i
    → items_of (entries_data shown station i (drop i es)) ≡ item (entry_data shown fresh e) (items_of (entries_data shown station (i + 1) (drop (i + 1) es)))
one_more shown station es i e fresh within here known =
    at_drop_more (λ ys. items_of (entries_data shown station i ys)) es i e within
    ∙ (λ k. item (entry_data shown (sym known k) (sym here k)) (items_of (entries_data shown station (i + 1) (drop (i + 1) es))))

pub loop-place-preserved : goal.loop-place-preserved
loop-place-preserved g c =
    let shown = g.S.NameTexts.shown c.args.names.now in
    let station = option_map (λ f. f.now) c.args.station in
    let at = c.loop-place.place in
    let text = c.loop-place.text.items in
    let later = c.loop-place.later in
    let e = c.index-entries-place.result in
    let fresh = c.fresh_at-fresh.result in
    let rest = items_of (entries_data shown station (at + 1) (drop (at + 1) c.args.entries.now)) in
    let more = one_more shown station c.args.entries.now at e fresh (omega (arith, c.loop-place-test.true)) c.index-entries-place.is c.fresh_at-fresh.ensures in
    record {
      text = ap (λ l. l ++ items_text true rest) c.in_ok-put_instance.ensures.text
          ∙ append_assoc text _ (items_text true rest)
          ∙ ap (λ l. text ++ l) (append_assoc (comma_if later) (compact_text (entry_data shown fresh e)) (items_text true rest))
          ∙ ap (λ ds. text ++ items_text later ds) (sym more)
          ∙ c.loop-place.invariant.text;
      sound = λ sound. c.loop-place.invariant.sound (subst (λ ds. IsSound (array ds)) (sym more) (of_more (entry_data shown fresh e) rest c.in_ok-put_instance.ensures.sound sound));
    }

pub returns-clause-sound : goal.returns-clause-sound
returns-clause-sound g c =
    let shown = g.S.NameTexts.shown c.args.names.now in
    let station = option_map (λ f. f.now) c.args.station in
    let at = c.loop-place.place in
    let end = at_drop_all (λ ys. items_of (entries_data shown station at ys)) c.args.entries.now at (omega (arith, c.loop-place-test.false)) in
    when_added _ c.extend_from_slice.result _ _ _ c.extend_from_slice.ensures.items
    (λ _. c.loop-place.invariant.sound (subst (λ ds. IsSound (array ds)) (sym end) of_nothing))
