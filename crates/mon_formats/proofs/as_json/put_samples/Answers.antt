use Rattle.std.proofs.Common.{◌≡◌, ℕ, ◌+◌, ◌<◌, List, ◌++◌, ◌∙◌, ap, sym, subst, drop, get_or, length, map, arith, append_assoc, codes, false, true}
use Rattle.std.proofs.lemmas.List.{at_drop_all, at_drop_more}
use Rattle.serde_json.specs.Data.{array, item, Items}
use Rattle.serde_json.specs.View.{items_of}
use Rattle.serde_json.specs.Written.{comma_if, compact_text, items_text}
use Rattle.mon_formats.specs.Json.{sample_data}
use Rattle.mon_formats.specs.Sound.{IsSound}
use Rattle.mon_formats.proofs.Pushed.{when_added}
use Rattle.mon_formats.proofs.Sound.{of_more, of_nothing}
use Rattle.mon_formats.proofs.as_json.put_samples.Goals as goal

abbrev data_of : List ℕ → Items
data_of samples = items_of (map sample_data samples)

-- a sample, and those behind it
one_more : (samples : List ℕ) (i sample : ℕ) → i < length samples → sample ≡ get_or samples i sample → data_of (drop i samples) ≡ item (sample_data sample) (data_of (drop (i + 1) samples))
one_more samples i sample within here = at_drop_more data_of samples i sample within ∙ (λ k. item (sample_data (sym here k)) (data_of (drop (i + 1) samples)))

pub loop-sample-init : goal.loop-sample-init
loop-sample-init c = record {
  text = ap (λ l. l ++ items_text false (data_of c.args.samples.now)) c.in_ok-extend_from_slice.ensures.items ∙ append_assoc c.args.text.now.items (codes ",\"samples\":[") (items_text false (data_of c.args.samples.now));
  sound = λ sound. sound;
}

pub loop-sample-preserved : goal.loop-sample-preserved
loop-sample-preserved c =
    let at = c.loop-sample.sample-index in
    let text = c.loop-sample.text.items in
    let later = c.loop-sample.later in
    let sample = c.sample-item.result in
    let rest = data_of (drop (at + 1) c.args.samples.now) in
    let more = one_more c.args.samples.now at sample (omega (arith, c.loop-sample-test.true)) c.sample-item.is in
    record {
      text = ap (λ l. l ++ items_text true rest) c.in_ok-put_sample.ensures.text
          ∙ append_assoc text _ (items_text true rest)
          ∙ ap (λ l. text ++ l) (append_assoc (comma_if later) (compact_text (sample_data sample)) (items_text true rest))
          ∙ ap (λ ds. text ++ items_text later ds) (sym more)
          ∙ c.loop-sample.invariant.text;
      sound = λ sound. c.loop-sample.invariant.sound (subst (λ ds. IsSound (array ds)) (sym more) (of_more (sample_data sample) rest c.in_ok-put_sample.ensures.sound sound));
    }

pub returns-clause-text : goal.returns-clause-text
returns-clause-text c =
    let at = c.loop-sample.sample-index in
    let end = at_drop_all data_of c.args.samples.now at (omega (arith, c.loop-sample-test.false)) in
    when_added _ c.extend_from_slice-2.result _ _ _ c.extend_from_slice-2.ensures.items
    (λ added. added ∙ ap (λ ds. c.loop-sample.text.items ++ items_text c.loop-sample.later ds) (sym end) ∙ c.loop-sample.invariant.text)

pub returns-clause-sound : goal.returns-clause-sound
returns-clause-sound c =
    let at = c.loop-sample.sample-index in
    let end = at_drop_all data_of c.args.samples.now at (omega (arith, c.loop-sample-test.false)) in
    when_added _ c.extend_from_slice-2.result _ _ _ c.extend_from_slice-2.ensures.items (λ _. c.loop-sample.invariant.sound (subst (λ ds. IsSound (array ds)) (sym end) of_nothing))
