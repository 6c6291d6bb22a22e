use Rattle.std.proofs.Common.{◌∙◌, ◌++◌, ap, append_assoc, codes, decimal, sym}
use Rattle.std.proofs.lemmas.Int.{to_z-of_z}
use Rattle.std.specs.Int.{w128}
use Rattle.serde_json.specs.Written.{comma_if, compact_text}
use Rattle.mon_sample.specs.Kind.{kind_name}
use Rattle.mon_sample.specs.Key.{boots_of, time_of, discontinuity_of, kind_of}
use Rattle.mon_page.specs.Cells.{value_of}
use Rattle.mon_formats.specs.Json.{exact_signed}
use Rattle.mon_formats.proofs.Pushed.{when_added}
use Rattle.mon_formats.proofs.Samples.{joined, sample_pieces}
use Rattle.mon_formats.proofs.Sound.{of_sample}
use Rattle.mon_formats.proofs.as_json.put_sample.Goals as goal

pub returns-clause-text : goal.returns-clause-text
returns-clause-text c =
    let old = c.args.text.now.items in
    let sample = c.args.sample.now in
    let boots = c.in_ok-put_digits.ensures ∙ (λ i. old ++ (c.boots_key.ensures i ++ decimal (c.boots.ensures.boots i))) in
    let name = c.in_ok-extend_from_slice-2.ensures.items ∙ ap (λ l. c.extend_from_slice.new.self.items ++ l) (c.as_bytes.ensures.value ∙ c.name.ensures ∙ ap kind_name c.kind.ensures) in
    let mark = c.in_ok-put_digits-2.ensures ∙ ap (λ n. c.extend_from_slice-2.new.self.items ++ (codes "\",\"mark\":" ++ decimal n)) c.discontinuity.ensures in
    let time = c.in_ok-put_digits-3.ensures ∙ ap (λ n. c.put_digits-2.new.text.items ++ (codes ",\"time\":" ++ decimal n)) c.time.ensures.time in
    let value = c.in_ok-put_exact_signed.ensures ∙ ap (λ z. c.put_digits-3.new.text.items ++ (codes ",\"value\":" ++ compact_text (exact_signed z))) (to_z-of_z w128 c.number.result (record { sfits = c.number.type_inv }) ∙ c.number.ensures) in
    when_added _ c.extend_from_slice-3.result _ _ _ c.extend_from_slice-3.ensures.items
    (λ end.
    joined old (comma_if c.args.later ++ codes "{\"boots\":") (decimal (boots_of sample)) (codes ",\"kind\":\"") (kind_name (kind_of sample)) (codes "\",\"mark\":") (decimal (discontinuity_of sample)) (codes ",\"time\":")
    (decimal (time_of sample)) (codes ",\"value\":") (compact_text (exact_signed (value_of sample))) (codes "}") _ _ _ _ _ _ _ boots c.in_ok-extend_from_slice.ensures.items name mark time value end
    ∙ ap (λ l. old ++ l) (append_assoc (comma_if c.args.later) (codes "{\"boots\":") _ ∙ ap (λ l. comma_if c.args.later ++ l) (sym (sample_pieces sample))))

pub returns-clause-sound : goal.returns-clause-sound
returns-clause-sound c = when_added _ c.extend_from_slice-3.result _ _ _ c.extend_from_slice-3.ensures.items (λ _. of_sample c.args.sample.now c.boots.ensures.small c.time.ensures.small)
