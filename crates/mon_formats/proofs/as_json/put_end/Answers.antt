use Rattle.std.proofs.Common.{◌∙◌, ◌++◌, ap, append_assoc, arith, codes, sym}
use Rattle.json.specs.Print.{escape_byte}
use Rattle.serde_json.specs.Data.{depth}
use Rattle.serde_json.specs.Written.{compact_text, has_float}
use Rattle.mon_formats.specs.Json.{totals_data}
use Rattle.mon_formats.proofs.Depths as depths
use Rattle.mon_formats.proofs.NoFloats as no_floats
use Rattle.mon_formats.proofs.Pushed.{behind, when_added}
use Rattle.mon_formats.proofs.as_json.put_end.Goals as goal

pub put_value-requires-clause-exact : goal.put_value-requires-clause-exact
put_value-requires-clause-exact c = ap has_float c.in_ok-totals_value.ensures ∙ no_floats.of_totals c.args.seen.instance.now.items

pub put_value-requires-clause-shallow : goal.put_value-requires-clause-shallow
put_value-requires-clause-shallow c = omega (arith, ap depth c.in_ok-totals_value.ensures, depths.of_totals c.args.seen.instance.now.items)

pub returns : goal.returns
unfolding escape_byte
returns c =
    let old = c.args.text.now.items in
    let items = c.args.seen.instance.now.items in
    let totals = codes ",\"totals\":" ++ (compact_text (totals_data items) ++ codes "}") in
    when_added _ c.extend_from_slice-2.result _ _ _ c.extend_from_slice-2.ensures.items
    (λ end.
    end
    ∙ behind _ _ (codes ",\"totals\":") _ _ (codes "}") c.in_ok-totals_value.ensures c.in_ok-put_value.ensures.text
    ∙ ap (λ l. l ++ totals) c.in_ok-extend_from_slice.ensures.items
    ∙ append_assoc old c.stale_member.result.now totals
    ∙ ap (λ l. old ++ l) (sym (c.stale_member.ensures items)))
