use Rattle.std.proofs.Common.{◌∙◌, ◌++◌, ap, arith, codes, true}
use Rattle.std.proofs.lemmas.Result.{on_ok_weaker}
use Rattle.hex.specs.Hex.{encode_lower}
use Rattle.json.specs.Print.{escape_byte}
use Rattle.serde_json.specs.Data.{depth, string}
use Rattle.serde_json.specs.Written.{compact_text, has_float, members_text}
use Rattle.mon_page.specs.Cells.{fresh_rate}
use Rattle.mon_formats.specs.Json.{exact_or_null, fresh_alarms}
use Rattle.mon_formats.proofs.Depths as depths
use Rattle.mon_formats.proofs.NoFloats as no_floats
use Rattle.mon_formats.proofs.Pushed.{behind}
use Rattle.mon_formats.proofs.as_json.put_head.Goals as goal

pub put_value-requires-clause-exact : goal.put_value-requires-clause-exact
put_value-requires-clause-exact g c = ap has_float c.in_ok-alarms_value.ensures ∙ no_floats.of_alarms (fresh_alarms c.args.fresh c.args.entry.now.alarms)

pub put_value-requires-clause-shallow : goal.put_value-requires-clause-shallow
put_value-requires-clause-shallow g c = omega (arith, ap depth c.in_ok-alarms_value.ensures, depths.of_alarms (fresh_alarms c.args.fresh c.args.entry.now.alarms))

pub returns-clause-text : goal.returns-clause-text
unfolding escape_byte
returns-clause-text g c =
    let entry = c.args.entry.now in
    on_ok_weaker c.put_value-4.result
    (λ put rest.
    let behind_rate = members_text true rest in
    let behind_name = codes ",\"rate_thousandths\":" ++ (compact_text (exact_or_null (fresh_rate c.args.fresh entry.items)) ++ behind_rate) in
    let behind_engine = codes ",\"name\":" ++ (compact_text (string (g.S.NameTexts.shown c.args.names.now entry.name)) ++ behind_name) in
    let behind_alarms = codes ",\"engine\":" ++ (compact_text (string (encode_lower entry.engine)) ++ behind_engine) in
    behind _ _ (codes ",\"rate_thousandths\":") _ _ behind_rate c.in_ok-rate_value.ensures put
    ∙ behind _ _ (codes ",\"name\":") _ _ behind_name c.in_ok-name_value.ensures c.in_ok-put_value-3.ensures.text
    ∙ behind _ _ (codes ",\"engine\":") _ _ behind_engine (c.in_ok-engine_value.ensures ∙ ap (λ octets. string (encode_lower octets)) c.engine.ensures) c.in_ok-put_value-2.ensures.text
    ∙ behind _ _ (codes "{\"alarms\":") _ _ behind_alarms c.in_ok-alarms_value.ensures c.in_ok-put_value.ensures.text)
    c.put_value-4.ensures.text
