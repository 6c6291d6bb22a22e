use Rattle.std.proofs.Common.{◌≡◌, ℕ, List, ◌∙◌, ◌++◌, ap, sym, subst, append_assoc, arith, option_map, codes, false, true}
use Rattle.json.specs.Print.{escape_byte}
use Rattle.serde_json.specs.Data.{depth}
use Rattle.serde_json.specs.View.{items_of}
use Rattle.serde_json.specs.Written.{compact_text, has_float, items_text, members_text}
use Rattle.mon_report.specs.Report.{samples_in}
use Rattle.mon_formats.specs.Json.{entries_data, exact, json_report, station_member}
use Rattle.mon_formats.specs.Sound.{IsSound}
use Rattle.mon_formats.proofs.Depths as depths
use Rattle.mon_formats.proofs.NoFloats as no_floats
use Rattle.mon_formats.proofs.Pushed.{when_added}
use Rattle.mon_formats.proofs.Sound.{of_report}
use Rattle.mon_formats.proofs.as_json.put_report.Goals as goal

-- the pieces, one behind another
joined : (old head all key number more a b x y z : List ℕ) → a ≡ old ++ head → b ≡ a ++ all → x ≡ b ++ (key ++ number) → y ++ codes "}" ≡ x ++ more → z ≡ y ++ codes "}\n"
    → z ≡ old ++ (head ++ ((all ++ (key ++ (number ++ more))) ++ codes "\n"))
joined old head all key number more a b x y z first second third fourth fifth =
    fifth ∙ sym (append_assoc y (codes "}") (codes "\n")) ∙ ap (λ l. l ++ codes "\n") (fourth ∙ ap (λ l. l ++ more) (third ∙ ap (λ l. l ++ (key ++ number)) (second ∙ ap (λ l. l ++ all) first))) ∙ simp append_assoc

pub put_value-requires-clause-exact : goal.put_value-requires-clause-exact
put_value-requires-clause-exact g c = ap has_float c.in_ok-exact_value.ensures ∙ no_floats.of_exact c.count_samples.result

pub put_value-requires-clause-shallow : goal.put_value-requires-clause-shallow
put_value-requires-clause-shallow g c = omega (arith, ap depth c.in_ok-exact_value.ensures, depths.of_exact c.count_samples.result 0)

pub returns-clause-text : goal.returns-clause-text
unfolding json_report escape_byte
returns-clause-text g c =
    let number = ap compact_text (c.in_ok-exact_value.ensures ∙ ap exact c.count_samples.ensures) in
    when_added _ c.extend_from_slice-2.result _ _ _ c.extend_from_slice-2.ensures.items
    (joined c.args.text.now.items (codes "{\"instances\":[") (items_text false (items_of (entries_data (g.S.NameTexts.shown c.args.names.now) (option_map (λ f. f.now) c.args.station) 0 c.args.entries.now))) (codes ",\"samples\":")
    (compact_text (exact (samples_in c.args.entries.now))) (members_text true (station_member (option_map (λ f. f.now) c.args.station))) _ _ _ _ _
    c.in_ok-extend_from_slice.ensures.items c.in_ok-put_instances.ensures.text
    (c.in_ok-put_value.ensures.text ∙ ap (λ l. c.put_instances.new.text.items ++ (codes ",\"samples\":" ++ l)) number) c.in_ok-put_running.ensures.text)

pub returns-clause-sound : goal.returns-clause-sound
returns-clause-sound g c =
    let samples = c.in_ok-exact_value.ensures ∙ ap exact c.count_samples.ensures in
    let sound =
    of_report (g.S.NameTexts.shown c.args.names.now) c.args.entries.now c.args.station c.in_ok-put_instances.ensures.sound (subst IsSound samples c.in_ok-put_value.ensures.sound) c.in_ok-put_running.ensures.sound in
    when_added _ c.extend_from_slice-2.result _ _ _ c.extend_from_slice-2.ensures.items (λ _. sound)
