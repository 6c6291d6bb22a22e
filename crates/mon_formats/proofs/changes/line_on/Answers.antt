use Rattle.std.proofs.Common.{◌≡◌, ◌∙◌, ◌++◌, List, ℕ, ap, option_map, string_bytes}
use Rattle.mon_display.specs.Interface.{column_of}
use Rattle.mon_display.specs.declared.interface.Column.{Column}
use Rattle.mon_formats.specs.Changes.{event_end, event_word, line_on, measure_of, subject_text, values_text}
use Rattle.mon_formats.specs.declared.changes.Measure.{Measure}
use Rattle.mon_page.specs.Cells.{newest_of}
use Rattle.mon_formats.proofs.changes.line_on.Goals as goal

four_texts : (a b c d t1 t2 t3 t4 : List ℕ) → t1 ≡ a → t2 ≡ t1 ++ b → t3 ≡ t2 ++ c → t4 ≡ t3 ++ d → t4 ≡ a ++ b ++ c ++ d
four_texts a b c d t1 t2 t3 t4 p1 p2 p3 p4 =
    let q2 : t2 ≡ a ++ b = p2 ∙ ap (λ t. t ++ b) p1 in
    let q3 : t3 ≡ a ++ b ++ c = p3 ∙ ap (λ t. t ++ c) q2 in
    p4 ∙ ap (λ t. t ++ d) q3

pub returns : goal.returns
unfolding line_on
returns g c =
    let i = c.args.subject.instance.now in
    let samples = c.args.subject.samples.now in
    let rule = c.args.turn.rule.now in
    let event = c.args.turn.event in
    let column : c.column_of-column.result ≡ column_of i.name = c.column_of-column.ensures ∙ ap column_of c.parts.ensures.parts in
    let measure : c.measure_of-measure.result ≡ measure_of (column_of i.name) (newest_of samples) =
    c.measure_of-measure.ensures ∙ ap (λ (k : Column). measure_of k (newest_of samples)) column in
    four_texts (event_word event) (subject_text (g.S.NameTexts.shown c.args.names.now) i (option_map (λ l. l.now) c.args.subject.labels))
    (values_text (measure_of (column_of i.name) (newest_of samples)) samples rule event) (event_end event)
    (string_bytes c.in_ok-text.text) (string_bytes c.put_subject.new.text) (string_bytes c.put_values.new.text) (string_bytes c.put_end.new.text)
    (c.in_ok-text.ensures.ok ∙ c.event_word.ensures) c.in_ok-put_subject.ensures
    (c.in_ok-put_values.ensures ∙ ap (λ (m : Measure). string_bytes c.put_subject.new.text ++ values_text m samples rule event) measure)
    c.in_ok-put_end.ensures
