use Rattle.std.proofs.Common.{◌≡◌, ◌++◌, [], length, string_bytes, ap, sym, subst, ◌∙◌}
use Rattle.std.specs.List.{flat_map}
use Rattle.mon_app.specs.Outcome.{IsReplay}
use Rattle.mon_app.specs.Replay.{accepted, refusals, refused_text, lines_of, replayed}
use Rattle.mon_app.specs.Text.{row_text, end_line, samples_in}
use Rattle.mon_app.specs.Windows.{rows_of}
use Rattle.mon_app.proofs.replaying.replay.Goals as goal

pub returns-clause-text : goal.returns-clause-text
unfolding replayed
returns-clause-text c =
    let lines = lines_of c.args.input.now in
    let why = refusals 0 [] lines in
    let rows = c.take_lines.new.table.rows.items in
    let count = c.in_ok-refused.refused in
    let rows_is : rows ≡ rows_of c.args.n (accepted [] lines) = c.in_ok-refused.ensures.rows ∙ ap (λ n. rows_of n (accepted [] lines)) c.new-table.ensures.size in
    let first : string_bytes c.take_lines.new.text ≡ refused_text why = c.in_ok-refused.ensures.text ∙ (λ j. c.new-text.ensures.bytes j ++ refused_text why) in
    let second : string_bytes c.put_rows.new.text ≡ refused_text why ++ flat_map row_text rows = c.in_ok-put_rows.ensures ∙ (λ j. first j ++ flat_map row_text (c.rows.ensures j)) in
    let third : string_bytes c.put_end.new.text ≡ refused_text why ++ flat_map row_text rows ++ end_line (length rows) (samples_in rows) (length why) =
    c.in_ok-put_end.ensures ∙ (λ j. second j ++ end_line (length (c.rows-2.ensures j)) (samples_in (c.rows-2.ensures j)) (c.in_ok-refused.ensures.refused j)) in
    ap (λ v. v.items) c.into_bytes.ensures.value ∙ third
    ∙ ap (λ rs. refused_text why ++ flat_map row_text rs ++ end_line (length rs) (samples_in rs) (length why)) rows_is

pub returns-clause-meaning : goal.returns-clause-meaning
returns-clause-meaning c = subst (IsReplay c.args.n c.args.input.now) (sym (returns-clause-text c)) (c.one_text.ensures.meets c.args.n c.args.input.now)
