use Rattle.std.proofs.Common.{◌∙◌, List, ℕ, ap, map, string_bytes, subst}
use Rattle.std.specs.Prelude.{slice_get}
use Rattle.mon_host.specs.Log.{GoesOnBy}
use Rattle.mon_file_commands.specs.Line.{AreNoted}
use Rattle.mon_station_commands.specs.Telling.{text_lines}
use Rattle.mon_station_commands.specs.Troubles.{IsText, key_in, level_of, text_at}
use Rattle.mon_station_commands.specs.declared.troubles.Key.{Key}
use Rattle.mon_station_commands.proofs.Changes.{change_more, unsaid_for}
use Rattle.mon_station_commands.proofs.troubles.tell_troubles.Goals as goal

pub returns-in_err-keys : goal.returns-in_err-keys
returns-in_err-keys g c = unsaid_for c.args.facts c.args.round c.args.changes.now c.in_err-keys.field-0.0 c.from_residual.result (g.H.Host.log c.args.host.now) c.from_residual.ensures.1

pub loop-place-preserved : goal.loop-place-preserved
loop-place-preserved g c =
    let text = string_bytes c.in_ok-text.text in
    let before = g.H.Host.log c.loop-place.host in
    let after = g.H.Host.log c.tell_text.new.host in
    change_more c.args.facts c.level_at.result c.args.round (map key_in c.in_ok-keys.keys.items) c.loop-place.place text (g.H.Host.log c.args.host.now) before after
    (c.level_at.ensures ∙ ap (λ (ks : List Key). level_of (slice_get (map key_in ks) c.loop-place.place)) c.as_slice-in-loop-place.ensures.value)
    (subst (λ (ks : List Key). IsText (text_at c.args.facts (map key_in ks) c.loop-place.place) text) c.as_slice.ensures.value c.in_ok-text.ensures)
    c.loop-place.invariant
    (subst (λ (t : List ℕ). GoesOnBy (AreNoted (text_lines c.level_at.result c.args.round t)) before after) c.deref.ensures c.tell_text.ensures)
