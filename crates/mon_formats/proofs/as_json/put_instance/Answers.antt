use Rattle.std.proofs.Common.{◌≡◌, List, ℕ, Bool, Option, Some, None, ◌∙◌, ◌++◌, ap, append_assoc, codes, map, refl, subst, true}
use Rattle.std.proofs.lemmas.Result.{on_ok_weaker}
use Rattle.hex.specs.Hex.{encode_lower}
use Rattle.json.specs.Print.{escape_byte}
use Rattle.serde_json.specs.Data.{Members, array, member, no_members, object, string}
use Rattle.serde_json.specs.View.{items_of}
use Rattle.serde_json.specs.Written.{comma_if, compact_text, members_text}
use Rattle.mon_report.specs.Report.{Entry}
use Rattle.mon_page.specs.Cells.{fresh_rate}
use Rattle.mon_formats.specs.Json.{alarm_data, entry_data, entry_members, exact_or_null, fresh_alarms, or_fresh, sample_data, totals_data, with_stale}
use Rattle.mon_formats.specs.Sound.{IsSound}
use Rattle.mon_formats.proofs.Pushed.{behind}
use Rattle.mon_formats.proofs.Sound.{of_entry}
use Rattle.mon_formats.proofs.as_json.put_instance.Goals as goal

-- the members before the samples, and others
abbrev head : (List ℕ → List ℕ) → Entry → Members → Bool → Members
head shown e rest fresh =
    member (codes "alarms") (array (items_of (map alarm_data (fresh_alarms fresh e.alarms))))
    (member (codes "engine") (string (encode_lower e.engine))
    (member (codes "name") (string (shown e.name)) (member (codes "rate_thousandths") (exact_or_null (fresh_rate fresh e.items)) rest)))

-- the members behind the samples
abbrev end : Option Bool → Entry → Members
end fresh e = with_stale fresh (member (codes "totals") (totals_data e.items) no_members)

-- both are all members, with the samples between them
whole : (shown : List ℕ → List ℕ) (fresh : Option Bool) (e : Entry)
    → head shown e (member (codes "samples") (array (items_of (map sample_data e.items))) (end fresh e)) (or_fresh fresh) ≡ with_stale fresh (entry_members shown (or_fresh fresh) e)
whole shown None e = refl
whole shown (Some fresh) e = refl

pub returns-clause-text : goal.returns-clause-text
unfolding escape_byte
returns-clause-text g c =
    let shown = g.S.NameTexts.shown c.args.names.now in
    let old = c.args.text.now.items in
    let fresh = c.args.seen.fresh in
    let e = c.args.seen.instance.now in
    let samples = array (items_of (map sample_data e.items)) in
    let rest = member (codes "samples") samples (end fresh e) in
    let comma = c.in_ok-extend_from_slice.ensures.items ∙ ap (λ l. old ++ l) c.comma.ensures in
    let all = ap (λ f. compact_text (object (head shown e rest f))) c.or_fresh.ensures ∙ ap (λ ms. compact_text (object ms)) (whole shown fresh e) in
    on_ok_weaker c.put_end.result
    (λ put.
    put
    ∙ behind _ _ (codes ",\"samples\":") _ samples (members_text true (end fresh e)) (ap (λ ss. array (items_of (map sample_data ss))) c.samples.ensures) c.in_ok-put_samples.ensures.text
    ∙ c.in_ok-put_head.ensures.text rest
    ∙ (λ i. comma i ++ all i)
    ∙ append_assoc old (comma_if c.args.later) (compact_text (entry_data shown fresh e)))
    c.put_end.ensures

pub returns-clause-sound : goal.returns-clause-sound
returns-clause-sound g c =
    let e = c.args.seen.instance.now in
    let alarms = subst (λ f. IsSound (array (items_of (map alarm_data (fresh_alarms f e.alarms))))) c.or_fresh.ensures c.in_ok-put_head.ensures.sound in
    let samples = subst (λ ss. IsSound (array (items_of (map sample_data ss)))) c.samples.ensures c.in_ok-put_samples.ensures.sound in
    on_ok_weaker c.put_end.result (λ _. of_entry (g.S.NameTexts.shown c.args.names.now) c.args.seen.fresh e alarms samples) c.put_end.ensures
