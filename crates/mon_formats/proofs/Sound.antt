-- Data that was written and read back is sound, data of sound parts is sound, and the text of sound
-- data reads back.
use Rattle.std.proofs.Common.{◌≡◌, ℕ, ℤ, pos, negsuc, suc, ◌≤◌, ◌<◌, ◌^◌, max, List, [], Bool, Option, Some, None, option_map, option_and_then, decimal, map, nat_le, nat_lt, cond, refl, sym, ap, ap₂, ◌∙◌, arith, append-nil, codes, true, false}
use Rattle.std.proofs.lemmas.Bool.{leb-true}
use Rattle.std.specs.Borrow.{Bor}
use Rattle.std.specs.Fmt.{signed_decimal}
use Rattle.std.specs.Prelude.{IfSome}
use Rattle.hex.specs.Hex.{encode_lower}
use Rattle.json.specs.Lex.{tokens}
use Rattle.json.specs.Json as json
use Rattle.json.specs.Tree as tree
use Rattle.json.proofs.Numbered.{ArePrintableOrBad-tokens, value-HasNumbers}
use Rattle.json.proofs.Printed.Decimals.{IsNumber-decimal, IsNumber-signed_decimal}
use Rattle.json.proofs.Printed.Tokens.{tokens-print}
use Rattle.json.proofs.Printed.Trees.{ArePrintable-json_tokens, value-json_tokens}
use Rattle.serde_json.specs.Data.{Data, unsigned, negative, null, boolean, number, string, array, object, Items, no_items, item, Members, no_members, member, depth, items_depth, members_depth}
use Rattle.serde_json.specs.Read.{of_json, max_depth, read}
use Rattle.serde_json.specs.View.{items_of}
use Rattle.serde_json.specs.Written.{IsInOrder, compact_text, has_float, outline, items_outline, members_outline}
use Rattle.serde_json.proofs.Numbers.{number_of-decimal, number_of-negative}
use Rattle.serde_json.proofs.Texts.{print-outline, tokens_from_order}
use Rattle.mon_report.specs.Report.{Entry, samples_in}
use Rattle.mon_page.specs.declared.figures.Figures.{Figures}
use Rattle.mon_page.specs.Cells.{value_of, fresh_rate}
use Rattle.mon_rates.specs.Totals.{totals}
use Rattle.mon_sample.specs.Kind.{kind_name}
use Rattle.mon_sample.specs.Key.{boots_of, time_of, discontinuity_of, kind_of}
use Rattle.mon_formats.specs.Json.{exact, exact_signed, exact_or_null, sample_data, alarm_data, fresh_alarms, or_fresh, with_stale, entry_data, entries_data, station_data, report_data}
use Rattle.mon_formats.specs.Sound.{IsSound}

mutual
  depth-outline : (d : Data) → tree.depth (outline d) ≡ depth d
  depth-outline null = refl
  depth-outline (boolean b) = refl
  depth-outline (number n) = refl
  depth-outline (string s) = refl
  depth-outline (array ds) = ap suc (depth-items ds)
  depth-outline (object ms) = ap suc (depth-members ms)

  depth-items : (ds : Items) → tree.items_depth (items_outline ds) ≡ items_depth ds
  depth-items no_items = refl
  depth-items (item d ds) = ap₂ max (depth-outline d) (depth-items ds)

  depth-members : (ms : Members) → tree.members_depth (members_outline ms) ≡ members_depth ms
  depth-members no_members = refl
  depth-members (member k d ms) = ap₂ max (depth-outline d) (depth-members ms)

-- the grammar reads the tokens of data that is not too deep
value-outline : (d : Data) → depth d ≤ max_depth → json.value max_depth (tree.json_tokens (outline d)) ≡ Some (outline d, [])
value-outline d shallow =
    ap (json.value max_depth) (sym (append-nil (tree.json_tokens (outline d)))) ∙ value-json_tokens (outline d) max_depth [] (omega (arith, shallow, depth-outline d))

read_by_tokens : (text : List ℕ) (d : Data) → depth d ≤ max_depth → tokens text ≡ tree.json_tokens (outline d) → read text ≡ of_json (outline d)
read_by_tokens text d shallow e = ap (λ o. option_and_then of_json (option_and_then (λ p. json.if_last p.0 p.1) o)) (ap (json.value max_depth) e ∙ value-outline d shallow)

pub of_written : (text : List ℕ) (d : Data) → has_float d ≡ false → depth d ≤ max_depth → IsInOrder text d → read text ≡ Some d → IsSound d
unfolding IsSound
of_written text d exact shallow order reads =
    let e = tokens_from_order text d order exact in (
      value-HasNumbers max_depth (tokens text) [] (outline d) (ArePrintableOrBad-tokens text) (ap (json.value max_depth) e ∙ value-outline d shallow),
      sym (read_by_tokens text d shallow e) ∙ reads,
    )

pub reads_back : (d : Data) → IsSound d → depth d ≤ max_depth → read (compact_text d) ≡ Some d
unfolding IsSound
reads_back d sound shallow =
    let e = ap tokens (sym (print-outline d)) ∙ tokens-print (tree.json_tokens (outline d)) (ArePrintable-json_tokens (outline d) sound.0) in
    read_by_tokens (compact_text d) d shallow e ∙ sound.1

pub of_nothing : IsSound (array no_items)
unfolding IsSound
of_nothing = (tt, refl)

inside : (o : Option Items) (ds : Items) → option_map array o ≡ Some (array ds) → o ≡ Some ds
inside None ds e = cc
inside (Some x) ds e = cc

pub of_more : (d : Data) (ds : Items) → IsSound d → IsSound (array ds) → IsSound (array (item d ds))
unfolding IsSound
of_more d ds one more = ((one.0, more.0), rw (one.1, inside _ ds more.1) refl)

pub of_report : (shown : List ℕ → List ℕ) (entries : List Entry) (station : Option (Bor Figures))
    → IsSound (array (items_of (entries_data shown (option_map (λ f. f.now) station) 0 entries))) → IsSound (exact (samples_in entries)) → IfSome station (λ f. IsSound (station_data f.now)) → IsSound (report_data shown entries (option_map (λ f. f.now) station))
unfolding IsSound
of_report shown entries None instances samples figures = ((instances.0, (samples.0, tt)), rw (instances.1, samples.1) refl)
of_report shown entries (Some f) instances samples figures = ((instances.0, (samples.0, (figures.0, tt))), rw (instances.1, samples.1, figures.1) refl)

-- ---- an instance

of_number : (n : ℕ) → n < 2 ^ 64 → IsSound (number (unsigned n))
unfolding IsSound
of_number n h = (IsNumber-decimal n h, ap (option_map number) (number_of-decimal n h))

of_negative : (n : ℕ) → n < 2 ^ 63 → IsSound (number (negative (negsuc n)))
unfolding IsSound
of_negative n h = (IsNumber-signed_decimal (negsuc n) (omega arith), ap (option_map number) (number_of-negative n h))

of_string : (s : List ℕ) → IsSound (string s)
unfolding IsSound
of_string s = (tt, refl)

chosen : (b : Bool) (d e : Data) → (b ≡ true → IsSound d) → IsSound e → IsSound (cond b d e)
chosen true d e p q = p refl
chosen false d e p q = q

of_exact : (n : ℕ) → IsSound (exact n)
of_exact n = chosen (nat_le n (2 ^ 53)) _ _ (λ h. of_number n (omega (arith, leb-true n (2 ^ 53) h))) (of_string (decimal n))

of_exact_signed : (z : ℤ) → IsSound (exact_signed z)
of_exact_signed (pos n) = of_exact n
of_exact_signed (negsuc n) = chosen (nat_lt n (2 ^ 53)) _ _ (λ h. of_negative n (omega (arith, leb-true (suc n) (2 ^ 53) h))) (of_string (signed_decimal (negsuc n)))

of_option : (o : Option ℕ) → IsSound (exact_or_null o)
unfolding IsSound
of_option None = (tt, refl)
of_option (Some n) = of_exact n

sample_of : (boots kind mark time value : Data) → IsSound boots → IsSound kind → IsSound mark → IsSound time → IsSound value
    → IsSound (object (member (codes "boots") boots (member (codes "kind") kind (member (codes "mark") mark (member (codes "time") time (member (codes "value") value no_members))))))
unfolding IsSound
sample_of boots kind mark time value b k m t v = ((b.0, (k.0, (m.0, (t.0, (v.0, tt))))), rw (b.1, k.1, m.1, t.1, v.1) refl)

pub of_sample : (s : ℕ) → boots_of s < 2 ^ 31 → time_of s < 2 ^ 31 → IsSound (sample_data s)
of_sample s boots time =
    sample_of _ _ _ _ _ (of_number (boots_of s) (omega (arith, boots))) (of_string (kind_name (kind_of s))) (of_number (discontinuity_of s) (omega arith)) (of_number (time_of s) (omega (arith, time)))
    (of_exact_signed (value_of s))

totals_of : (delta span : Data) → IsSound delta → IsSound span → IsSound (object (member (codes "delta") delta (member (codes "span") span no_members)))
unfolding IsSound
totals_of delta span d s = ((d.0, (s.0, tt)), rw (d.1, s.1) refl)

entry_of : (fresh : Option Bool) (alarms engine name rate samples totals : Data) → IsSound alarms → IsSound engine → IsSound name → IsSound rate → IsSound samples → IsSound totals
    → IsSound (object (with_stale fresh (member (codes "alarms") alarms (member (codes "engine") engine (member (codes "name") name (member (codes "rate_thousandths") rate (member (codes "samples") samples (member (codes "totals") totals no_members))))))))
unfolding IsSound
entry_of None alarms engine name rate samples totals a e n r s t = ((a.0, (e.0, (n.0, (r.0, (s.0, (t.0, tt)))))), rw (a.1, e.1, n.1, r.1, s.1, t.1) refl)
entry_of (Some fresh) alarms engine name rate samples totals a e n r s t = ((a.0, (e.0, (n.0, (r.0, (s.0, (tt, (t.0, tt))))))), rw (a.1, e.1, n.1, r.1, s.1, t.1) refl)

pub of_entry : (shown : List ℕ → List ℕ) (fresh : Option Bool) (e : Entry) → IsSound (array (items_of (map alarm_data (fresh_alarms (or_fresh fresh) e.alarms)))) → IsSound (array (items_of (map sample_data e.items)))
    → IsSound (entry_data shown fresh e)
of_entry shown fresh e alarms samples =
    entry_of fresh _ _ _ _ _ _ alarms (of_string (encode_lower e.engine)) (of_string (shown e.name)) (of_option (fresh_rate (or_fresh fresh) e.items)) samples
    (totals_of _ _ (of_exact (totals e.items).delta) (of_exact (totals e.items).span))
