-- One line after the other.
use Rattle.std.proofs.Common.{◌≡◌, ◌≢◌, map, ℕ, ◌+◌, ◌-◌, ◌<◌, ◌≤◌, Bool, true, false, not, cond, List, [], ◌∷◌, ◌++◌, length, take, drop, refl, sym, ap, ◌∙◌, subst, append_assoc, arith, length-drop, Option, Some, None, Result, Ok, Err}
use Rattle.std.specs.Prelude.{nat_le, nat_lt, if◌then◌else◌, ◌==◌}
use Rattle.std.specs.List.{slice_split, onto_first, position, position_or_len}
use Rattle.std.specs.List.Sorted.{IsStrictlySortedBy}
use Rattle.std.specs.Str.Lines.{strip_carriage_return}
use Rattle.std.specs.FinSet.{len}
use Rattle.std.proofs.lemmas.Bool.{leb-true, ltb-true, ltb-false}
use Rattle.std.proofs.lemmas.List.{append-nil, length_push, take_all}
use Rattle.std.proofs.lemmas.Grind.{flat_map-append}
use Rattle.std.proofs.lemmas.List.Splits.{slice_split_first}
use Rattle.mon_window.proofs.Promised.{rising-from_list}
use Rattle.mon_app.specs.Offer.{Offer}
use Rattle.mon_app.specs.declared.refusal.Refusal.{Refusal}
use Rattle.mon_app.specs.declared.refusal.Refusal.TheVariants.{OutOfMemory, BadHex, BadMessage, NotAResponse, AgentError, BadStamp, TooManyInstances}
use Rattle.mon_app.specs.declared.table.Row.{Row}
use Rattle.mon_app.specs.Gives.{Fails}
use Rattle.mon_app.specs.Reading.{hex_reading, line_reading}
use Rattle.mon_app.specs.Replay.{verdict, judged, offered, refused, accepted, refusals, refused_text, lines_of}
use Rattle.mon_app.specs.Taken.{AreOffersTaken}
use Rattle.mon_app.specs.Text.{refused_line}
use Rattle.mon_app.specs.Windows.{instances, row, rows_of}
use Rattle.mon_app.proofs.Counting.{rows_counted}
use Rattle.mon_board.proofs.Promised.{instance_cmp_total, instance_cmp-IsAntisymmetric}

-- ---- the first line
abbrev is_lf : ℕ → Bool
is_lf octet = octet == 10

none_passes : {X : Type 0} (p : X → Bool) (xs : List X) → length xs ≤ position_or_len p xs → slice_split p xs ≡ xs ∷ []
none_passes p [] le = refl
none_passes p (x ∷ xs) le =
    elim (p x) as (λ t. (length (x ∷ xs) ≤ cond (not t) (1 + position_or_len p xs) 0) → cond t ([] ∷ slice_split p xs) (onto_first x (slice_split p xs)) ≡ (x ∷ xs) ∷ []) [
      | true ↦ λ h. absurd (omega arith)
      | false ↦ λ h. ap (onto_first x) (none_passes p xs (omega arith))
    ] le

-- no LF: all of the octets are one line
pub one_line : (text : List ℕ) → position is_lf text ≡ None → lines_of text ≡ strip_carriage_return text ∷ []
unfolding lines_of
one_line text none =
    let most : length text ≤ position_or_len is_lf text =
    elim (nat_lt (position_or_len is_lf text) (length text)) as (λ t. nat_lt (position_or_len is_lf text) (length text) ≡ t
    → cond t (Some (position_or_len is_lf text)) None ≡ None → length text ≤ position_or_len is_lf text) [
      | true ↦ λ e h. cc
      | false ↦ λ e h. ltb-false _ _ e
    ] refl none in
    ap (map strip_carriage_return) (none_passes is_lf text most)

-- an LF: the line before it, and the lines behind it
pub cut_line : (text : List ℕ) (end : ℕ) → position is_lf text ≡ Some end → lines_of text ≡ strip_carriage_return (take end text) ∷ lines_of (drop (end + 1) text)
unfolding lines_of
cut_line text end some =
    elim (nat_lt (position_or_len is_lf text) (length text)) as (λ t. nat_lt (position_or_len is_lf text) (length text) ≡ t
    → cond t (Some (position_or_len is_lf text)) None ≡ Some end
    → map strip_carriage_return (slice_split is_lf text) ≡ strip_carriage_return (take end text) ∷ map strip_carriage_return (slice_split is_lf (drop (end + 1) text))) [
      | true ↦ λ e h.
          let at : position_or_len is_lf text ≡ end = cc in
          ap (map strip_carriage_return) (slice_split_first is_lf text 0 (ltb-true _ _ e))
          ∙ ap (λ k. strip_carriage_return (take k text) ∷ map strip_carriage_return (slice_split is_lf (drop (k + 1) text))) at
      | false ↦ λ e h. cc
    ] refl some

pub all_behind : (text : List ℕ) (k : ℕ) → take (length text - k) (drop k text) ≡ drop k text
all_behind text k = take_all (length text - k) (drop k text) (omega (arith, length-drop k text))

-- ---- all lines
-- where k lines were read and the rest is left: what was taken, the rows of it, and what was
-- written of the refused lines
pub record SoFar (n : ℕ) (lines rest : List (List ℕ)) (k : ℕ) (rows : List Row) (before text : List ℕ) (count : ℕ) : Type 0 where
  pub taken : List Offer
  pub why : List (ℕ × Refusal)
  pub rows_are : rows ≡ rows_of n taken
  pub few : length rows ≤ 256
  pub offers : accepted taken rest ≡ accepted [] lines
  pub refused_are : why ++ refusals k taken rest ≡ refusals 0 [] lines
  pub written : text ≡ before ++ refused_text why
  pub counted : count ≡ length why

abbrev told : List Offer → List ℕ → Option (Result (List Offer) Refusal)
told taken line = judged taken (line_reading line)

no_rows : (n : ℕ) → rows_of n [] ≡ []
unfolding rows_of instances IsStrictlySortedBy
no_rows n = ap (λ is. map (row n []) is) (rising-from_list instance_cmp_total instance_cmp-IsAntisymmetric [] tt)

pub started : (n : ℕ) (lines : List (List ℕ)) (rows : List Row) (before : List ℕ) → rows ≡ [] → SoFar n lines lines 0 rows before before 0
started n lines rows before none = record {
  taken = [];
  why = [];
  rows_are = none ∙ sym (no_rows n);
  few = omega (arith, ap length none);
  offers = refl;
  refused_are = refl;
  written = sym (append-nil before);
  counted = refl;
}

fails_is : (e : Refusal) (r : Result (List Offer) Refusal) → e ≢ OutOfMemory → Fails e r → r ≡ Err e
fails_is OutOfMemory r other f = absurd (other refl)
fails_is BadHex r other f = f
fails_is BadMessage r other f = f
fails_is NotAResponse r other f = f
fails_is AgentError r other f = f
fails_is BadStamp r other f = f
fails_is TooManyInstances r other f = f

told_read : (taken : List Offer) (line : List ℕ) → 0 < length line → told taken line ≡ Some (verdict taken (hex_reading line))
unfolding line_reading
told_read taken [] h = absurd (omega arith)
told_read taken (c ∷ cs) h = refl

told_none : (taken : List Offer) (line : List ℕ) → length line ≡ 0 → told taken line ≡ None
unfolding line_reading
told_none taken [] h = refl
told_none taken (c ∷ cs) h = absurd (omega arith)

admitted_few : (taken : List Offer) (r : Result (List Offer) Refusal) (offers : List Offer) → verdict taken r ≡ Ok offers → len (instances (taken ++ offers)) ≤ 256
admitted_few taken (Err e) offers h = cc
admitted_few taken (Ok os) offers h =
    elim (nat_le (len (instances (taken ++ os))) 256) as (λ t. nat_le (len (instances (taken ++ os))) 256 ≡ t
    → (let r : Result (List Offer) Refusal = (if t then Ok os else Err TooManyInstances) in r ≡ Ok offers) → len (instances (taken ++ offers)) ≤ 256) [
      | true ↦ λ e g.
          let one : os ≡ offers = cc in
          let small : len (instances (taken ++ os)) ≤ 256 = leb-true _ _ e in
          subst (λ xs. len (instances (taken ++ xs)) ≤ 256) one small
      | false ↦ λ e g. cc
    ] refl h

refused_text-push : (why : List (ℕ × Refusal)) (k : ℕ) (e : Refusal) → refused_text (why ++ (k, e) ∷ []) ≡ refused_text why ++ refused_line k e
refused_text-push why k e = flat_map-append (λ (r : ℕ × Refusal). refused_line r.0 r.1) why ((k, e) ∷ []) ∙ ap (λ t. refused_text why ++ t) (append-nil (refused_line k e))

module _ {n : ℕ} {lines : List (List ℕ)} {line : List ℕ} {rest : List (List ℕ)} {k : ℕ} {rows : List Row} {before text : List ℕ} {count : ℕ}
    (s : SoFar n lines (line ∷ rest) k rows before text count) where
  abbrev verdict_of : Option (Result (List Offer) Refusal)
  verdict_of = told s.taken line

  step : (after : List Row) (then_why : List (ℕ × Refusal)) (then_text : List ℕ) (then_count : ℕ)
      → after ≡ rows_of n (s.taken ++ offered verdict_of) → length after ≤ 256
      → then_why ≡ s.why ++ refused (k + 1) verdict_of → then_text ≡ before ++ refused_text then_why → then_count ≡ length then_why
      → SoFar n lines rest (k + 1) after before then_text then_count
  step after then_why then_text then_count rows_are few why_is written counted = record {
    taken = s.taken ++ offered verdict_of;
    why = then_why;
    rows_are = rows_are;
    few = few;
    offers = s.offers;
    refused_are =
        ap (λ w. w ++ refusals (k + 1) (s.taken ++ offered verdict_of) rest) why_is
        ∙ append_assoc s.why (refused (k + 1) verdict_of) (refusals (k + 1) (s.taken ++ offered verdict_of) rest)
        ∙ s.refused_are;
    written = written;
    counted = counted;
  }

  -- an empty line
  pub skipped : length line ≡ 0 → SoFar n lines rest (k + 1) rows before text count
  skipped empty =
      let none : verdict_of ≡ None = told_none s.taken line empty in
      step rows s.why text count
      (s.rows_are ∙ ap (rows_of n) (sym (append-nil s.taken) ∙ ap (λ v. s.taken ++ offered v) (sym none))) s.few
      (sym (append-nil s.why) ∙ ap (λ v. s.why ++ refused (k + 1) v) (sym none)) s.written s.counted

  -- an accepted one
  pub taken_in : (after : List Row) → 0 < length line → AreOffersTaken (verdict s.taken (hex_reading line)) n s.taken after → SoFar n lines rest (k + 1) after before text count
  taken_in after some t =
      let told_is : verdict_of ≡ Some (Ok t.offers) = told_read s.taken line some ∙ ap Some t.verdict_is in
      let limit : len (instances (s.taken ++ t.offers)) ≤ 256 = admitted_few s.taken (hex_reading line) t.offers t.verdict_is in
      let held : length after ≡ len (instances (s.taken ++ t.offers)) = rows_counted n (s.taken ++ t.offers) after t.rows_are in
      step after s.why text count (t.rows_are ∙ ap (λ v. rows_of n (s.taken ++ offered v)) (sym told_is)) (omega arith)
      (sym (append-nil s.why) ∙ ap (λ v. s.why ++ refused (k + 1) v) (sym told_is)) s.written s.counted

  -- a refused one
  pub turned_away : (e : Refusal) (after : List Row) (then_text : List ℕ) → 0 < length line → e ≢ OutOfMemory → Fails e (verdict s.taken (hex_reading line)) → after ≡ rows
      → then_text ≡ text ++ refused_line (k + 1) e → SoFar n lines rest (k + 1) after before then_text (count + 1)
  turned_away e after then_text some other fails stays adds =
      let told_is : verdict_of ≡ Some (Err e) = told_read s.taken line some ∙ ap Some (fails_is e (verdict s.taken (hex_reading line)) other fails) in
      let same : length after ≡ length rows = ap length stays in
      let fits : length rows ≤ 256 = s.few in
      let one : length (s.why ++ (k + 1, e) ∷ []) ≡ length s.why + 1 = length_push s.why (k + 1, e) in
      let counts : count ≡ length s.why = s.counted in
      step after (s.why ++ (k + 1, e) ∷ []) then_text (count + 1)
      (stays ∙ s.rows_are ∙ ap (rows_of n) (sym (append-nil s.taken) ∙ ap (λ v. s.taken ++ offered v) (sym told_is))) (omega arith)
      (ap (λ v. s.why ++ refused (k + 1) v) (sym told_is))
      (adds ∙ ap (λ t. t ++ refused_line (k + 1) e) s.written ∙ append_assoc before (refused_text s.why) (refused_line (k + 1) e) ∙ ap (λ t. before ++ t) (sym (refused_text-push s.why (k + 1) e)))
      (omega arith)

-- no line is left
module _ {n : ℕ} {lines : List (List ℕ)} {k : ℕ} {rows : List Row} {before text : List ℕ} {count : ℕ} (s : SoFar n lines [] k rows before text count) where
  pub all_taken : rows ≡ rows_of n (accepted [] lines)
  all_taken = s.rows_are ∙ ap (rows_of n) s.offers

  all_refused : s.why ≡ refusals 0 [] lines
  all_refused = sym (append-nil s.why) ∙ s.refused_are

  pub all_written : text ≡ before ++ refused_text (refusals 0 [] lines)
  all_written = s.written ∙ ap (λ why. before ++ refused_text why) all_refused

  pub all_counted : count ≡ length (refusals 0 [] lines)
  all_counted = s.counted ∙ ap length all_refused
