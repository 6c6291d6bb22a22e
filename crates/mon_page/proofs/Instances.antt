-- The instances of a report with their labels and ages, one after another.
use Rattle.std.proofs.Common.{◌≡◌, ◌∙◌, ℕ, ◌+◌, ◌<◌, ◌≤◌, zero, suc, List, [], ◌∷◌, ◌++◌, Option, Some, None, length, get_or, drop, slice_get, string_bytes, option_map, ap, sym, refl, append_assoc, append-nil, arith}
use Rattle.std.specs.Prelude.{All}
use Rattle.std.proofs.lemmas.List.{drop_all, drop_more}
use Rattle.std.proofs.lemmas.List.Elements.{All-head, All-tail}
use Rattle.mon_report.specs.Report.{Entry}
use Rattle.mon_page.specs.declared.extras.InstanceLabels.{InstanceLabels}
use Rattle.mon_page.specs.declared.extras.Presentation.{Presentation}
use Rattle.mon_page.specs.declared.figures.Figures.{Figures}
use Rattle.mon_page.specs.Freshness.{ages_of, limit_of}
use Rattle.mon_page.specs.Labelled.{IsUnlabelled, Labelled, labelled}
use Rattle.mon_page.specs.Page.{body_text, head_text, page_text}
use Rattle.mon_page.specs.Rows.{Labels, Row, labels_of, row_of, rows_from, rows_of}

module _ (limit : ℕ) (ages : List ℕ) where
  -- one instance more
  pub one_more : (is : List Labelled) (at : ℕ) (i : Labelled) (r : Row) (before after total : List Row) → at < length is → get_or is at i ≡ i
      → r ≡ row_of limit (slice_get ages at) i → after ≡ before ++ r ∷ [] → before ++ rows_from limit ages at (drop at is) ≡ total
      → after ++ rows_from limit ages (at + 1) (drop (at + 1) is) ≡ total
  one_more is at i r before after total inside here same pushed whole =
      let more : drop at is ≡ i ∷ drop (at + 1) is = drop_more is at i inside ∙ ap (λ x. x ∷ drop (at + 1) is) here in
      let rest = rows_from limit ages (at + 1) (drop (at + 1) is) in
      ap (λ (t : List Row). t ++ rest) pushed
      ∙ append_assoc before (r ∷ []) rest
      ∙ ap (λ (x : Row). before ++ x ∷ rest) same
      ∙ ap (λ (l : List Labelled). before ++ rows_from limit ages at l) (sym more)
      ∙ whole

  -- after the last one
  pub all_rows : (is : List Labelled) (at : ℕ) (found total : List Row) → length is ≤ at → found ++ rows_from limit ages at (drop at is) ≡ total → found ≡ total
  all_rows is at found total past whole =
      sym (append-nil found) ∙ ap (λ (l : List Labelled). found ++ rows_from limit ages at l) (sym (drop_all at is past)) ∙ whole

-- ---- laws
-- the instance at a place
row_there : (limit : ℕ) (ages : List ℕ) (from : ℕ) (labels : List InstanceLabels) (es : List Entry) (i : ℕ) (e : Entry) (other : Row) → i < length es
    → get_or (rows_from limit ages from (labelled labels es)) i other ≡ row_of limit (slice_get ages (i + from)) (get_or es i e, slice_get labels i)
row_there limit ages from labels [] i e other lt = absurd (omega arith)
row_there limit ages from [] (x ∷ es) zero e other lt =
    let same : from ≡ 0 + from = omega arith in λ k. row_of limit (slice_get ages (same k)) (x, None)
row_there limit ages from [] (x ∷ es) (suc i) e other lt =
    row_there limit ages (from + 1) [] es i e other (omega arith)
    ∙ (let same : i + (from + 1) ≡ suc i + from = omega arith in λ k. row_of limit (slice_get ages (same k)) (get_or es i e, None))
row_there limit ages from (l ∷ labels) (x ∷ es) zero e other lt =
    let same : from ≡ 0 + from = omega arith in λ k. row_of limit (slice_get ages (same k)) (x, Some l)
row_there limit ages from (l ∷ labels) (x ∷ es) (suc i) e other lt =
    row_there limit ages (from + 1) labels es i e other (omega arith)
    ∙ (let same : i + (from + 1) ≡ suc i + from = omega arith in λ k. row_of limit (slice_get ages (same k)) (get_or es i e, slice_get labels i))

pub row_at : (station : Option Figures) (labels : List InstanceLabels) (es : List Entry) (i : ℕ) (e : Entry) (other : Row) → i < length es
    → get_or (rows_of station (labelled labels es)) i other ≡ row_of (limit_of station) (slice_get (ages_of station) i) (get_or es i e, slice_get labels i)
row_at station labels es i e other lt =
    row_there (limit_of station) (ages_of station) 0 labels es i e other lt
    ∙ (let same : i + 0 ≡ i = omega arith in λ k. row_of (limit_of station) (slice_get (ages_of station) (same k)) (get_or es i e, slice_get labels i))

-- labels that say nothing
no_labels : (l : InstanceLabels) → IsUnlabelled l → labels_of (Some l) ≡ labels_of None
no_labels l none =
    λ k. record {
      target = option_map (λ t. string_bytes t) (none.0 k);
      device = option_map (λ t. string_bytes t) (none.1 k);
      if_name = option_map (λ t. string_bytes t) (none.2 k);
      if_alias = option_map (λ t. string_bytes t) (none.3 k);
      speed = none.4 k;
    }

same_rows : (limit : ℕ) (ages : List ℕ) (from : ℕ) (labels : List InstanceLabels) (es : List Entry) → All IsUnlabelled labels
    → rows_from limit ages from (labelled labels es) ≡ rows_from limit ages from (labelled [] es)
same_rows limit ages from labels [] none = refl
same_rows limit ages from [] (e ∷ es) none = refl
same_rows limit ages from (l ∷ labels) (e ∷ es) none =
    let row : row_of limit (slice_get ages from) (e, Some l) ≡ row_of limit (slice_get ages from) (e, None) =
    ap
    (λ (ls : Labels).
    let r : Row = record {
      entry = e;
      labels = ls;
      age = slice_get ages from;
      fresh = (row_of limit (slice_get ages from) (e, None)).fresh;
    } in
    r)
    (no_labels l (All-head IsUnlabelled l labels none)) in
    λ k. row k ∷ same_rows limit ages (from + 1) labels es (All-tail IsUnlabelled l labels none) k

pub unlabelled_page : (shown : List ℕ → List ℕ) (labels : List InstanceLabels) (es : List Entry) (station : Option Figures) (p : Presentation)
    → All IsUnlabelled labels → page_text shown (labelled labels es) station p ≡ page_text shown (labelled [] es) station p
unfolding page_text
unlabelled_page shown labels es station p none =
    ap (λ (rows : List Row). head_text station (option_map (λ l. string_bytes l) p.label) ++ body_text shown rows station p.file_age)
    (same_rows (limit_of station) (ages_of station) 0 labels es none)
