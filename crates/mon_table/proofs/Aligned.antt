-- The columns of a table, one below the other.
use Rattle.std.proofs.Common.{◌≡◌, ◌∙◌, ℕ, zero, suc, ◌+◌, ◌-◌, ◌≤◌, Bool, true, false, List, [], ◌∷◌, ◌++◌, length, get_or, sym, ap, refl, arith, codes, length-append}
use Rattle.std.specs.Prelude.{All, max, ◌==◌, if◌then◌else◌}
use Rattle.std.specs.List.{fold}
use Rattle.std.proofs.lemmas.List.Elements.{All-cons, All-nil}
use Rattle.mon_table.specs.Cells.{Cells}
use Rattle.mon_table.specs.Table.{IsNarrow, age_if, figure_cells, rate_title, row_cells, spaces, title_cells, titled, titled_widths, to_left, to_right, to_right_if, widened, widths_of}
use Rattle.mon_table.specs.declared.printing.Widths.{Widths}

length-spaces : (n : ℕ) → length (spaces n) ≡ n
length-spaces zero = refl
length-spaces (suc n) = ap suc (length-spaces n)

-- a cell is as wide as its column, and two spaces
length-right : (width : ℕ) (text : List ℕ) → length text ≤ width → length (to_right width text) ≡ width + 2
length-right width text fits =
    omega (arith, length-append (spaces (width - length text) ++ text) (codes "  "), length-append (spaces (width - length text)) text, length-spaces (width - length text))

length-left : (width : ℕ) (text : List ℕ) → length text ≤ width → length (to_left width text) ≡ width + 2
length-left width text fits =
    omega (arith, length-append (text ++ spaces (width - length text)) (codes "  "), length-append text (spaces (width - length text)), length-spaces (width - length text))

-- how wide a column is with the spaces after it; nothing if it is left out
abbrev column : ℕ → ℕ
column width = if width == 0 then 0 else width + 2

-- a text in a column that may be left out
length-if : (width : ℕ) (text : List ℕ) → length text ≤ width → length (to_right_if width text) ≡ column width
length-if width text fits = by (width == 0) where
  by : (b : Bool) → length (if b then [] else to_right width text) ≡ (if b then 0 else width + 2)
  by true = refl
  by false = length-right width text fits

-- a text that is no wider than the widest cell, or than the title
length-titled : (title width : ℕ) (text : List ℕ) → (length text ≤ width) → length (to_right_if (titled title width) text) ≡ column (titled title width)
length-titled title width text fits = by (width == 0) where
  by : (b : Bool) → length (to_right_if (if b then 0 else max title width) text) ≡ column (if b then 0 else max title width)
  by true = refl
  by false = length-if (max title width) text (omega (arith, fits))

length-title : (title width : ℕ) (text : List ℕ) → (length text ≤ title) → length (to_right_if (titled title width) text) ≡ column (titled title width)
length-title title width text fits = by (width == 0) where
  by : (b : Bool) → length (to_right_if (if b then 0 else max title width) text) ≡ column (if b then 0 else max title width)
  by true = refl
  by false = length-if (max title width) text (omega (arith, fits))

-- how wide all columns before the alarms are
abbrev together : Widths → ℕ
together w = column w.value + column w.rate + column w.part + column w.out + column w.out_part

-- five cells that are as wide as their columns
length-figures : (w : Widths) (value rate part out out_part : List ℕ) → length (to_right_if w.value value) ≡ column w.value
    → length (to_right_if w.rate rate) ≡ column w.rate → length (to_right_if w.part part) ≡ column w.part
    → length (to_right_if w.out out) ≡ column w.out → length (to_right_if w.out_part out_part) ≡ column w.out_part
    → length (figure_cells w value rate part out out_part) ≡ together w
unfolding figure_cells
length-figures w value rate part out out_part a b c d e =
    let first = to_right_if w.value value in
    let second = to_right_if w.rate rate in
    let third = to_right_if w.part part in
    let fourth = to_right_if w.out out in
    let fifth = to_right_if w.out_part out_part in
    omega (
      arith,
      length-append (first ++ second ++ third ++ fourth) fifth,
      length-append (first ++ second ++ third) fourth,
      length-append (first ++ second) third,
      length-append first second,
      a,
      b,
      c,
      d,
      e,
    )

-- the widths hold those of a row
record Holds (w : Widths) (c : Cells) : Type 0 where
  value : length c.value ≤ w.value
  rate : length c.rate ≤ w.rate
  part : length c.part ≤ w.part
  out : length c.out ≤ w.out
  out_part : length c.out_part ≤ w.out_part

-- one of some widths is no less than another's
record IsWider (a b : Widths) : Type 0 where
  value : a.value ≤ b.value
  rate : a.rate ≤ b.rate
  part : a.part ≤ b.part
  out : a.out ≤ b.out
  out_part : a.out_part ≤ b.out_part

wider : (w : Widths) (cs : List Cells) → IsWider w (fold widened w cs)
wider w [] = record { value = omega arith; rate = omega arith; part = omega arith; out = omega arith; out_part = omega arith }
wider w (c ∷ cs) =
    let more = wider (widened w c) cs in
    record {
      value = omega (arith, more.value);
      rate = omega (arith, more.rate);
      part = omega (arith, more.part);
      out = omega (arith, more.out);
      out_part = omega (arith, more.out_part);
    }

-- the widths of rows hold each of them
each_held : (w : Widths) (cs : List Cells) → All (Holds (fold widened w cs)) cs
each_held w [] = All-nil _
each_held w (c ∷ cs) =
    let more = wider (widened w c) cs in
    let held : Holds (fold widened (widened w c) cs) c = record {
      value = omega (arith, more.value);
      rate = omega (arith, more.rate);
      part = omega (arith, more.part);
      out = omega (arith, more.out);
      out_part = omega (arith, more.out_part);
    } in
    All-cons (Holds (fold widened (widened w c) cs)) c cs held (each_held (widened w c) cs)

-- the columns after these, with that of the ages or without
abbrev after : Bool → ℕ
after false = 17
after true = 24

length-after : (aged : Bool) (figures alarm samples age : List ℕ) → length alarm ≤ 6 → length samples ≤ 7 → length age ≤ 5
    → length (figures ++ to_left 6 alarm ++ to_right 7 samples ++ age_if aged age) ≡ length figures + after aged
length-after false figures alarm samples age a b c =
    omega (
      arith,
      length-append (figures ++ to_left 6 alarm ++ to_right 7 samples) [],
      length-append (figures ++ to_left 6 alarm) (to_right 7 samples),
      length-append figures (to_left 6 alarm),
      length-left 6 alarm a,
      length-right 7 samples b,
    )
length-after true figures alarm samples age a b c =
    omega (
      arith,
      length-append (figures ++ to_left 6 alarm ++ to_right 7 samples) (to_right 5 age),
      length-append (figures ++ to_left 6 alarm) (to_right 7 samples),
      length-append figures (to_left 6 alarm),
      length-left 6 alarm a,
      length-right 7 samples b,
      length-right 5 age c,
    )

-- a row
length-row : (w : Widths) (aged : Bool) (c : Cells) → Holds w c → IsNarrow c → length (row_cells (titled_widths w) aged c) ≡ together (titled_widths w) + after aged
unfolding row_cells
length-row w aged c held (alarm, samples, age) =
    let figures = length-figures (titled_widths w) c.value c.rate c.part c.out c.out_part (length-titled 5 w.value c.value held.value)
    (length-titled 4 w.rate c.rate held.rate) (length-titled 1 w.part c.part held.part) (length-titled 3 w.out c.out held.out)
    (length-titled 1 w.out_part c.out_part held.out_part) in
    length-after aged (figure_cells (titled_widths w) c.value c.rate c.part c.out c.out_part) c.alarm c.samples c.age alarm samples age
    ∙ ap (λ n. n + after aged) figures

rate-title : (w : Widths) → length (rate_title w) ≤ 4
rate-title w = by (w.out == 0) where
  by : (b : Bool) → length (if b then codes "RATE" else codes "IN") ≤ 4
  by true = omega arith
  by false = omega arith

-- the titles
length-titles : (w : Widths) (aged : Bool) → length (title_cells (titled_widths w) aged) ≡ together (titled_widths w) + after aged
unfolding title_cells
length-titles w aged =
    let figures = length-figures (titled_widths w) (codes "VALUE") (rate_title (titled_widths w)) (codes "%") (codes "OUT") (codes "%")
    (length-title 5 w.value (codes "VALUE") (omega arith)) (length-title 4 w.rate (rate_title (titled_widths w)) (rate-title (titled_widths w)))
    (length-title 1 w.part (codes "%") (omega arith)) (length-title 3 w.out (codes "OUT") (omega arith)) (length-title 1 w.out_part (codes "%") (omega arith)) in
    length-after aged (figure_cells (titled_widths w) (codes "VALUE") (rate_title (titled_widths w)) (codes "%") (codes "OUT") (codes "%")) (codes "ALARM") (codes "SAMPLES") (codes "AGE")
    (omega arith) (omega arith) (omega arith)
    ∙ ap (λ n. n + after aged) figures

abbrev none : Widths
none = record { value = 0; rate = 0; part = 0; out = 0; out_part = 0 }

pub aligned : (aged : Bool) (cs : List Cells) → All IsNarrow cs → All (λ c. length (row_cells (widths_of cs) aged c) ≡ length (title_cells (widths_of cs) aged)) cs
aligned aged cs narrow = λ k d inside.
    length-row (fold widened none cs) aged (get_or cs k d) (each_held none cs k d inside) (narrow k d inside) ∙ sym (length-titles (fold widened none cs) aged)
