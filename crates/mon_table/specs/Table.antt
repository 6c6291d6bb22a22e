-- A report as a table for people: of each device a line and below it its rows, in columns that are
-- as wide as their widest text.
use Rattle.std.specs.Prelude.{◌≤◌, ℕ, ◌-◌, max, ◌==◌, List, [], ◌∷◌, ◌++◌, Bool, true, false}
use Rattle.std.specs.Prelude.{Option, Some, None, codes, decimal, length, map, slice_get}
use Rattle.std.specs.Prelude.{if◌then◌else◌, String, string_bytes}
use Rattle.std.specs.List.{flat_map, fold, repeat}
use Rattle.std.specs.Str.{bytes_eq}
use Rattle.hex.specs.Hex.{encode_lower}
use Rattle.mon_display.specs.Naming.{device_text}
use Rattle.mon_report.specs.Report.{Entry, samples_in}
use Rattle.mon_page.specs.declared.extras.InstanceLabels.{InstanceLabels}
use Rattle.mon_page.specs.declared.extras.Sort.{Sort}
use Rattle.mon_page.specs.declared.figures.Figures.{Figures}
use Rattle.mon_page.specs.declared.figures.TargetFigures.{TargetFigures}
use Rattle.mon_table.specs.Cells.{Cells, Listed, cells_of, text_if}
use Rattle.mon_table.specs.Order.{engine_of, ordered_from}
use Rattle.mon_table.specs.Rows.{rows_from}
use Rattle.mon_table.specs.declared.rows.Row.{Row}
use Rattle.mon_table.specs.declared.printing.Widths.{Widths}

-- ---- columns
-- N spaces
abbrev pub spaces : ℕ → List ℕ
spaces n = repeat n (32 ∷ [])

-- a text at the right end of a column; two spaces are before the next column
abbrev pub to_right : ℕ → List ℕ → List ℕ
to_right width text = spaces (width - length text) ++ text ++ codes "  "

-- a text at the left end of a column
abbrev pub to_left : ℕ → List ℕ → List ℕ
to_left width text = text ++ spaces (width - length text) ++ codes "  "

-- a text at the right end of a column that is left out if its width is 0
abbrev pub to_right_if : ℕ → List ℕ → List ℕ
to_right_if width text = if width == 0 then [] else to_right width text

-- widths that are no less than those of a row's cells
abbrev pub widened : Widths → Cells → Widths
widened w c = record {
  value = max w.value (length c.value);
  rate = max w.rate (length c.rate);
  part = max w.part (length c.part);
  out = max w.out (length c.out);
  out_part = max w.out_part (length c.out_part);
}

-- the width of a column whose widest cell has this width: at least that of its title, and 0 if all
-- cells are empty
abbrev pub titled : ℕ → ℕ → ℕ
titled title width = if width == 0 then 0 else max title width

-- widths with those of the titles VALUE, RATE, %, OUT and %
abbrev pub titled_widths : Widths → Widths
titled_widths w = record {
  value = titled 5 w.value;
  rate = titled 4 w.rate;
  part = titled 1 w.part;
  out = titled 3 w.out;
  out_part = titled 1 w.out_part;
}

-- the widths of the columns before the alarms
abbrev pub widths_of : List Cells → Widths
widths_of cells = titled_widths (fold widened (record {
  value = 0;
  rate = 0;
  part = 0;
  out = 0;
  out_part = 0;
}) cells)

-- the cells before the alarms
unfoldable pub figure_cells : Widths → List ℕ → List ℕ → List ℕ → List ℕ → List ℕ → List ℕ
figure_cells w value rate part out out_part =
    to_right_if w.value value ++ to_right_if w.rate rate ++ to_right_if w.part part
    ++ to_right_if w.out out ++ to_right_if w.out_part out_part

-- the title of the column of rates: of In, if there is one of Out
abbrev pub rate_title : Widths → List ℕ
rate_title w = if w.out == 0 then codes "RATE" else codes "IN"

-- the cell of an age, if there is a column of ages
abbrev pub age_if : Bool → List ℕ → List ℕ
age_if false age = []
age_if true age = to_right 5 age

-- the titles before the names', with the ages' or without
unfoldable pub title_cells : Widths → Bool → List ℕ
title_cells w aged =
    figure_cells w (codes "VALUE") (rate_title w) (codes "%") (codes "OUT") (codes "%")
    ++ to_left 6 (codes "ALARM") ++ to_right 7 (codes "SAMPLES")
    ++ age_if aged (codes "AGE")

-- the line of titles
abbrev pub title_line : Widths → Bool → List ℕ
title_line w aged = title_cells w aged ++ codes "NAME\n"

-- the cells of a row before its name
unfoldable pub row_cells : Widths → Bool → Cells → List ℕ
row_cells w aged c = figure_cells w c.value c.rate c.part c.out c.out_part ++ to_left 6 c.alarm
    ++ to_right 7 c.samples ++ age_if aged c.age

-- the line of a row
abbrev pub row_line : Widths → Bool → Cells → List ℕ
row_line w aged c = row_cells w aged c ++ c.name ++ codes "\n"

-- the alarm, the number of samples and the age are no wider than their columns
abbrev pub IsNarrow : Cells → Type 0
IsNarrow c = (length c.alarm ≤ 6) × (length c.samples ≤ 7) × (length c.age ≤ 5)

-- ---- devices
-- the address and the label of an instance's device
abbrev pub device_of : Option InstanceLabels → List ℕ
device_of None = []
device_of (Some labels) = device_text (text_if labels.target) (text_if labels.device)

-- the device, if it is known, before its engine id
abbrev pub before_engine : List ℕ → List ℕ
before_engine [] = []
before_engine (x ∷ xs) = (x ∷ xs) ++ codes ", "

-- the line of a device
unfoldable pub device_line : List ℕ → List ℕ → List ℕ
device_line device engine = before_engine device ++ codes "engine " ++ encode_lower engine
    ++ codes "\n"

-- the line of a row's device, unless the row before is of the same one
abbrev pub device_if_new : Listed → Option (List ℕ) → Row → List ℕ
device_if_new l None row = device_line (device_of (slice_get l.labels row.place)) (engine_of l row)
device_if_new l (Some before) row =
    if bytes_eq before (engine_of l row) then [] else device_line
    (device_of (slice_get l.labels row.place)) (engine_of l row)

-- the lines of rows behind one of this engine
abbrev pub lines_from : (List ℕ → List ℕ) → Listed → Widths → Bool → Option (List ℕ) → List Row
    → List ℕ
lines_from shown l w aged before [] = []
lines_from shown l w aged before (row ∷ rows) =
    device_if_new l before row ++ row_line w aged (cells_of shown l row)
    ++ lines_from shown l w aged (Some (engine_of l row)) rows

-- how many instances and samples there are
unfoldable pub count_line : ℕ → ℕ → List ℕ
count_line instances samples = decimal instances ++ codes " instances, " ++ decimal samples
    ++ codes " samples\n"

-- the rows in their order
abbrev pub rows_in : Sort → Listed → List Row
rows_in order l = ordered_from order l [] (rows_from l.entries 0 l.entries)

-- the titles, the rows under their devices, and how many instances there are; with a column of ages
-- or without
unfoldable pub table_text : (List ℕ → List ℕ) → Sort → Bool → Listed → List ℕ
table_text shown order aged l =
    title_line (widths_of (map (cells_of shown l) (rows_in order l))) aged
    ++ lines_from shown l (widths_of (map (cells_of shown l) (rows_in order l))) aged None
    (rows_in order l)
    ++ count_line (length l.entries) (samples_in l.entries)

-- ---- targets that are down
-- why a target's last response was refused, if one was
abbrev pub reason_text : {A : Type 0} → Option (String A) → List ℕ
reason_text None = []
reason_text (Some reason) = codes ": " ++ string_bytes reason

-- which target it is, and where its agent is reached
unfoldable pub place_text : TargetFigures → List ℕ
place_text t = codes "target " ++ decimal t.number ++ codes " at " ++ string_bytes t.address

-- for how long it did not answer
unfoldable pub silence_text : TargetFigures → List ℕ
silence_text t = codes " is down: no answer in " ++ decimal t.rounds ++ codes " rounds, "
    ++ decimal t.seconds ++ codes " s"

-- the line of a target that is down
unfoldable pub down_line : TargetFigures → List ℕ
down_line t = place_text t ++ silence_text t ++ reason_text t.refusal ++ codes "\n"

-- that line, unless the target is up
abbrev pub down_if : TargetFigures → List ℕ
down_if t = if t.up then [] else down_line t

-- the table; of a running station with ages, and below it a line for each target that is down
abbrev pub table_report : (List ℕ → List ℕ) → Sort → List Entry → List InstanceLabels
    → Option Figures → List ℕ
table_report shown order entries labels None = table_text shown order false
    (record { entries = entries; labels = labels; ages = []; limit = 0 })
table_report shown order entries labels (Some f) =
    table_text shown order true (record {
      entries = entries;
      labels = labels;
      ages = f.ages.items;
      limit = f.stale_after;
    })
    ++ flat_map down_if f.targets.items
