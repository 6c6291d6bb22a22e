-- What the cells of a row say.
use Rattle.std.specs.Prelude.{ℕ, ◌+◌, ◌-◌, ◌*◌, ◌^◌, max, min, Bool, ◌||◌, List}
use Rattle.std.specs.Prelude.{[], ◌∷◌, ◌++◌, length, Option, Some, None, option_map, slice_get}
use Rattle.std.specs.Prelude.{codes, decimal, String, string_bytes, if◌then◌else◌}
use Rattle.std.specs.Str.{bytes_eq}
use Rattle.mon_display.specs.Interface.{column_of}
use Rattle.mon_display.specs.Naming.{interface_text}
use Rattle.mon_display.specs.Rate.{percent_text, rate_text}
use Rattle.mon_display.specs.declared.interface.Column.{Column}
use Rattle.mon_display.specs.declared.rate.Unit.TheVariants.{Bits, Each}
use Rattle.mon_page.specs.Cells.{age_cell, fresh_rate, newest_of, state_cell, value_cell}
use Rattle.mon_page.specs.Freshness.{is_fresh}
use Rattle.mon_page.specs.declared.extras.InstanceLabels.{InstanceLabels}
use Rattle.mon_report.specs.Report.{Entry}
use Rattle.mon_table.specs.Rows.{is_in, is_out}
use Rattle.mon_table.specs.declared.cells.Cells.{Cells as AnyCells}
use Rattle.mon_table.specs.declared.rows.Row.{Row}

-- the instances of a table, their labels and ages, and from which age on one is stale
pub record Listed : Type 0 where
  pub entries : List Entry
  pub labels : List InstanceLabels
  pub ages : List ℕ
  pub limit : ℕ

-- the cells of a row
pub record Cells : Type 0 where
  pub value : List ℕ
  pub rate : List ℕ
  pub part : List ℕ
  pub out : List ℕ
  pub out_part : List ℕ
  pub alarm : List ℕ
  pub samples : List ℕ
  pub age : List ℕ
  pub name : List ℕ

-- the texts of cells
abbrev pub texts_of : AnyCells → Cells
texts_of c = record {
  value = string_bytes c.value;
  rate = string_bytes c.rate;
  part = string_bytes c.part;
  out = string_bytes c.out;
  out_part = string_bytes c.out_part;
  alarm = c.alarm.now;
  samples = string_bytes c.samples;
  age = string_bytes c.age;
  name = string_bytes c.name;
}

-- whether the instance at a place is not stale
abbrev pub fresh_at : Listed → ℕ → Bool
fresh_at l place = is_fresh l.limit (slice_get l.ages place)

-- a rate of octets in bits, at most 2 ^ 128 - 1
abbrev pub bits_of : ℕ → ℕ
bits_of q = min (8 * q) (2 ^ 128 - 1)

-- whether a column is one of octets
abbrev pub is_octets : Column → Bool
is_octets column = is_in column || is_out column

-- a rate in thousandths: of octets in bits a second, else a second; a dash if there is none
abbrev pub rate_words : Bool → Option ℕ → List ℕ
rate_words octets None = codes "-"
rate_words octets (Some q) = if octets then rate_text Bits (bits_of q) else rate_text Each q

-- the rate of an instance
abbrev pub rate_at : Listed → ℕ → Option Entry → List ℕ
rate_at l place None = []
rate_at l place (Some e) = rate_words (is_octets (column_of e.name))
    (fresh_rate (fresh_at l place) e.items)

-- a rate of octets as a part of a speed, if both are known
abbrev pub part_words : Option ℕ → Option ℕ → List ℕ
part_words None rate = []
part_words (Some speed) None = []
part_words (Some speed) (Some q) = percent_text (bits_of q) speed

-- the speed among labels
abbrev pub speed_in : Option InstanceLabels → Option ℕ
speed_in None = None
speed_in (Some labels) = labels.speed

-- the rate of an instance as a part of the speed of its interface; nothing unless it is one of
-- octets
abbrev pub part_at : Listed → ℕ → Option Entry → List ℕ
part_at l place None = []
part_at l place (Some e) =
    if is_octets (column_of e.name) then part_words (speed_in (slice_get l.labels place))
    (fresh_rate (fresh_at l place) e.items) else []

-- the newest value of an instance
abbrev pub value_at : Option Entry → List ℕ
value_at None = []
value_at (Some e) = value_cell (newest_of e.items)

-- what is said of an instance's alarms
abbrev pub state_at : Listed → ℕ → Option Entry → List ℕ
state_at l place None = codes "-"
state_at l place (Some e) = state_cell (fresh_at l place) e.alarms

-- whether one of two texts is this one
abbrev pub is_either : List ℕ → List ℕ → List ℕ → Bool
is_either word a b = bytes_eq a word || bytes_eq b word

-- what is said of the alarms of two instances: stale if one is, else raised if one is, else clear
-- if one has a rule
abbrev pub joined_state : List ℕ → List ℕ → List ℕ
joined_state a b =
    if is_either (codes "stale") a b then codes "stale" else if is_either (codes "RAISED") a b
    then codes "RAISED"
    else if is_either (codes "clear") a b then codes "clear" else codes "-"

-- how many samples an instance has
abbrev pub count_at : Option Entry → ℕ
count_at None = 0
count_at (Some e) = length e.items

-- the greater of two ages
abbrev pub older : Option ℕ → Option ℕ → Option ℕ
older None other = other
older (Some age) None = Some age
older (Some age) (Some other) = Some (max age other)

-- a text that may be among labels
abbrev pub text_if : {A : Type 0} → Option (String A) → Option (List ℕ)
text_if text = option_map string_bytes text

-- the interface by its labels; nothing if they do not name it
abbrev pub interface_at : Option InstanceLabels → List ℕ
interface_at None = []
interface_at (Some labels) = interface_text (text_if labels.if_name) (text_if labels.if_alias)

-- two texts with something between them, unless one is empty
abbrev pub joined_by : List ℕ → List ℕ → List ℕ → List ℕ
joined_by between [] b = b
joined_by between (x ∷ xs) [] = x ∷ xs
joined_by between (x ∷ xs) (y ∷ ys) = (x ∷ xs) ++ between ++ (y ∷ ys)

-- the name of an instance, as it is shown; nothing if there is none
abbrev pub name_at : (List ℕ → List ℕ) → Option Entry → List ℕ
name_at shown None = []
name_at shown (Some e) = shown e.name

-- the name of the second instance of a row, if it has one
abbrev pub other_name : (List ℕ → List ℕ) → Listed → Option ℕ → Option (List ℕ)
other_name shown l None = None
other_name shown l (Some place) = Some (name_at shown (slice_get l.entries place))

-- what names a row, of its interface, its first name and its second one
abbrev pub named : List ℕ → List ℕ → Option (List ℕ) → List ℕ
named interface name None = joined_by (codes " ") interface name
named [] name (Some other) = name ++ codes ", " ++ other
named (x ∷ xs) name (Some other) = x ∷ xs

-- the name of a row: its interface, and the name of its instance; of two instances the interface,
-- or both names if it has no name
abbrev pub name_of : (List ℕ → List ℕ) → Listed → Row → List ℕ
name_of shown l row = named (interface_at (slice_get l.labels row.place))
    (name_at shown (slice_get l.entries row.place)) (other_name shown l row.out)

-- the cells of a row of one instance
abbrev pub lone_cells : (List ℕ → List ℕ) → Listed → Row → Cells
lone_cells shown l row = record {
  value = value_at (slice_get l.entries row.place);
  rate = rate_at l row.place (slice_get l.entries row.place);
  part = part_at l row.place (slice_get l.entries row.place);
  out = [];
  out_part = [];
  alarm = state_at l row.place (slice_get l.entries row.place);
  samples = decimal (count_at (slice_get l.entries row.place));
  age = age_cell (slice_get l.ages row.place);
  name = name_of shown l row;
}

-- the cells of a row of In and Out
abbrev pub paired_cells : (List ℕ → List ℕ) → Listed → Row → ℕ → Cells
paired_cells shown l row place = record {
  value = codes "-";
  rate = rate_at l row.place (slice_get l.entries row.place);
  part = part_at l row.place (slice_get l.entries row.place);
  out = rate_at l place (slice_get l.entries place);
  out_part = part_at l place (slice_get l.entries place);
  alarm = joined_state (state_at l row.place (slice_get l.entries row.place))
      (state_at l place (slice_get l.entries place));
  samples = decimal (count_at (slice_get l.entries row.place)
      + count_at (slice_get l.entries place));
  age = age_cell (older (slice_get l.ages row.place) (slice_get l.ages place));
  name = name_of shown l row;
}

-- the cells of a row that has this second instance
abbrev pub cells_if : (List ℕ → List ℕ) → Listed → Row → Option ℕ → Cells
cells_if shown l row None = lone_cells shown l row
cells_if shown l row (Some place) = paired_cells shown l row place

-- the cells of a row, by its second instance
abbrev pub cells_of : (List ℕ → List ℕ) → Listed → Row → Cells
cells_of shown l row = cells_if shown l row row.out
