-- What an agent answered of its interfaces: cells in the order of their names.
use Rattle.std.specs.Prelude.{
  ◌≡◌,
  ◌<◌,
  ◌*◌,
  ◌==◌,
  ℕ,
  Bool,
  true,
  false,
  int_le,
  nat_eq,
  nat_lt,
  unsigned_abs,
  List,
  [],
  ◌∷◌,
  ◌++◌,
  length,
  map,
  find,
  slice_index_or,
  slice_get,
  ◌-◌,
  AllPairs,
  Option,
  Some,
  None,
  option_map,
  Result,
  Ok,
  Err,
  pos,
  if◌then◌else◌,
}
use Rattle.std.specs.List.{filter}
use Rattle.std.specs.Ordering.{int_eq}
use Rattle.mon_ber.specs.declared.value.Value.{Value}
use Rattle.mon_ber.specs.declared.value.Value.TheVariants as value
use Rattle.mon_survey.specs.declared.answers.Cell.{Cell}
use Rattle.mon_survey.specs.declared.column.Column.{Column}
use Rattle.mon_survey.specs.declared.column.Column.TheVariants.{If, IfX}
use Rattle.mon_survey.specs.declared.column.Spot.{Spot}
use Rattle.mon_survey.specs.declared.column.Spot.TheVariants as spot
use Rattle.mon_survey.specs.declared.fault.SurveyFault.{SurveyFault}
use Rattle.mon_survey.specs.declared.fault.SurveyFault.TheVariants.{BadIndex, NotRising}
use Rattle.mon_survey.specs.Column.{key_of, spot_of}

-- the numbers of the cells' places
abbrev pub keys_of : List Cell → List ℕ
keys_of cells = map (λ c. c.key) cells

-- each cell comes before those after it
abbrev pub IsRising : List Cell → Type 0
IsRising cells = AllPairs (λ n m. n < m) (keys_of cells)

-- whether a cell of this key comes after another, where there is one
abbrev pub is_after_one : Option Cell → ℕ → Bool
is_after_one None key = true
is_after_one (Some c) key = nat_lt c.key key

-- whether a cell of this key comes after the last one
abbrev pub is_after : List Cell → ℕ → Bool
is_after cells key = is_after_one (slice_get cells (length cells - 1)) key

-- the cells with one more, which has to come after them
abbrev pub with_cell : List Cell → Column → ℕ → Value → Result (List Cell) SurveyFault
with_cell cells column index v =
    if is_after cells (key_of column index) then Ok (cells ++
    (record { key = key_of column index; column = column; index = index; value = v }) ∷ [])
    else Err NotRising

-- the cells with a value at this place
abbrev pub at_spot : List Cell → Value → Spot → Result (List Cell) SurveyFault
at_spot cells v (spot.Cell column index) = with_cell cells column index v
at_spot cells v spot.Ragged = Err BadIndex
at_spot cells v spot.Elsewhere = Ok cells

-- the cells with the value of a name
abbrev pub taken : List Cell → List ℕ → Value → Result (List Cell) SurveyFault
taken cells q v = at_spot cells v (spot_of q)

-- the place is that of the cell of this key
pub record IsPlaceOf (cells : List Cell) (key place : ℕ) : Type 0 where
  pub within : place < length cells
  pub is : (d : Cell) → (slice_index_or cells place d).key ≡ key

-- the first cell of this key
abbrev pub cell_at : List Cell → ℕ → Option Cell
cell_at cells key = find (λ c. nat_eq c.key key) cells

-- the value of a cell
abbrev pub value_at : List Cell → Column → ℕ → Option Value
value_at cells column index = option_map (λ c. c.value) (cell_at cells (key_of column index))

-- whether a value is a counter of 64 bits
abbrev pub is_counter64 : Option Value → Bool
is_counter64 (Some (value.Counter64 n)) = true
is_counter64 _ = false

-- whether a value is a counter of 32 bits
abbrev pub is_counter32 : Option Value → Bool
is_counter32 (Some (value.Counter32 n)) = true
is_counter32 _ = false

-- whether a value is a time
abbrev pub is_time : Option Value → Bool
is_time (Some (value.TimeTicks n)) = true
is_time _ = false

-- whether a value is the number 1
abbrev pub is_one : Option Value → Bool
is_one (Some (value.Integer z)) = int_eq z (pos 1)
is_one _ = false

-- the number of a gauge; 0 if it is absent
abbrev pub number_in : Option Value → ℕ
number_in (Some (value.Gauge32 n)) = n
number_in _ = 0

-- An interface's speed in bits a second, by its ifHighSpeed, in units of 1,000,000, and its ifSpeed
-- (RFC 2863 section 6): by ifHighSpeed if that is above 0, else by ifSpeed. An ifSpeed of
-- 4,294,967,295 says only that the speed is no less, so then it is unknown, as if both are 0. 0 if
-- it is unknown.
abbrev pub speed_of : (millions plain : ℕ) → ℕ
speed_of millions plain = if nat_lt 0 millions then millions * 1000000
    else (if nat_lt plain 4294967295 then plain else 0)

-- the number of an integer from 0 on; 0 for any other value
abbrev pub positive_in : Option Value → ℕ
positive_in (Some (value.Integer z)) = if int_le (pos 0) z then unsigned_abs z else 0
positive_in _ = 0

-- the octets of a value, none where it has none
abbrev pub octets_of : Option Value → List ℕ
octets_of (Some (value.Octets o)) = o
octets_of _ = []

-- the octets of a value, or others where it has none
abbrev pub octets_or : List ℕ → Option Value → List ℕ
octets_or other (Some (value.Octets o)) = o
octets_or other _ = other

-- whether an interface has an ifCounterDiscontinuityTime
abbrev pub is_marked : List Cell → ℕ → Bool
is_marked cells index = is_time (value_at cells (IfX 19) index)

-- whether an interface's ifOperStatus is up(1)
abbrev pub is_up : List Cell → ℕ → Bool
is_up cells index = is_one (value_at cells (If 8) index)

-- an interface's ifName, or its ifDescr where it has none
abbrev pub name_in : List Cell → ℕ → List ℕ
name_in cells index = octets_or (octets_of (value_at cells (If 2) index))
    (value_at cells (IfX 1) index)

-- an interface's speed in bits a second, 0 if it is unknown
abbrev pub speed_in : List Cell → ℕ → ℕ
speed_in cells index = speed_of (number_in (value_at cells (IfX 15) index))
    (number_in (value_at cells (If 5) index))

-- an interface's ifType, 0 if it is absent
abbrev pub type_in : List Cell → ℕ → ℕ
type_in cells index = positive_in (value_at cells (If 3) index)

-- whether a column is ifDescr, of which each interface has a cell
abbrev pub is_descr : Column → Bool
is_descr (If c) = c == 2
is_descr (IfX c) = false

-- how many interfaces ifTable has
abbrev pub count_of : List Cell → ℕ
count_of cells = length (filter (λ c. is_descr c.column) cells)
