-- Which column of which interface a name is (RFC 2863, section 6).
use Rattle.std.specs.Prelude.{ℕ, ◌+◌, ◌-◌, Bool, ◌==◌, ◌&&◌, ◌||◌, List, [], ◌∷◌, length, take}
use Rattle.std.specs.Prelude.{Option, Some, None, slice_get, if◌then◌else◌}
use Rattle.std.specs.Str.{bytes_eq}
use Rattle.mon_display.specs.declared.interface.Column.{Column}
use Rattle.mon_display.specs.declared.interface.Column.TheVariants.{InOctets, OutOctets, InErrors}
use Rattle.mon_display.specs.declared.interface.Column.TheVariants.{OutErrors, InDiscards}
use Rattle.mon_display.specs.declared.interface.Column.TheVariants.{OutDiscards, Other}

-- what the names of columns of ifTable begin with
abbrev pub if_entry : List ℕ
if_entry = 1 ∷ 3 ∷ 6 ∷ 1 ∷ 2 ∷ 1 ∷ 2 ∷ 2 ∷ 1 ∷ []

-- what the names of columns of ifXTable begin with
abbrev pub if_x_entry : List ℕ
if_x_entry = 1 ∷ 3 ∷ 6 ∷ 1 ∷ 2 ∷ 1 ∷ 31 ∷ 1 ∷ 1 ∷ 1 ∷ []

-- whether a name is that of a column of this table with an index of one number
abbrev pub is_column_of : List ℕ → List ℕ → Bool
is_column_of entry name = bytes_eq (take (length entry) name) entry
    && (length name == length entry + 2)

-- whether a name is that of a column of ifTable or ifXTable
abbrev pub is_column : List ℕ → Bool
is_column name = is_column_of if_entry name || is_column_of if_x_entry name

-- the index of the interface that a name is about; only columns of ifTable and ifXTable are about
-- one
abbrev pub interface_of : List ℕ → Option ℕ
interface_of name = if is_column name then slice_get name (length name - 1) else None

-- a column of ifTable by its number
abbrev pub if_column : Option ℕ → Column
if_column None = Other
if_column (Some n) =
    if n == 10 then InOctets else if n == 13 then InDiscards else if n == 14 then InErrors
    else if n == 16 then OutOctets else if n == 19 then OutDiscards else if n == 20 then OutErrors
    else Other

-- a column of ifXTable by its number: ifHCInOctets and ifHCOutOctets
abbrev pub if_x_column : Option ℕ → Column
if_x_column None = Other
if_x_column (Some n) = if n == 6 then InOctets else if n == 10 then OutOctets else Other

-- the column that a name is about
abbrev pub column_of : List ℕ → Column
column_of name =
    if is_column_of if_entry name then if_column (slice_get name 9)
    else if is_column_of if_x_entry name then if_x_column (slice_get name 10) else Other
