-- Columns of the tables of interfaces (RFC 2863 section 6), and the names of their cells.
use Rattle.std.specs.Prelude.{ℕ, ◌+◌, ◌*◌, Bool, true, false, nat_eq, List, [], ◌∷◌, ◌++◌, drop}
use Rattle.std.specs.Prelude.{if◌then◌else◌}
use Rattle.std.specs.List.{starts_with}
use Rattle.mon_survey.specs.declared.column.Column.{Column}
use Rattle.mon_survey.specs.declared.column.Column.TheVariants.{If, IfX}
use Rattle.mon_survey.specs.declared.column.Spot.{Spot}
use Rattle.mon_survey.specs.declared.column.Spot.TheVariants.{Cell, Ragged, Elsewhere}

-- ifEntry, 1.3.6.1.2.1.2.2.1
abbrev pub if_entry : List ℕ
if_entry = 1 ∷ 3 ∷ 6 ∷ 1 ∷ 2 ∷ 1 ∷ 2 ∷ 2 ∷ 1 ∷ []

-- ifXEntry, 1.3.6.1.2.1.31.1.1.1
abbrev pub if_x_entry : List ℕ
if_x_entry = 1 ∷ 3 ∷ 6 ∷ 1 ∷ 2 ∷ 1 ∷ 31 ∷ 1 ∷ 1 ∷ 1 ∷ []

-- the name of a column: its entry and its number
abbrev pub column_name : Column → List ℕ
column_name (If c) = if_entry ++ c ∷ []
column_name (IfX c) = if_x_entry ++ c ∷ []

-- ifDescr, ifType, ifSpeed, ifOperStatus, the counters of ifTable; ifName, those of ifXTable,
-- ifHighSpeed, ifAlias and ifCounterDiscontinuityTime
abbrev pub columns : List Column
columns = If 2 ∷ If 3 ∷ If 5 ∷ If 8 ∷ If 10 ∷ If 11 ∷ If 13 ∷ If 14 ∷ If 16 ∷ If 17 ∷ If 19 ∷ If 20
    ∷ IfX 1 ∷ IfX 2 ∷ IfX 3 ∷ IfX 4 ∷ IfX 5 ∷ IfX 6 ∷ IfX 7 ∷ IfX 8 ∷ IfX 9 ∷ IfX 10 ∷ IfX 11
    ∷ IfX 12 ∷ IfX 13 ∷ IfX 15 ∷ IfX 18 ∷ IfX 19 ∷ []

-- the name of a cell: its entry, its column and its index
abbrev pub cell_name : Column → ℕ → List ℕ
cell_name (If c) index = if_entry ++ c ∷ index ∷ []
cell_name (IfX c) index = if_x_entry ++ c ∷ index ∷ []

-- a number that rises as columns do
abbrev pub code_of : Column → ℕ
code_of (If c) = c
code_of (IfX c) = 4294967296 + c

-- a number that rises as the names of cells do, and that no two cells share
abbrev pub key_of : Column → ℕ → ℕ
key_of column index = code_of column * 4294967296 + index

-- where the numbers after an entry's name lead: to a cell where they are a column and one index
abbrev pub spot_after : Bool → List ℕ → Spot
spot_after extended (c ∷ index ∷ []) = if extended then Cell (IfX c) index else Cell (If c) index
spot_after extended _ = Ragged

-- where a name lies
unfoldable pub spot_of : List ℕ → Spot
spot_of q =
    if starts_with nat_eq q if_entry then spot_after false (drop 9 q)
    else (if starts_with nat_eq q if_x_entry then spot_after true (drop 10 q) else Elsewhere)
