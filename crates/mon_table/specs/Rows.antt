-- Which rows a table has: In and Out of an interface of a device are one row, each other instance
-- is a row of its own.
use Rattle.std.specs.Prelude.{ℕ, ◌+◌, Bool, true, false, ◌==◌, ◌&&◌, List, [], ◌∷◌, Option, Some}
use Rattle.std.specs.Prelude.{None, is_some, if◌then◌else◌}
use Rattle.std.specs.Str.{bytes_eq}
use Rattle.mon_display.specs.Interface.{column_of, interface_of}
use Rattle.mon_display.specs.declared.interface.Column.{Column}
use Rattle.mon_display.specs.declared.interface.Column.TheVariants.{InOctets, OutOctets}
use Rattle.mon_report.specs.Report.{Entry}
use Rattle.mon_table.specs.declared.rows.Row.{Row}

-- whether a column is that of octets in
abbrev pub is_in : Column → Bool
is_in InOctets = true
is_in _ = false

-- whether a column is that of octets out
abbrev pub is_out : Column → Bool
is_out OutOctets = true
is_out _ = false

-- whether both are indexes, and equal
abbrev pub same_index : Option ℕ → Option ℕ → Bool
same_index None other = false
same_index (Some index) None = false
same_index (Some index) (Some other) = index == other

-- whether another instance is of the same interface of the same device
abbrev pub is_beside : Entry → Entry → Bool
is_beside e other = bytes_eq other.engine e.engine && same_index (interface_of e.name)
    (interface_of other.name)

-- the place, from this one on, of the first octets in of an instance's interface
abbrev pub in_from : Entry → ℕ → List Entry → Option ℕ
in_from e n [] = None
in_from e n (other ∷ es) = if is_beside e other && is_in (column_of other.name) then Some n
    else in_from e (n + 1) es

-- the place, from this one on, of the first octets out of an instance's interface
abbrev pub out_from : Entry → ℕ → List Entry → Option ℕ
out_from e n [] = None
out_from e n (other ∷ es) = if is_beside e other && is_out (column_of other.name) then Some n
    else out_from e (n + 1) es

-- whether a place is this one
abbrev pub is_at : ℕ → Option ℕ → Bool
is_at place None = false
is_at place (Some other) = other == place

-- the row that begins with the instance at a place, of the interface with these octets in and out:
-- both if the instance is the first; none if it is the second and the first is there
abbrev pub row_between : ℕ → Option ℕ → Option ℕ → Option Row
row_between place into out =
    if is_at place into then Some (record { place = place; out = out })
    else if is_at place out && is_some into then None
    else Some (record { place = place; out = None })

-- the row that begins with the instance at a place
abbrev pub row_at : List Entry → ℕ → Entry → Option Row
row_at all place e = row_between place (in_from e 0 all) (out_from e 0 all)

-- a row, if there is one, before others
abbrev pub with_row : Option Row → List Row → List Row
with_row None rows = rows
with_row (Some row) rows = row ∷ rows

-- the rows of the instances from a place on
abbrev pub rows_from : List Entry → ℕ → List Entry → List Row
rows_from all place [] = []
rows_from all place (e ∷ es) = with_row (row_at all place e) (rows_from all (place + 1) es)
