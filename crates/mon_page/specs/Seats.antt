-- Where the instances of a device are shown: in the row of an interface, or among the others.
use Rattle.std.specs.Prelude.{ℕ, ◌+◌, Bool, true, false, not, ◌&&◌, ◌==◌, List, [], ◌∷◌, ◌++◌}
use Rattle.std.specs.Prelude.{Option, Some, None, take, filter, if◌then◌else◌}
use Rattle.std.specs.List.{list_any}
use Rattle.mon_display.specs.Interface.{column_of, interface_of}
use Rattle.mon_display.specs.declared.interface.Column.{Column}
use Rattle.mon_display.specs.declared.interface.Column.TheVariants.{InOctets, OutOctets, InErrors}
use Rattle.mon_display.specs.declared.interface.Column.TheVariants.{OutErrors, InDiscards}
use Rattle.mon_display.specs.declared.interface.Column.TheVariants.{OutDiscards, Other}
use Rattle.mon_page.specs.Rows.{Row}

-- an ifIndex is this one
abbrev pub is_index : ℕ → Option ℕ → Bool
is_index index None = false
is_index index (Some i) = i == index

-- the instance is of the interface of this ifIndex
abbrev pub is_at : ℕ → Row → Bool
is_at index r = is_index index (interface_of r.entry.name)

-- the column counts octets that came in
abbrev pub is_in : Column → Bool
is_in InOctets = true
is_in OutOctets = false
is_in InErrors = false
is_in OutErrors = false
is_in InDiscards = false
is_in OutDiscards = false
is_in Other = false

-- the column counts octets that went out
abbrev pub is_out : Column → Bool
is_out OutOctets = true
is_out InOctets = false
is_out InErrors = false
is_out OutErrors = false
is_out InDiscards = false
is_out OutDiscards = false
is_out Other = false

-- what the instance counts came in at an interface
abbrev pub comes_in : Row → Bool
comes_in r = is_in (column_of r.entry.name)

-- what it counts went out there
abbrev pub goes_out : Row → Bool
goes_out r = is_out (column_of r.entry.name)

-- whether an instance of this column and ifIndex has a place in the interface's row, by the
-- instances before it: the first that counts octets in, the first that counts octets out, and all
-- that count errors or discards
abbrev pub is_free : List Row → ℕ → Column → Bool
is_free before index InOctets = not (list_any (λ r. is_at index r && comes_in r) before)
is_free before index OutOctets = not (list_any (λ r. is_at index r && goes_out r) before)
is_free before index InErrors = true
is_free before index OutErrors = true
is_free before index InDiscards = true
is_free before index OutDiscards = true
is_free before index Other = false

-- whether a column is free before an instance, which may be of no interface
abbrev pub is_free_at : List Row → Option ℕ → Column → Bool
is_free_at before None c = false
is_free_at before (Some index) c = is_free before index c

-- whether an instance of a device has a place in an interface's row
abbrev pub has_place : List Row → Row → Bool
has_place before r = is_free_at before (interface_of r.entry.name) (column_of r.entry.name)

-- of the instances of a device from a place on those that have a place in a row, or those that have
-- none
abbrev pub placed_from : Bool → List Row → ℕ → List Row → List Row
placed_from has device place [] = []
placed_from true device place (r ∷ rs) =
    if has_place (take place device) r then r ∷ placed_from true device (place + 1) rs
    else placed_from true device (place + 1) rs
placed_from false device place (r ∷ rs) =
    if has_place (take place device) r then placed_from false device (place + 1) rs
    else r ∷ placed_from false device (place + 1) rs

-- the instances of a device that are in rows of interfaces
abbrev pub placed : List Row → List Row
placed device = placed_from true device 0 device

-- its other instances
abbrev pub others : List Row → List Row
others device = placed_from false device 0 device

-- the interface of an instance, unless one before it has the same: the instances of this ifIndex
abbrev pub interface_at : List Row → List Row → Option ℕ → List (List Row)
interface_at all before None = []
interface_at all before (Some index) = if list_any (is_at index) before then []
    else filter (is_at index) all ∷ []

-- the interfaces of instances from a place on, each once, with all its instances
abbrev pub interfaces_from : List Row → ℕ → List Row → List (List Row)
interfaces_from all place [] = []
interfaces_from all place (r ∷ rs) = interface_at all (take place all) (interface_of r.entry.name)
    ++ interfaces_from all (place + 1) rs

-- the interfaces of a device, each with the instances that are in its row
abbrev pub interfaces : List Row → List (List Row)
interfaces device = interfaces_from (placed device) 0 (placed device)
