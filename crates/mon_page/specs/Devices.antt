-- The devices of a report: neighbouring instances of one engine id.
use Rattle.std.specs.Prelude.{ℕ, ◌+◌, ◌-◌, ◌*◌, ◌^◌, max, Bool, true, not, ◌||◌, ◌==◌, List, []}
use Rattle.std.specs.Prelude.{◌∷◌, Option, Some, None, bytes_eq, take, slice_get, if◌then◌else◌}
use Rattle.std.specs.List.{list_all, list_any}
use Rattle.std.specs.Prelude.{find, position}
use Rattle.mon_sample.specs.Key.{boots_of, time_of}
use Rattle.mon_page.specs.declared.figures.Figures.{Figures}
use Rattle.mon_page.specs.declared.figures.TargetFigures.{TargetFigures}
use Rattle.mon_page.specs.Cells.{has_raised, newest_of}
use Rattle.mon_page.specs.Rows.{Row}
use Rattle.mon_page.specs.Words.{is_labelled}

-- the instance before a place
abbrev pub row_before : ℕ → List Row → Option Row
row_before place rows = if place == 0 then None else slice_get rows (place - 1)

-- an instance begins a device: none is before it, or one of another engine id
abbrev pub begins : Option Row → Row → Bool
begins None r = true
begins (Some b) r = not (bytes_eq b.entry.engine r.entry.engine)

-- the first of instances, as many as there are before another engine id, if there is one
abbrev pub cut : Option ℕ → List Row → List Row
cut None rows = rows
cut (Some n) rows = take n rows

-- the instances up to the first of another engine id
abbrev pub device_at : List ℕ → List Row → List Row
device_at engine rows = cut (position (λ r. not (bytes_eq r.entry.engine engine)) rows) rows

-- the devices that begin at a place or after it
abbrev pub devices_from : List Row → ℕ → List Row → List (List Row)
devices_from rows place [] = []
devices_from rows place (r ∷ rs) =
    if begins (row_before place rows) r then device_at r.entry.engine (r ∷ rs)
    ∷ devices_from rows (place + 1) rs else devices_from rows (place + 1) rs

-- the devices, each with its instances
abbrev pub devices : List Row → List (List Row)
devices rows = devices_from rows 0 rows

-- the engine id of a device
abbrev pub engine_of : List Row → List ℕ
engine_of [] = []
engine_of (r ∷ rs) = r.entry.engine

-- the targets of a station
abbrev pub targets_of : Option Figures → List TargetFigures
targets_of None = []
targets_of (Some f) = f.targets.items

-- a device is up: each target of its engine id is
abbrev pub is_up : List TargetFigures → List Row → Bool
is_up targets device = list_all (λ t. t.up || not (bytes_eq t.engine.items (engine_of device)))
    targets

-- something is wrong in a device: it is down, or an instance is stale or has a raised alarm
abbrev pub is_wrong : List TargetFigures → List Row → Bool
is_wrong targets device = not (is_up targets device) || (list_any (λ r. not r.fresh) device
    || list_any (λ r. has_raised r.entry.alarms) device)

-- an instance that was found, else the first
abbrev pub or_first : Option Row → List Row → Option Row
or_first (Some r) device = Some r
or_first None [] = None
or_first None (r ∷ rs) = Some r

-- the instance that names a device: the first whose labels do, else the first
abbrev pub naming_row : List Row → Option Row
naming_row device = or_first (find is_labelled device) device

-- the stamp of an instance's newest sample as one number, 0 if it has none
abbrev pub stamp_of : Option ℕ → ℕ
stamp_of None = 0
stamp_of (Some s) = boots_of s * 2 ^ 32 + time_of s

-- the greatest stamp of a number and those of instances
abbrev pub newest_stamp : ℕ → List Row → ℕ
newest_stamp n [] = n
newest_stamp n (r ∷ rs) = newest_stamp (max n (stamp_of (newest_of r.entry.items))) rs
