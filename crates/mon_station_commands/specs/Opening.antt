-- What is said of a station's file that could not be opened or saved.
use Rattle.std.specs.Prelude.{◌≡◌, ◌⊎◌, ◌-◌, ◌++◌, ℕ, IsErrAnd, List, Option, Result, Ok, Err, Some}
use Rattle.std.specs.Prelude.{None, codes, false, length, slice_get}
use Rattle.std.specs.IoError.{error_kind}
use Rattle.mon_console.specs.Failure.{HasLine, IsMemory, IsOf, IsOfStream}
use Rattle.mon_console.specs.declared.failure.Failure.{Failure}
use Rattle.mon_disk.specs.declared.open_fault.OpenFault.{OpenFault}
use Rattle.mon_disk.specs.declared.open_fault.OpenFault.TheVariants.{InUse, System}
use Rattle.mon_faults.specs.Fault.{innermost_of, station_fault}
use Rattle.mon_faults.specs.declared.fault.Fault.{Fault}
use Rattle.mon_host.specs.Reason.{Why}
use Rattle.mon_rounds.specs.declared.reporting.Notice.{Notice}
use Rattle.mon_rounds.specs.declared.reporting.Notice.TheVariants.{NoMemory, NotSaved}
use Rattle.mon_station.specs.Saved.{IsOpeningFault}
use Rattle.mon_station.specs.declared.event.Event.TheVariants.{Save}
use Rattle.mon_station.specs.declared.fault.StationFault.{StationFault}

-- the fault of a station's file that another process has open
abbrev pub IsInUse : Fault → Type 0
IsInUse fault = ((innermost_of fault).part ≡ codes "mon_disk") × ((innermost_of fault).number ≡ 7)
    × ((innermost_of fault).name ≡ codes "InUse")

-- The failure of a station's file that could not be opened: it is in use; or the system's error,
-- with a reason of its kind.
abbrev pub IsOfFile : (path : List ℕ) → OpenFault → Failure → Type 0
IsOfFile path InUse failure = IsInUse failure.fault
    × HasLine (path ++ codes ": another process has the file open as a station's") failure.more
    × (failure.is_cut ≡ false)
IsOfFile path (System error) failure =
    (reason : Why) × (reason.kind ≡ error_kind error) × IsOfStream path reason failure

-- what the opening of the file at a path gave: its value, or its fault's failure
abbrev pub IsOpenedOr : {T : Type 0} → (path : List ℕ) → Result T OpenFault → Result T Failure
    → Type 0
IsOpenedOr path (Ok value) result = result ≡ Ok value
IsOpenedOr path (Err fault) result = IsErrAnd result (IsOfFile path fault)

-- why there is no station over a file that was opened: memory ran out, or a fault of the opening
abbrev pub IsNoStation : Failure → Type 0
IsNoStation failure = IsMemory failure
    ⊎ ((fault : StationFault) × IsOpeningFault fault × IsOf (station_fault fault) failure)

-- the last of a round's notices, if there is one; a round that saves does so at its end
abbrev pub last_of : List Notice → Option Notice
last_of notices = slice_get notices (length notices - 1)

-- The number of the keeper's fault that a notice gives, if it is that of a save: 1 if memory was
-- refused for it.
abbrev pub unsaved_in : Option Notice → Option ℕ
unsaved_in (Some (NotSaved number)) = Some number
unsaved_in (Some (NoMemory Save)) = Some 1
unsaved_in _ = None
