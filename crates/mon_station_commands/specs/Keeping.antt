-- A station's file that was removed or replaced while it runs.
use Rattle.std.specs.Prelude.{◌≡◌, ◌⊎◌, ◌==◌, ◌&&◌, ℕ, Bool, true, false, if◌then◌else◌, List, []}
use Rattle.std.specs.Prelude.{◌∷◌, ◌++◌, IfErr, Option, Some, None, Result, Ok, Err, codes, decimal}
use Rattle.std.specs.declared.io.Error.{Error}
use Rattle.mon_console.specs.Failure.{IsOf, IsTold}
use Rattle.mon_console.specs.declared.failure.Failure.{Failure}
use Rattle.mon_disk.specs.declared.open_fault.OpenFault.{OpenFault}
use Rattle.mon_faults.specs.Fault.{station_fault}
use Rattle.mon_host.specs.AtHost.{AtHost, finding_node}
use Rattle.mon_host.specs.declared.level.Level.TheVariants as level
use Rattle.mon_host.specs.declared.reason.Reason.{Reason}
use Rattle.mon_station.specs.Saved.{IsMovingFault}
use Rattle.mon_station.specs.declared.fault.StationFault.{StationFault}
use Rattle.mon_file_commands.specs.Line.{AreNoted, Line, stated}
use Rattle.mon_station_commands.specs.Opening.{IsOfFile}
use Rattle.mon_station_commands.specs.declared.keeping.Found.{Found}
use Rattle.mon_station_commands.specs.declared.keeping.Found.TheVariants as found

-- whether the file of this device and inode is the station's, if it is known which that is
abbrev pub found_at : ℕ × ℕ → Result (ℕ × ℕ) Error → Found
found_at at (Ok own) = if (at.0 == own.0) && (at.1 == own.1) then found.Own else found.Other
found_at at (Err error) = found.Own

-- what is at the path of a station's file: it is the station's if the system does not say which it
-- is
abbrev pub found_by : Result (Option (ℕ × ℕ)) Reason → Result (ℕ × ℕ) Error → Found
found_by (Ok None) own = found.Nothing
found_by (Ok (Some at)) own = found_at at own
found_by (Err reason) own = found.Own

-- the line of a file that is gone or another one, unless it is known
abbrev pub strayed_lines : (round : ℕ) (path what : List ℕ) (known : Bool) → List Line
strayed_lines round path what true = []
strayed_lines round path what false = stated level.Warning (codes "snmpmon: round "
    ++ (decimal round ++ (codes ": " ++ (path ++ (codes " " ++ (what ++ codes "\n")))))) ∷ []

-- the line of windows that are saved again
abbrev pub moved_line : (round : ℕ) (path : List ℕ) → List ℕ
moved_line round path = codes "snmpmon: round "
    ++ (decimal round ++ (codes ": the windows are saved to " ++ (path ++ codes " again\n")))

-- why windows can't be saved to the file at a path: it could not be opened, or is no station's
abbrev pub IsNoFile : (path : List ℕ) → Failure → Type 0
IsNoFile path failure = ((fault : OpenFault) × IsOfFile path fault failure)
    ⊎ ((fault : StationFault) × IsMovingFault fault × IsOf (station_fault fault) failure)

-- a failure is said, unless it is known
abbrev pub IsToldIf : (known : Bool) → Failure → List AtHost → Type 0
IsToldIf true failure log = log ≡ []
IsToldIf false failure log = IsTold level.Error failure log

-- windows are saved again, and that is said; or it is said why not. `after` is whether they are
-- not.
abbrev pub IsMoveSaid : (round : ℕ) (path : List ℕ) (known : Bool) → Result Unit Failure
    → List AtHost
    → (after : Bool) → Type 0
IsMoveSaid round path known (Ok done) log after =
    AreNoted (stated level.Notice (moved_line round path) ∷ []) log × (after ≡ false)
IsMoveSaid round path known (Err failure) log after = IsToldIf known failure log × (after ≡ true)

-- What became of a station's file is said, unless it is known, and then whether the windows are
-- saved to the one at its path.
pub record IsTaken (round : ℕ) (path what : List ℕ) (known : Bool) (log : List AtHost)
    (after : Bool)
    : Type 0 where
  pub moved : Result Unit Failure
  pub refused : IfErr moved (IsNoFile path)
  pub begin : List AtHost
  pub strayed : AreNoted (strayed_lines round path what known) begin
  pub rest : List AtHost
  pub said : IsMoveSaid round path known moved rest after
  pub log_is : log ≡ begin ++ rest

-- what is done about what is at the path of a station's file
abbrev pub IsKeptBy : Found → (round : ℕ) (path : List ℕ) (known : Bool) → List AtHost
    → (after : Bool)
    → Type 0
IsKeptBy found.Own round path known log after = (log ≡ []) × (after ≡ false)
IsKeptBy found.Nothing round path known log after = IsTaken round path (codes "is gone") known log
    after
IsKeptBy found.Other round path known log after =
    IsTaken round path (codes "is another file now") known log after

-- Before a round it is asked which file is at the path of the station's. `known` is whether its own
-- was not there before, and could not be made; `after` the same now.
pub record IsFileKept (round : ℕ) (path : List ℕ) (known : Bool) (log : List AtHost) (after : Bool)
    : Type 0 where
  pub at : Result (Option (ℕ × ℕ)) Reason
  pub own : Result (ℕ × ℕ) Error
  pub rest : List AtHost
  pub done : IsKeptBy (found_by at own) round path known rest after
  pub log_is : log ≡ finding_node path at ∷ rest
