-- How a station's run ends.
use Rattle.std.specs.Prelude.{◌≡◌, Bool, true, false, IsErrAnd, Option, Some, None, Result, Ok, Err}
use Rattle.mon_console.specs.Failure.{IsOf, IsPlain}
use Rattle.mon_console.specs.declared.failure.Failure.{Failure}
use Rattle.mon_disk.specs.declared.fault.KeeperFault.{KeeperFault}
use Rattle.mon_faults.specs.declared.fault.Fault.TheVariants.{Keeper, SettingsChanged}

-- The command fails if the last save failed; or else with a report's failure that was kept, one
-- that was not printed before one that was not written; or else if it ends since its settings
-- changed.
abbrev pub IsEnded : (unsaved : Option KeeperFault) (unprinted unwritten : Option Failure)
    (ends : Bool) → Result Unit Failure → Type 0
IsEnded (Some fault) unprinted unwritten ends result = IsErrAnd result (IsOf (Keeper fault))
IsEnded None (Some failure) unwritten ends result = result ≡ Err failure
IsEnded None None (Some failure) ends result = result ≡ Err failure
IsEnded None None None true result = IsErrAnd result (IsPlain SettingsChanged)
IsEnded None None None false result = result ≡ Ok tt
