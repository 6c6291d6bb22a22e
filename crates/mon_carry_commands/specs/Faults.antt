-- Faults of carrying, as a command's.
use Rattle.std.specs.Prelude.{◌≡◌, ℕ, List, false, codes}
use Rattle.mon_carry.specs.declared.fault.CarryFault.{CarryFault}
use Rattle.mon_carry.specs.declared.fault.CarryFault.TheVariants as carry
use Rattle.mon_console.specs.declared.failure.Failure.{Failure}
use Rattle.mon_faults.specs.Fault.{innermost_of}
use Rattle.mon_faults.specs.declared.fault.Fault.{Fault}
use Rattle.mon_faults.specs.declared.fault.Fault.TheVariants.{Image, Keeper, Station}
use Rattle.mon_station.specs.declared.fault.StationFault.TheVariants.{NoMoreIncarnations}
use Rattle.mon_station.specs.declared.fault.StationFault.TheVariants.{OutOfMemory}

-- a fault whose line has this crate, number and name
pub record HasLineOf (part : List ℕ) (number : ℕ) (name : List ℕ) (fault : Fault) : Type 0 where
  pub part_is : (innermost_of fault).part ≡ part
  pub number_is : (innermost_of fault).number ≡ number
  pub name_is : (innermost_of fault).name ≡ name

-- a fault of carrying as a command's: those of the parts are theirs
abbrev pub IsCarryFault : CarryFault → Fault → Type 0
IsCarryFault carry.OutOfMemory fault = fault ≡ Station OutOfMemory
IsCarryFault (carry.Keeper f) fault = fault ≡ Keeper f
IsCarryFault (carry.Image f) fault = fault ≡ Image f
IsCarryFault carry.NoMoreIncarnations fault = fault ≡ Station NoMoreIncarnations
IsCarryFault carry.AlreadySaved fault = HasLineOf (codes "mon_carry") 5 (codes "AlreadySaved") fault

-- a failure that has this fault, and some line or none
abbrev pub IsOfCarry : CarryFault → Failure → Type 0
IsOfCarry fault failure = IsCarryFault fault failure.fault × (failure.is_cut ≡ false)
