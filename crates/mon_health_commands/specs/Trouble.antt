-- Why a station gave no answer over HTTP, and what is said of it.
use Rattle.std.specs.Prelude.{◌≡◌, ℕ, List, ◌++◌, codes, decimal}
use Rattle.std.specs.declared.io.ErrorKind.{ErrorKind}
use Rattle.std.specs.declared.io.ErrorKind.TheVariants as kinds
use Rattle.mon_app.specs.AppFault.{reason_of, text_of_reason}
use Rattle.mon_app.specs.declared.fault.AppFault.TheVariants.{SocketFault, Timeout}
use Rattle.mon_console.specs.Failure.{IsSaid}
use Rattle.mon_console.specs.declared.failure.Failure.{Failure}
use Rattle.mon_faults.specs.Fault.{innermost_of}
use Rattle.mon_faults.specs.declared.fault.Fault.{Fault}
use Rattle.mon_faults.specs.declared.fault.Fault.TheVariants.{App}
use Rattle.mon_health_commands.specs.declared.trouble.Trouble.{Trouble}
use Rattle.mon_health_commands.specs.declared.trouble.Trouble.TheVariants.{Broken, Closed}
use Rattle.mon_health_commands.specs.declared.trouble.Trouble.TheVariants.{Malformed, Scattered}
use Rattle.mon_health_commands.specs.declared.trouble.Trouble.TheVariants.{Status}

-- what is said of a call that failed
abbrev pub broken_text : ErrorKind → List ℕ
broken_text kinds.TimedOut = codes "no answer within 2 seconds"
broken_text kinds.WouldBlock = codes "no answer within 2 seconds"
broken_text kinds.ConnectionRefused = codes "nothing listens there"
broken_text kind = codes "the connection failed: " ++ text_of_reason (reason_of kind)

-- what is said
abbrev pub trouble_text : Trouble → List ℕ
trouble_text (Broken kind) = broken_text kind
trouble_text Closed = codes "the connection was closed before an answer"
trouble_text Scattered = codes "the answer came in more than 8 pieces"
trouble_text Malformed = codes "the answer is none of HTTP/1.1"
trouble_text (Status status) = codes "the station answered with status " ++ decimal status

-- a fault of this command, whose line has this number and name
pub record IsOwn (number : ℕ) (name : List ℕ) (fault : Fault) : Type 0 where
  pub part_is : (innermost_of fault).part ≡ codes "mon_health_commands"
  pub number_is : (innermost_of fault).number ≡ number
  pub name_is : (innermost_of fault).name ≡ name

-- the fault of a call that failed: nothing came in time, or a socket's
abbrev pub IsBroken : ErrorKind → Fault → Type 0
IsBroken kinds.TimedOut fault = fault ≡ App Timeout
IsBroken kinds.WouldBlock fault = fault ≡ App Timeout
IsBroken kind fault = fault ≡ App (SocketFault (reason_of kind))

-- the fault of the command
abbrev pub IsTroubleFault : Trouble → Fault → Type 0
IsTroubleFault (Broken kind) fault = IsBroken kind fault
IsTroubleFault Closed fault = IsOwn 3 (codes "BadResponse") fault
IsTroubleFault Scattered fault = IsOwn 3 (codes "BadResponse") fault
IsTroubleFault Malformed fault = IsOwn 3 (codes "BadResponse") fault
IsTroubleFault (Status status) fault = IsOwn 2 (codes "Unhealthy") fault

-- the failure of the command: ADDRESS: what is said
abbrev pub IsTroubled : List ℕ → Trouble → Failure → Type 0
IsTroubled address trouble failure = IsTroubleFault trouble failure.fault
    × IsSaid failure.fault (address ++ codes ": " ++ trouble_text trouble) failure
