-- Failures of commands, and what is said of them on standard error.
use Rattle.std.specs.Prelude.{◌≡◌, ◌⊎◌, ◌==◌, ℕ, List, [], ◌∷◌, ◌++◌, Bool, true, false, IfSome}
use Rattle.std.specs.Prelude.{Option, Some, None, codes, option_map, String, string_bytes}
use Rattle.std.specs.Global.{Global}
use Rattle.std.specs.declared.io.ErrorKind.{ErrorKind}
use Rattle.std.specs.declared.io.ErrorKind.TheVariants as kinds
use Rattle.mon_app.specs.AppFault.{of_stream, text_of_reason}
use Rattle.mon_app.specs.declared.fault.AppFault.{AppFault}
use Rattle.mon_app.specs.declared.fault.AppFault.TheVariants.{BadText, OutOfMemory, SocketFault}
use Rattle.mon_app.specs.declared.reason.SocketReason.{SocketReason}
use Rattle.mon_console.specs.declared.failure.Failure.{Failure}
use Rattle.mon_faults.specs.Fault.{innermost_of}
use Rattle.mon_faults.specs.declared.fault.Fault.{Fault}
use Rattle.mon_faults.specs.declared.fault.Fault.TheVariants.{App}
use Rattle.mon_host.specs.declared.level.Level.{Level}
use Rattle.mon_host.specs.AtHost.{AtHost, Noted}
use Rattle.mon_host.specs.Reason.{Why}
use Rattle.mon_station.specs.Fault.{told_text}

-- the reader of a pipe went away
abbrev pub is_cut_by : ErrorKind → Bool
is_cut_by kinds.BrokenPipe = true
is_cut_by _ = false

-- the second line of a failure is this one, or there was no memory for it
abbrev pub HasLine : List ℕ → Option (String Global) → Type 0
HasLine text more = (option_map string_bytes more ≡ Some text) ⊎ (more ≡ None)

-- a failure that has this fault and no line of its own
abbrev pub IsPlain : Fault → Failure → Type 0
IsPlain fault failure = (failure.fault ≡ fault) × (failure.more ≡ None) × (failure.is_cut ≡ false)

-- a failure that has this fault, and some line or none
abbrev pub IsOf : Fault → Failure → Type 0
IsOf fault failure = (failure.fault ≡ fault) × (failure.is_cut ≡ false)

-- memory ran out
abbrev pub IsMemory : Failure → Type 0
IsMemory = IsPlain (App OutOfMemory)

-- a failure that has this fault, and this line or no memory for it
pub record IsSaid (which : Fault) (text : List ℕ) (failure : Failure) : Type 0 where
  pub fault : failure.fault ≡ which
  pub more : HasLine text failure.more
  pub whole : failure.is_cut ≡ false

-- the second line of a file or stream: PLACE: WORDS, or none without words or memory
abbrev pub HasReason : List ℕ → Option (List ℕ) → Option (String Global) → Type 0
HasReason place None more = more ≡ None
HasReason place (Some words) more = HasLine (place ++ codes ": " ++ words) more

-- The failure of a file or a stream. Its fault, its line, and whether the reader went away follow
-- from the reason.
pub record IsOfStream (place : List ℕ) (reason : Why) (failure : Failure) : Type 0 where
  pub fault : failure.fault ≡ App (of_stream reason.kind)
  pub more : HasReason place reason.words failure.more
  pub cut : failure.is_cut ≡ is_cut_by reason.kind

-- the failure of an argument or a text, whose line is `PLACE: WANTED is wanted`
abbrev pub IsOfText : List ℕ → List ℕ → Failure → Type 0
IsOfText place wanted = IsSaid (App BadText) (place ++ codes ": " ++ wanted ++ codes " is wanted")

-- what a socket's line says after its address
abbrev pub without_socket : SocketReason → List ℕ
without_socket reason = codes ": no socket could be opened or used: " ++ text_of_reason reason

-- The failure of a socket at an address. Its line is known if the address's text is.
pub record IsOfSocket (address : Option (List ℕ)) (reason : SocketReason) (failure : Failure)
    : Type 0 where
  pub fault : failure.fault ≡ App (SocketFault reason)
  pub more : IfSome address (λ a. HasLine (a ++ without_socket reason) failure.more)
  pub whole : failure.is_cut ≡ false

-- the failure of a socket that could not be opened: memory, or a reason
abbrev pub IsUnopened : Option (List ℕ) → AppFault → Failure → Type 0
IsUnopened address (SocketFault reason) failure = IsOfSocket address reason failure
IsUnopened address fault failure = IsPlain (App fault) failure

-- the first line of a failure: that of the innermost fault
abbrev pub first_line : Fault → List ℕ
first_line fault = codes "snmpmon: " ++ told_text (innermost_of fault) ++ 10 ∷ []

-- the second line: what the failure has, or some words for its fault
abbrev pub IsSecond : Level → Option (List ℕ) → List AtHost → Type 0
IsSecond level (Some more) log = log ≡ Noted level (more ++ 10 ∷ []) ∷ []
IsSecond level None log = (words : List ℕ) × (log ≡ Noted level words ∷ [])

-- what is said after the first line: nothing more if memory ran out
abbrev pub IsToldMore : Level → Bool → Option (List ℕ) → List AtHost → Type 0
IsToldMore level true more log = log ≡ []
IsToldMore level false more log = IsSecond level more log

-- whether memory ran out
abbrev pub is_memory : Fault → Bool
is_memory fault = (innermost_of fault).number == 1

-- what is said of a failure on standard error, at this level
pub record IsTold (level : Level) (failure : Failure) (log : List AtHost) : Type 0 where
  pub rest : List AtHost
  pub more : IsToldMore level (is_memory failure.fault) (option_map string_bytes failure.more) rest
  pub log_is : log ≡ Noted level (first_line failure.fault) ∷ rest
