-- Steps of commands that have a log.
use Rattle.std.specs.Prelude.{Result, Ok, Err}
use Rattle.mon_console.specs.Failure.{IsMemory}
use Rattle.mon_console.specs.declared.failure.Failure.{Failure}

-- a value of which this holds, or memory ran out
abbrev pub OrMemory : {A : Type 0} → (A → Type 0) → Result A Failure → Type 0
OrMemory Holds (Ok value) = Holds value
OrMemory Holds (Err failure) = IsMemory failure
