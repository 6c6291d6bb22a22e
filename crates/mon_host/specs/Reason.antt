-- Why the system refused a call.
use Rattle.std.specs.Prelude.{ℕ, List, Option, option_map, string_bytes}
use Rattle.std.specs.declared.io.ErrorKind.{ErrorKind}
use Rattle.mon_host.specs.declared.reason.Reason.{Reason}

-- the kind of failure, and the system's words for it, if there was memory for them
pub record Why : Type 0 where
  pub kind : ErrorKind
  pub words : Option (List ℕ)

-- what a reason says
abbrev pub why : Reason → Why
why reason = record { kind = reason.kind; words = option_map string_bytes reason.words }
