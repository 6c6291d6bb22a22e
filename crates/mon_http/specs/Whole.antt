-- A request that was read from all of its octets.
use Rattle.std.specs.Prelude.{ℕ, ◌==◌, Option, Some, None, Result, Ok, Err, if◌then◌else◌}
use Rattle.httparse.specs.declared.Error.{Error}
use Rattle.httparse.specs.declared.Status.{Status}
use Rattle.httparse.specs.declared.Status.TheVariants.{Complete, Partial}
use Rattle.httparse.specs.declared.spans.RequestSpans.{RequestSpans}

-- what was read, if it is the whole of `len` octets
abbrev pub whole_of : Result (Status RequestSpans) Error → ℕ → Option RequestSpans
whole_of (Ok (Complete found)) len = if found.len == len then Some found else None
whole_of (Ok Partial) len = None
whole_of (Err fault) len = None
