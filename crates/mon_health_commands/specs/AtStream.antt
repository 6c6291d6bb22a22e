-- What happens at a stream of TCP.
use Rattle.std.specs.Prelude.{ℕ, List, length, take, Result, Ok, Err}
use Rattle.std.specs.IoError.{error_kind}
use Rattle.std.specs.declared.io.Error.{Error}
use Rattle.std.specs.declared.io.ErrorKind.{ErrorKind}

-- Each further wait for octets, or each further sending, was limited to this many seconds; octets
-- were offered, of which the stream took this many of the first; or octets came to a buffer of this
-- size, none if the other side sends no more. Or the call failed.
pub data AtStream : Type 0 where
  ReadsLimited : ℕ → Result Unit ErrorKind → AtStream
  WritesLimited : ℕ → Result Unit ErrorKind → AtStream
  Offered : List ℕ → Result ℕ ErrorKind → AtStream
  Received : (size : ℕ) → Result (List ℕ) ErrorKind → AtStream

-- what a call answered; of a failure, its kind
abbrev pub answered : {A : Type 0} → Result A Error → Result A ErrorKind
answered (Ok value) = Ok value
answered (Err error) = Err (error_kind error)

-- the octets that a call answered are the first of the buffer
abbrev pub came : List ℕ → Result ℕ Error → Result (List ℕ) ErrorKind
came buffer (Ok n) = Ok (take n buffer)
came buffer (Err error) = Err (error_kind error)

-- waits for octets were limited
abbrev pub limiting_reads : ℕ → Result Unit Error → AtStream
limiting_reads seconds result = ReadsLimited seconds (answered result)

-- sendings were limited
abbrev pub limiting_writes : ℕ → Result Unit Error → AtStream
limiting_writes seconds result = WritesLimited seconds (answered result)

-- octets were offered
abbrev pub offering : List ℕ → Result ℕ Error → AtStream
offering octets result = Offered octets (answered result)

-- octets were asked for, and are in the buffer then
abbrev pub receiving : List ℕ → Result ℕ Error → AtStream
receiving buffer result = Received (length buffer) (came buffer result)
