use Rattle.std.proofs.Common.{◌≡◌, ◌++◌, string_bytes}
use Rattle.mon_rehearsal.specs.Printed.{numbers_from}
use Rattle.mon_rehearsal.proofs.printed.put_numbers.Given as goal

-- this many are written
abbrev pub invariant-loop-i : goal.invariant-loop-i
invariant-loop-i l = string_bytes l.line ≡ string_bytes l.fn.line ++ numbers_from l.sent.first l.i
