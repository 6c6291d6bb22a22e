use Rattle.std.proofs.Common.{◌≡◌, ◌++◌, take, string_bytes}
use Rattle.mon_smi.specs.Nearest.{dotted_after}
use Rattle.mon_smi.proofs.labels.put_numbers.Given as goal

-- the numbers so far are written
abbrev pub invariant-loop-number : goal.invariant-loop-number
invariant-loop-number l = string_bytes l.text ≡ string_bytes l.initial.text ++ dotted_after (take l.number-index l.numbers)
