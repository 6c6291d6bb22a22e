use Rattle.std.proofs.Common.{◌≡◌, ◌++◌, string_bytes}
use Rattle.mon_placing.specs.Network.{entries_of}
use Rattle.mon_placing.proofs.texts.put_entries.Given as goal

-- what was appended for the groups so far
abbrev pub invariant-loop-part : goal.invariant-loop-part
invariant-loop-part l = string_bytes l.text ≡ string_bytes l.fn.text ++ entries_of l.network l.part
