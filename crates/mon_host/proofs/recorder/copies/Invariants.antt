use Rattle.std.proofs.Common.{◌≡◌, map, string_bytes, take}
use Rattle.mon_host.proofs.recorder.copies.Given as goal

-- those so far are copied
abbrev pub invariant-loop-word : goal.invariant-loop-word
invariant-loop-word l = map string_bytes l.copies.items ≡ map string_bytes (take l.word-index l.words)
