use Rattle.std.proofs.Common.{◌≡◌, ◌++◌, take, map, string_bytes}
use Rattle.mon_survey.specs.Text.{shown}
use Rattle.mon_survey.proofs.writing.put_cleaned.Given as goal

-- the octets so far
abbrev pub invariant-loop-octet : goal.invariant-loop-octet
invariant-loop-octet l = string_bytes l.text ≡ string_bytes l.initial.text ++ map shown (take l.octet-index l.octet-items)
