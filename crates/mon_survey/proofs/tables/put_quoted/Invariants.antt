use Rattle.std.proofs.Common.{◌≡◌, ◌++◌, take}
use Rattle.std.specs.List.{flat_map}
use Rattle.mon_survey.specs.Labels.{escaped}
use Rattle.mon_survey.proofs.tables.put_quoted.Given as goal

-- the octets so far
abbrev pub invariant-loop-octet : goal.invariant-loop-octet
invariant-loop-octet l = l.text.items ≡ l.initial.text.items ++ flat_map escaped (take l.octet-index l.value)
