use Rattle.std.proofs.Common.{◌≡◌, map, take}
use Rattle.mon_client.specs.Question.{asked_for, wanted_value}
use Rattle.mon_client.proofs.question.asked_bindings.Given as goal

abbrev pub invariant-loop-name : goal.invariant-loop-name
invariant-loop-name l = l.bindings.items ≡ map (asked_for (wanted_value l.asking)) (take l.name-index l.names)
