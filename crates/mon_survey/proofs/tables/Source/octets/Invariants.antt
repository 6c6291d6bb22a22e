use Rattle.std.proofs.Common.{◌≡◌, ◌++◌, take}
use Rattle.std.specs.List.{flat_map}
use Rattle.mon_survey.specs.Labels.{begun, interface_text}
use Rattle.mon_survey.proofs.tables.Source.octets.Given as goal

-- the tables so far
abbrev pub invariant-loop-index : goal.invariant-loop-index
invariant-loop-index l = l.text.items ≡ begun l.old ++ flat_map (interface_text l.self.engine.now l.self.answers.now) (take l.index-index l.indexes)
