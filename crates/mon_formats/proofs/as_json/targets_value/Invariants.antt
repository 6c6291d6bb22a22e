use Rattle.std.proofs.Common.{◌≡◌, map, take}
use Rattle.serde_json.specs.View.{view}
use Rattle.mon_formats.specs.Json.{target_data}
use Rattle.mon_formats.proofs.as_json.targets_value.Given as goal

-- those so far are made
abbrev pub invariant-loop-target : goal.invariant-loop-target
invariant-loop-target l = map view l.values.items ≡ map target_data (take l.target-index l.targets)
