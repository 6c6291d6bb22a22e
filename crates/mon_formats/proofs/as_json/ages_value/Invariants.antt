use Rattle.std.proofs.Common.{◌≡◌, map, take}
use Rattle.serde_json.specs.View.{view}
use Rattle.mon_formats.specs.Json.{age_data}
use Rattle.mon_formats.proofs.as_json.ages_value.Given as goal

-- those so far are made
abbrev pub invariant-loop-age : goal.invariant-loop-age
invariant-loop-age l = map view l.values.items ≡ map age_data (take l.age-index l.ages)
