use Rattle.std.proofs.Common.{◌≡◌, map, take}
use Rattle.serde_json.specs.View.{view}
use Rattle.mon_formats.specs.Json.{debt_data}
use Rattle.mon_formats.proofs.as_json.debts_value.Given as goal

-- those so far are made
abbrev pub invariant-loop-peer : goal.invariant-loop-peer
invariant-loop-peer l = map view l.values.items ≡ map debt_data (take l.peer-index l.debts)
