use Rattle.std.proofs.Common.{◌≡◌, map, option_map, string_bytes, take}
use Rattle.mon_settings.proofs.label.labels_of.Given as goal

-- the labels of the targets so far
abbrev pub invariant-loop-target : goal.invariant-loop-target
invariant-loop-target l =
    map (option_map string_bytes) l.labels.items ≡ map (λ t. t.label) (take l.target-index l.targets)
