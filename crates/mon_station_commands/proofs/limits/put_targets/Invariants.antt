use Rattle.std.proofs.Common.{◌≡◌, ◌++◌, ◌+◌, drop, string_bytes}
use Rattle.mon_station_commands.specs.Limits.{target_lines}
use Rattle.mon_station_commands.proofs.limits.put_targets.Given as goal

-- with the lines of the targets that are left, all lines are there
abbrev pub invariant-loop-place : goal.invariant-loop-place
invariant-loop-place l =
    string_bytes l.text ++ target_lines (l.place + 1) (drop l.place l.targets)
    ≡ string_bytes l.fn.text ++ target_lines 1 l.targets
