use Rattle.std.proofs.Common.{◌≡◌, ◌+◌, [], drop, map}
use Rattle.mon_placing.specs.Machines.{listed, read_from}
use Rattle.mon_placing.proofs.machines.machines_in.Given as goal

-- what the lines that are left give after the machines so far is what all lines give
abbrev pub invariant-loop-place : goal.invariant-loop-place
invariant-loop-place l = read_from 1 [] (map (λ line. line.now) l.lines.items)
    ≡ read_from (l.place + 1) (map listed l.machines.items) (drop l.place (map (λ line. line.now) l.lines.items))
