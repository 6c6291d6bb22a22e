use Rattle.std.proofs.Common.{◌≡◌}
use Rattle.mon_rounds.specs.Changes.{others_of}
use Rattle.mon_rounds.proofs.changes.other_engines.Given as goal

-- those so far
abbrev pub invariant-loop-place : goal.invariant-loop-place
invariant-loop-place l = l.others.items ≡ others_of l.latest.datagrams.items l.targets l.engines l.place
