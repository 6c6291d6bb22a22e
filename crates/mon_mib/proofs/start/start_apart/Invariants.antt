use Rattle.std.proofs.Common.{◌≡◌, drop}
use Rattle.mon_mib.specs.Order.{start_of}
use Rattle.mon_mib.proofs.start.start_apart.Given as goal

-- what is left of both decides
abbrev pub invariant-loop-part : goal.invariant-loop-part
invariant-loop-part l = start_of (drop l.part-index l.prefix) l.rest ≡ start_of l.prefix l.name
