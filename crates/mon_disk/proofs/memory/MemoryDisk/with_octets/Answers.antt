use Rattle.std.proofs.Common.{◌≡◌, ap}
use Rattle.mon_disk.specs.Record.{restored}
use Rattle.mon_disk.proofs.Recorded.{fresh}
use Rattle.mon_disk.proofs.memory.MemoryDisk.with_octets.Goals as goal

pub returns-clause-crash : goal.returns-clause-crash
returns-clause-crash c =
    let octets = c.args.octets.items in
    let first : restored octets c.new-2.result.items ≡ octets = ap (restored octets) c.new-2.ensures.items in
    fresh (restored octets c.new-2.result.items) octets c.new.result.items first c.new.ensures.items
