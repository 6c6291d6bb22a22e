use Rattle.std.proofs.Common.{arith, ◌+◌, ◌-◌, length}
use Rattle.mon_disk.proofs.TakenBack.{put_in}
use Rattle.mon_disk.proofs.memory.put_within.Goals as goal

pub returns : goal.returns
returns c =
    let at = c.args.at in
    let octets = c.args.octets.now in
    put_in c.args.file.now octets c.copy_from_slice.new.self at (at + length octets - at) c.copy_from_slice.ensures.after (omega arith) c.requires
