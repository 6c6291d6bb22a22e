use Rattle.std.proofs.Common.{rules, ◌≡◌, length, arith}
use Rattle.mon_fields.proofs.Loops.{length-instance}
use Rattle.mon_fields.proofs.writing.put_instance.Goals as goal

pub put_numbers-requires : goal.put_numbers-requires
put_numbers-requires c =
    let same : length c.parts-parts.result.now ≡ length c.args.name.now = search rules in
    record {
      room = omega (
        arith,
        same,
        length-instance c.args.engine.now c.args.name.now,
        c.requires.room,
        c.put_octet.ensures.len,
        c.put_octets.ensures.len,
        c.put_octet-2.ensures.len,
        c.put_octet.ensures.capacity,
        c.put_octets.ensures.capacity,
        c.put_octet-2.ensures.capacity,
      );
    }
