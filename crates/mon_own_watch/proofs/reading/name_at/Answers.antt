use Rattle.std.proofs.Common.{rules, ◌≡◌, false, length, arith}
use Rattle.mon_own_watch.specs.Reading.{is_unrooted}
use Rattle.mon_own_watch.proofs.Parts.{numbers_read}
use Rattle.mon_own_watch.proofs.reading.name_at.Goals as goal

pub is_unrooted-requires : goal.is_unrooted-requires
is_unrooted-requires c =
    let same : length c.as_slice.result.now ≡ length c.in_ok-parts.parts.items = search rules in
    let t = numbers_read c.args.reader.now c.in_ok-count.count c.octet_within.new.reader c.in_ok-parts.parts.items c.numbers_at.new.reader c.in_ok-count.ensures.octets c.in_ok-count.ensures.gives c.in_ok-parts.ensures in
    omega (arith, same, t.1)

pub from_valid-requires : goal.from_valid-requires
from_valid-requires c =
    let fine : is_unrooted c.in_ok-parts.parts.items ≡ false = search rules in
    let t = numbers_read c.args.reader.now c.in_ok-count.count c.octet_within.new.reader c.in_ok-parts.parts.items c.numbers_at.new.reader c.in_ok-count.ensures.octets c.in_ok-count.ensures.gives c.in_ok-parts.ensures in
    t.2 fine
