use Rattle.std.proofs.Common.{rules, arith, ◌≡◌, ◌+◌, ◌-◌, min, length, take, drop}
use Rattle.mon_disk.proofs.TakenBack.{back}
use Rattle.mon_disk.proofs.memory.replaced_by.Goals as goal

pub returns : goal.returns
returns c =
    let file = c.args.file.now in
    let octets = c.args.octets.now in
    let from = c.min-from.result in
    let count = from + c.min-count.result - from in
    let begins : from ≡ min c.args.at (length file) = search rules in
    let counted : c.min-count.result ≡ min (length octets) (length file - from) = search rules in
    let saved : c.in_ok-to_vec.field-0.items ≡ take count (drop from file) = search rules in
    back file octets c.in_ok-to_vec.field-0.items c.args.at from count begins (omega (arith, counted)) saved
