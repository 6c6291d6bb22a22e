use Rattle.std.proofs.Common.{◌≡◌, length, get_or, ap, arith, rules}
use Rattle.std.proofs.lemmas.List.Folds.{length-flat_map-take}
use Rattle.mon_ber.specs.Writing.{base128}
use Rattle.mon_ber.proofs.writing.put_subidentifiers.Goals as goal

pub put_base128-requires : goal.put_base128-requires
put_base128-requires c =
    let part : c.from.result ≡ get_or c.args.parts.now c.loop-part.part-index 0 = search rules in
    record { room = omega (arith, ap (λ n. length (base128 n)) part, c.requires.room, c.loop-part.invariant, length-flat_map-take base128 c.args.parts.now c.loop-part.part-index 0 c.loop-part-test.true) }
