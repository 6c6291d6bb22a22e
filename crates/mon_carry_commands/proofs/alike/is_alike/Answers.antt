use Rattle.std.proofs.lemmas.Bool.{eq-eqb, eqb-true}
use Rattle.mon_carry_commands.proofs.Likes.{alike, not_alike}
use Rattle.mon_carry_commands.proofs.alike.is_alike.Goals as goal

pub returns-then-not-is_eq : goal.returns-then-not-is_eq
returns-then-not-is_eq c =
    let old = c.args.old.now in
    let new = c.args.new.now in (
      λ t. absurd cc,
      λ like. absurd (not_alike old new c.as_slice.result.now c.compare.result c.is_eq.result c.as_slice.ensures c.compare.ensures c.is_eq.ensures c.if-not-is_eq.true like),
    )

pub returns-then-old-new : goal.returns-then-old-new
returns-then-old-new c =
    let old = c.args.old.now in
    let new = c.args.new.now in (
      λ t. alike old new c.as_slice.result.now c.compare.result c.is_eq.result c.as_slice.ensures c.compare.ensures c.is_eq.ensures c.if-not-is_eq.false c.if-old-new.true (eqb-true old.epoch new.epoch t),
      λ like. eq-eqb old.epoch new.epoch like.epoch,
    )
