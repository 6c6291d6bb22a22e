use Rattle.std.proofs.Common.{refl, arith}
use Rattle.std.proofs.lemmas.Grind.{common_steps}
use Rattle.mon_smi.proofs.Quoted.{next_byte, next_pair, behind_one, behind_two, second_of}
use Rattle.mon_smi.proofs.scan.closing_len.Goals as goal

pub loop-rest-preserved-then-byte-ne34 : goal.loop-rest-preserved-then-byte-ne34
loop-rest-preserved-then-byte-ne34 c =
    next_byte c.args.text.now c.loop-rest.len c.loop-rest.end c.loop-rest.rest.now _ (omega (arith, c.in-len1-up.len_at_least)) (behind_one c.loop-rest.rest.now) (λ is. omega (arith, c.if-byte-ne34.true)) c.loop-rest.invariant

pub loop-rest-preserved : goal.loop-rest-preserved
loop-rest-preserved c =
    let second = second_of c.loop-rest.rest.now _ refl c.in-len1-up-after.len_at_least c.if-next-ne34.false in
    next_pair c.args.text.now c.loop-rest.len c.loop-rest.end c.loop-rest.rest.now _ second.0 (behind_two c.loop-rest.rest.now) c.if-byte-ne34.false second.1 c.loop-rest.invariant

pub loop-rest-init : goal.loop-rest-init
loop-rest-init c = grind (arith, common_steps)

pub returns-then-next-ne34-clause-exact : goal.returns-then-next-ne34-clause-exact
returns-then-next-ne34-clause-exact c = grind (arith, common_steps)
