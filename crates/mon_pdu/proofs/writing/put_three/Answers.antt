use Rattle.std.proofs.Common.{ap, length, arith}
use Rattle.mon_ber.specs.declared.value.Value.TheVariants.{Integer}
use Rattle.mon_ber.specs.Writing.{written}
use Rattle.mon_pdu.proofs.Lengths.{passed, three_total}
use Rattle.mon_pdu.proofs.writing.put_three.Goals as goal

pub returns-clause-len : goal.returns-clause-len
returns-clause-len c = omega (
  arith,
  three_total (written (Integer c.args.first)) (written (Integer c.args.second)) (written (Integer c.args.third)),
  ap (λ z. length (written (Integer z))) (passed c.args.first c.ranges.first),
  ap (λ z. length (written (Integer z))) (passed c.args.second c.ranges.second),
  ap (λ z. length (written (Integer z))) (passed c.args.third c.ranges.third),
  c.put_integer.ensures.len,
  c.put_integer-2.ensures.len,
  c.put_integer-3.ensures.len,
)
