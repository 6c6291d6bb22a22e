use Rattle.std.proofs.Common.{refl, arith}
use Rattle.mon_oid.proofs.laws.read_back.Goals as goal

pub returns : goal.returns
returns c = λ oid is. record { numbers = record { some = omega (arith, is.long); small = is.small }; is = refl }
