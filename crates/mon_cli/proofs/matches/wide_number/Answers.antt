use Rattle.std.proofs.Common.{rules}
use Rattle.std.specs.Str.Parse.{ExplainsUnsignedError, HasUnsignedDigitsIfOk}
use Rattle.mon_cli.proofs.Reading.{number_read}
use Rattle.mon_cli.proofs.matches.wide_number.Goals as goal

pub returns : goal.returns
returns c = (
  c.get_one.result,
  number_read c.args.matches.now c.args.id.now (λ bs u. ExplainsUnsignedError 10 bs u) (λ bs u. HasUnsignedDigitsIfOk bs u) 64 c.get_one.result c.get_one.ensures.none c.get_one.ensures.value,
  search rules,
)
