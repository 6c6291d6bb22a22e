use Rattle.std.specs.Str.Parse.{ExplainsUnsignedError, HasUnsignedDigitsIfOk}
use Rattle.mon_cli.proofs.Reading.{number_read}
use Rattle.mon_cli.proofs.matches.number.Goals as goal

pub returns : goal.returns
returns c = number_read c.args.matches.now c.args.id.now (λ bs u. ExplainsUnsignedError 10 bs u) (λ bs u. HasUnsignedDigitsIfOk bs u) 32 c.get_one.result c.get_one.ensures.none c.get_one.ensures.value
