use Rattle.std.specs.Str.Parse.{ExplainsSignedError, HasSignedDigitsIfOk}
use Rattle.mon_cli.proofs.Reading.{integer_read}
use Rattle.mon_cli.proofs.matches.small_number.Goals as goal

pub returns : goal.returns
returns c = integer_read c.args.matches.now c.args.id.now (λ bs u. ExplainsSignedError 10 bs u) (λ bs u. HasSignedDigitsIfOk bs u) c.get_one.result c.get_one.ensures.none c.get_one.ensures.value
