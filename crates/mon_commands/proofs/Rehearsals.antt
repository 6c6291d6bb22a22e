-- A rehearsal whose reports would be plain.
use Rattle.std.proofs.Common.{List}
use Rattle.std.specs.Prelude.{Option, Result}
use Rattle.mon_cli.specs.declared.meaning.Printed.{Printed}
use Rattle.mon_cli.specs.declared.meaning.RehearseArgs.{RehearseArgs}
use Rattle.mon_commands.specs.Rehearsing.{IsPlain, IsRehearsing, IsRehearsingBy}
use Rattle.mon_console.specs.declared.failure.Failure.{Failure}
use Rattle.mon_host.specs.AtHost.{AtHost}
use Rattle.mon_host.specs.Log.{GoesOnBy}

pub rehearsing : (words : RehearseArgs) (printed : Printed) (result : Result Unit Failure)
    (before after : Option (List AtHost)) → GoesOnBy (λ log. IsRehearsingBy words printed log result) before after
    → IsPlain printed → GoesOnBy (λ log. IsRehearsing words log result) before after
rehearsing words printed result before after done plain =
    record { more = done.more; holds = (printed, plain, done.holds); on = done.on }
