-- A value that is lent to be assigned.
use Rattle.std.proofs.Common.{◌≡◌, List}
use Rattle.std.specs.Borrow.{Bor}
use Rattle.std.specs.Prelude.{Option, Result}
use Rattle.mon_client.specs.Network.{Agents}
use Rattle.mon_client.specs.declared.question.Asking.TheVariants.{Set}
use Rattle.mon_ber.specs.declared.value.Value.{Value}
use Rattle.mon_commands.specs.Client.{PrintsAnswer, PrintsAssigned}
use Rattle.mon_commands.specs.declared.query.Query.{Query}
use Rattle.mon_console.specs.declared.failure.Failure.{Failure}
use Rattle.mon_host.specs.AtHost.{AtHost}
use Rattle.mon_host.specs.Log.{GoesOnBy}

pub assigned : (agents : Agents) (query : Query) (value : Value) (lent : Bor Value) (result : Result Unit Failure) (before after : Option (List AtHost)) → lent.now ≡ value
    → GoesOnBy (λ log. PrintsAnswer agents query (Set lent) log result) before after → GoesOnBy (λ log. PrintsAssigned agents query value log result) before after
assigned agents query value lent result before after is done = record { more = done.more; holds = (lent, is, done.holds); on = done.on }
