use Rattle.std.proofs.Common.{[], refl, subst, sym}
use Rattle.std.specs.Prelude.{Result}
use Rattle.mon_client.specs.Network.{agents_by}
use Rattle.mon_console.specs.declared.failure.Failure.{Failure}
use Rattle.mon_host.specs.Log.{GoesOnBy}
use Rattle.mon_host.proofs.Promised.{stays}
use Rattle.mon_settings_commands.specs.AgentOptions.{IsAsking}
use Rattle.mon_settings_commands.specs.declared.asking.Survey.{Survey}
use Rattle.mon_settings_commands.proofs.Turns.{failure_is}
use Rattle.mon_settings_commands.proofs.asking.ask_agent.Goals as goal

pub returns-in_err-survey : goal.returns-in_err-survey
returns-in_err-survey g c =
    let agents = agents_by (g.N.Opens.has_opened c.args.net.now) (g.N.Opens.has_failed c.args.net.now) g.N.Wire.Wire.log in
    let now = g.H.Host.log c.args.host.now in
    subst (λ (r : Result Survey Failure). GoesOnBy (λ log. IsAsking agents c.args.asked log r) now now) (sym (failure_is c.from_residual.result c.in_err-survey.field-0.0 c.from_residual.ensures.1))
    (record { more = []; holds = (c.in_err-survey.ensures, refl); on = stays now })
