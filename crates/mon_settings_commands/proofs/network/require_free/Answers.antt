use Rattle.mon_settings_commands.specs.Network.{IsFree}
use Rattle.mon_settings_commands.proofs.Elements.{finished, stepped, stopped}
use Rattle.mon_settings_commands.proofs.Turns.{failure_is}
use Rattle.mon_settings_commands.proofs.network.require_free.Goals as goal

pub returns-in_err-require_output_free : goal.returns-in_err-require_output_free
returns-in_err-require_output_free g c =
    let is = failure_is c.from_residual.result c.in_err-require_output_free.field-0.0 c.from_residual.ensures.1 in
    stopped IsFree c.args.outputs.now c.loop-place.place c.index-outputs-place.result c.in_err-require_output_free.field-0.0 c.from_residual.result
    (g.H.Host.log c.args.host.now) (g.H.Host.log c.loop-place.host) (g.H.Host.log c.require_output_free.new.host)
    c.loop-place-test.true c.index-outputs-place.is is c.loop-place.invariant c.in_err-require_output_free.ensures

pub loop-place-preserved : goal.loop-place-preserved
loop-place-preserved g c =
    stepped IsFree c.args.outputs.now c.loop-place.place c.index-outputs-place.result c.in_ok-require_output_free.field-0
    (g.H.Host.log c.args.host.now) (g.H.Host.log c.loop-place.host) (g.H.Host.log c.require_output_free.new.host)
    c.loop-place-test.true c.index-outputs-place.is c.loop-place.invariant c.in_ok-require_output_free.ensures

pub returns : goal.returns
returns g c = finished IsFree c.args.outputs.now c.loop-place.place (g.H.Host.log c.args.host.now)
    (g.H.Host.log c.loop-place.host) c.loop-place-test.false c.loop-place.invariant
