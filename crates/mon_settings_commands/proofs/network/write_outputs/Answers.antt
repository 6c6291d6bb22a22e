use Rattle.mon_settings_commands.specs.Network.{IsFileWritten}
use Rattle.mon_settings_commands.proofs.Elements.{finished, stepped, stopped}
use Rattle.mon_settings_commands.proofs.Turns.{failure_is}
use Rattle.mon_settings_commands.proofs.network.write_outputs.Goals as goal

pub returns-in_err-write_output : goal.returns-in_err-write_output
returns-in_err-write_output g c =
    let is = failure_is c.from_residual.result c.in_err-write_output.field-0.0 c.from_residual.ensures.1 in
    stopped IsFileWritten c.args.outputs.now c.loop-place.place c.index-outputs-place.result c.in_err-write_output.field-0.0 c.from_residual.result
    (g.H.Host.log c.args.host.now) (g.H.Host.log c.loop-place.host) (g.H.Host.log c.write_output.new.host)
    c.loop-place-test.true c.index-outputs-place.is is c.loop-place.invariant c.in_err-write_output.ensures

pub loop-place-preserved : goal.loop-place-preserved
loop-place-preserved g c =
    stepped IsFileWritten c.args.outputs.now c.loop-place.place c.index-outputs-place.result c.in_ok-write_output.field-0
    (g.H.Host.log c.args.host.now) (g.H.Host.log c.loop-place.host) (g.H.Host.log c.write_output.new.host)
    c.loop-place-test.true c.index-outputs-place.is c.loop-place.invariant c.in_ok-write_output.ensures

pub returns : goal.returns
returns g c = finished IsFileWritten c.args.outputs.now c.loop-place.place (g.H.Host.log c.args.host.now)
    (g.H.Host.log c.loop-place.host) c.loop-place-test.false c.loop-place.invariant
