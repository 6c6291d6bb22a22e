use Rattle.mon_settings_commands.proofs.Turns.{failure_is}
use Rattle.mon_settings_commands.proofs.Writing.{ended, failed, written}
use Rattle.mon_settings_commands.proofs.parts.write_all.Goals as goal

pub returns-in_err-write_part : goal.returns-in_err-write_part
returns-in_err-write_part g c =
    let is = failure_is c.from_residual.result c.in_err-write_part.field-0.0 c.from_residual.ensures.1 in
    failed c.args.folder.now c.args.parts.now c.loop-place.place c.index-parts-place.result c.in_err-write_part.field-0.0 c.from_residual.result
    (g.H.Host.log c.args.host.now) (g.H.Host.log c.loop-place.host) (g.H.Host.log c.write_part.new.host)
    c.loop-place-test.true c.index-parts-place.is is c.loop-place.invariant c.in_err-write_part.ensures

pub loop-place-preserved : goal.loop-place-preserved
loop-place-preserved g c =
    written c.args.folder.now c.args.parts.now c.loop-place.place c.index-parts-place.result c.in_ok-write_part.field-0
    (g.H.Host.log c.args.host.now) (g.H.Host.log c.loop-place.host) (g.H.Host.log c.write_part.new.host)
    c.loop-place-test.true c.index-parts-place.is c.loop-place.invariant c.in_ok-write_part.ensures

pub returns : goal.returns
returns g c = ended c.args.folder.now c.args.parts.now c.loop-place.place (g.H.Host.log c.args.host.now)
    (g.H.Host.log c.loop-place.host) c.loop-place-test.false c.loop-place.invariant
