use Rattle.std.proofs.Common.{length}
use Rattle.mon_settings_commands.proofs.Looking.{begins, ended, found, looked}
use Rattle.mon_settings_commands.proofs.Turns.{failure_is}
use Rattle.mon_settings_commands.proofs.parts.require_absent.Goals as goal

pub loop-place-init : goal.loop-place-init
loop-place-init g c = begins c.args.folder.now (length c.args.parts.now) (g.H.Host.log c.args.host.now)

pub returns-in_err-require_part_absent : goal.returns-in_err-require_part_absent
returns-in_err-require_part_absent g c =
    let is = failure_is c.from_residual.result c.in_err-require_part_absent.field-0.0 c.from_residual.ensures.1 in
    found c.args.folder.now (length c.args.parts.now) c.loop-place.place c.in_err-require_part_absent.field-0.0 c.from_residual.result
    (g.H.Host.log c.args.host.now) (g.H.Host.log c.loop-place.host) (g.H.Host.log c.require_part_absent.new.host)
    c.loop-place-test.true is c.loop-place.invariant c.in_err-require_part_absent.ensures

pub loop-place-preserved : goal.loop-place-preserved
loop-place-preserved g c =
    looked c.args.folder.now (length c.args.parts.now) c.loop-place.place c.in_ok-require_part_absent.field-0
    (g.H.Host.log c.args.host.now) (g.H.Host.log c.loop-place.host) (g.H.Host.log c.require_part_absent.new.host)
    c.loop-place-test.true c.loop-place.invariant c.in_ok-require_part_absent.ensures

pub returns : goal.returns
returns g c = ended c.args.folder.now (length c.args.parts.now) c.loop-place.place (g.H.Host.log c.args.host.now) (g.H.Host.log c.loop-place.host)
    c.loop-place-test.false c.loop-place.invariant
