use Rattle.std.proofs.Common.{ap}
use Rattle.mon_settings.specs.Resolving.{or_unknown, resolution}
use Rattle.mon_settings.proofs.Resolved.{unresolved_is}
use Rattle.mon_settings.proofs.leaf.resolve_name.Goals as goal

pub returns-in-Ok : goal.returns-in-Ok
returns-in-Ok c =
    let means = c.resolving.ensures c.args.names.now c.in-Ok.ensures.distinct in
    ap (or_unknown c.args.key) ((means c.args.text.now c.in-Ok.oid).1 c.in-Ok.ensures.found)

pub returns-in-Err : goal.returns-in-Err
returns-in-Err c =
    let means = c.resolving.ensures c.args.names.now c.in-Err.ensures.distinct in
    let told = unresolved_is (resolution c.args.names.now) c.args.key c.args.names.now c.args.text.now means c.in-Err.fault c.in-Err.ensures.accepted in
    rw c.refuse_name.ensures told
