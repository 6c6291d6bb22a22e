use Rattle.std.proofs.Common.{rules, ◌≡◌, length, arith}
use Rattle.mon_fields.proofs.Loops.{length-instance}
use Rattle.mon_fields.proofs.writing.instance_size.Goals as goal

pub returns-clause-size : goal.returns-clause-size
returns-clause-size c =
    let same : length c.parts.result.now ≡ length c.args.name.now = search rules in
    omega (arith, same, length-instance c.args.engine.now c.args.name.now)
