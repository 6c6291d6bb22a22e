use Rattle.std.proofs.Common.{◌<◌, ◌≤◌, length, arith}
use Rattle.mon_smi.proofs.Begun.{left_at}
use Rattle.mon_smi.proofs.modules.broken_off.Goals as goal

pub returns : goal.returns
returns c =
    let some : 0 < c.args.left = grind arith in
    let most : c.args.left ≤ length c.args.tokens.now = grind arith in
    left_at c.args.tokens.now c.args.left _ some most
