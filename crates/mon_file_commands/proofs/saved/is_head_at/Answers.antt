use Rattle.std.proofs.Common.{◌≤◌, arith, length}
use Rattle.mon_file_commands.proofs.Rereads.{is_changed}
use Rattle.mon_file_commands.proofs.saved.is_head_at.Goals as goal

pub returns-then-octets-end : goal.returns-then-octets-end
returns-then-octets-end c =
    let long : 17 ≤ length c.args.head.now = omega (arith, c.if-head-lt-HEAD.false) in
    is_changed c.args.octets.now c.args.head.now c.args.at long c.if-octets-end.true
