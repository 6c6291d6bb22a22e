use Rattle.std.proofs.Common.{rules, length, ◌≡◌, ◌-◌}
use Rattle.std.specs.IoError.{error_kind}
use Rattle.mon_health_commands.proofs.Streaming.{added, piece_broke, piece_came, piece_ended}
use Rattle.mon_health_commands.proofs.asking.take_piece.Goals as goal

pub returns-in-Err-clause-piece : goal.returns-in-Err-clause-piece
returns-in-Err-clause-piece g c =
    let size : length c.get.new.buffer ≡ 8192 - length c.args.seen.now.items = search rules in
    piece_broke c.args.seen.now.items (length c.get.new.buffer) (error_kind c.in-Err.error) c.kind.result _ _ size c.kind.ensures c.in-Err.ensures.log

pub returns-in-Ok-eq0-clause-piece : goal.returns-in-Ok-eq0-clause-piece
returns-in-Ok-eq0-clause-piece g c =
    let size : length c.get.new.buffer ≡ 8192 - length c.args.seen.now.items = search rules in
    piece_ended c.args.seen.now.items c.get.new.buffer c.in-Ok-eq0.field-0 _ _ size c.in-Ok-eq0.field-0-test c.in-Ok-eq0.ensures.log

pub returns-in-Ok-clause-piece : goal.returns-in-Ok-clause-piece
returns-in-Ok-clause-piece g c =
    let size : length c.get.new.buffer ≡ 8192 - length c.args.seen.now.items = search rules in
    piece_came c.args.seen.now.items c.extend_from_slice.new.self.items c.get.new.buffer c.in-Ok.n _ _ size c.in-Ok.n-test.1 c.in-Ok.ensures.bound.0 (added c.args.seen.now.items _ _ c.extend_from_slice.result c.unwrap.result c.extend_from_slice.ensures.items c.unwrap.ensures) c.in-Ok.ensures.log
