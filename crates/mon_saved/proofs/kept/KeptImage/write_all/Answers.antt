use Rattle.std.proofs.Common.{rules, ◌≡◌, length, sym, true≢false, arith}
use Rattle.mon_board.specs.Board.{window_of}
use Rattle.mon_saved.proofs.Moved.{holds_written, image_long}
use Rattle.mon_saved.proofs.kept.KeptImage.write_all.Goals as goal

pub write_within-requires-clause-room : goal.write_within-requires-clause-room
write_within-requires-clause-room c =
    let b = c.args.board.now in
    let ws = b.watch.instances in
    omega (
      arith,
      c.in_ok-size.ensures.size,
      c.clear.ensures.len,
      c.in_ok-reserve.ensures.len,
      c.in_ok-reserve.ensures.capacity,
      c.in_ok-reserve.ensures.ok,
      c.put_octets.ensures.len,
      c.put_octets.ensures.capacity,
      image_long ws (window_of b) 1,
      image_long ws (window_of b) c.args.incarnation,
    )

pub returns-clause-kept : goal.returns-clause-kept
returns-clause-kept c = λ positive.
    let b = c.args.board.now in
    let sixteen : length c.put_octets.new.out.items ≡ 16 = search rules in
    holds_written _ c.put_octets.new.out.items _ b.watch.instances (window_of b) c.args.incarnation c.write_within.ensures.items sixteen
    c.in_ok-size.ensures.number (omega (arith, c.in_ok-size.ensures.size, c.in_ok-size.ensures.few)) c.in_ok-size.ensures.places c.write_within.ensures.spells.valid.entries

pub returns-clause-few : goal.returns-clause-few
returns-clause-few c =
    let b = c.args.board.now in
    omega (arith, c.in_ok-size.ensures.size, c.in_ok-size.ensures.few, image_long b.watch.instances (window_of b) 1, image_long b.watch.instances (window_of b) c.args.incarnation)

pub returns-in_err-reserve-clause-spared : goal.returns-in_err-reserve-clause-spared
returns-in_err-reserve-clause-spared c = λ room many.
    let b = c.args.board.now in
    absurd (true≢false (sym (c.in_err-reserve.ensures.succeeds (omega (
      arith,
      room,
      c.in_ok-size.ensures.size,
      c.clear.ensures.len,
      c.clear.ensures.capacity,
      image_long b.watch.instances (window_of b) 1,
      image_long b.watch.instances (window_of b) c.args.incarnation,
    )))))
