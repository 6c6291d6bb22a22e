use Rattle.std.proofs.Common.{◌≡◌, ◌<◌, length, arith}
use Rattle.std.proofs.lemmas.Result.{err_from_is_err_and}
use Rattle.mon_saved.proofs.Loops.{entries_more, entries_fail, entries_read, none_left, some_left}
use Rattle.mon_saved.proofs.reading.entries_at.Goals as goal

pub returns-in_err-entry : goal.returns-in_err-entry
returns-in_err-entry c =
    let p = err_from_is_err_and c.from_residual-in_err-entry.result c.from_residual-in_err-entry.ensures.1 in
    rw (p.1, p.2) (entries_fail c.loop-one.entries.items c.args.window c.args.watched.now c.loop-one.one-index c.one-item.result c.loop-one.reader c.args.reader.now c.loop-one-test.true c.one-item.is c.loop-one.invariant
    c.in_err-entry.field-0.0 c.in_err-entry.ensures)

pub loop-one-preserved : goal.loop-one-preserved
loop-one-preserved c =
    rw c.in_ok-push.ensures.items (entries_more c.loop-one.entries.items c.args.window c.args.watched.now c.loop-one.one-index c.one-item.result c.loop-one.reader _ c.loop-one-test.true c.one-item.is c.loop-one.invariant
    c.in_ok-entry.entry c.entry_at.new.reader c.in_ok-entry.ensures)

pub returns-then-not-is_empty : goal.returns-then-not-is_empty
returns-then-not-is_empty c =
    let some : 0 < length c.loop-one.reader = grind arith in
    some_left c.args.window _ c.args.reader.now c.loop-one.entries.items c.loop-one.reader
    (entries_read c.loop-one.entries.items c.args.window c.args.watched.now _ c.loop-one.reader c.args.reader.now (omega (arith, c.loop-one-test.false)) c.loop-one.invariant) some

pub returns : goal.returns
returns c =
    let none : length c.loop-one.reader ≡ 0 = grind arith in
    none_left c.args.window _ c.args.reader.now c.loop-one.entries.items c.loop-one.reader
    (entries_read c.loop-one.entries.items c.args.window c.args.watched.now _ c.loop-one.reader c.args.reader.now (omega (arith, c.loop-one-test.false)) c.loop-one.invariant) none
