use Rattle.std.proofs.Common.{◌≤◌, ◌<◌, ◌∙◌, ap, [], subst, length, arith}
use Rattle.std.proofs.lemmas.List.{take_all}
use Rattle.mon_board.specs.Board.{window_of}
use Rattle.mon_board.specs.Watch.{IsWatch}
use Rattle.mon_report.specs.Report.{Entry, samples_in, entries_from}
use Rattle.mon_report.proofs.Entries.{length-entries, items-first, samples-more, size-small}
use Rattle.mon_report.proofs.report.count_samples.Goals as goal

-- an entry in place of none
nothing : Entry
nothing = record { engine = []; name = []; items = []; rules = []; alarms = [] }

-- one window more holds at most 64 samples
small : (c : goal.After-items) → length c.items.result.now ≤ 64
small c =
    let board = c.args.board.now in
    let is_watch : IsWatch board.watch = subst IsWatch c.watch.ensures.watch c.instances-i-end.ensures.watch in
    omega (arith, ap length c.items.ensures.items, c.items.ensures.few, size-small board.watch.instances is_watch.sized c.loop-i.i)

pub loop-i-preserved : goal.loop-i-preserved
loop-i-preserved c =
    let board = c.args.board.now in
    let rules = board.watch.rules in
    let all = board.watch.instances in
    let at = c.loop-i.i in
    let entries = entries_from rules (window_of board) 0 all in
    let watched = c.instances-i-end.ensures.instances ∙ ap (λ w. w.instances) c.watch.ensures.watch in
    let number = length-entries [] rules (window_of board) 0 all in
    let inside : at < length all = omega (arith, c.loop-i-test.true, ap length watched) in
    let more = samples-more entries at nothing (omega (arith, inside, number)) in
    let own = ap length (items-first [] rules (window_of board) all at nothing inside) in
    record {
      counted = omega (arith, c.loop-i.invariant.counted, more, own, ap length c.items.ensures.items);
      few = omega (arith, c.loop-i.invariant.few, small c);
    }

pub returns : goal.returns
returns c =
    let board = c.args.board.now in
    let rules = board.watch.rules in
    let all = board.watch.instances in
    let watched = c.instances-i-end.ensures.instances ∙ ap (λ w. w.instances) c.watch.ensures.watch in
    let number = length-entries [] rules (window_of board) 0 all in
    c.loop-i.invariant.counted ∙ ap samples_in (take_all c.loop-i.i (entries_from rules (window_of board) 0 all) (omega (arith, c.loop-i-test.false, ap length watched, number)))

pub overflow_add-count : goal.overflow_add-count
overflow_add-count c = record { fits = omega (arith, c.loop-i.invariant.few, small c, c.loop-i-test.true, c.instances-i-end.ensures.watch.listed.few, ap length c.instances-i-end.ensures.instances) }
