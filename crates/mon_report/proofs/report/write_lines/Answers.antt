use Rattle.std.proofs.Common.{[], ◌≡◌, ◌<◌, ◌∙◌, ap, sym, length, get_or, arith, true}
use Rattle.std.proofs.KnownBytes.{Appends-nil}
use Rattle.mon_board.specs.Board.{window_of}
use Rattle.mon_report.specs.Report.{entry_line, entry_of, entries_from}
use Rattle.mon_report.proofs.Written.{text-as}
use Rattle.mon_report.proofs.Loops.{text-more, text-all}
use Rattle.mon_report.proofs.Entries.{length-entries, get_or-first}
use Rattle.mon_report.proofs.report.write_lines.Goals as goal

pub loop-i-init : goal.loop-i-init
loop-i-init g c = Appends-nil _

pub loop-i-preserved : goal.loop-i-preserved
loop-i-preserved g c =
    let board = c.args.board.now in
    let rules = board.watch.rules in
    let all = board.watch.instances in
    let item = c.watched-item.result in
    let at = c.loop-i.i in
    let watched = c.instances-watched-items.ensures.instances ∙ ap (λ w. w.instances) c.watch.ensures.watch in
    let number = length-entries [] rules (window_of board) 0 all in
    let inside : at < length all = omega (arith, c.loop-i-test.true, ap length watched) in
    let own = entry_of rules (window_of board) at item in
    let there : item ≡ get_or all at item = c.watched-item.is ∙ ap (λ l. get_or l at item) watched in
    let same = ap (entry_of rules (window_of board) at) there ∙ sym (get_or-first [] rules (window_of board) all at own item inside) in
    text-more entry_line (entries_from rules (window_of board) 0 all) at own (g.W.Write.contents c.args.writer.now) (g.W.Write.contents c.loop-i.writer) _ true c.loop-i.ok _ (omega (arith, inside, number)) c.loop-i.invariant
    (text-as _ _ _ _ _ _ (ap entry_line same) c.write_line-ok.ensures)

pub returns : goal.returns
returns g c =
    let board = c.args.board.now in
    let rules = board.watch.rules in
    let all = board.watch.instances in
    let watched = c.instances-watched-items.ensures.instances ∙ ap (λ w. w.instances) c.watch.ensures.watch in
    let number = length-entries [] rules (window_of board) 0 all in
    text-all entry_line (entries_from rules (window_of board) 0 all) c.loop-i.i (g.W.Write.contents c.args.writer.now) (g.W.Write.contents c.loop-i.writer) true c.loop-i.ok
    (omega (arith, c.loop-i-test.false, ap length watched, number)) c.loop-i.invariant
