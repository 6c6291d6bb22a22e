use Rattle.std.proofs.Common.{[], ◌∙◌, ap, sym, subst, length, true}
use Rattle.mon_board.specs.Board.{window_of}
use Rattle.mon_report.specs.Report.{end_line, report, report_of}
use Rattle.mon_report.specs.Written.{AppendsIf}
use Rattle.mon_report.proofs.Written.{text-then, text-as}
use Rattle.mon_report.proofs.Entries.{length-entries}
use Rattle.mon_report.proofs.report.write_report.Goals as goal

pub returns-then-write_end : goal.returns-then-write_end
unfolding report_of
returns-then-write_end g c =
    let board = c.args.board.now in
    let rules = board.watch.rules in
    let all = board.watch.instances in
    let watched = c.instances.ensures.instances ∙ ap (λ w. w.instances) c.watch.ensures.watch in
    let number = ap length watched ∙ sym (length-entries [] rules (window_of board) 0 all) in
    subst (λ b. AppendsIf (g.W.Write.contents c.args.writer.now) true (g.W.Write.contents c.write_end.new.writer) b (report board.watch (window_of board))) c.if-write_end.true
    (text-then (g.W.Write.contents c.args.writer.now) (g.W.Write.contents c.write_lines-ok.new.writer) (g.W.Write.contents c.write_end.new.writer)
    true c.write_lines-ok.result c.write_end.result _ _ c.write_lines-ok.ensures (text-as _ _ _ _ _ _ (λ i. end_line (number i) (c.count_samples.ensures i)) c.write_end.ensures))

pub returns-else-write_end : goal.returns-else-write_end
unfolding report_of
returns-else-write_end g c =
    let board = c.args.board.now in
    let rules = board.watch.rules in
    let all = board.watch.instances in
    let watched = c.instances.ensures.instances ∙ ap (λ w. w.instances) c.watch.ensures.watch in
    let number = ap length watched ∙ sym (length-entries [] rules (window_of board) 0 all) in
    subst (λ b. AppendsIf (g.W.Write.contents c.args.writer.now) true (g.W.Write.contents c.write_end.new.writer) b (report board.watch (window_of board))) c.if-write_end.false
    (text-then (g.W.Write.contents c.args.writer.now) (g.W.Write.contents c.write_lines-ok.new.writer) (g.W.Write.contents c.write_end.new.writer)
    true c.write_lines-ok.result c.write_end.result _ _ c.write_lines-ok.ensures (text-as _ _ _ _ _ _ (λ i. end_line (number i) (c.count_samples.ensures i)) c.write_end.ensures))
