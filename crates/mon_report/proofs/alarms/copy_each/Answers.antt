use Rattle.std.proofs.Common.{◌≡◌, ◌∙◌, ap, arith, length, map, sym}
use Rattle.mon_board.specs.Board.{window_of}
use Rattle.mon_report.specs.Alarms.{samples_for}
use Rattle.mon_report.proofs.Seen.{all_seen, one_seen}
use Rattle.mon_window.specs.Top.{rising}
use Rattle.mon_report.proofs.alarms.copy_each.Goals as goal

pub loop-number-preserved : goal.loop-number-preserved
loop-number-preserved c =
    let b = c.args.board.now in
    let rules = c.rules-rules.result.now in
    let i = c.loop-number.number in
    let r = c.index-rules-number.result in
    let items : c.items.result.now ≡ samples_for b r = c.items.ensures.items ∙ ap (λ n. rising (window_of b n)) c.instance.ensures in
    one_seen b rules c.args.windows.now c.loop-number.windows i r c.replace.new.window c.loop-number.invariant (omega (arith, c.loop-number-test.true, c.loop-number.invariant.number, c.requires.number, ap length c.rules-rules.ensures.rules, ap (λ w. length w.rules) c.watch.ensures.watch)) (omega (arith, c.loop-number-test.true))
    c.index-rules-number.is (c.replace.ensures ∙ items)

pub returns : goal.returns
returns c =
    let b = c.args.board.now in
    let rules = c.rules-rules.result.now in
    let is : rules ≡ b.watch.rules = c.rules-rules.ensures.rules ∙ ap (λ w. w.rules) c.watch.ensures.watch in
    all_seen b rules c.args.windows.now c.loop-number.windows c.loop-number.number c.loop-number.invariant (omega (arith, c.loop-number-test.false)) (c.requires.number ∙ sym (ap length is))
    ∙ ap (map (samples_for b)) is
