use Rattle.std.proofs.Common.{◌≡◌, ◌<◌, ◌∙◌, ap, [], ◌∷◌, ◌++◌, sym, length, get_or, take, arith}
use Rattle.std.proofs.lemmas.List.{take_all, take_more}
use Rattle.mon_board.specs.Board.{window_of}
use Rattle.mon_report.specs.Report.{announced_entry, announced_from}
use Rattle.mon_report.proofs.Entries.{length-entries, get_or-first}
use Rattle.mon_report.proofs.report.announced_entries.Goals as goal

pub loop-i-preserved : goal.loop-i-preserved
loop-i-preserved c =
    let board = c.args.board.now in
    let states = c.args.states.now in
    let rules = board.watch.rules in
    let all = board.watch.instances in
    let at = c.loop-i.i in
    let item = c.index-instances-i.result in
    let watched = c.instances-instances.ensures.instances ∙ ap (λ w. w.instances) c.watch.ensures.watch in
    let number = length-entries states rules (window_of board) 0 all in
    let inside : at < length all = omega (arith, c.loop-i-test.true, ap length watched) in
    let own = announced_entry states rules (window_of board) at item in
    let there : item ≡ get_or all at item = c.index-instances-i.is ∙ ap (λ l. get_or l at item) watched in
    let same = ap (announced_entry states rules (window_of board) at) there ∙ sym (get_or-first states rules (window_of board) all at own item inside) in
    c.in_ok-push.ensures.items
    ∙ ap (λ es. es ++ c.entry_of.result ∷ []) c.loop-i.invariant
    ∙ ap (λ e. take at (announced_from states rules (window_of board) 0 all) ++ e ∷ []) (c.entry_of.ensures ∙ same)
    ∙ sym (take_more (announced_from states rules (window_of board) 0 all) at own (omega (arith, inside, number)))

pub returns : goal.returns
returns c =
    let board = c.args.board.now in
    let states = c.args.states.now in
    let rules = board.watch.rules in
    let all = board.watch.instances in
    let watched = c.instances-instances.ensures.instances ∙ ap (λ w. w.instances) c.watch.ensures.watch in
    let number = length-entries states rules (window_of board) 0 all in
    c.loop-i.invariant ∙ take_all c.loop-i.i (announced_from states rules (window_of board) 0 all) (omega (arith, c.loop-i-test.false, ap length watched, number))
