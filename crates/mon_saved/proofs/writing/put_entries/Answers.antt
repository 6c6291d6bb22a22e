use Rattle.std.proofs.Common.{rules, ◌≡◌, ◌≤◌, ◌<◌, ◌+◌, ◌++◌, List, ℕ, length, get_or, vec_len, sym, subst, arith}
use Rattle.std.specs.List.{AllByRecursion}
use Rattle.mon_sample.specs.Key.{IsSample}
use Rattle.mon_window.specs.Top.{rising}
use Rattle.mon_board.specs.Board.{window_of}
use Rattle.mon_board.specs.Watch.{IsWatch, size_of}
use Rattle.mon_board.specs.declared.instance.Watched.{Watched}
use Rattle.mon_saved.specs.Image.{Two, IsEntry, entry_octets}
use Rattle.mon_saved.specs.Written.{entry_of, entries_from}
use Rattle.mon_saved.proofs.Loops.{left_length, one_written, one_more_valid, written_valid, entries_valid}
use Rattle.mon_saved.proofs.writing.put_entries.Goals as goal

pub loop-i-preserved : goal.loop-i-preserved
loop-i-preserved c =
    let b = c.args.board.now in
    let ws = c.instances-watched.result.now in
    let w = c.index-watched-i.result in
    let i = c.loop-i.i in
    let same : ws ≡ b.watch.instances = search rules in
    let samples : c.items.result.now ≡ rising (window_of b i) = search rules in
    let is_watch : IsWatch b.watch = search rules in
    let few : length (rising (window_of b i)) ≤ size_of b.watch i = search rules in
    let more = left_length (window_of b) ws i w c.loop-i-test.true c.index-watched-i.is in
    let items = subst (λ (v : List ℕ). c.put_entry.new.out.items ≡ c.loop-i.out.items ++ entry_octets Two w.instance (entry_of w v)) samples c.put_entry.ensures.items in
    let len = subst (λ (v : List ℕ). vec_len c.put_entry.new.out ≡ vec_len c.loop-i.out + length (entry_octets Two w.instance (entry_of w v))) samples c.put_entry.ensures.len in
    let each = subst (λ (v : List ℕ). AllByRecursion IsSample v) samples c.put_entry.ensures.samples in
    let there = subst (λ (v : List Watched). w ≡ get_or v i w) same c.index-watched-i.is in
    let valid = written_valid c.bound.ensures.keep_epoch b.watch (window_of b) i w is_watch (subst (λ (v : List Watched). i < length v) same c.loop-i-test.true) there (c.watch.ensures.whole i) few each (c.rising_list.ensures.order (window_of b i)) in (
      one_written (window_of b) ws i w _ c.loop-i.out.items _ c.loop-i-test.true c.index-watched-i.is c.loop-i.invariant.0 items,
      omega (arith, more, c.loop-i.invariant.1, len),
      omega (arith, c.loop-i.invariant.2, c.put_entry.ensures.capacity),
      one_more_valid (window_of b) ws i w c.loop-i-test.true c.index-watched-i.is c.loop-i.invariant.3 valid,
    )

pub returns-clause-valid : goal.returns-clause-valid
returns-clause-valid c =
    let b = c.args.board.now in
    let ws = c.instances-watched.result.now in
    let same : ws ≡ b.watch.instances = search rules in
    subst (λ (v : List Watched). AllByRecursion IsEntry (entries_from (window_of b) 0 v)) same (entries_valid (window_of b) 0 ws (λ k d lt.
    (let here : 0 + k ≡ k = omega arith in
    subst (λ (j : ℕ). IsEntry (entry_of (get_or ws k d) (rising (window_of b j)))) (sym here) (c.loop-i.invariant.3 k d (omega (arith, lt, c.loop-i-test.false))))))
