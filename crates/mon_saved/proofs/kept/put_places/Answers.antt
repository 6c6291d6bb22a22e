use Rattle.std.proofs.Common.{rules, ◌≡◌, ◌≤◌, ◌<◌, ◌+◌, ◌++◌, List, [], ◌∷◌, ℕ, get_or, length, ap, subst, sym, arith}
use Rattle.std.proofs.lemmas.List.{length-append}
use Rattle.mon_oid.specs.Oid.{IsOid}
use Rattle.mon_window.specs.Top.{rising}
use Rattle.mon_board.specs.Board.{window_of}
use Rattle.mon_board.specs.Watch.{IsWatch, size_of}
use Rattle.mon_board.specs.declared.instance.Watched.{Watched}
use Rattle.mon_fields.specs.Layout.{instance_octets}
use Rattle.mon_fields.proofs.Promised.{length-instance, length-samples}
use Rattle.mon_saved.specs.Kept.{records_on, entries_on}
use Rattle.mon_saved.proofs.Loops.{left_none}
use Rattle.mon_saved.proofs.Moved.{entry_long, few_samples, image_long, put_down, records_size}
use Rattle.mon_saved.proofs.kept.put_places.Goals as goal

pub overflow_add-at-in-loop-i-3 : goal.overflow_add-at-in-loop-i-3
overflow_add-at-in-loop-i-3 c =
    let same : c.instances-watched.result.now ≡ c.args.board.now.watch.instances = search rules in
    let is_watch : IsWatch c.args.board.now.watch = search rules in
    let holds : length c.items.result.now ≤ size_of c.args.board.now.watch c.loop-i.i = search rules in
    let few : length c.items.result.now ≤ 64 =
    few_samples c.args.board.now.watch c.loop-i.i _ c.index-watched-i.result is_watch (subst (λ (v : List Watched). c.loop-i.i < length v) same c.loop-i-test.true)
    (subst (λ (v : List Watched). c.index-watched-i.result ≡ get_or v c.loop-i.i c.index-watched-i.result) same c.index-watched-i.is) holds in
    let many : length c.instances-watched.result.now ≤ 256 = search rules in
    record { fits = omega (arith, few, many, c.loop-i-test.true, c.loop-i.invariant.small, c.instance_size.ensures.few, c.samples_size-at.ensures, length-samples c.items.result.now) }

pub loop-i-preserved : goal.loop-i-preserved
loop-i-preserved c =
    let b = c.args.board.now in
    let ws = c.instances-watched.result.now in
    let w = c.index-watched-i.result in
    let i = c.loop-i.i in
    let samples : c.items.result.now ≡ rising (window_of b i) = search rules in
    let same : c.instances-watched.result.now ≡ c.args.board.now.watch.instances = search rules in
    let is_watch : IsWatch c.args.board.now.watch = search rules in
    let holds : length c.items.result.now ≤ size_of c.args.board.now.watch c.loop-i.i = search rules in
    let few : length c.items.result.now ≤ 64 =
    few_samples c.args.board.now.watch c.loop-i.i _ c.index-watched-i.result is_watch (subst (λ (v : List Watched). c.loop-i.i < length v) same c.loop-i-test.true)
    (subst (λ (v : List Watched). c.index-watched-i.result ≡ get_or v c.loop-i.i c.index-watched-i.result) same c.index-watched-i.is) holds in
    let size : c.instance_size.result ≡ length (instance_octets w.instance.engine w.instance.name) = search rules in
    let engine : length w.instance.engine ≤ 32 = search rules in
    let short : length w.instance.name ≤ 128 = (let o : IsOid w.instance.name = search rules in o.short) in
    let long = length-samples c.items.result.now in
    let count = ap (λ (l : List ℕ). length l) samples in
    let entry = entry_long ws (window_of b) i w c.loop-i-test.true c.index-watched-i.is in
    let records = records_size ws (window_of b) i in
    let items : c.push.new.self.items ≡ c.loop-i.places.items ++ (c.loop-i.at + (3 + c.instance_size.result)) ∷ [] = search rules in
    let here : c.loop-i.at + (3 + c.instance_size.result) + length (records_on ws (window_of b) i) ≡ 25 + length (entries_on ws (window_of b) 0) = omega (arith, size, entry, c.loop-i.invariant.at) in
    record {
      at = omega (arith, size, long, count, entry, records, c.samples_size-at.ensures, c.loop-i.invariant.at);
      small = omega (arith, few, long, size, engine, length-instance w.instance.engine w.instance.name, short, c.loop-i.invariant.small, c.samples_size-at.ensures);
      number = (let e = ap (λ (l : List ℕ). length l) items in omega (arith, e, c.loop-i.invariant.number, length-append c.loop-i.places.items ((c.loop-i.at + (3 + c.instance_size.result)) ∷ [])));
      room = omega (arith, c.loop-i.invariant.room, c.push.ensures.capacity);
      capacity = omega (arith, c.loop-i.invariant.capacity, c.push.ensures.capacity);
      places = put_down (λ k at. at + length (records_on ws (window_of b) k) ≡ 25 + length (entries_on ws (window_of b) 0)) c.loop-i.places.items _ i (c.loop-i.at + (3 + c.instance_size.result))
          c.loop-i.invariant.number items c.loop-i.invariant.places here;
    }

pub returns-clause-places : goal.returns-clause-places
returns-clause-places c = λ i lt.
    let b = c.args.board.now in
    let same : c.instances-watched.result.now ≡ b.watch.instances = search rules in
    let below = subst (λ (v : List Watched). i < length v) (sym same) lt in
    let there = subst (λ (v : List Watched). get_or c.loop-i.places.items i 0 + length (records_on v (window_of b) i) ≡ 25 + length (entries_on v (window_of b) 0)) same
    (c.loop-i.invariant.places i (omega (arith, below, c.loop-i-test.false))) in
    omega (arith, there, image_long b.watch.instances (window_of b) 1)

pub returns-clause-size : goal.returns-clause-size
returns-clause-size c =
    let b = c.args.board.now in
    let ws = c.instances-watched.result.now in
    let same : ws ≡ b.watch.instances = search rules in
    let none = ap (λ (v : List ℕ). length v) (left_none (window_of b) ws c.loop-i.i (omega (arith, c.loop-i-test.false))) in
    let all = ap (λ (v : List Watched). length (entries_on v (window_of b) 0)) same in
    omega (arith, none, all, c.loop-i.invariant.at, image_long b.watch.instances (window_of b) 1)

pub returns-clause-few : goal.returns-clause-few
returns-clause-few c =
    let many : length c.instances-watched.result.now ≤ 256 = search rules in
    omega (arith, many, c.loop-i.invariant.small)
