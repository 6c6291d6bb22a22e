use Rattle.std.proofs.Common.{rules, ◌≡◌, ◌≤◌, ◌<◌, ℕ, List, length, ap, subst, sym, ◌∙◌, arith}
use Rattle.mon_board.specs.Board.{window_of}
use Rattle.mon_board.specs.Windows.{kept_by}
use Rattle.mon_board.specs.Watch.{Watch}
use Rattle.mon_saved.specs.Kept.{HoldsImage}
use Rattle.mon_saved.proofs.Moved.{all_stay, as_many, at_index, holds_moved, holds_same, insertion_moves, insertion_stays, records_fit}
use Rattle.mon_saved.proofs.kept.KeptImage.follow.Goals as goal

pub index-requires : goal.index-requires
index-requires c =
    let was = c.requires.was in
    let held = was.kept (omega (arith, c.if-self-eq0.false)) in
    let same = ap (λ (w : Watch). length w.instances) was.watch in
    omega (arith, held.number, same, c.requires.instance, c.from.ensures)

pub move_records-requires-clause-room : goal.move_records-requires-clause-room
move_records-requires-clause-room c =
    let was = c.requires.was in
    let n = c.args.instance in
    let held = was.kept (omega (arith, c.if-self-eq0.false)) in
    let lt = subst (λ (w : Watch). n < length w.instances) was.watch c.requires.instance in
    let items = c.items-items.ensures.items in
    let moves = insertion_moves (kept_by was.old.watch n) (window_of was.old n) (window_of c.args.board.now n) c.items-items.result.now was.sample c.args.how c.in-Added.at c.in-Added.dropped
    was.inserted c.in-Added.is items (c.moved_by_one.ensures c.if-not-moved_by_one.false) in
    omega (
      arith,
      as_many (window_of was.old n) (window_of c.args.board.now n) moves,
      records_fit _ _ was.old.watch.instances (window_of was.old) _ n held lt,
      ap (λ (l : List ℕ). length l) items,
      ap (λ (l : List ℕ). length l) c.deref_mut.ensures.value,
      c.from.ensures,
      at_index c.args.self.now.places.items c.from.result n c.index.result.now c.from.ensures (omega (arith, held.number, lt)) c.index.ensures,
    )

pub returns-else-not-moved_by_one : goal.returns-else-not-moved_by_one
returns-else-not-moved_by_one c =
    let was = c.requires.was in
    let n = c.args.instance in
    let held = was.kept (omega (arith, c.if-self-eq0.false)) in
    let lt = subst (λ (w : Watch). n < length w.instances) was.watch c.requires.instance in
    let items = c.items-items.ensures.items in
    let moves = insertion_moves (kept_by was.old.watch n) (window_of was.old n) (window_of c.args.board.now n) c.items-items.result.now was.sample c.args.how c.in-Added.at c.in-Added.dropped
    was.inserted c.in-Added.is items (c.moved_by_one.ensures c.if-not-moved_by_one.false) in
    let octets = c.deref_mut.ensures.value in
    let before : 1 ≤ c.args.self.now.incarnation → HoldsImage c.args.self.now.octets.items c.args.self.now.places.items c.args.board.now.watch.instances (window_of was.old) c.args.self.now.incarnation =
    (λ positive. subst (λ (w : Watch). HoldsImage c.args.self.now.octets.items c.args.self.now.places.items w.instances (window_of was.old) c.args.self.now.incarnation) (sym was.watch) (was.kept positive)) in
    let at = at_index c.args.self.now.places.items c.from.result n c.index.result.now c.from.ensures (omega (arith, held.number, lt)) c.index.ensures in
    let long : c.args.self.now.octets.len ≡ length c.args.self.now.octets.items = search rules in
    record {
      kept = λ positive.
          (holds_moved c.args.self.now.octets.items c.args.self.now.places.items c.move_records.new.octets c.args.board.now.watch.instances (window_of was.old) (window_of c.args.board.now) c.args.self.now.incarnation
          n moves.oldest moves.newest c.args.self.now.octets.len moves.rest (before positive) c.requires.instance was.others moves.was moves.is
          (c.move_records.ensures.sample moves.rest moves.newest (items ∙ moves.is)) long (c.move_records.ensures.len ∙ ap (λ (l : List ℕ). length l) octets)
          (λ front back whole begins. c.move_records.ensures.moved front back moves.rest moves.oldest moves.newest (octets ∙ whole) (begins ∙ sym at) (items ∙ moves.is)));
    }

pub returns-in-Known : goal.returns-in-Known
returns-in-Known c =
    let was = c.requires.was in
    let n = c.args.instance in
    let one = insertion_stays (kept_by was.old.watch n) (window_of was.old n) (window_of c.args.board.now n) was.sample c.args.how was.inserted c.in-Known.is in
    record {
      kept = λ positive. subst (λ (w : Watch). HoldsImage c.args.self.now.octets.items c.args.self.now.places.items w.instances (window_of c.args.board.now) c.args.self.now.incarnation) (sym was.watch)
          (holds_same _ _ was.old.watch.instances (window_of was.old) (window_of c.args.board.now) _ (all_stay (window_of was.old) (window_of c.args.board.now) n was.others one) (was.kept positive));
    }
