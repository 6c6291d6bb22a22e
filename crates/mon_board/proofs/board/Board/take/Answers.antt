use Rattle.std.proofs.Common.{◌<◌, ℕ, length, set, subst, arith, length-set}
use Rattle.mon_window.specs.Inserted.{IsInsertion}
use Rattle.mon_board.specs.Board.{Board, KeepsMarks, sets_of, marks_of, window_of}
use Rattle.mon_board.specs.Marks.{AreKept, marked_in}
use Rattle.mon_board.specs.Windows.{IsTaken, kept_by}
use Rattle.mon_board.specs.Watch.{size_of, epoch_of}
use Rattle.mon_board.proofs.Boards.{set_at, windows_after, taken_is, insertion_is, kept_changed, others_stay}
use Rattle.mon_board.proofs.Marked.{marks_at, marks_after, marks_taken, kept_same, as_kept}
use Rattle.mon_board.proofs.board.Board.take.Goals as goal

pub invariant_of-self : goal.invariant_of-self
invariant_of-self c =
    let n = size_of c.self.inside.watch in
    let k = length c.self.inside.watch.instances in
    let m = epoch_of c.self.inside.watch in
    let ws = c.self.inside.windows.items in
    let ms = c.self.inside.marks.items in
    let i = c.from-place.result in
    let v = c.insert-inserted.new.self in
    let are = c.self.invariant.0 in
    let lt : i < length ws = omega (arith, c.if-place-len.false, c.len.ensures) in
    let below : i < k = omega (arith, lt, are.number) in
    let kept : AreKept (set_at (set ws i v) i) c.index_mut-marks.result.now c.keep.new.self = kept_changed n m k ws are i below v _ _ c.keep.ensures in (
      windows_after c.self.inside.watch ws are i lt c.index_mut-window.result.now v c.index_mut-window.ensures.value c.args.sample c.insert-inserted.result c.insert-inserted.ensures.sizes c.insert-inserted.ensures.inserted,
      marks_after n ws (set ws i v) ms c.self.invariant.1 (length-set ws i v) i lt (others_stay n m k ws are i below v) c.index_mut-marks.result.now c.keep.new.self c.index_mut-marks.ensures.value kept,
    )

pub returns-clause-taken : goal.returns-clause-taken
returns-clause-taken c =
    let ws = c.self.inside.windows.items in
    let v = c.insert-inserted.new.self in
    let lt : c.from-place.result < length ws = omega (arith, c.if-place-len.false, c.len.ensures) in
    let taken = taken_is c.self.inside.watch ws c.self.invariant.0 c.from-place.result lt c.index_mut-window.result.now v c.index_mut-window.ensures.value c.args.sample c.insert-inserted.result c.insert-inserted.ensures.sizes c.insert-inserted.ensures.inserted in
    subst (λ (b : Board). IsTaken b.watch (window_of b) (set_at (set ws c.from-place.result v)) c.args.instance c.args.sample) c.self.view_is
    (subst (λ (i : ℕ). IsTaken c.self.inside.watch (set_at ws) (set_at (set ws c.from-place.result v)) i c.args.sample) c.from-place.ensures taken)

pub returns-clause-inserted : goal.returns-clause-inserted
returns-clause-inserted c =
    let ws = c.self.inside.windows.items in
    let v = c.insert-inserted.new.self in
    let w = c.index_mut-window.result.now in
    let lt : c.from-place.result < length ws = omega (arith, c.if-place-len.false, c.len.ensures) in
    let inserted = insertion_is c.self.inside.watch ws c.self.invariant.0 c.from-place.result lt w v c.index_mut-window.ensures.value c.args.sample c.insert-inserted.result c.insert-inserted.ensures.sizes c.insert-inserted.ensures.inserted in
    subst (λ (b : Board). IsInsertion (kept_by b.watch c.args.instance) (window_of b c.args.instance) (set_at (set ws c.from-place.result v) c.args.instance) c.args.sample c.insert-inserted.result) c.self.view_is
    (subst (λ (i : ℕ). IsInsertion (kept_by c.self.inside.watch i) (set_at ws i) (set_at (set ws c.from-place.result v) i) c.args.sample c.insert-inserted.result) c.from-place.ensures inserted)

pub returns-then-place-len-clause-marks : goal.returns-then-place-len-clause-marks
returns-then-place-len-clause-marks c =
    subst (λ (b : Board). KeepsMarks b b) c.self.view_is (as_kept (size_of c.self.inside.watch) c.self.inside.windows.items c.self.inside.marks.items c.self.invariant.1
    (λ slot i s. marked_in slot s (marks_at c.self.inside.marks.items i)) (set_at c.self.inside.windows.items)
    (kept_same (size_of c.self.inside.watch) c.self.inside.windows.items c.self.inside.marks.items c.self.invariant.1))

pub returns-clause-marks : goal.returns-clause-marks
returns-clause-marks c =
    let n = size_of c.self.inside.watch in
    let k = length c.self.inside.watch.instances in
    let m = epoch_of c.self.inside.watch in
    let ws = c.self.inside.windows.items in
    let ms = c.self.inside.marks.items in
    let i = c.from-place.result in
    let v = c.insert-inserted.new.self in
    let are = c.self.invariant.0 in
    let lt : i < length ws = omega (arith, c.if-place-len.false, c.len.ensures) in
    let below : i < k = omega (arith, lt, are.number) in
    let kept : AreKept (set_at (set ws i v) i) c.index_mut-marks.result.now c.keep.new.self = kept_changed n m k ws are i below v _ _ c.keep.ensures in
    let taken = marks_taken n ws (set ws i v) ms c.self.invariant.1 (length-set ws i v) i lt (others_stay n m k ws are i below v) c.index_mut-marks.result.now c.keep.new.self c.index_mut-marks.ensures.value kept in
    subst (λ (b : Board). KeepsMarks b (record { watch = c.self.inside.watch; windows = sets_of (set ws i v); marks = marks_of (set ms i c.keep.new.self) })) c.self.view_is
    (as_kept n ws ms c.self.invariant.1 (λ slot j s. marked_in slot s (marks_at (set ms i c.keep.new.self) j)) (set_at (set ws i v)) taken)
