-- How much there can be: samples in a window or owed, and datagrams that an event sends.
use Rattle.std.proofs.Common.{ℕ, ◌≡◌, ◌≤◌, ◌<◌, ◌+◌, ◌*◌, add-one, zero, suc, Bool, true, false, List, [], ◌∷◌, length, map, get_or, drop, inl, inr, ◌⊎◌, refl, sym, ap, subst, arith, length-append, length-drop}
use Rattle.std.specs.Prelude.{filter, not, if◌then◌else◌}
use Rattle.std.specs.Cmp.{nat_cmp_total}
use Rattle.std.specs.FinSet as set
use Rattle.std.specs.FinSet.{nat_cmp-IsAntisymmetric}
use Rattle.std.proofs.lemmas.Bool.{cases_lt}
use Rattle.std.proofs.lemmas.List.{drop_all, get_or-map, get_or_past, length-map}
use Rattle.mon_sample.specs.Key.{boots_of}
use Rattle.mon_window.specs.Keep.{keep}
use Rattle.mon_window.specs.Top.{rising}
use Rattle.mon_window.specs.Window.{Samples}
use Rattle.mon_window.proofs.Promised.{rising-retain}
use Rattle.mon_board.specs.declared.instance.Watched.{Watched}
use Rattle.mon_board.specs.Board.{Board, is_marked, window_of}
use Rattle.mon_board.specs.Instance.{AreSized}
use Rattle.mon_board.specs.Watch.{IsWatch, size_of, epoch_of}
use Rattle.mon_board.specs.Windows.{IsWhole}
use Rattle.mon_exchange.specs.declared.sharing.Portion.{Portion}
use Rattle.mon_exchange.specs.Portions.{or_empty, pieces, pieces_by, portion, portions_from, serial_after}
use Rattle.mon_station.specs.declared.event.Outgoing.{Outgoing}
use Rattle.mon_station.specs.State.{State, owed_below, owed_to, portions_to}
use Rattle.mon_station.specs.Step.{IsSettled}
use Rattle.mon_station.specs.Told.{offers_from, to_peer}

-- ---- windows
size_few : (ws : List Watched) → AreSized ws → (i : ℕ) → get_or (map (λ (w : Watched). w.window) ws) i 0 ≤ 64
size_few [] sized i = subst (λ n. n ≤ 64) (sym (get_or_past (map (λ (w : Watched). w.window) []) i 0 (omega arith))) (omega arith)
size_few (x ∷ ws) sized i = at (cases_lt i (length (x ∷ ws)))
  where
    at : (i < length (x ∷ ws)) ⊎ (length (x ∷ ws) ≤ i) → get_or (map (λ (w : Watched). w.window) (x ∷ ws)) i 0 ≤ 64
    at (inl lt) = subst (λ n. n ≤ 64) (sym (get_or-map (λ (w : Watched). w.window) (x ∷ ws) i x 0 lt)) (sized i x lt).small
    at (inr ge) = subst (λ n. n ≤ 64) (sym (get_or_past (map (λ (w : Watched). w.window) (x ∷ ws)) i 0 (omega (arith, ge, length-map (x ∷ ws) (λ (w : Watched). w.window))))) (omega arith)

pub window_few : (b : Board) → IsWatch b.watch → ((i : ℕ) → IsWhole b.watch (window_of b) i) → ((epoch : ℕ → ℕ) (n m : ℕ) (a : Samples) → set.len (keep epoch n m a) ≤ n) → ((a : Samples) → set.len a ≡ length (rising a))
    → (i : ℕ) → length (rising (window_of b i)) ≤ 64
window_few b watch whole few count i =
    omega (arith, count (window_of b i), ap set.len (whole i), few boots_of (size_of b.watch i) (epoch_of b.watch i) (window_of b i), size_few b.watch.instances watch.sized i)

-- ---- owed
filter_fewer : (p : ℕ → Bool) (xs : List ℕ) → length (filter p xs) ≤ length xs
filter_fewer p [] = omega arith
filter_fewer p (x ∷ xs) = one_more (p x) (filter_fewer p xs)
  where
    one_more : (b : Bool) → length (filter p xs) ≤ length xs → length (if b then x ∷ filter p xs else filter p xs) ≤ length (x ∷ xs)
    one_more true h = omega (arith, h)
    one_more false h = omega (arith, h)

pub owed_few : (s : State) → IsSettled s → (slot i : ℕ) → length (rising (owed_to s slot i)) ≤ 64
owed_few s settled slot i =
    omega (arith, settled.few i, ap length (rising-retain nat_cmp_total nat_cmp-IsAntisymmetric (window_of s.board i) (λ x. not (is_marked s.board slot i x))), filter_fewer (λ x. not (is_marked s.board slot i x)) (rising (window_of s.board i)))

pub one_below : (owed : ℕ → Samples) (i : ℕ) → owed_below owed (i + 1) ≡ owed_below owed i + length (rising (owed i))
one_below owed i = ap (owed_below owed) (add-one i)

-- ---- portions
none_left : (k : ℕ) (xs : List ℕ) → xs ≡ [] → length (pieces_by k xs) ≡ 0
none_left zero xs e = refl
none_left (suc k) xs e = subst (λ (l : List ℕ). length (pieces_by (suc k) l) ≡ 0) (sym e) refl

one_piece : (k : ℕ) (xs : List ℕ) → length xs ≤ 40 → length (pieces_by k xs) ≤ 1
one_piece zero xs few = omega arith
one_piece (suc k) [] few = omega arith
one_piece (suc k) (x ∷ xs) few = omega (arith, none_left k (drop 40 (x ∷ xs)) (drop_all 40 (x ∷ xs) few))

two_pieces : (k : ℕ) (xs : List ℕ) → length xs ≤ 64 → length (pieces_by k xs) ≤ 2
two_pieces zero xs few = omega arith
two_pieces (suc k) [] few = omega arith
two_pieces (suc k) (x ∷ xs) few = omega (arith, one_piece k (drop 40 (x ∷ xs)) (omega (arith, few, length-drop 40 (x ∷ xs))))

from_few : (owed : ℕ → Samples) (i n : ℕ) → ((i : ℕ) → length (rising (owed i)) ≤ 64) → length (portions_from owed i n) ≤ 2 * n
from_few owed i zero few = omega arith
from_few owed i (suc n) few =
    let samples = rising (owed i) in
    omega (arith, length-append (map (portion i) (pieces samples)) (portions_from owed (i + 1) n), length-map (pieces samples) (portion i), two_pieces (length samples) samples (few i), from_few owed (i + 1) n few)

one_at_least : (n : ℕ) (ps : List Portion) → length ps ≤ n → 1 ≤ n → length (or_empty ps) ≤ n
one_at_least n [] few some = some
one_at_least n (p ∷ ps) few some = few

offers_count : (s : State) (serial : ℕ) (ps : List Portion) → length (offers_from s serial ps) ≡ length ps
offers_count s serial [] = refl
offers_count s serial (p ∷ ps) = ap suc (offers_count s (serial_after serial) ps)

-- ---- offers
pub offers_few : (s : State) → IsSettled s → (slot y : ℕ) (outs : List Outgoing) → outs ≡ map (to_peer y) (offers_from s s.serial (portions_to s slot)) → length outs ≤ 512
offers_few s settled slot y outs is =
    let n = length s.board.watch.instances in
    let portions = portions_from (owed_to s slot) 0 n in
    let all : length portions ≤ 2 * n = from_few (owed_to s slot) 0 n (owed_few s settled slot) in
    let some : length (portions_to s slot) ≤ 512 = one_at_least 512 portions (omega (arith, all, settled.most)) (omega arith) in
    let offers = offers_from s s.serial (portions_to s slot) in
    omega (arith, ap length is, length-map offers (to_peer y), offers_count s s.serial (portions_to s slot), some)
