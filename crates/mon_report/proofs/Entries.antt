-- Entries by their numbers.
use Rattle.std.proofs.Common.{◌≡◌, ℕ, zero, suc, ◌+◌, ◌<◌, ◌≤◌, List, [], ◌∷◌, length, take, map, get_or, slice_index_or, ap, refl, ◌∙◌, arith}
use Rattle.std.proofs.lemmas.List.{take_more}
use Rattle.std.proofs.lemmas.List.Elements.{All-head, All-tail}
use Rattle.std.proofs.lemmas.List.Sums.{sum_by-append}
use Rattle.mon_alarms.specs.declared.alarm.AlarmState.{AlarmState}
use Rattle.mon_alarms.specs.Rule.{Rule}
use Rattle.mon_window.specs.Top.{rising}
use Rattle.mon_window.specs.Window.{Samples, AreSizes}
use Rattle.mon_board.specs.Instance.{AreSized}
use Rattle.mon_board.specs.declared.instance.Watched.{Watched}
use Rattle.mon_report.specs.Report.{Entry, announced_entry, announced_from, samples_in}

module _ (states : List AlarmState) (rules : List Rule) (windows : ℕ → Samples) where
  pub length-entries : (k : ℕ) (ws : List Watched) → length (announced_from states rules windows k ws) ≡ length ws
  length-entries k [] = refl
  length-entries k (w ∷ ws) = ap suc (length-entries (k + 1) ws)

  pub get_or-entries : (k : ℕ) (ws : List Watched) (i : ℕ) (e : Entry) (w : Watched) → i < length ws
      → get_or (announced_from states rules windows k ws) i e ≡ announced_entry states rules windows (k + i) (get_or ws i w)
  get_or-entries k [] i e d lt = absurd (omega arith)
  get_or-entries k (w ∷ ws) zero e d lt = ap (λ n. announced_entry states rules windows n w) (let same : k ≡ k + 0 = omega arith in same)
  get_or-entries k (w ∷ ws) (suc i) e d lt =
      get_or-entries (k + 1) ws i e d (omega arith) ∙ ap (λ n. announced_entry states rules windows n (get_or ws i d)) (let same : (k + 1) + i ≡ k + suc i = omega arith in same)

  -- the entries of all instances
  pub get_or-first : (ws : List Watched) (i : ℕ) (e : Entry) (w : Watched) → i < length ws
      → get_or (announced_from states rules windows 0 ws) i e ≡ announced_entry states rules windows i (get_or ws i w)
  get_or-first ws i e w lt = get_or-entries 0 ws i e w lt ∙ ap (λ n. announced_entry states rules windows n (get_or ws i w)) (let same : 0 + i ≡ i = omega arith in same)

  -- the samples of an entry
  pub items-first : (ws : List Watched) (i : ℕ) (e : Entry) → i < length ws → (get_or (announced_from states rules windows 0 ws) i e).items ≡ rising (windows i)
  items-first [] i e lt = absurd (omega arith)
  items-first (w ∷ ws) i e lt = ap (λ x. x.items) (get_or-first (w ∷ ws) i e w lt)

-- the samples of one entry more
pub samples-more : (es : List Entry) (i : ℕ) (e : Entry) → i < length es → samples_in (take (i + 1) es) ≡ samples_in (take i es) + length (get_or es i e).items
samples-more es i e lt =
    let alone : 0 + length (get_or es i e).items ≡ length (get_or es i e).items = omega arith in
    ap samples_in (take_more es i e lt) ∙ sum_by-append (λ x. length x.items) (take i es) (get_or es i e ∷ []) ∙ ap (λ n. samples_in (take i es) + n) alone

-- no window holds more than 64 samples
pub size-small : (ws : List Watched) → AreSized ws → (i : ℕ) → slice_index_or (map (λ w. w.window) ws) i 0 ≤ 64
size-small [] h i = omega arith
size-small (w ∷ ws) h zero = (All-head (λ w. AreSizes w.window w.epoch) w ws h).small
size-small (w ∷ ws) h (suc i) = size-small ws (All-tail (λ w. AreSizes w.window w.epoch) w ws h) i
