-- Samples that are taken one after another.
use Rattle.std.proofs.Common.{◌≡◌, ℕ, ◌+◌, ◌<◌, Bool, List, [], ◌∷◌, ◌++◌, length, take, get_or, refl, sym, ap, ◌∙◌, append_assoc, ◌⊎◌, inl, inr, arith}
use Rattle.std.specs.FinSet as set
use Rattle.std.proofs.lemmas.List.{append-nil, length-take, take_more}
use Rattle.mon_window.specs.Window.{In, Samples}
use Rattle.mon_window.proofs.Promised.{in_either, in_empty, in_right}
use Rattle.mon_board.specs.Board.{Board, KeepsMarks}
use Rattle.mon_board.specs.Windows.{joined, paired, set_of, window, kept_by}
use Rattle.mon_board.proofs.Promised.{kept_meet, kept_within}
use Rattle.mon_board.specs.Watch.{Watch}
use Rattle.mon_saved.specs.declared.image.Entry.{Entry}
use Rattle.mon_saved.specs.Restored.{IsUnmarked, pairs_from}

claimed_after : (j : ℕ) (es : List Entry) (e : Entry) → pairs_from j (es ++ e ∷ []) ≡ pairs_from j es ++ paired (j + length es) e.samples
claimed_after j [] e =
    let here : j ≡ j + 0 = omega arith in
    append-nil (paired j e.samples) ∙ ap (λ (k : ℕ). paired k e.samples) here
claimed_after j (x ∷ es) e =
    let next : j + 1 + length es ≡ j + length (x ∷ es) = omega arith in
    ap (λ (ps : List (ℕ × ℕ)). paired j x.samples ++ ps) (claimed_after (j + 1) es e ∙ ap (λ (k : ℕ). pairs_from (j + 1) es ++ paired k e.samples) next)
    ∙ sym (append_assoc (paired j x.samples) (pairs_from (j + 1) es) (paired (j + length (x ∷ es)) e.samples))

pub one_filled : (watch : Watch)
    (more : (windows : ℕ → Samples) (pairs more : List (ℕ × ℕ)) (i : ℕ) → joined watch (joined watch windows pairs) more i ≡ joined watch windows (pairs ++ more) i)
    (start old new : ℕ → Samples) (entries : List Entry) (k : ℕ) (e : Entry) → k < length entries → e ≡ get_or entries k e
    → ((i : ℕ) → old i ≡ joined watch start (pairs_from 0 (take k entries)) i) → ((i : ℕ) → new i ≡ joined watch old (paired k e.samples) i)
    → (i : ℕ) → new i ≡ joined watch start (pairs_from 0 (take (k + 1) entries)) i
one_filled watch more start old new entries k e lt is so_far step i =
    let many : 0 + length (take k entries) ≡ k = omega (arith, length-take k entries, lt) in
    let grown : pairs_from 0 (take (k + 1) entries) ≡ pairs_from 0 (take k entries) ++ paired k e.samples =
    ap (pairs_from 0) (take_more entries k e lt) ∙ claimed_after 0 (take k entries) (get_or entries k e)
    ∙ ap (λ (x : Entry). pairs_from 0 (take k entries) ++ paired (0 + length (take k entries)) x.samples) (sym is)
    ∙ ap (λ (n : ℕ). pairs_from 0 (take k entries) ++ paired n e.samples) many in
    step i
    ∙ ap (λ (a : Samples). kept_by watch i (set.union a (set_of i (paired k e.samples)))) (so_far i)
    ∙ more start (pairs_from 0 (take k entries)) (paired k e.samples) i
    ∙ ap (λ (ps : List (ℕ × ℕ)). joined watch start ps i) (sym grown)

pub stays_unmarked : (old new : Board) → KeepsMarks old new → IsUnmarked old → IsUnmarked new
stays_unmarked old new keeps none slot i s =
    let kept = ap (λ (marked : ℕ → ℕ → Bool). marked i s) (keeps slot) in
    kept ∙ rw (none slot i s) refl

pub from_empty : (watch : Watch) (windows : ℕ → Samples) (pairs : List (ℕ × ℕ)) → ((i : ℕ) → windows i ≡ set.empty) → (i : ℕ) → joined watch windows pairs i ≡ window watch pairs i
from_empty watch windows pairs none i =
    ap (λ (s : Samples). kept_by watch i (set.union s pairs_of)) (none i)
    ∙ kept_meet watch i (set.union set.empty pairs_of) pairs_of
    (λ s h. of_pairs s (in_either s set.empty pairs_of (within (set.union set.empty pairs_of) s h)))
    (λ s h. in_right s set.empty pairs_of (within pairs_of s h))
  where
    pairs_of : Samples
    pairs_of = set_of i pairs

    within : (a : Samples) (s : ℕ) → In s (kept_by watch i a) → In s a
    within a s h = kept_within watch i a s h

    of_pairs : (s : ℕ) → In s set.empty ⊎ In s pairs_of → In s pairs_of
    of_pairs s (inl h) = absurd (in_empty s h)
    of_pairs s (inr h) = h
