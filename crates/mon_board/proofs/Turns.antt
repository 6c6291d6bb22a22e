-- Samples taken one after another.
use Rattle.std.proofs.Common.{◌≡◌, ℕ, ◌+◌, ◌<◌, List, [], ◌∷◌, ◌++◌, length, take, get_or, map, true, false, Bool, refl, sym, ap, subst, ◌∙◌, inl, inr}
use Rattle.std.specs.Prelude.{◌↔◌, ◌&&◌, Result, Ok, Err, IsErr, OnOk}
use Rattle.std.specs.FinSet as set
use Rattle.std.proofs.lemmas.List.{take_more, map-append}
use Rattle.mon_window.specs.declared.window.Inserted.{Inserted}
use Rattle.mon_window.specs.Window.{Samples, In}
use Rattle.mon_window.proofs.Promised.{in_left, in_right, in_either}
use Rattle.mon_board.specs.Board.{Board, KeepsMarks, MarksEntries, is_marked, window_of}
use Rattle.mon_board.specs.Owed.{kept_marks}
use Rattle.mon_board.specs.Watch.{Watch}
use Rattle.mon_board.specs.Windows.{IsTaken, IsWhole, joined, kept_by, paired, set_of}
use Rattle.mon_board.specs.declared.fault.UnknownInstance.{UnknownInstance}
use Rattle.mon_board.proofs.ByInstance.{set_of-append}
use Rattle.mon_board.proofs.Promised.{kept_stays}
use Rattle.mon_board.proofs.Joins.{one_put, more_put}

pub paired_more : (k : ℕ) (samples : List ℕ) (place s : ℕ) → place < length samples → s ≡ get_or samples place s → paired k (take (place + 1) samples) ≡ paired k (take place samples) ++ (k, s) ∷ []
paired_more k samples place s lt is =
    let pair : ℕ → ℕ × ℕ = λ t. (k, t) in
    ap (map pair) (take_more samples place s lt) ∙ map-append pair (take place samples) (get_or samples place s ∷ [])
    ∙ ap (λ (t : ℕ). map pair (take place samples) ++ (k, t) ∷ []) (sym is)

module _ (watch : Watch) (start old new : ℕ → Samples) (before after : List (ℕ × ℕ)) (pair : ℕ × ℕ) (longer : after ≡ before ++ pair ∷ [])
    (so_far : (i : ℕ) → old i ≡ joined watch start before i) (whole : (i : ℕ) → IsWhole watch old i) (taken : IsTaken watch old new pair.0 pair.1) where
  -- one sample more
  pub one_taken : (i : ℕ) → new i ≡ joined watch start after i
  one_taken i =
      one_put watch old new pair whole taken i
      ∙ ap (λ (a : Samples). kept_by watch i (set.union a (set_of i (pair ∷ [])))) (so_far i)
      ∙ more_put watch start before (pair ∷ []) i
      ∙ ap (λ (ps : List (ℕ × ℕ)). joined watch start ps i) (sym longer)

  -- what fell out does not come back
  pub stayed : (i q : ℕ) → In q (start i) → In q (new i) → In q (old i)
  stayed i q first last =
      let a : Samples = set.union (start i) (set_of i before) in
      let b : Samples = set.union (start i) (set_of i (before ++ pair ∷ [])) in
      let all : new i ≡ kept_by watch i b = one_taken i ∙ ap (λ (ps : List (ℕ × ℕ)). joined watch start ps i) longer in
      subst (In q) (sym (so_far i)) (kept_stays watch i a b q (in_left q (start i) (set_of i before) first) (more i before (pair ∷ [])) (subst (In q) all last))
    where
      more : (i : ℕ) (ps qs : List (ℕ × ℕ)) (x : ℕ) → In x (set.union (start i) (set_of i ps)) → In x (set.union (start i) (set_of i (ps ++ qs)))
      more i ps qs x h = elim (in_either x (start i) (set_of i ps) h) [
        | inl own ↦ in_left x (start i) (set_of i (ps ++ qs)) own
        | inr put ↦ in_right x (start i) (set_of i (ps ++ qs)) (subst (In x) (sym (set_of-append i ps qs)) (in_left x (set_of i ps) (set_of i qs) put))
      ]

-- a call that can't be refused was not
pub was_taken : (r : Result Inserted UnknownInstance) (P Q : Type 0) → (IsErr r ↔ Q) → (Q → ⊥) → OnOk r P → P
was_taken (Ok x) P Q unknown not_unknown taken = taken
was_taken (Err e) P Q unknown not_unknown taken = absurd (not_unknown (unknown.0 refl))

pub pairs_more : (pairs : List (ℕ × ℕ)) (place : ℕ) (pair : ℕ × ℕ) → place < length pairs → pair ≡ get_or pairs place pair → take (place + 1) pairs ≡ take place pairs ++ pair ∷ []
pairs_more pairs place pair lt is = take_more pairs place pair lt ∙ ap (λ (p : ℕ × ℕ). take place pairs ++ p ∷ []) (sym is)

-- ---- marks
still_there : (m a : Bool) → (m ≡ true → a ≡ true) → m ≡ ((m && a) && a)
still_there true a h = sym (h refl) ∙ twice a
  where
    twice : (b : Bool) → b ≡ (b && b)
    twice true = refl
    twice false = refl
still_there false a h = refl

pub keeps_own : (b : Board) → MarksEntries b → KeepsMarks b b
keeps_own b entries slot = λ j i s. still_there (is_marked b slot i s) (set.contains (window_of b i) s) (entries slot i s) j

kept_twice : (m a b c : Bool) → (a ≡ true → c ≡ true → b ≡ true) → (((((m && a) && b)) && b) && c) ≡ ((m && a) && c)
kept_twice false a b c h = refl
kept_twice true false b c h = refl
kept_twice true true b true h = rw (h refl refl) refl
kept_twice true true true false h = refl
kept_twice true true false false h = refl

pub keeps_more : (start old new : Board) → KeepsMarks start old → KeepsMarks old new → ((i s : ℕ) → In s (window_of start i) → In s (window_of new i) → In s (window_of old i)) → KeepsMarks start new
keeps_more start old new before step stay slot =
    step slot ∙ ap (kept_marks (window_of old) (window_of new)) (before slot)
    ∙ (λ j i s. kept_twice (is_marked start slot i s) (set.contains (window_of start i) s) (set.contains (window_of old i) s) (set.contains (window_of new i) s) (stay i s) j)
