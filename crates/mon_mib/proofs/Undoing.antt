-- Undoing from the last assignment on, where some undoings fail.
use Rattle.std.proofs.Common.{suc, ◌≡◌, ◌≢◌, ℕ, ◌<◌, false, List, [], ◌∷◌, ◌++◌, length, get_or, refl, sym, ◌∙◌, ap, subst, append_assoc, arith, inl, inr}
use Rattle.std.specs.Prelude.{All, Contains, map}
use Rattle.std.proofs.lemmas.List.{append-nil, get_or_append_left, length_push, length-append}
use Rattle.std.proofs.lemmas.List.Elements.{All-push, Contains-append_left, Contains-push}
use Rattle.std.proofs.lemmas.List.Quantifiers.{all_pairs_push}
use Rattle.mon_mib.specs.declared.change.Change.{Change}
use Rattle.mon_mib.specs.declared.planned_change.PlannedChange.{PlannedChange}
use Rattle.mon_mib.specs.Assignment.{AreApart}
use Rattle.mon_mib.specs.Change.{changed, undoing, same_target, one_failure}
use Rattle.mon_mib.specs.Commit.{changes, undoings, failures_after, IsRefusedOnce, IsLeft, AreSomeBackwards}
use Rattle.mon_mib.specs.Held.{Held}
use Rattle.mon_mib.specs.Undone.{IsUndoneOrStands, IsBack, IsListedStanding}
use Rattle.mon_mib.proofs.Swapping.{undone, same_place, turned, IsClear, through, undoing_through, changes_push}

-- ---- lists

abbrev pub index_of : List PlannedChange → List ℕ
index_of steps = map (λ s. s.index) steps

index_push : (ss : List PlannedChange) (s : PlannedChange) → index_of (ss ++ s ∷ []) ≡ index_of ss ++ s.index ∷ []
index_push [] s = refl
index_push (t ∷ ss) s = ap (λ ns. t.index ∷ ns) (index_push ss s)

pub undoings_push : (ss : List PlannedChange) (s : PlannedChange) (h : Held) → undoings (ss ++ s ∷ []) h ≡ undoings ss h ++ record { index = s.index; change = undoing s.change (changes ss h) } ∷ []
undoings_push [] s h = refl
undoings_push (t ∷ ss) s h = ap (λ us. record { index = t.index; change = undoing t.change h } ∷ us) (undoings_push ss s (changed t.change h))

pub undoings_length : (ss : List PlannedChange) (h : Held) → length (undoings ss h) ≡ length ss
undoings_length [] h = refl
undoings_length (s ∷ ss) h = ap suc (undoings_length ss (changed s.change h))

pub failures_push : (ns : List ℕ) (n count : ℕ) → failures_after (ns ++ n ∷ []) count ≡ one_failure (failures_after ns count)
failures_push [] n count = refl
failures_push (m ∷ ns) n count = failures_push ns n (one_failure count)

-- the last of the assignments, where the undoings end with this one
pub record IsLastOf (ss : List PlannedChange) (h : Held) (us : List PlannedChange) (u : PlannedChange) : Type 0 where
  pub front : List PlannedChange
  pub step : PlannedChange
  pub order : ss ≡ front ++ step ∷ []
  pub others : us ≡ undoings front h
  pub is : u ≡ record { index = step.index; change = undoing step.change (changes front h) }

pub last_of : (ss : List PlannedChange) (h : Held) (us : List PlannedChange) (u : PlannedChange) → us ++ u ∷ [] ≡ undoings ss h → IsLastOf ss h us u
last_of [] h us u e = absurd (nothing us e)
  where
    nothing : (us : List PlannedChange) → us ++ u ∷ [] ≡ [] → ⊥
    nothing [] e = cc
    nothing (v ∷ us) e = cc
last_of (s ∷ []) h [] u e = record { front = []; step = s; order = refl; others = refl; is = head e }
  where
    head : {a b : PlannedChange} → a ∷ [] ≡ b ∷ [] → a ≡ b
    head e = cc
last_of (s ∷ []) h (v ∷ us) u e = absurd (longer us (tail e))
  where
    tail : {a b : PlannedChange} {ss ts : List PlannedChange} → a ∷ ss ≡ b ∷ ts → ss ≡ ts
    tail e = cc

    longer : (us : List PlannedChange) → us ++ u ∷ [] ≡ [] → ⊥
    longer [] e = cc
    longer (v ∷ us) e = cc
last_of (s ∷ t ∷ ss) h [] u e = absurd (never e)
  where
    never : {a b c : PlannedChange} {cs : List PlannedChange} → a ∷ [] ≡ b ∷ c ∷ cs → ⊥
    never e = cc
last_of (s ∷ t ∷ ss) h (v ∷ us) u e =
    let rest : IsLastOf (t ∷ ss) (changed s.change h) us u = last_of (t ∷ ss) (changed s.change h) us u (tail e) in
    record { front = s ∷ rest.front; step = rest.step; order = ap (λ l. s ∷ l) rest.order; others = both (head e) rest.others; is = rest.is }
  where
    head : {a b : PlannedChange} {ss ts : List PlannedChange} → a ∷ ss ≡ b ∷ ts → a ≡ b
    head e = cc

    tail : {a b : PlannedChange} {ss ts : List PlannedChange} → a ∷ ss ≡ b ∷ ts → ss ≡ ts
    tail e = cc

    both : {a b : PlannedChange} {ss ts : List PlannedChange} → a ≡ b → ss ≡ ts → a ∷ ss ≡ b ∷ ts
    both e f = cc

-- all before the last
front_all : {X : Type 0} (P : X → Type 0) (xs : List X) (x : X) → All P (xs ++ x ∷ []) → All P xs
front_all P xs x all k d lt = subst P (get_or_append_left xs (x ∷ []) d k lt) (all k d (rw (length_push xs x) (omega arith)))

last_all : {X : Type 0} (P : X → Type 0) (xs : List X) (x : X) → All P (xs ++ x ∷ []) → P x
last_all P xs x all =
    let at : (k : ℕ) × (k < length (xs ++ x ∷ [])) × (get_or (xs ++ x ∷ []) k x ≡ x) = Contains-push xs x in
    subst P at.2 (all at.0 x at.1)

pub front_apart : (ss ts : List PlannedChange) → AreApart (ss ++ ts) → AreApart ss
front_apart ss ts apart i j d lt within =
    subst (λ (x : PlannedChange). same_target (get_or ss i d).change x.change ≡ false) (get_or_append_left ss ts d j within)
    (subst (λ (x : PlannedChange). same_target x.change (get_or (ss ++ ts) j d).change ≡ false) (get_or_append_left ss ts d i (omega arith))
    (apart i j d lt (rw (length-append ss ts) (omega arith))))

-- the last is apart from all before
last_clear : (ss : List PlannedChange) (s : PlannedChange) → AreApart (ss ++ s ∷ []) → All (λ t. same_target t.change s.change ≡ false) ss
last_clear ss s apart i d lt =
    let there : same_target (get_or (ss ++ s ∷ []) i d).change (get_or (ss ++ s ∷ []) (length ss) d).change ≡ false =
    apart i (length ss) d lt (rw (length_push ss s) (omega arith)) in
    subst (λ (x : PlannedChange). same_target (get_or ss i d).change x.change ≡ false) (at_end ss s d)
    (subst (λ (x : PlannedChange). same_target x.change (get_or (ss ++ s ∷ []) (length ss) d).change ≡ false) (get_or_append_left ss (s ∷ []) d i lt) there)
  where
    at_end : (ss : List PlannedChange) (s d : PlannedChange) → get_or (ss ++ s ∷ []) (length ss) d ≡ s
    at_end [] s d = refl
    at_end (t ∷ ss) s d = at_end ss s d

front_clear : (ss : List PlannedChange) (s : PlannedChange) → AreApart (ss ++ s ∷ []) → IsClear s.change ss
front_clear ss s apart k d lt = turned s.change (get_or ss k d).change ∙ last_clear ss s apart k d lt

module _ {D : Type 0} (held : D → Held) (refuses : D → Change → Type 0) (failed : D → ℕ) (done : List PlannedChange) (before : Held) where
  -- these are left to undo, and those remain assigned
  pub record IsAtUndo (undos : List PlannedChange) (standing : List ℕ) (device : D) : Type 0 where
    pub rest : List PlannedChange
    pub gone : List PlannedChange
    pub left : List PlannedChange
    pub whole : done ≡ rest ++ gone
    pub order : AreSomeBackwards gone left
    pub among : (s : PlannedChange) → Contains rest s → Contains done s
    pub apart : AreApart rest
    pub clear : All (λ s. IsClear s.change left) rest
    pub undos_are : undos ≡ undoings rest before
    pub numbers : standing ≡ index_of left
    pub made : All (Contains done) left
    pub once : AreApart left
    pub refused : All (λ s. IsRefusedOnce held refuses (undoing s.change before)) left
    pub holds : held device ≡ changes left (changes rest before)

  pub begins : (undos : List PlannedChange) (device : D) → AreApart done → undos ≡ undoings done before → held device ≡ changes done before → IsAtUndo undos [] device
  begins undos device apart undos_are holds = record {
    rest = done;
    gone = [];
    left = [];
    whole = sym (append-nil done);
    order = refl;
    among = λ s at. at;
    apart = apart;
    clear = λ k d lt i e less. absurd (omega arith);
    undos_are = undos_are;
    numbers = refl;
    made = λ k d lt. absurd (omega arith);
    once = λ i j d lt within. absurd (omega arith);
    refused = λ k d lt. absurd (omega arith);
    holds = holds;
  }

  module _ (us : List PlannedChange) (u : PlannedChange) (standing : List ℕ) (old : D) (at : IsAtUndo (us ++ u ∷ []) standing old)
      (last : IsLastOf at.rest before us u) where
    rest_apart : AreApart (last.front ++ last.step ∷ [])
    rest_apart = subst AreApart last.order at.apart

    rest_clear : All (λ s. IsClear s.change at.left) (last.front ++ last.step ∷ [])
    rest_clear = subst (All (λ s. IsClear s.change at.left)) last.order at.clear

    held_is : held old ≡ changes at.left (changed last.step.change (changes last.front before))
    held_is = at.holds ∙ ap (changes at.left) (ap (λ l. changes l before) last.order ∙ changes_push last.front last.step before)

    step_clear : IsClear last.step.change at.left
    step_clear = last_all (λ s. IsClear s.change at.left) last.front last.step rest_clear

    step_made : Contains done last.step
    step_made = at.among last.step (subst (λ l. Contains l last.step) (sym last.order) (Contains-push last.front last.step))

    still_whole : done ≡ last.front ++ last.step ∷ at.gone
    still_whole = at.whole ∙ (ap (λ l. l ++ at.gone) last.order ∙ append_assoc last.front (last.step ∷ []) at.gone)

    still_among : (s : PlannedChange) → Contains last.front s → Contains done s
    still_among s there = at.among s (subst (λ l. Contains l s) (sym last.order) (Contains-append_left last.front (last.step ∷ []) s there))

    pub went_back : (new : D) (after : List ℕ) → IsBack held refuses failed u old new standing after → IsAtUndo us after new
    went_back new after back = record {
      rest = last.front;
      gone = last.step ∷ at.gone;
      left = at.left;
      whole = still_whole;
      order = inl at.order;
      among = still_among;
      apart = front_apart last.front (last.step ∷ []) rest_apart;
      clear = front_all (λ s. IsClear s.change at.left) last.front last.step rest_clear;
      undos_are = last.others;
      numbers = back.listed ∙ at.numbers;
      made = at.made;
      once = at.once;
      refused = at.refused;
      holds = back.holds ∙ (ap (changed u.change) held_is ∙ (through u.change at.left (changed last.step.change (changes last.front before)) undo_clear
          ∙ ap (changes at.left) (ap (λ c. changed c (changed last.step.change (changes last.front before))) undo_is ∙ undone last.step.change (changes last.front before))));
    }
      where
        undo_is : u.change ≡ undoing last.step.change (changes last.front before)
        undo_is = ap (λ (s : PlannedChange). s.change) last.is

        undo_clear : IsClear u.change at.left
        undo_clear k d lt = ap (λ c. same_target c (get_or at.left k d).change) undo_is
            ∙ (same_place last.step.change (get_or at.left k d).change (changes last.front before) ∙ step_clear k d lt)

    pub stayed : (new : D) (after : List ℕ) → IsListedStanding held refuses failed u old new standing after → IsAtUndo us after new
    stayed new after stands = record {
      rest = last.front;
      gone = last.step ∷ at.gone;
      left = at.left ++ last.step ∷ [];
      whole = still_whole;
      order = inr (at.left, refl, at.order);
      among = still_among;
      apart = front_apart last.front (last.step ∷ []) rest_apart;
      clear = λ k d lt. All-push (λ s. same_target (get_or last.front k d).change s.change ≡ false) at.left last.step
          (front_all (λ s. IsClear s.change at.left) last.front last.step rest_clear k d lt)
          (last_clear last.front last.step rest_apart k d lt);
      undos_are = last.others;
      numbers = stands.listed ∙ (ap (λ ns. ns ++ u.index ∷ []) at.numbers ∙ (ap (λ (s : PlannedChange). index_of at.left ++ s.index ∷ []) last.is ∙ sym (index_push at.left last.step)));
      made = All-push (Contains done) at.left last.step at.made step_made;
      once = all_pairs_push (λ (s t : PlannedChange). same_target s.change t.change ≡ false) at.left last.step at.once
          (λ k d lt. turned (get_or at.left k d).change last.step.change ∙ step_clear k d lt);
      refused = All-push (λ s. IsRefusedOnce held refuses (undoing s.change before)) at.left last.step at.refused
          (record { device = old; refused = subst (refuses old) undo_is stands.refused });
      holds = stands.holds ∙ (held_is ∙ (sym (through last.step.change at.left (changes last.front before) step_clear)
          ∙ sym (changes_push at.left last.step (changes last.front before))));
    }
      where
        undo_is : u.change ≡ undoing last.step.change before
        undo_is = ap (λ (s : PlannedChange). s.change) last.is ∙ undoing_through last.step.change last.front before (front_clear last.front last.step rest_apart)

  pub one_back : (undos us : List PlannedChange) (u : PlannedChange) (standing : List ℕ) (old new : D) (after : List ℕ) → undos ≡ us ++ u ∷ [] → IsAtUndo undos standing old
      → IsUndoneOrStands held refuses failed u old new standing after → IsAtUndo us after new
  one_back undos us u standing old new after split at taken =
      let there : IsAtUndo (us ++ u ∷ []) standing old = subst (λ l. IsAtUndo l standing old) split at in
      by_case there (last_of there.rest before us u there.undos_are) taken
    where
      by_case : (there : IsAtUndo (us ++ u ∷ []) standing old) → IsLastOf there.rest before us u → IsUndoneOrStands held refuses failed u old new standing after → IsAtUndo us after new
      by_case there last (inl back) = went_back us u standing old there last new after back
      by_case there last (inr stands) = stayed us u standing old there last new after stands

  -- at the end
  none_left : (rest : List PlannedChange) → [] ≡ undoings rest before → rest ≡ []
  none_left [] e = refl
  none_left (s ∷ ss) e = cc

  index_none : (left : List PlannedChange) → [] ≡ index_of left → left ≡ []
  index_none [] e = refl
  index_none (s ∷ ss) e = cc

  pub all_back : (device : D) → IsAtUndo [] [] device → held device ≡ before
  all_back device at =
      at.holds ∙ (ap (λ l. changes l (changes at.rest before)) (index_none at.left at.numbers) ∙ ap (λ l. changes l before) (none_left at.rest at.undos_are))

  pub some_left : (device : D) (standing : List ℕ) → standing ≢ [] → IsAtUndo [] standing device → IsLeft held refuses done before (held device) standing
  some_left device standing some at = record {
    left = at.left;
    some = λ e. some (at.numbers ∙ ap index_of e);
    made = at.made;
    once = at.once;
    order = subst (λ l. AreSomeBackwards l at.left) (sym (at.whole ∙ ap (λ l. l ++ at.gone) (none_left at.rest at.undos_are))) at.order;
    numbers = at.numbers;
    refused = at.refused;
    holds = at.holds ∙ ap (λ l. changes at.left (changes l before)) (none_left at.rest at.undos_are);
  }

pub nil_of : {X : Type 0} (xs : List X) → length xs ≡ 0 → xs ≡ []
nil_of [] e = refl
nil_of (x ∷ xs) e = absurd (omega arith)

pub not_nil : {X : Type 0} (xs : List X) → (length xs ≡ 0 → ⊥) → xs ≢ []
not_nil xs some e = some (ap length e)

module _ {D : Type 0} (held : D → Held) (refuses : D → Change → Type 0) (failed : D → ℕ) where
  pub failures_step : (u : PlannedChange) (old new : D) (standing after : List ℕ) (count : ℕ) → failed old ≡ failures_after standing count
      → IsUndoneOrStands held refuses failed u old new standing after → failed new ≡ failures_after after count
  failures_step u old new standing after count so_far (inl back) = back.failures ∙ (so_far ∙ ap (λ l. failures_after l count) (sym back.listed))
  failures_step u old new standing after count so_far (inr stands) =
      stands.failures ∙ (ap one_failure so_far ∙ (sym (failures_push standing u.index count) ∙ ap (λ l. failures_after l count) (sym stands.listed)))
