-- What was taken, and what it leaves in the windows.
use Rattle.std.proofs.Common.{ℕ, zero, suc, ◌≡◌, Bool, true, false, List, [], ◌∷◌, Option, Some, None, refl, sym, ap, subst, ◌∙◌}
use Rattle.std.specs.Prelude.{◌==◌, ◌&&◌, if◌then◌else◌}
use Rattle.std.specs.FinSet as set
use Rattle.std.proofs.lemmas.Bool.{eqb-true}
use Rattle.mon_sample.specs.Key.{boots_of}
use Rattle.mon_window.specs.Keep.{keep}
use Rattle.mon_window.specs.Window.{Samples}
use Rattle.mon_board.specs.Board.{Board, window_of}
use Rattle.mon_board.specs.Instance.{instances_of}
use Rattle.mon_board.specs.Watch.{Watch, size_of, epoch_of}
use Rattle.mon_board.specs.Windows.{IsWhole, set_of, kept_by}
use Rattle.mon_board.proofs.Promised.{kept_none, kept_twice, kept_union}
use Rattle.mon_poller.specs.Polls.{no_polls}
use Rattle.mon_saved.specs.declared.image.Image.{Image}
use Rattle.mon_saved.specs.Image.{SpellsImage}
use Rattle.mon_saved.specs.Restored.{IsRestored, saved_pairs}
use Rattle.mon_saved.specs.Written.{image_of, written_image}
use Rattle.mon_station.specs.declared.fault.StationFault.{StationFault}
use Rattle.mon_station.specs.Alike.{EqualWindows, WindowsAreOfTaken}
use Rattle.mon_station.specs.Lived.{BeginsFrom, HandledIn, IsLived, IsReopened, Reopens, entries_of, in_front, last_state, saved_states}
use Rattle.mon_station.specs.ReadEvent.{ReadEvent, Save}
use Rattle.mon_station.specs.State.{State, IsHandled, setting_of}
use Rattle.mon_station.specs.Taken.{Entry, Restart, Answered, Origin, Nothing, Saved, Other, Past, SavedTaken, at_place, begun_with, from_save, has_sizes, past_after, past_of, taken}
use Rattle.mon_station.specs.Verdict.{Setting, added, polls_after}

-- a state as a past leaves it
pub record IsAsTaken (s : State) (p : Past) : Type 0 where
  pub setting : setting_of s ≡ p.setting
  pub polls : s.poller.polls ≡ p.polls
  pub windows : (i : ℕ) → window_of s.board i ≡ kept_by p.setting.watch i (p.taken i)

-- a saved state as what was in the save
pub record IsAsSaved (s : State) (t : SavedTaken) : Type 0 where
  pub watch : s.board.watch ≡ t.watch
  pub windows : (i : ℕ) → window_of s.board i ≡ kept_by t.watch i (t.taken i)

abbrev pub AreAsSaved : List State → List SavedTaken → Type 0
AreAsSaved [] [] = Unit {0}
AreAsSaved [] (t ∷ saves) = ⊥
AreAsSaved (s ∷ states) [] = ⊥
AreAsSaved (s ∷ states) (t ∷ saves) = IsAsSaved s t × AreAsSaved states saves

abbrev IsAsIn : Option State → Past → Type 0
IsAsIn None p = Unit {0}
IsAsIn (Some s) p = IsAsTaken s p

as_saved : (s : State) (p : Past) → IsAsTaken s p → IsAsSaved s (record { watch = p.setting.watch; taken = p.taken })
as_saved s p is = record { watch = ap (λ (w : Setting). w.watch) is.setting; windows = is.windows }

both : (a b : Bool) → (a && b) ≡ true → (a ≡ true) × (b ≡ true)
both true true h = (refl, refl)
both true false h = absurd cc
both false b h = absurd cc

-- ---- one entry more
handled : (e : ReadEvent) (answer : Option StationFault) (old new : State) (p : Past) → IsAsTaken old p → IsHandled e answer old new → IsAsTaken new (past_after (Answered e answer) p)
handled e answer old new p is h =
    let more = added p.setting p.polls e answer in
    let watch = p.setting.watch in
    let added_as : added (setting_of old) old.poller.polls e answer ≡ more = λ k. added (is.setting k) (is.polls k) e answer in
    record {
      setting = h.after.setting ∙ is.setting;
      polls = h.after.polls ∙ (λ k. polls_after (is.setting k) e answer (is.polls k));
      windows = λ i. h.after.windows i
          ∙ (λ k. kept_by (is.setting k).watch i (set.union (is.windows i k) (set_of i (added_as k))))
          ∙ kept_union watch i (p.taken i) (set_of i more);
    }

module _ (read_back : (watch : Watch) (board again : Board) (incarnation read : ℕ) → ((i : ℕ) → IsWhole board.watch (window_of board) i)
    → instances_of watch.instances ≡ instances_of board.watch.instances
    → SpellsImage (written_image board incarnation) (instances_of board.watch.instances) (image_of board incarnation)
    → IsRestored watch (written_image board incarnation) again read
    → (read ≡ incarnation) × ((i : ℕ) → window_of again i ≡ kept_by watch i (window_of board i)))
    (one_image : (octets : List ℕ) (w : Setting) (a b : Image) → SpellsImage octets (instances_of w.watch.instances) a → SpellsImage octets (instances_of w.watch.instances) b → a ≡ b) where
  -- windows that were read back, under the sizes of their save or under others
  from_window : (watch : Watch) (t : SavedTaken) (i : ℕ) (test : Bool) → has_sizes watch t.watch i ≡ test
      → kept_by watch i (kept_by t.watch i (t.taken i)) ≡ kept_by watch i (if test then t.taken i else kept_by t.watch i (t.taken i))
  from_window watch t i false is = refl
  from_window watch t i true is =
      let sizes = both (size_of watch i == size_of t.watch i) (epoch_of watch i == epoch_of t.watch i) is in
      let n : size_of watch i ≡ size_of t.watch i = eqb-true _ _ sizes.0 in
      let m : epoch_of watch i ≡ epoch_of t.watch i = eqb-true _ _ sizes.1 in
      (λ k. kept_by watch i (keep boots_of (sym n k) (sym m k) (t.taken i))) ∙ kept_twice watch i (t.taken i)

  reopened : (w : Setting) (old new : State) (t : SavedTaken) → IsAsSaved old t → IsReopened w old new → (i : ℕ) → window_of new.board i ≡ kept_by w.watch i (from_save w.watch (Some t) i)
  reopened w old new t is r i =
      let restored = r.begun.restored in
      let whole : (j : ℕ) → IsWhole old.board.watch (window_of old.board) j =
      λ j. (λ k. kept_by (is.watch k) j (is.windows j k)) ∙ kept_twice t.watch j (t.taken j) ∙ sym (is.windows j) in
      let back = read_back w.watch old.board new.board old.incarnation restored.0 whole r.instances r.spells restored.1 in
      back.1 i ∙ ap (kept_by w.watch i) (is.windows i) ∙ from_window w.watch t i (has_sizes w.watch t.watch i) refl

  found_as : (w : Setting) (later : ℕ) (states : List State) (saves : List SavedTaken) (new : State) → AreAsSaved states saves → Reopens w (at_place later states) new
      → (i : ℕ) → window_of new.board i ≡ kept_by w.watch i (from_save w.watch (at_place later saves) i)
  found_as w zero [] saves new are r = absurd r
  found_as w (suc later) [] saves new are r = absurd r
  found_as w zero (s ∷ states) [] new are r = absurd are
  found_as w (suc later) (s ∷ states) [] new are r = absurd are
  found_as w zero (s ∷ states) (t ∷ saves) new are r = reopened w s new t are.0 r
  found_as w (suc later) (s ∷ states) (t ∷ saves) new are r = found_as w later states saves new are.1 r

  nothing_begun : (watch : Watch) (i : ℕ) (a : Samples) → a ≡ set.empty → a ≡ kept_by watch i set.empty
  nothing_begun watch i a is = is ∙ sym (kept_none watch i)

  began : (w : Setting) (states : List State) (saves : List SavedTaken) (origin : Origin) (s : State) → AreAsSaved states saves → BeginsFrom states origin w s
      → (i : ℕ) → window_of s.board i ≡ kept_by w.watch i (begun_with w.watch saves origin i)
  began w states saves Nothing s are h i = nothing_begun w.watch i _ (h.restored.0 i)
  began w states saves (Saved later) s are h i = found_as w later states saves s are h i
  began w states saves (Other image) s are h i =
      let r = h.2.restored.1 in
      r.windows i ∙ ap (λ (m : Image). kept_by w.watch i (set_of i (saved_pairs m))) (one_image h.0 w r.image image r.spelled h.1)

  -- ---- a whole history
  begun_so : (origin : Origin) (states : List State) (w : Setting) (s : State) → BeginsFrom states origin w s → (setting_of s ≡ w) × (s.poller.polls ≡ no_polls)
  begun_so Nothing states w s h = (h.setting, h.polls)
  begun_so (Saved later) states w s h = at (at_place later states) h
    where
      at : (old : Option State) → Reopens w old s → (setting_of s ≡ w) × (s.poller.polls ≡ no_polls)
      at None r = absurd r
      at (Some old) r = (r.begun.setting, r.begun.polls)
  begun_so (Other image) states w s h = (h.2.setting, h.2.polls)

  next : (e : ReadEvent) (answer : Option StationFault) (old : Option State) (new : State) (p : Past) → IsAsIn old p → HandledIn old e answer new → IsAsTaken new (past_after (Answered e answer) p)
  next e answer None new p is h = absurd h
  next e answer (Some old) new p is h = handled e answer old new p is h

  save_more : (old : Option State) (e : ReadEvent) (answer : Option StationFault) (new : State) (p : Past) (states : List State) → IsAsIn old p → HandledIn old e answer new → AreAsSaved states p.saves
      → AreAsSaved (in_front old states) (record { watch = p.setting.watch; taken = p.taken } ∷ p.saves)
  save_more None e answer new p states is h are = absurd h
  save_more (Some old) e answer new p states is h are = (as_saved old p is, are)

  pub taken_as : (history : List (Entry × State)) → IsLived history → IsAsIn (last_state history) (past_of (entries_of history)) × AreAsSaved (saved_states history) (past_of (entries_of history)).saves
  taken_as [] h = (tt, tt)
  taken_as ((Restart origin w, s) ∷ past) h =
      let before = taken_as past h.1 in
      let so = begun_so origin (saved_states past) w s h.0 in
      let is : IsAsTaken s (past_after (Restart origin w) (past_of (entries_of past))) = record {
        setting = so.0;
        polls = so.1;
        windows = began w (saved_states past) (past_of (entries_of past)).saves origin s before.1 h.0;
      } in
      (is, (as_saved s _ is, before.1))
  taken_as ((Answered Save answer, s) ∷ past) h =
      let before = taken_as past h.1 in (
        next Save answer (last_state past) s _ before.0 h.0,
        save_more (last_state past) Save answer s (past_of (entries_of past)) (saved_states past) before.0 h.0 before.1,
      )
  taken_as ((Answered e answer, s) ∷ past) h = let before = taken_as past h.1 in (next e answer (last_state past) s _ before.0 h.0, before.1)

  pub windows_taken : WindowsAreOfTaken
  windows_taken history s lived is i =
      let as_is : IsAsTaken s (past_of (entries_of history)) = subst (λ (o : Option State). IsAsIn o (past_of (entries_of history))) is (taken_as history lived).0 in
      as_is.windows i ∙ (λ k. kept_by (sym as_is.setting k).watch i (taken (entries_of history) i))

  pub equal_windows : EqualWindows
  equal_windows some others s t took i =
      windows_taken some s took.lived.0 took.state i ∙ (λ k. kept_by (took.watch k) i (took.same i k)) ∙ sym (windows_taken others t took.lived.1 took.state_too i)
