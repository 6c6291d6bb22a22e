-- What each life of a station begins with.
use Rattle.std.proofs.Common.{ℕ, zero, suc, ◌≡◌, ◌+◌, ◌∙◌, List, [], ◌∷◌, Option, Some, None, refl, sym, ap, subst}
use Rattle.mon_window.specs.Window.{Samples}
use Rattle.mon_board.specs.Board.{Board, window_of}
use Rattle.mon_board.specs.Instance.{instances_of}
use Rattle.mon_board.specs.declared.instance.Instance.{Instance}
use Rattle.mon_board.specs.Watch.{Watch}
use Rattle.mon_board.specs.Windows.{IsWhole, kept_by}
use Rattle.mon_board.proofs.Promised.{kept_twice}
use Rattle.mon_saved.specs.declared.image.Image.{Image}
use Rattle.mon_saved.specs.Image.{SpellsImage}
use Rattle.mon_saved.specs.Restored.{IsRestored}
use Rattle.mon_saved.specs.Written.{image_of, written_image}
use Rattle.mon_station.specs.Alike.{WindowsAreOfTaken}
use Rattle.mon_station.specs.Lived.{BeginsFrom, IsLived, IsReopened, Reopens, entries_of, in_front, last_state, saved_states}
use Rattle.mon_station.specs.declared.event.Event.TheVariants.{Save}
use Rattle.mon_station.specs.Saved.{saved_octets}
use Rattle.mon_station.specs.State.{State}
use Rattle.mon_station.specs.Taken.{Entry, Restart, Answered, Origin, Nothing, Saved, Other, at_place, taken}
use Rattle.mon_station.specs.Verdict.{Setting}
use Rattle.mon_world.specs.Begun.{AreBegun, GoesOn, IsBegunAfter}
use Rattle.mon_world.specs.Moves.{AreLives, MayBegin}
use Rattle.mon_world.proofs.Lives.{next_life, not_some, setting_is}

-- what is kept of a set is kept of it again
kept_whole : (watch : Watch) (i : ℕ) (window a : Samples) → window ≡ kept_by watch i a → kept_by watch i window ≡ window
kept_whole watch i window a is = ap (kept_by watch i) is ∙ kept_twice watch i a ∙ sym is

-- a state of this watch whose windows hold no more than it keeps
record IsSound (watch : Watch) (s : State) : Type 0 where
  pub whole : (i : ℕ) → IsWhole s.board.watch (window_of s.board) i
  pub same : s.board.watch ≡ watch

module _ (one_image : (octets : List ℕ) (instances : List Instance) (a b : Image) → SpellsImage octets instances a → SpellsImage octets instances b → a ≡ b)
    (read_back : (board again : Board) (incarnation read : ℕ) → ((i : ℕ) → IsWhole board.watch (window_of board) i)
    → SpellsImage (written_image board incarnation) (instances_of board.watch.instances) (image_of board incarnation)
    → IsRestored board.watch (written_image board incarnation) again read → (read ≡ incarnation) × ((i : ℕ) → window_of again i ≡ window_of board i))
    (are_taken : WindowsAreOfTaken)
    (w : Setting) where
  last_sound : (h : List (Entry × State)) → IsLived h → AreLives w h → (s : State) → last_state h ≡ Some s → IsSound w.watch s
  last_sound h lived are s is = record {
    whole = λ i. kept_whole s.board.watch i (window_of s.board i) (taken (entries_of h) i) (are_taken h s lived is i);
    same = ap (λ (v : Setting). v.watch) (setting_is w h lived are s is);
  }

  front_sound : (old : Option State) (saved : List State) → ((s : State) → old ≡ Some s → IsSound w.watch s) → ((n : ℕ) (s : State) → at_place n saved ≡ Some s → IsSound w.watch s) → (n : ℕ) (s : State) → at_place n (in_front old saved) ≡ Some s
      → IsSound w.watch s
  front_sound None saved first others n s is = others n s is
  front_sound (Some o) saved first others zero s is = first s is
  front_sound (Some o) saved first others (suc n) s is = others n s is

  -- every state that was saved is sound
  saved_sound : (h : List (Entry × State)) → IsLived h → AreLives w h → (n : ℕ) (s : State) → at_place n (saved_states h) ≡ Some s → IsSound w.watch s
  saved_sound [] lived are n s is = absurd (not_some is)
  saved_sound ((Restart origin v, t) ∷ past) lived are zero s is = last_sound ((Restart origin v, t) ∷ past) lived are s is
  saved_sound ((Restart origin v, t) ∷ past) lived are (suc n) s is = saved_sound past lived.1 are.2 n s is
  saved_sound ((Answered Save answer, t) ∷ past) lived are n s is = front_sound (last_state past) (saved_states past) (last_sound past lived.1 are.1) (saved_sound past lived.1 are.1) n s is
  saved_sound ((Answered e answer, t) ∷ past) lived are n s is = saved_sound past lived.1 are.1 n s is

  -- a life that begins from the image of a sound state has its windows and the next incarnation
  reopened : (old s : State) → IsSound w.watch old → IsReopened w old s → ((i : ℕ) → window_of s.board i ≡ window_of old.board i) × (s.incarnation ≡ old.incarnation + 1)
  reopened old s sound r =
      let restored = r.begun.restored in
      let back = read_back old.board s.board old.incarnation restored.0 sound.whole r.spells (subst (λ v. IsRestored v (saved_octets old) s.board restored.0) (sym sound.same) restored.1) in
      (back.1, restored.2 ∙ ap (λ n. n + 1) back.0)

  goes_on : (x : Entry × State) (past : List (Entry × State)) → IsLived (x ∷ past) → AreLives w (x ∷ past) → (origin : Origin) (s : State) → MayBegin (x ∷ past) origin → BeginsFrom (saved_states (x ∷ past)) origin w s → GoesOn (x ∷ past) s
  goes_on x past lived are Nothing s may begins = absurd may
  goes_on x past lived are (Other image) s may begins = absurd may
  goes_on x past lived are (Saved later) s may begins = at (at_place later (saved_states (x ∷ past))) refl begins
    where
      at : (old : Option State) → at_place later (saved_states (x ∷ past)) ≡ old → Reopens w old s → GoesOn (x ∷ past) s
      at None is r = absurd r
      at (Some old) is r =
          let back = reopened old s (saved_sound (x ∷ past) lived are later old is) r in
          record {
            later = later;
            save = old;
            may = may;
            there = is;
            windows = back.0;
            incarnation = back.1;
            next = λ last here. next_life one_image (x ∷ past) lived last here (Saved later) w s may begins;
          }

  begun_after : (past : List (Entry × State)) → IsLived past → AreLives w past → (origin : Origin) (s : State) → MayBegin past origin → BeginsFrom (saved_states past) origin w s → IsBegunAfter past s
  begun_after [] lived are Nothing s may begins = begins.restored
  begun_after [] lived are (Saved later) s may begins = absurd may
  begun_after [] lived are (Other image) s may begins = absurd may
  begun_after (x ∷ past) lived are origin s may begins = goes_on x past lived are origin s may begins

  pub are_begun : (h : List (Entry × State)) → IsLived h → AreLives w h → AreBegun h
  are_begun [] lived are = tt
  are_begun ((Restart origin v, s) ∷ past) lived are = (begun_after past lived.1 are.2 origin s are.1 (subst (λ (u : Setting). BeginsFrom (saved_states past) origin u s) are.0 lived.0), are_begun past lived.1 are.2)
  are_begun ((Answered e answer, s) ∷ past) lived are = are_begun past lived.1 are.1
