-- Stopped at any time, over all lives of a station.
use Rattle.std.proofs.Common.{ℕ, ◌≡◌, ◌≤◌, ◌<◌, ◌+◌, ◌++◌, ◌⊎◌, inl, inr, ⊎_elim, true, List, [], ◌∷◌, length, take, drop, Option, Some, None, refl, sym, ap, subst, ◌∙◌, arith}
use Rattle.std.specs.Int.{w16, w32, to_be_bytes, from_be_bytes}
use Rattle.std.specs.List.{AllByRecursion}
use Rattle.std.proofs.lemmas.List.{take_at}
use Rattle.std.proofs.lemmas.Nat.{from_be_bytes-to_be_bytes_4}
use Rattle.mon_window.specs.Window.{Samples}
use Rattle.std.specs.FinSet as set
use Rattle.mon_board.specs.declared.instance.Instance.{Instance}
use Rattle.mon_board.specs.Board.{Board, window_of}
use Rattle.mon_board.specs.Instance.{instances_of}
use Rattle.mon_board.specs.Watch.{Watch}
use Rattle.mon_board.specs.Windows.{IsWhole, set_of, kept_by}
use Rattle.mon_board.proofs.Promised.{kept_none, kept_twice}
use Rattle.mon_disk.specs.Disk.{Leaves}
use Rattle.mon_disk.specs.declared.disk.Disk.{Ghosts}
use Rattle.mon_disk.specs.Keeper.{FindsAs, IsAs, found_body, is_undamaged}
use Rattle.mon_disk.proofs.Promised.{as_body_of, at_end}
use Rattle.mon_saved.specs.declared.image.Image.{Image}
use Rattle.mon_saved.specs.Image.{ImageVersion, SpellsImage, before_count, entries_octets, image_octets}
use Rattle.mon_saved.specs.Restored.{IsRestored, saved_pairs}
use Rattle.mon_saved.specs.Written.{image_of, written_image}
use Rattle.mon_station.specs.declared.fault.StationFault.{StationFault}
use Rattle.mon_station.specs.ReadEvent.{ReadEvent, Save}
use Rattle.mon_station.specs.Saved.{FindsBegun, FindsOpening, FindsState, IsBegun, saved_octets}
use Rattle.mon_station.specs.State.{State, IsHandled, setting_of}
use Rattle.mon_station.specs.Stops.{FindsOneOf, FindsRunningIn, FindsSave, FoundAfter, GoesOn, Happening, Happens, IsHistory, IsRaised, IsRunning, MayFind, Opened, Unopened, Handled, Moved, RunningLife, StoppedOpening, Stopped, begun_in, last_disk, life_after, running}
use Rattle.mon_station.specs.Verdict.{Setting, added}

-- ---- the incarnation of an image is in its octets, whatever the instances are
incarnation_octets : (v : ImageVersion) (instances : List Instance) (image : Image) → take 4 (drop 3 (image_octets v instances image)) ≡ to_be_bytes w32 image.incarnation
unfolding image_octets
incarnation_octets v instances image = take_at (to_be_bytes w32 image.incarnation) (before_count v ++ (to_be_bytes w16 (length instances) ++ entries_octets v instances image.entries)) 4 refl

one_incarnation : (octets : List ℕ) (some others : List Instance) (a b : Image) → SpellsImage octets some a → SpellsImage octets others b → a.incarnation ≡ b.incarnation
one_incarnation octets some others a b one two =
    sym (from_be_bytes-to_be_bytes_4 a.incarnation one.valid.fits)
    ∙ ap (from_be_bytes w32)
    (sym (incarnation_octets one.version some a) ∙ ap (λ l. take 4 (drop 3 l)) (sym one.spelled ∙ two.spelled) ∙ incarnation_octets two.version others b)
    ∙ from_be_bytes-to_be_bytes_4 b.incarnation two.valid.fits

-- ---- windows hold no more than their watch keeps
abbrev AreWhole : State → Type 0
AreWhole s = (i : ℕ) → IsWhole s.board.watch (window_of s.board) i

kept_whole : (watch : Watch) (board : Board) (i : ℕ) (a : Samples) → board.watch ≡ watch → window_of board i ≡ kept_by watch i a → IsWhole board.watch (window_of board) i
kept_whole watch board i a same is = (λ k. kept_by (same k) i (is k)) ∙ kept_twice watch i a ∙ sym is

begun_whole : (w : Setting) (body : Option (List ℕ)) (s : State) → IsBegun w body s → AreWhole s
begun_whole w None s begun i =
    kept_whole w.watch s.board i set.empty (ap (λ (v : Setting). v.watch) begun.setting) (begun.restored.0 i ∙ sym (kept_none w.watch i))
begun_whole w (Some octets) s begun i =
    kept_whole w.watch s.board i (set_of i (saved_pairs begun.restored.1.image)) (ap (λ (v : Setting). v.watch) begun.setting) (begun.restored.1.windows i)

handled_whole : (e : ReadEvent) (answer : Option StationFault) (old new : State) → IsHandled e answer old new → AreWhole new
handled_whole e answer old new h i =
    kept_whole old.board.watch new.board i (set.union (window_of old.board i) (set_of i (added (setting_of old) old.poller.polls e answer))) (ap (λ (v : Setting). v.watch) h.after.setting) (h.after.windows i)

-- ---- incarnations
-- what is known of a save that may be found after lives with these beginnings: it is as late as
-- each of them
abbrev IsAsLate : List State → State → Type 0
IsAsLate lives s = AreWhole s × AllByRecursion (λ (life : State). life.incarnation ≤ s.incarnation) lives

abbrev Bounds : List State → Option State → Type 0
Bounds lives None = lives ≡ []
Bounds lives (Some s) = IsAsLate lives s

-- what is known of it and of the life that is running, if one is
abbrev RunsLate : List State → Option RunningLife → Type 0
RunsLate lives None = Unit {0}
RunsLate lives (Some life) = IsAsLate lives life.now

-- its state that was saved last is among what may be found
abbrev IsSavedIn : (Option State → Type 0) → Option RunningLife → Type 0
IsSavedIn May None = Unit {0}
IsSavedIn May (Some life) = May (Some life.saved)

all_earlier : (lives : List State) (n m : ℕ) → m ≡ n + 1 → AllByRecursion (λ (life : State). life.incarnation ≤ n) lives → AllByRecursion (λ (life : State). life.incarnation < m) lives
all_earlier [] n m is h = tt
all_earlier (life ∷ lives) n m is h = (omega (arith, is, h.0), all_earlier lives n m is h.1)

all_late : (lives : List State) (m : ℕ) → AllByRecursion (λ (life : State). life.incarnation < m) lives → AllByRecursion (λ (life : State). life.incarnation ≤ m) lives
all_late [] m h = tt
all_late (life ∷ lives) m h = (omega (arith, h.0), all_late lives m h.1)

all_same : (lives : List State) (n m : ℕ) → m ≡ n → AllByRecursion (λ (life : State). life.incarnation ≤ n) lives → AllByRecursion (λ (life : State). life.incarnation ≤ m) lives
all_same lives n m is h = subst (λ k. AllByRecursion (λ (life : State). life.incarnation ≤ k) lives) (sym is) h

-- ---- what is found
as_save : (save : Option State) (file old : List ℕ) → IsAs file old → FindsSave save old → FindsSave save file
as_save None file old same finds = as_body_of None file old same finds
as_save (Some s) file old same finds = record { body = as_body_of (Some (saved_octets s)) file old same finds.body; spells = finds.spells }

save_undamaged : (save : Option State) (file : List ℕ) → FindsSave save file → is_undamaged file ≡ true
save_undamaged None file finds = finds.undamaged
save_undamaged (Some s) file finds = finds.body.undamaged

pub one_undamaged : (May : Option State → Type 0) (file : List ℕ) → FindsOneOf May file → is_undamaged file ≡ true
one_undamaged May file finds = save_undamaged finds.0 file finds.2

as_one_of : (May : Option State → Type 0) (outcomes : List ℕ → Type 0) → Leaves outcomes (FindsOneOf May) → (file : List ℕ) → FindsAs outcomes file → FindsOneOf May file
as_one_of May outcomes has file finds = let one = has finds.0 finds.1 in (one.0, one.1, as_save one.0 file finds.0 finds.2 one.2)

either_of : (May More : Option State → Type 0) (file : List ℕ) → FindsOneOf May file → FindsOneOf (λ save. May save ⊎ More save) file
either_of May More file finds = (finds.0, inl finds.1, finds.2)

raised_of : (May : Option State → Type 0) (w : Setting) (here file : List ℕ) → FindsBegun w (found_body here) file → FindsOneOf (λ save. May save ⊎ IsRaised w here save) file
raised_of May w here file finds = (Some finds.0, inr (finds.0, refl, finds.1), finds.2)

-- what an opening, or a stop within one, leaves
begun_either : (May : Option State → Type 0) (outcomes : List ℕ → Type 0) (w : Setting) (here : List ℕ) → Leaves outcomes (FindsOneOf May) → (file : List ℕ) → FindsOpening w here outcomes file
    → FindsOneOf (λ save. May save ⊎ IsRaised w here save) file
begun_either May outcomes w here has file finds =
    ⊎_elim (λ old. either_of May (IsRaised w here) file (as_one_of May outcomes has file old)) (λ new. raised_of May w here file new) finds

-- what a save that failed, or a stop within one, leaves
running_either : (May : Option State → Type 0) (outcomes : List ℕ → Type 0) (life : Option RunningLife) → IsSavedIn May life → Leaves outcomes (FindsOneOf May) → (file : List ℕ) → FindsRunningIn outcomes life file
    → FindsOneOf (λ save. May save ⊎ IsRunning life save) file
running_either May outcomes None may has file finds = either_of May (IsRunning None) file (as_one_of May outcomes has file finds)
running_either May outcomes (Some l) may has file finds = ⊎_elim
    (λ old. either_of May (IsRunning (Some l)) file (as_one_of May (λ c. outcomes c ⊎ FindsState l.saved c) saved_too file old))
    (λ new. (Some l.now, inr refl, new))
    finds
  where
    saved_too : Leaves (λ c. outcomes c ⊎ FindsState l.saved c) (FindsOneOf May)
    saved_too c either = ⊎_elim (λ left. has c left) (λ saved. (Some l.saved, may, saved)) either

saved_next : (h : Happening) (life : Option RunningLife) (file : List ℕ) (May : Option State → Type 0) → IsSavedIn May life → IsSavedIn (FoundAfter h life file May) (life_after h life)
saved_next (Opened w s) life file May may = refl
saved_next (Handled Save None s) (Some l) file May may = refl
saved_next (Handled Save (Some f) s) (Some l) file May may = inl may
saved_next (Handled e answer s) (Some l) file May may = may
saved_next Moved (Some l) file May may = refl
saved_next h life file May may = tt

module _ (read_back : (watch : Watch) (board again : Board) (incarnation read : ℕ) → ((i : ℕ) → IsWhole board.watch (window_of board) i)
    → instances_of watch.instances ≡ instances_of board.watch.instances
    → SpellsImage (written_image board incarnation) (instances_of board.watch.instances) (image_of board incarnation)
    → IsRestored watch (written_image board incarnation) again read
    → (read ≡ incarnation) × ((i : ℕ) → window_of again i ≡ kept_by watch i (window_of board i))) where
  -- a life that begins from a save that is found goes on from it
  goes_on : (lives : List State) (w : Setting) (save : Option State) (s : State) (file : List ℕ) → Bounds lives save → FindsSave save file → IsBegun w (found_body file) s → GoesOn w save s
  goes_on lives w None s file bound finds begun = (subst (λ (b : Option (List ℕ)). IsBegun w b s) finds.body_is begun).restored
  goes_on lives w (Some old) s file bound finds begun =
      let restored = (subst (λ (b : Option (List ℕ)). IsBegun w b s) finds.body.body_is begun).restored in
      let r = restored.1 in (
        restored.2 ∙ ap (λ n. n + 1) (r.incarnation_is ∙ one_incarnation (saved_octets old) (instances_of w.watch.instances) (instances_of old.board.watch.instances) r.image (image_of old.board old.incarnation) r.spelled finds.spells),
        λ same. (read_back w.watch old.board s.board old.incarnation restored.0 bound.0 same finds.spells r).1,
      )

  -- and is later than each earlier life's beginning
  pub goes_later : (lives : List State) (w : Setting) (save : Option State) (s : State) → Bounds lives save → GoesOn w save s → AllByRecursion (λ (life : State). life.incarnation < s.incarnation) lives
  goes_later lives w None s bound on = subst (λ (l : List State). AllByRecursion (λ (life : State). life.incarnation < s.incarnation) l) (sym bound) tt
  goes_later lives w (Some old) s bound on = all_earlier lives old.incarnation s.incarnation on.0 bound.1

  module _ {D : Type 0} (G : Ghosts D) (counts : (disk : D) (t : ℕ) (c : List ℕ) → G.is_honest disk → t ≤ G.moment disk → G.may_leave disk c → G.left_since disk t c)
      (seen_now : (disk : D) → G.is_honest disk → G.may_leave disk (G.seen disk)) (first : D) where
    -- what holds after a history
    pub record IsSound (history : List (Happening × D)) : Type 0 where
      pub honest_now : G.is_honest (last_disk first history)
      pub left : Leaves (G.may_leave (last_disk first history)) (FindsOneOf (MayFind G first history))
      pub bound : (save : Option State) → MayFind G first history save → Bounds (begun_in history) save
      pub runs : RunsLate (begun_in history) (running history)
      pub saved : IsSavedIn (MayFind G first history) (running history)

    -- what an opening finds that comes next
    pub finds_next : (past : List (Happening × D)) → IsSound past → FindsOneOf (MayFind G first past) (G.seen (last_disk first past))
    finds_next past sound = sound.left (G.seen (last_disk first past)) (seen_now (last_disk first past) sound.honest_now)

    pub next_on : (past : List (Happening × D)) (w : Setting) (s : State) (sound : IsSound past) → IsBegun w (found_body (G.seen (last_disk first past))) s → GoesOn w (finds_next past sound).0 s
    next_on past w s sound begun =
        let one = finds_next past sound in
        goes_on (begun_in past) w one.0 s (G.seen (last_disk first past)) (sound.bound one.0 one.1) one.2 begun

    pub next_later : (past : List (Happening × D)) (w : Setting) (s : State) (sound : IsSound past) → IsBegun w (found_body (G.seen (last_disk first past))) s
        → AllByRecursion (λ (life : State). life.incarnation < s.incarnation) (begun_in past)
    next_later past w s sound begun =
        let one = finds_next past sound in
        goes_later (begun_in past) w one.0 s (sound.bound one.0 one.1) (next_on past w s sound begun)

    -- a save that an opening of this file has raised
    raised_bound : (past : List (Happening × D)) (w : Setting) → IsSound past → (save : Option State) → MayFind G first past save ⊎ IsRaised w (G.seen (last_disk first past)) save → Bounds (begun_in past) save
    raised_bound past w sound save may = ⊎_elim
        (λ old. sound.bound save old)
        (λ (raised : IsRaised w (G.seen (last_disk first past)) save).
        subst (Bounds (begun_in past)) (sym raised.1)
        (begun_whole w _ raised.0 raised.2, all_late (begun_in past) raised.0.incarnation (next_later past w raised.0 sound raised.2)))
        may

    -- the life that is running
    running_bound : (lives : List State) (life : Option RunningLife) → RunsLate lives life → (save : Option State) → IsRunning life save → Bounds lives save
    running_bound lives None late save is = absurd is
    running_bound lives (Some l) late save is = subst (Bounds lives) (sym is) late

    -- ---- one happening more
    left_next : (May : Option State → Type 0) (h : Happening) (life : Option RunningLife) (old new : D) → G.is_honest new → IsSavedIn May life → Leaves (G.may_leave old) (FindsOneOf May) → Happens G h life old new
        → Leaves (G.may_leave new) (FindsOneOf (FoundAfter h life (G.seen old) May))
    left_next May (Opened w s) life old new honest may has is = λ file left. (Some s, refl, is.kept file left)
    left_next May (Unopened w) life old new honest may has is = λ file left. begun_either May (G.may_leave old) w (G.seen old) has file
        (at_end G.moment G.left_since G.may_leave old new (FindsOpening w (G.seen old) (G.may_leave old)) (λ t c. counts new t c honest) is.any_moment file left)
    left_next May (Handled Save None s) (Some l) old new honest may has is = λ file left. (Some l.now, refl, is.1 file left)
    left_next May (Handled Save (Some f) s) (Some l) old new honest may has is = λ file left. running_either May (G.may_leave old) (Some l) may has file
        (at_end G.moment G.left_since G.may_leave old new (FindsRunningIn (G.may_leave old) (Some l)) (λ t c. counts new t c honest) is.1 file left)
    left_next May (Handled e answer s) (Some l) old new honest may has is = subst (λ disk. Leaves (G.may_leave disk) (FindsOneOf May)) (sym is.1) has
    left_next May Moved (Some l) old new honest may has is = λ file left. (Some l.now, refl, is file left)
    left_next May (StoppedOpening w) life old new honest may has is = λ file left. subst (FindsOneOf (FoundAfter (StoppedOpening w) life (G.seen old) May)) (sym (is.only file left))
        (begun_either May (G.may_leave old) w (G.seen old) has is.file (is.any_moment.each is.file is.left))
    left_next May Stopped life old new honest may has is = λ file left. subst (FindsOneOf (FoundAfter Stopped life (G.seen old) May)) (sym (is.only file left))
        (running_either May (G.may_leave old) life may has is.file (is.any_moment.each is.file is.left))
    left_next May h life old new honest may has is = absurd is

    runs_next : (past : List (Happening × D)) (h : Happening) (life : Option RunningLife) (old new : D) → RunsLate (begun_in past) life
        → ((w : Setting) (s : State) → IsBegun w (found_body (G.seen old)) s → AllByRecursion (λ (life : State). life.incarnation < s.incarnation) (begun_in past))
        → Happens G h life old new → RunsLate (begun_in ((h, new) ∷ past)) (life_after h life)
    runs_next past (Opened w s) life old new late later is = (begun_whole w _ s is.begun, (omega arith, all_late (begun_in past) s.incarnation (later w s is.begun)))
    runs_next past (Handled e answer s) (Some l) old new late later is = (handled_whole e answer l.now s is.0, all_same (begun_in past) l.now.incarnation s.incarnation is.0.after.incarnation late.1)
    runs_next past Moved (Some l) old new late later is = late
    runs_next past h life old new late later is = tt

    bound_next : (past : List (Happening × D)) (h : Happening) (life : Option RunningLife) (new : D) → IsSound past → RunsLate (begun_in past) life → RunsLate (begun_in ((h, new) ∷ past)) (life_after h life)
        → (save : Option State) → FoundAfter h life (G.seen (last_disk first past)) (MayFind G first past) save → Bounds (begun_in ((h, new) ∷ past)) save
    bound_next past (Opened w s) life new sound late now save is = subst (Bounds (s ∷ begun_in past)) (sym is) now
    bound_next past (Handled Save None s) life new sound late now save is = running_bound (begun_in past) life late save is
    bound_next past (Handled Save (Some f) s) life new sound late now save is = ⊎_elim (λ old. sound.bound save old) (λ here. running_bound (begun_in past) life late save here) is
    bound_next past (Handled e answer s) life new sound late now save is = sound.bound save is
    bound_next past Moved life new sound late now save is = running_bound (begun_in past) life late save is
    bound_next past Stopped life new sound late now save is = ⊎_elim (λ old. sound.bound save old) (λ here. running_bound (begun_in past) life late save here) is
    bound_next past (Unopened w) life new sound late now save is = raised_bound past w sound save is
    bound_next past (StoppedOpening w) life new sound late now save is = raised_bound past w sound save is

    pub sound_after : (history : List (Happening × D)) → IsHistory G first history → IsSound history
    sound_after [] is = record {
      honest_now = is.0;
      left = λ file left. (None, refl, is.1 file left);
      bound = λ save none. subst (Bounds []) (sym none) refl;
      runs = tt;
      saved = tt;
    }
    sound_after ((h, new) ∷ past) is =
        let sound = sound_after past is.2 in
        let old = last_disk first past in
        let runs = runs_next past h (running past) old new sound.runs (λ w s begun. next_later past w s sound begun) is.1 in
        record {
          honest_now = is.0;
          left = left_next (MayFind G first past) h (running past) old new is.0 sound.saved sound.left is.1;
          bound = bound_next past h (running past) new sound sound.runs runs;
          runs = runs;
          saved = saved_next h (running past) (G.seen old) (MayFind G first past) sound.saved;
        }
