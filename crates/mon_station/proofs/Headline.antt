-- What is refused leaves as it was, and how a lived history goes on.
use Rattle.std.proofs.Common.{ℕ, ◌≡◌, inl, inr, ⊎_elim, true, Bool, List, ◌∷◌, Option, Some, None, Result, Ok, Err, IfOk, IfErr, refl, sym, ap, subst, ◌∙◌}
use Rattle.std.specs.Prelude.{◌&&◌}
use Rattle.std.specs.FinSet as set
use Rattle.mon_board.specs.Board.{is_marked, window_of}
use Rattle.mon_board.specs.Instance.{instances_of}
use Rattle.mon_board.specs.Watch.{Watch, epoch_of, size_of}
use Rattle.mon_board.specs.Windows.{kept_by}
use Rattle.mon_disk.specs.Disk.{Leaves, LeavesSince}
use Rattle.mon_disk.specs.Keeper.{FindsBody}
use Rattle.mon_disk.specs.declared.disk.Disk.{Ghosts}
use Rattle.mon_saved.specs.Image.{SpellsImage}
use Rattle.mon_saved.specs.Written.{image_of}
use Rattle.mon_station.specs.declared.event.Told.{Told}
use Rattle.mon_station.specs.declared.fault.StationFault.{StationFault}
use Rattle.mon_station.specs.declared.fault.StationFault.TheVariants as fault
use Rattle.mon_exchange.specs.declared.fault.ExchangeFault.{ExchangeFault}
use Rattle.mon_station.specs.Alike.{WindowsAreOfTaken}
use Rattle.mon_station.specs.Lived.{HandledIn, IsImageOf, IsLeftAlone, IsLived, IsOrigin, Reopens, answer_in, entries_of, last_state, saved_states}
use Rattle.mon_station.specs.ReadEvent.{ReadEvent, StartPoll, Timeout, FromAgent, FromPeer, Share, Save, Said, ReadsAs, OwnedEvent}
use Rattle.mon_station.specs.Saved.{FindsRunning, FindsState, IsBegun, IsOfKeeper, IsSavedAs, OrLast}
use Rattle.mon_station.specs.State.{State, IsHandled, known_of, marks_after, setting_of}
use Rattle.mon_station.specs.Stops.{FindsRunningIn, IsDiskAfter, RunningLife}
use Rattle.mon_station.specs.Taken.{Answered, Entry, Nothing, Origin, Other, Restart, Saved, at_place, taken}
use Rattle.mon_station.specs.Told.{IsAnswered}
use Rattle.mon_station.specs.Verdict.{IsSave, Setting}
use Rattle.mon_sample.specs.Key.{boots_of}
use Rattle.mon_window.specs.Keep.{keep}
use Rattle.mon_window.specs.Top.{top}
use Rattle.mon_window.specs.Window.{In, Samples}
use Rattle.mon_window.proofs.Promised.{union_none}
use Rattle.mon_board.proofs.Promised.{kept_twice}
use Rattle.mon_station.proofs.Quiet.{quiet_fault}

-- ---- an epoch of the window's size
pub newest_kept : ((boots : ℕ → ℕ) (n : ℕ) (a : Samples) → keep boots n n a ≡ top n a) → (s : State) (i : ℕ) (a : Samples) → epoch_of s.board.watch i ≡ size_of s.board.watch i
    → window_of s.board i ≡ kept_by s.board.watch i a → window_of s.board i ≡ top (size_of s.board.watch i) a
newest_kept whole s i a same kept = let n = size_of s.board.watch i in kept ∙ subst (λ (m : ℕ). keep boots_of n m a ≡ top n a) (sym same) (whole boots_of n a)

-- ---- a refusal
-- windows that are what is kept of something keep all of it
module _ (windows : WindowsAreOfTaken) where
  same_windows : (past : List (Entry × State)) (old new : State) (e : ReadEvent) (f : StationFault) → IsLived past → last_state past ≡ Some old → IsHandled e (Some f) old new
      → (i : ℕ) → window_of new.board i ≡ window_of old.board i
  same_windows past old new e f lived is h i =
      let watch = old.board.watch in
      let kept = windows past old lived is i in
      h.after.windows i ∙ ap (kept_by watch i) (union_none (window_of old.board i)) ∙ ap (kept_by watch i) kept ∙ kept_twice watch i _ ∙ sym kept

  -- a mark on what is in a window that stays
  and_true : (m a b : Bool) → a ≡ true → b ≡ true → ((m && a) && b) ≡ m
  and_true Bool.true a b x y = (λ k. x k && y k)
  and_true Bool.false a b x y = refl

  refused_marks : (e : ReadEvent) (f : StationFault) (old new : State) → IsHandled e (Some f) old new → ((i : ℕ) → window_of new.board i ≡ window_of old.board i)
      → (k i s : ℕ) → In s (window_of old.board i) → is_marked new.board k i s ≡ is_marked old.board k i s
  refused_marks e f old new h same k i s here =
      h.after.marks k i s ∙ as_kept e
    where
      kept : ((is_marked old.board k i s && set.contains (window_of old.board i) s) && set.contains (window_of new.board i) s) ≡ is_marked old.board k i s
      kept = and_true (is_marked old.board k i s) _ _ here (ap (λ (w : Samples). set.contains w s) (same i) ∙ here)

      as_kept : (e : ReadEvent) → marks_after (setting_of old) (known_of old) e (Some f) (window_of old.board) (window_of new.board) (is_marked old.board) k i s ≡ is_marked old.board k i s
      as_kept (FromPeer (Ok said)) = kept
      as_kept e = kept

  handled_from : (life : Option State) (old new : State) (e : ReadEvent) (answer : Option StationFault) → life ≡ Some old → HandledIn life e answer new → IsHandled e answer old new
  handled_from life old new e answer is h = subst (λ (o : Option State). HandledIn o e answer new) is h

  pub left_alone : (past : List (Entry × State)) (old new : State) (e : ReadEvent) (f : StationFault) → IsLived ((Answered e (Some f), new) ∷ past) → last_state past ≡ Some old → IsLeftAlone old new
  left_alone past old new e f lived is =
      let h = handled_from (last_state past) old new e (Some f) is lived.0 in
      let same = same_windows past old new e f lived.1 is h in
      record {
        setting = h.after.setting;
        windows = same;
        marks = refused_marks e f old new h same;
        known = λ y. h.after.known y ∙ sym ((quiet_fault old e f).known y);
        incarnation = h.after.incarnation;
        serial = h.after.serial ∙ sym (quiet_fault old e f).serial;
      }

pub untaken : (past : List (Entry × State)) (new : State) (e : ReadEvent) (f : StationFault) (i : ℕ) → taken (entries_of ((Answered e (Some f), new) ∷ past)) i ≡ taken (entries_of past) i
untaken past new e f i = union_none (taken (entries_of past) i)

-- ---- a history goes on
pub goes_on : (past : List (Entry × State)) (old new : State) (e : ReadEvent) (r : Result Told StationFault) → IsLived past → last_state past ≡ Some old → IsAnswered old new e r
    → IsLived ((Answered e (answer_in r), new) ∷ past)
goes_on past old new e (Ok told) lived is answered = (subst (λ (o : Option State). HandledIn o e None new) (sym is) answered.0, lived)
goes_on past old new e (Err f) lived is answered = (subst (λ (o : Option State). HandledIn o e (Some f) new) (sym is) answered, lived)

-- a life begins from where its body was written
reopens : (w : Setting) (octets : List ℕ) (old : Option State) (s : State) → IsImageOf old octets (instances_of w.watch.instances) → IsBegun w (Some octets) s → Reopens w old s
reopens w octets None s is begun = absurd is
reopens w octets (Some old) s is begun = record { instances = is.1; spells = subst (λ (o : List ℕ). SpellsImage o (instances_of old.board.watch.instances) (image_of old.board old.incarnation)) (sym is.0) is.2; begun = subst (λ (o : List ℕ). IsBegun w (Some o) s) (sym is.0) begun }

pub begins_on : (past : List (Entry × State)) (w : Setting) (body : Option (List ℕ)) (origin : Origin) (s : State) → IsLived past → IsOrigin (saved_states past) body (instances_of w.watch.instances) origin
    → IsBegun w body s → IsLived ((Restart origin w, s) ∷ past)
begins_on past w None Nothing s lived is begun = (begun, lived)
begins_on past w None (Saved later) s lived is begun = absurd is
begins_on past w None (Other image) s lived is begun = absurd is
begins_on past w (Some octets) Nothing s lived is begun = absurd is
begins_on past w (Some octets) (Saved later) s lived is begun = (reopens w octets (at_place later (saved_states past)) s is begun, lived)
begins_on past w (Some octets) (Other image) s lived is begun = ((octets, is, begun), lived)

-- ---- the disk after an event
-- an event is a save where it reads as one
save_read : (watch : Watch) (event : OwnedEvent) → ReadsAs watch event Save → event ≡ Save
save_read watch (StartPoll t) is = absurd (let no : Save ≡ StartPoll t = is in cc)
save_read watch (Timeout id) is = absurd (let no : Save ≡ Timeout id = is in cc)
save_read watch (FromAgent from octets) is = absurd (let no : Save ≡ FromAgent from is.0 = is.2 in cc)
save_read watch (FromPeer octets) is = absurd (let no : Save ≡ FromPeer is.0 = is.2 in cc)
save_read watch (Share y) is = absurd (let no : Save ≡ Share y = is in cc)
save_read watch Save is = refl

module _ {D : Type 0} (G : Ghosts D) (life : RunningLife) (old new : D) where
  -- an event that is no save leaves it
  pub quiet_disk : (watch : Watch) (event : OwnedEvent) (e : ReadEvent) (answer : Option StationFault) → (event ≡ Save → ⊥) → ReadsAs watch event e → new ≡ old → IsDiskAfter G life e answer old new
  quiet_disk watch event Save answer other reads same = absurd (other (save_read watch event reads))
  quiet_disk watch event e answer other reads same = same

  -- and a save does what it says
  pub saved_disk : (e : ReadEvent) (r : Result Told StationFault) → e ≡ Save → IfOk r (λ told. Leaves (G.may_leave new) (FindsState life.now)) → LeavesSince G.moment G.left_since old new (FindsRunningIn (G.may_leave old) (Some life))
      → IsDiskAfter G life e (answer_in r) old new
  saved_disk e r is found since = subst (λ (x : ReadEvent). IsDiskAfter G life x (answer_in r) old new) (sym is) (at r found)
    where
      at : (r : Result Told StationFault) → IfOk r (λ told. Leaves (G.may_leave new) (FindsState life.now)) → IsDiskAfter G life Save (answer_in r) old new
      at (Ok told) found = found
      at (Err f) saved = since

-- what a keeper goes back to is the state that was saved last
saved_last : (s : State) (last : Option (List ℕ)) (c : List ℕ) → IsSavedAs s last → FindsBody last c → FindsState s c
saved_last s last c saved finds = record { body = subst (λ (b : Option (List ℕ)). FindsBody b c) saved.octets finds; spells = saved.spells }

pub running_saved : (outcomes : List ℕ → Type 0) (last : Option (List ℕ)) (saved s : State) → IsSavedAs saved last → (c : List ℕ) → FindsRunning (OrLast outcomes last) s c → FindsRunningIn outcomes (Some (record { now = s; saved = saved })) c
running_saved outcomes last saved s is c either = ⊎_elim
    (λ found. inl (found.0, ⊎_elim (λ left. inl left) (λ finds. inr (saved_last saved last found.0 is finds)) found.1, found.2))
    (λ finds. inr finds)
    either

-- ---- an event by what it is
-- an event that is this one is answered as this one is
pub as_this : (watch : Watch) (event this : OwnedEvent) (old new : State) (r : Result Told StationFault) → event ≡ this → ((e : ReadEvent) → ReadsAs watch this e → IsAnswered old new e r)
    → (e : ReadEvent) → ReadsAs watch event e → IsAnswered old new e r
as_this watch event this old new r is answered e reads = answered e (subst (λ (o : OwnedEvent). ReadsAs watch o e) is reads)

-- one that only reads in one way
pub as_one : (old new : State) (r : Result Told StationFault) (one : ReadEvent) → IsAnswered old new one r → (e : ReadEvent) → e ≡ one → IsAnswered old new e r
as_one old new r one answered e is = subst (λ (x : ReadEvent). IsAnswered old new x r) (sym is) answered

pub handled_as : (old new : State) (e : ReadEvent) (r : Result Told StationFault) → IsAnswered old new e r → IsHandled e (answer_in r) old new
handled_as old new e (Ok told) answered = answered.0
handled_as old new e (Err f) answered = answered

-- a fault of the keeper is a save's
pub no_keeper : (old new : State) (e : ReadEvent) (f : StationFault) → (IsSave e → ⊥) → IsHandled e (Some f) old new → IsOfKeeper f → ⊥
no_keeper old new e (fault.Keeper k) other h of = other h.lawful
no_keeper old new e f other h of = of

pub never_keeper : (old new : State) (e : ReadEvent) (P : Type 0) (r : Result Told StationFault) → (IsSave e → ⊥) → IsAnswered old new e r → IfErr r (λ f. IsOfKeeper f → P)
never_keeper old new e P (Ok told) other answered = tt
never_keeper old new e P (Err f) other answered = λ of. absurd (no_keeper old new e f other answered of)

memory_keeper : (f : StationFault) → IsOfKeeper f → f ≡ fault.OutOfMemory → ⊥
memory_keeper f of is = subst IsOfKeeper is of

-- a lived history goes on, if it is known how the event reads unless memory ran out
pub never_unless : (old new : State) (said : Result Said ExchangeFault → Type 0) (P : Type 0) (r : Result Told StationFault)
    → IfErr r (λ f. (f ≡ fault.OutOfMemory → ⊥) → (s : Result Said ExchangeFault) × said s) → ((s : Result Said ExchangeFault) → said s → IsAnswered old new (FromPeer s) r) → IfErr r (λ f. IsOfKeeper f → P)
never_unless old new said P (Ok told) read answered = tt
never_unless old new said P (Err f) read answered = λ of. let s = read (memory_keeper f of) in absurd (no_keeper old new (FromPeer s.0) f (λ is. is) (answered s.0 s.1) of)
