-- A run, one call after another.
use Rattle.std.proofs.Common.{ℕ, ◌≡◌, Bool, true, List, [], ◌∷◌, ◌++◌, false, Option, Some, None, Result, Ok, Err, refl, sym, ap, subst, ◌∙◌, append_assoc, ◌+◌, ◌≤◌, ◌⊎◌, length, length-append, zero-add, arith, ◌<◌, ◌^◌, ◌-◌, suc, add-one, inl, inr, ⊎_elim}
use Rattle.std.specs.Prelude.{◌||◌}
use Rattle.mon_disk.specs.declared.disk.Disk.{Ghosts}
use Rattle.mon_disk.specs.declared.fault.KeeperFault.TheVariants as keeper
use Rattle.mon_disk.specs.Disk.{Leaves, LeavesSince}
use Rattle.mon_disk.specs.File.{found}
use Rattle.mon_disk.specs.declared.file.TheConstants.{SLOT_SIZE}
use Rattle.mon_disk.specs.Keeper.{FindsAs, FindsBody, IsAs, found_generation}
use Rattle.mon_disk.proofs.Promised.{as_body_of, as_then, at_rest, chained, itself, weaker}
use Rattle.mon_udp.specs.Counts.{failed_after, next_count}
use Rattle.mon_udp.specs.Told.{extended}
use Rattle.mon_poller.specs.Polls.{Open}
use Rattle.mon_station.specs.declared.event.Outgoing.{Outgoing}
use Rattle.mon_station.specs.declared.event.Told.{Told}
use Rattle.mon_station.specs.declared.fault.StationFault.{StationFault}
use Rattle.mon_station.specs.declared.fault.StationFault.TheVariants as station
use Rattle.mon_station.specs.declared.running.Answer.{Answer}
use Rattle.mon_station.specs.declared.running.Answer.TheVariants.{Handled, GaveUp, Memory, Refused, Keeper}
use Rattle.mon_station.specs.declared.running.Run.{Run}
use Rattle.mon_station.specs.declared.running.SourceFault.{SourceFault}
use Rattle.mon_station.specs.Lived.{HandledIn, IsLived, last_state}
use Rattle.mon_station.specs.ReadEvent.{ReadEvent, ReadsAs, owned, OwnedEvent, LentEvent, StartPoll, Timeout, FromAgent, FromPeer, Share, Save}
use Rattle.mon_station.specs.Ran as ran
use Rattle.mon_station.specs.Ran.{AreAsked, AreCalls, Call, CountsFaults, Did, FindsAfter, FindsAmid, FindsDuring, FindsLast, FindsSaved, Gave, HasFailed, IsFull, IsKeptFault, IsKnown, IsMet, IsTurn, LiveOn, Ran, Tells, Turn, answer_in, answers_of, entries_by, entry_of, failed_in, failed_of, failures_after, faults_in, go_on, goes_on, has_answer, is_disk_fault, is_last_fault, last_answer, result_of, sent_of, shown, state_after, turn_in, turns_of, view_after}
use Rattle.mon_station.specs.Saved.{FindsRunning, FindsState, IsCausedBy, IsSaveFault, IsSavedAs, OrLast}
use Rattle.mon_station.specs.Seen.{Seen, met}
use Rattle.mon_station.specs.State.{State, IsHandled}
use Rattle.mon_station.specs.Taken.{Entry, Answered}
use Rattle.mon_station.specs.Told.{IsAnswered}
use Rattle.mon_station.specs.Turned.{Called, RanSoFar, Turned, told_of}
use Rattle.mon_station.proofs.Kept.{disk_cause}

pub append_nil : {A : Type 0} (xs : List A) → xs ++ [] ≡ xs
append_nil [] = refl
append_nil (x ∷ xs) = ap (λ l. x ∷ l) (append_nil xs)

pub extended_none : {A : Type 0} (all : Option (List A)) → all ≡ extended all []
extended_none None = refl
extended_none (Some xs) = ap Some (sym (append_nil xs))

pub extended_twice : {A : Type 0} (all : Option (List A)) (xs ys : List A) → extended (extended all xs) ys ≡ extended all (xs ++ ys)
extended_twice None xs ys = refl
extended_twice (Some all) xs ys = ap Some (append_assoc all xs ys)

-- ---- what an opening finds
or_last : (outcomes : List ℕ → Type 0) (last : Option (List ℕ)) (c : List ℕ) → FindsAs outcomes c → FindsAs (OrLast outcomes last) c
or_last outcomes last c found = (found.0, inl found.1, found.2)

-- of files that are as each other
as_state : (s : State) (a b : List ℕ) → IsAs a b → FindsState s b → FindsState s a
as_state s a b same finds = record { body = as_body_of _ a b same finds.body; spells = finds.spells }

as_saved : (s : State) (answer : Option StationFault) (P Q : Type 0) (a b : List ℕ) → IsAs a b → (Q → P) → FindsSaved s answer Q b → FindsSaved s answer P a
as_saved s None P Q a b same f h = as_state s a b same h
as_saved s (Some (station.Keeper keeper.DiskFault)) P Q a b same f h = ⊎_elim (λ finds. inl (as_state s a b same finds)) (λ q. inr (f q)) h
as_saved s (Some other) P Q a b same f h = f h

-- what an opening finds after any event
pub as_after : (s : State) (event : OwnedEvent) (answer : Option StationFault) (P Q : Type 0) (a b : List ℕ) → IsAs a b → (Q → P) → FindsAfter s event answer Q b → FindsAfter s event answer P a
as_after s Save answer P Q a b same f h = as_saved s answer P Q a b same f h
as_after s event answer P Q a b same f h = f h

is_itself : (c : List ℕ) → IsAs c c
is_itself c = record { undamaged = refl; body_is = refl }

as_last : (first : State) (outcomes : List ℕ → Type 0) (turns : List Turn) (a b : List ℕ) → IsAs a b → FindsLast first outcomes turns b → FindsLast first outcomes turns a
as_last first outcomes [] a b same h = (h.0, h.1, as_then a b h.0 same h.2)
as_last first outcomes (t ∷ turns) a b same h = as_after (state_after first turns) t.event t.answer _ _ a b same (as_last first outcomes turns a b same) h

-- ---- what a crash in the middle leaves
during_before : (s : State) (event : OwnedEvent) (P : Type 0) (c : List ℕ) → P → FindsDuring s event P c
during_before s Save P c p = inl p
during_before s event P c p = p

during_more : (s : State) (event : OwnedEvent) (P Q : Type 0) (c : List ℕ) → (P → Q) → FindsDuring s event P c → FindsDuring s event Q c
during_more s Save P Q c f h = ⊎_elim (λ p. inl (f p)) (λ finds. inr finds) h
during_more s event P Q c f h = f h

saved_during : (s : State) (answer : Option StationFault) (P : Type 0) (c : List ℕ) → FindsSaved s answer P c → P ⊎ FindsState s c
saved_during s None P c h = inr h
saved_during s (Some (station.Keeper keeper.DiskFault)) P c h = ⊎_elim (λ finds. inr finds) (λ p. inl p) h
saved_during s (Some other) P c h = inl h

after_during : (s : State) (event : OwnedEvent) (answer : Option StationFault) (P : Type 0) (c : List ℕ) → FindsAfter s event answer P c → FindsDuring s event P c
after_during s Save answer P c h = saved_during s answer P c h
after_during s event answer P c h = h

-- what turns left is found in the middle of them
last_amid : (first : State) (outcomes : List ℕ → Type 0) (turns : List Turn) (c : List ℕ) → FindsLast first outcomes turns c → FindsAmid first outcomes turns c
last_amid first outcomes [] c h = h
last_amid first outcomes (t ∷ turns) c h = inr (after_during (state_after first turns) t.event t.answer _ c h)

-- ---- lives
live_read : (s : State) (e : ReadEvent) (answer : Option StationFault) (after : State) → IsHandled e answer s after → LiveOn s after ((Answered e answer, after) ∷ [])
live_read s e answer after handled past lived is = ((subst (λ (o : Option State). HandledIn o e answer after) (sym is) handled, lived), refl)

live_entry : (s : State) (t : Turn) (reading : Option ReadEvent) → IsTurn s t → IsKnown s.board.watch t.event t.answer reading → LiveOn s t.after (entry_of reading t.answer t.after)
live_entry s t (Some e) turn reads = live_read s e t.answer t.after (turn.each e reads).handled
live_entry s t None turn memory = λ past lived is. (lived, is ∙ ap Some (sym (turn.memory memory).after))

live_then : (a b c : State) (some more : List (Entry × State)) → LiveOn a b some → LiveOn b c more → LiveOn a c (more ++ some)
live_then a b c some more first second past lived is =
    let mid = first past lived is in
    subst (λ (l : List (Entry × State)). IsLived l × (last_state l ≡ Some c)) (sym (append_assoc more some past)) (second (some ++ past) mid.0 mid.1)

live_gave : (first : State) (turns : List Turn) (gave : Gave) → IsMet (state_after first turns) gave → LiveOn first (state_after first turns) (entries_by turns)
    → LiveOn first (state_after first (turn_in gave ++ turns)) (entries_by (turn_in gave ++ turns))
live_gave first turns (ran.Event t) met so_far =
    live_then first (state_after first turns) t.after (entries_by turns) (entry_of t.reading t.answer t.after) so_far (live_entry (state_after first turns) t t.reading met met.known)
live_gave first turns ran.End met so_far = so_far
live_gave first turns (ran.Fault f) met so_far = so_far

some_fault : {f g : StationFault} → Some f ≡ Some g → f ≡ g
some_fault e = cc

-- ---- what an opening finds after a call, and amid it
module _ (first s : State) (left_before left_mid : List ℕ → Type 0) (turns : List Turn) (is : s ≡ state_after first turns) (before : Leaves left_mid (FindsLast first left_before turns)) where
  back : (c : List ℕ) → FindsAs left_mid c → FindsLast first left_before turns c
  back c found = as_last first left_before turns c found.0 found.2 (before found.0 found.1)

  last_on : (gave : Gave) (c : List ℕ) → FindsLast s left_mid (turn_in gave ++ []) c → FindsLast first left_before (turn_in gave ++ turns) c
  last_on (ran.Event t) c h =
      as_after (state_after first turns) t.event t.answer (FindsLast first left_before turns c) (FindsAs left_mid c) c c (is_itself c) (back c)
      (subst (λ (u : State). FindsAfter u t.event t.answer (FindsAs left_mid c) c) is h)
  last_on ran.End c h = back c h
  last_on (ran.Fault f) c h = back c h

  amid_on : (gave : Gave) (c : List ℕ) → FindsAmid s left_mid (turn_in gave ++ []) c → FindsAmid first left_before (turn_in gave ++ turns) c
  amid_on (ran.Event t) c h = inr (⊎_elim (λ found. during_before (state_after first turns) t.event _ c (back c found))
      (λ during. during_more (state_after first turns) t.event _ _ c (back c) (subst (λ (u : State). FindsDuring u t.event (FindsAs left_mid c) c) is during)) h)
  amid_on ran.End c h = last_amid first left_before turns c (back c h)
  amid_on (ran.Fault f) c h = last_amid first left_before turns c (back c h)

amid_more : (first : State) (outcomes : List ℕ → Type 0) (turns : List Turn) (gave : Gave) (c : List ℕ) → FindsAmid first outcomes turns c → FindsAmid first outcomes (turn_in gave ++ turns) c
amid_more first outcomes turns (ran.Event t) c h = inl h
amid_more first outcomes turns ran.End c h = h
amid_more first outcomes turns (ran.Fault f) c h = h

-- ---- what calls leave
state_on : (gave : Gave) (first s : State) (turns : List Turn) → s ≡ state_after first turns → state_after s (turn_in gave ++ []) ≡ state_after first (turn_in gave ++ turns)
state_on (ran.Event t) first s turns is = refl
state_on ran.End first s turns is = is
state_on (ran.Fault f) first s turns is = is

sent_on : (gave : Gave) (turns : List Turn) → sent_of turns ++ sent_of (turn_in gave ++ []) ≡ sent_of (turn_in gave ++ turns)
sent_on (ran.Event t) turns = refl
sent_on ran.End turns = append_nil (sent_of turns)
sent_on (ran.Fault f) turns = append_nil (sent_of turns)

answers_on : (gave : Gave) (turns : List Turn) → answers_of turns ++ answers_of (turn_in gave) ≡ answers_of (turn_in gave ++ turns)
answers_on (ran.Event t) turns = refl
answers_on ran.End turns = append_nil (answers_of turns)
answers_on (ran.Fault f) turns = append_nil (answers_of turns)

-- ---- faults of the file
one_of : (a b : Bool) → (a || b) ≡ true → (a ≡ true) ⊎ (b ≡ true)
one_of true b e = inl refl
one_of false b e = inr e

-- of one turn
counted_one : (before now : ℕ) (t : Turn) → CountsFaults before now (t ∷ []) → is_disk_fault t.answer ≡ true → (before < now) ⊎ (before ≡ 2 ^ 64 - 1)
counted_one before now t h is = h.told (ap (λ b. b || false) is)

counts_more : (gave : Gave) (a b c : ℕ) (turns : List Turn) → CountsFaults a b turns → CountsFaults b c (turn_in gave ++ []) → CountsFaults a c (turn_in gave ++ turns)
counts_more (ran.Event t) a b c turns first last = record {
  no_less = omega (arith, first.no_less, last.no_less);
  told = λ is. ⊎_elim
      (λ here. (disk_cause a b c keeper.DiskFault first.no_less (record { no_less = last.no_less; told = λ _. counted_one b c t last here })).told refl)
      (λ there. ⊎_elim (λ (rose : a < b). inl (omega (arith, rose, last.no_less))) (λ (end : a ≡ 2 ^ 64 - 1). inr end) (first.told there))
      (one_of (is_disk_fault t.answer) (has_answer is_disk_fault turns) is);
}
counts_more ran.End a b c turns first last = record {
  no_less = omega (arith, first.no_less, last.no_less);
  told = λ is. ⊎_elim (λ (rose : a < b). inl (omega (arith, rose, last.no_less))) (λ (end : a ≡ 2 ^ 64 - 1). inr end) (first.told is);
}
counts_more (ran.Fault f) a b c turns first last = record {
  no_less = omega (arith, first.no_less, last.no_less);
  told = λ is. ⊎_elim (λ (rose : a < b). inl (omega (arith, rose, last.no_less))) (λ (end : a ≡ 2 ^ 64 - 1). inr end) (first.told is);
}

full_more : {X : Type 0} (G : Ghosts X) (gave : Gave) (turns : List Turn) → IsFull G turns → IsFull G (turn_in gave ++ []) → IsFull G (turn_in gave ++ turns)
full_more G (ran.Event t) turns first last = λ is. ⊎_elim (λ here. last (ap (λ b. b || false) here)) (λ there. first there) (one_of (is_last_fault t.answer) (has_answer is_last_fault turns) is)
full_more G ran.End turns first last = first
full_more G (ran.Fault f) turns first last = first

none_counted : (n : ℕ) → CountsFaults n n []
none_counted n = record { no_less = omega arith; told = λ e. let no : false ≡ true = e in cc }

none_full : {X : Type 0} (G : Ghosts X) → IsFull G []
none_full G = λ e. let no : false ≡ true = e in cc

module _ {V X : Type 0} (G : Ghosts X) (Gives : V → Open → Option Answer → Result (Option OwnedEvent) SourceFault → V → Type 0) where
  -- one call more
  pub did_more : (a b c : Seen V G) (calls : List (Call V)) (call : Call V) → Did Gives a b calls → go_on calls ≡ true → Did (told_of (last_answer calls) Gives) b c (call ∷ []) → Did Gives a c (call ∷ calls)
  did_more a b c calls call so_far going last =
      let turns : List Turn = turns_of calls in
      let more : List Outgoing = sent_of (turn_in call.gave ++ []) in
      record {
        are = (
          subst (λ (s : State). ran.IsCall Gives (view_after a.view calls) s (last_answer calls) call) so_far.state
              (subst (λ (v : V). ran.IsCall Gives v b.state (last_answer calls) call) so_far.view (record { gives = last.are.0.gives; met = last.are.0.met })),
          going,
          so_far.are,
        );
        state = last.state ∙ state_on call.gave a.state b.state turns so_far.state;
        view = last.view;
        handed = last.handed ∙ ap (λ (h : Option (List Outgoing)). extended h more) so_far.handed ∙ extended_twice a.handed (sent_of turns) more ∙ ap (extended a.handed) (sent_on call.gave turns);
        honest = λ h. last.honest (so_far.honest h);
        file = λ h c left. last_on a.state b.state (met a) (met b) turns so_far.state (so_far.file h) call.gave c (last.file (so_far.honest h) c left);
        any_moment = λ h. chained G.moment G.left_since G.may_leave a.disk b.disk c.disk _
            (weaker G.moment G.left_since G.may_leave a.disk b.disk _ _ (amid_more a.state (met a) turns call.gave) (so_far.any_moment h))
            (weaker G.moment G.left_since G.may_leave b.disk c.disk _ _ (amid_on a.state b.state (met a) (met b) turns so_far.state (so_far.file h) call.gave) (last.any_moment (so_far.honest h)));
        counted = counts_more call.gave (G.faults a.disk) (G.faults b.disk) (G.faults c.disk) turns so_far.counted last.counted;
        full = full_more G call.gave turns so_far.full last.full;
      }

  -- a call that gave an event
  pub did_event : (before after : State) (v w : V) (handed0 handed1 : Option (List Outgoing)) (old new : X) (last0 last1 : Option (List ℕ)) (event : OwnedEvent) (answer : Answer)
      → (t : Turned {G = G} (record { state = before; view = tt {0}; handed = handed0; disk = old; last = last0 }) (record { state = after; view = tt {0}; handed = handed1; disk = new; last = last1 }) event answer)
      → Gives v before.poller.polls.open_polls None (Ok (Some event)) w
      → Did {G = G} Gives (record { state = before; view = v; handed = handed0; disk = old; last = last0 }) (record { state = after; view = w; handed = handed1; disk = new; last = last1 }) (record { gave = ran.Event t.turn; view = w } ∷ [])
  did_event before after v w handed0 handed1 old new last0 last1 event answer t gives = record {
    are = (record { gives = subst (λ (e : OwnedEvent). Gives v before.poller.polls.open_polls None (Ok (Some e)) w) (sym t.event_is) gives; met = t.is }, refl, tt);
    state = t.state;
    view = refl;
    handed = t.handed;
    honest = t.honest;
    file = t.file;
    any_moment = t.any_moment;
    counted = t.counted;
    full = t.full;
  }

  -- a call that gave none
  module _ (only_now : (disk : X) (c : List ℕ) → G.is_honest disk → G.left_since disk (G.moment disk) c → G.may_leave disk c) where
    rests : (s : State) (disk : X) (last : Option (List ℕ)) → G.is_honest disk → LeavesSince G.moment G.left_since disk disk (FindsAmid s (OrLast (G.may_leave disk) last) [])
    rests s disk last h = weaker G.moment G.left_since G.may_leave disk disk _ _ (or_last (G.may_leave disk) last) (at_rest G.moment G.left_since G.may_leave disk (λ c left. only_now disk c h left))

    pub did_nothing : (s : Seen V G) → Did Gives s s []
    did_nothing s = record {
      are = tt;
      state = refl;
      view = refl;
      handed = extended_none s.handed;
      honest = λ h. h;
      file = λ h c l. itself (met s) c l;
      any_moment = rests s.state s.disk s.last;
      counted = none_counted (G.faults s.disk);
      full = none_full G;
    }

    pub did_none : (state : State) (v w : V) (handed : Option (List Outgoing)) (disk : X) (last : Option (List ℕ)) (gave : Gave) → turn_in gave ≡ [] → IsMet state gave
        → Gives v state.poller.polls.open_polls None (result_of gave) w
        → Did {G = G} Gives (record { state = state; view = v; handed = handed; disk = disk; last = last }) (record { state = state; view = w; handed = handed; disk = disk; last = last }) (record { gave = gave; view = w } ∷ [])
    did_none state v w handed disk last gave none met gives =
        let no_turn : turn_in gave ++ [] ≡ [] = ap (λ (ts : List Turn). ts ++ []) none in
        record {
          are = (record { gives = gives; met = met }, refl, tt);
          state = sym (ap (state_after state) no_turn);
          view = refl;
          handed = extended_none handed ∙ sym (ap (λ (ts : List Turn). extended handed (sent_of ts)) no_turn);
          honest = λ h. h;
          file = λ h. subst (λ (ts : List Turn). Leaves (OrLast (G.may_leave disk) last) (FindsLast state (OrLast (G.may_leave disk) last) ts)) (sym no_turn) (λ c l. itself (OrLast (G.may_leave disk) last) c l);
          any_moment = λ h. subst (λ (ts : List Turn). LeavesSince G.moment G.left_since disk disk (FindsAmid state (OrLast (G.may_leave disk) last) ts)) (sym no_turn) (rests state disk last h);
          counted = subst (CountsFaults (G.faults disk) (G.faults disk)) (sym no_turn) (none_counted (G.faults disk));
          full = subst (IsFull G) (sym no_turn) (none_full G);
        }

    pub so_far_none : (s : Seen V G) (run : Run) → ran.IsEmpty run → RanSoFar Gives s s run None true
    so_far_none s run empty = record {
      calls = [];
      did = did_nothing s;
      told = record { turns = empty.turns; answers = empty.answers; source_faults = empty.source_faults };
      last_is = refl;
      going_is = refl;
    }

  -- what is said of one call more
  pub so_far_more : (a b c : Seen V G) (run mid new : Run) (last next : Option Answer) (going : Bool) → RanSoFar Gives a b run last true → Called (told_of last Gives) b c mid new next going
      → mid.answers.items ≡ run.answers.items → mid.source_faults ≡ run.source_faults → mid.turns ≡ run.turns + 1 → RanSoFar Gives a c new next going
  so_far_more a b c run mid new last next going so called answers faults turns =
      let gave : Gave = called.call.gave in
      record {
        calls = called.call ∷ so.calls;
        did = did_more a b c so.calls called.call so.did so.going_is (subst (λ (l : Option Answer). Did (told_of l Gives) b c (called.call ∷ [])) (sym so.last_is) called.did);
        told = record {
          turns = omega (arith, called.counted.turns, turns, so.told.turns);
          answers = called.counted.answers ∙ ap (λ (l : List Answer). l ++ answers_of (turn_in gave)) (answers ∙ so.told.answers) ∙ answers_on gave (turns_of so.calls);
          source_faults = called.counted.faults ∙ ap (λ n. n + failed_in gave) (faults ∙ so.told.source_faults);
        };
        last_is = called.last_is;
        going_is = called.going_is;
      }

  -- ---- lives
  lives : (view : V) (first : State) (calls : List (Call V)) → AreCalls Gives view first calls → LiveOn first (state_after first (turns_of calls)) (entries_by (turns_of calls))
  lives view first [] are = λ past lived is. (lived, is)
  lives view first (c ∷ calls) are = live_gave first (turns_of calls) c.gave are.0.met (lives view first calls are.2)

  pub ran_of : (a b : Seen V G) (turns : ℕ) (run : Run) (last : Option Answer) (going : Bool) (so : RanSoFar Gives a b run last going) → AreAsked turns so.calls → Ran Gives a b turns run
  ran_of a b turns run last going so asked = record {
    calls = so.calls;
    did = so.did;
    told = so.told;
    asked = asked;
    lived = subst (λ (s : State). LiveOn a.state s (entries_by (turns_of so.calls))) (sym so.did.state) (lives a.view a.state so.calls so.did.are);
  }

-- ---- one event
-- how it reads, if that is known
known_fault : (s : State) (event : OwnedEvent) (f : StationFault) → ((f ≡ station.OutOfMemory → ⊥) → (e : ReadEvent) × ReadsAs s.board.watch event e) → (r : Option ReadEvent) × IsKnown s.board.watch event (Some f) r
known_fault s event station.OutOfMemory h = (None, refl)
known_fault s event (station.Poll x) h = let r = h (λ e. cc) in (Some r.0, r.1)
known_fault s event (station.Response x) h = let r = h (λ e. cc) in (Some r.0, r.1)
known_fault s event (station.Exchange x) h = let r = h (λ e. cc) in (Some r.0, r.1)
known_fault s event (station.Keeper x) h = let r = h (λ e. cc) in (Some r.0, r.1)
known_fault s event (station.Image x) h = let r = h (λ e. cc) in (Some r.0, r.1)
known_fault s event station.NoMoreIncarnations h = let r = h (λ e. cc) in (Some r.0, r.1)

no_fault : {f : StationFault} → None ≡ Some f → ⊥
no_fault e = cc

kept_fault : (event : OwnedEvent) (f : StationFault) → (event ≡ Save → IsSaveFault f) → IsKeptFault (Some f) event
kept_fault Save f h = h refl
kept_fault event f h = tt

-- what the cause of a fault says of the count
cause_counted : (before now : ℕ) (f : StationFault) → IsCausedBy before now f → (before ≤ now) × (is_disk_fault (Some f) ≡ true → (before < now) ⊎ (before ≡ 2 ^ 64 - 1))
cause_counted before now station.OutOfMemory h = (h, λ e. let no : false ≡ true = e in cc)
cause_counted before now (station.Poll f) h = (h, λ e. let no : false ≡ true = e in cc)
cause_counted before now (station.Response f) h = (h, λ e. let no : false ≡ true = e in cc)
cause_counted before now (station.Exchange f) h = (h, λ e. let no : false ≡ true = e in cc)
cause_counted before now (station.Image f) h = (h, λ e. let no : false ≡ true = e in cc)
cause_counted before now station.NoMoreIncarnations h = (h, λ e. let no : false ≡ true = e in cc)
cause_counted before now (station.Keeper keeper.OutOfMemory) h = (h.no_less, λ e. let no : false ≡ true = e in cc)
cause_counted before now (station.Keeper keeper.DiskFault) h = (h.no_less, λ e. h.told refl)
cause_counted before now (station.Keeper keeper.NoMoreGenerations) h = (h.no_less, λ e. let no : false ≡ true = e in cc)
cause_counted before now (station.Keeper keeper.TooLarge) h = (h.no_less, λ e. let no : false ≡ true = e in cc)
cause_counted before now (station.Keeper keeper.Damaged) h = (h.no_less, λ e. let no : false ≡ true = e in cc)
cause_counted before now (station.Keeper keeper.Reopen) h = (h.no_less, λ e. let no : false ≡ true = e in cc)

or_none : (b : Bool) → (b || false) ≡ true → b ≡ true
or_none true e = refl
or_none false e = e

is_last : (f : StationFault) → is_last_fault (Some f) ≡ true → f ≡ station.Keeper keeper.NoMoreGenerations
is_last station.OutOfMemory e = let no : false ≡ true = e in cc
is_last (station.Poll f) e = let no : false ≡ true = e in cc
is_last (station.Response f) e = let no : false ≡ true = e in cc
is_last (station.Exchange f) e = let no : false ≡ true = e in cc
is_last (station.Image f) e = let no : false ≡ true = e in cc
is_last station.NoMoreIncarnations e = let no : false ≡ true = e in cc
is_last (station.Keeper keeper.OutOfMemory) e = let no : false ≡ true = e in cc
is_last (station.Keeper keeper.DiskFault) e = let no : false ≡ true = e in cc
is_last (station.Keeper keeper.NoMoreGenerations) e = refl
is_last (station.Keeper keeper.TooLarge) e = let no : false ≡ true = e in cc
is_last (station.Keeper keeper.Damaged) e = let no : false ≡ true = e in cc
is_last (station.Keeper keeper.Reopen) e = let no : false ≡ true = e in cc

module _ {X : Type 0} (G : Ghosts X) (before after : State) (event : OwnedEvent) (old new : X) (last0 last1 : Option (List ℕ)) (still : G.is_honest old → G.is_honest new) where
  pub turned_told : (told : Told) (handed0 handed1 : Option (List Outgoing)) (answer : Answer) → ((e : ReadEvent) → ReadsAs before.board.watch event e → IsAnswered before after e (Ok told))
      → (e : ReadEvent) × ReadsAs before.board.watch event e → handed1 ≡ extended handed0 told.sends.items → answer ≡ shown None told.taken told.given_up told.answered → G.faults old ≤ G.faults new
      → (G.is_honest old → Leaves (OrLast (G.may_leave new) last1) (λ c. FindsAfter before event None (FindsAs (OrLast (G.may_leave old) last0) c) c))
      → (G.is_honest old → LeavesSince G.moment G.left_since old new (λ c. FindsAs (OrLast (G.may_leave old) last0) c ⊎ FindsDuring before event (FindsAs (OrLast (G.may_leave old) last0) c) c))
      → Turned {G = G} (record { state = before; view = tt {0}; handed = handed0; disk = old; last = last0 }) (record { state = after; view = tt {0}; handed = handed1; disk = new; last = last1 }) event answer
  turned_told told handed0 handed1 answer h read handed is count file amid = record {
    turn = record { event = event; reading = Some read.0; answer = None; taken = told.taken; given_up = told.given_up; answered = told.answered; sent = told.sends.items; after = after };
    event_is = refl;
    is = record {
      each = λ e reads. let r = h e reads in record { handled = r.0; taken = r.1.taken; given_up = r.1.given_up; answered = r.1.answered; sent = r.1.sent };
      known = read.1;
      memory = λ e. absurd (no_fault e);
      fault = tt;
    };
    state = refl;
    handed = handed;
    shown_is = is;
    honest = still;
    file = file;
    any_moment = amid;
    counted = record { no_less = count; told = λ e. let no : false ≡ true = e in cc };
    full = λ e. let no : false ≡ true = e in cc;
  }

  pub turned_fault : (fault : StationFault) (handed : Option (List Outgoing)) (answer : Answer) → ((e : ReadEvent) → ReadsAs before.board.watch event e → IsAnswered before after e (Err fault))
      → ((fault ≡ station.OutOfMemory → ⊥) → (e : ReadEvent) × ReadsAs before.board.watch event e) → (fault ≡ station.OutOfMemory → after ≡ before) → answer ≡ shown (Some fault) [] None None
      → (event ≡ Save → IsSaveFault fault) → IsCausedBy (G.faults old) (G.faults new) fault → (fault ≡ station.Keeper keeper.NoMoreGenerations → G.is_honest old → found_generation (found SLOT_SIZE (G.seen old)) ≡ 2 ^ 64 - 1)
      → (G.is_honest old → Leaves (OrLast (G.may_leave new) last1) (λ c. FindsAfter before event (Some fault) (FindsAs (OrLast (G.may_leave old) last0) c) c))
      → (G.is_honest old → LeavesSince G.moment G.left_since old new (λ c. FindsAs (OrLast (G.may_leave old) last0) c ⊎ FindsDuring before event (FindsAs (OrLast (G.may_leave old) last0) c) c))
      → Turned {G = G} (record { state = before; view = tt {0}; handed = handed; disk = old; last = last0 }) (record { state = after; view = tt {0}; handed = handed; disk = new; last = last1 }) event answer
  turned_fault fault handed answer h read stays is kept cause full file amid =
      let known = known_fault before event fault read in
      let causes = cause_counted (G.faults old) (G.faults new) fault cause in
      record {
        turn = record { event = event; reading = known.0; answer = Some fault; taken = []; given_up = None; answered = None; sent = []; after = after };
        event_is = refl;
        is = record {
          each = λ e reads. record { handled = h e reads; taken = refl; given_up = refl; answered = refl; sent = refl };
          known = known.1;
          memory = λ e. record { after = stays (some_fault e); taken = refl; given_up = refl; answered = refl; sent = refl };
          fault = kept_fault event fault kept;
        };
        state = refl;
        handed = extended_none handed;
        shown_is = is;
        honest = still;
        file = file;
        any_moment = amid;
        counted = record { no_less = causes.0; told = λ e. causes.1 (or_none (is_disk_fault (Some fault)) e) };
        full = λ e. (old, full (is_last fault (or_none (is_last_fault (Some fault)) e)));
      }

-- what a crash amid an event leaves
module _ {X : Type 0} (G : Ghosts X) (s : State) (old new : X) (last : Option (List ℕ)) (only_now : (disk : X) (c : List ℕ) → G.is_honest disk → G.left_since disk (G.moment disk) c → G.may_leave disk c) (honest : G.is_honest old) where
  abbrev Amid : OwnedEvent → Type 0
  Amid event = LeavesSince G.moment G.left_since old new (λ c. FindsAs (OrLast (G.may_leave old) last) c ⊎ FindsDuring s event (FindsAs (OrLast (G.may_leave old) last) c) c)

  rested : (event : OwnedEvent) → new ≡ old → Amid event
  rested event same =
      subst (λ (d : X). LeavesSince G.moment G.left_since old d (λ c. FindsAs (OrLast (G.may_leave old) last) c ⊎ FindsDuring s event (FindsAs (OrLast (G.may_leave old) last) c) c)) (sym same)
      (weaker G.moment G.left_since G.may_leave old old _ _ (λ c found. inl (or_last (G.may_leave old) last c found)) (at_rest G.moment G.left_since G.may_leave old (λ c left. only_now old c honest left)))

  pub amid : (event : OwnedEvent) → ((event ≡ Save → ⊥) → new ≡ old) → LeavesSince G.moment G.left_since old new (FindsRunning (OrLast (G.may_leave old) last) s) → Amid event
  amid Save same running = weaker G.moment G.left_since G.may_leave old new _ _ (λ c found. ⊎_elim (λ a. inl a) (λ f. inr (inr f)) found) running
  amid event same running = rested event (same (λ e. cc))

-- what a crash leaves after an event
module _ {D : Type 0} (left : D → List ℕ → Type 0) (s : State) (old new : D) where
  stays : new ≡ old → Leaves (left new) (FindsAs (left old))
  stays same c l = itself (left old) c (subst (λ d. left d c) same l)

  pub file_told : (event : OwnedEvent) → ((event ≡ Save → ⊥) → new ≡ old) → (event ≡ Save → Leaves (left new) (FindsState s)) → Leaves (left new) (λ c. FindsAfter s event None (FindsAs (left old) c) c)
  file_told Save same saved = saved refl
  file_told event same saved = stays (same (λ e. cc))

  save_fault : (fault : StationFault) → ((fault ≡ station.Keeper keeper.DiskFault → ⊥) → new ≡ old) → Leaves (left new) (FindsRunning (left old) s) → Leaves (left new) (λ c. FindsSaved s (Some fault) (FindsAs (left old) c) c)
  save_fault (station.Keeper keeper.DiskFault) same running = λ c l. ⊎_elim (λ as_is. inr as_is) (λ finds. inl finds) (running c l)
  save_fault other same running = stays (same (λ e. cc))

  pub file_fault : (event : OwnedEvent) (fault : StationFault) → ((event ≡ Save → ⊥) → new ≡ old) → ((fault ≡ station.Keeper keeper.DiskFault → ⊥) → new ≡ old) → Leaves (left new) (FindsRunning (left old) s)
      → Leaves (left new) (λ c. FindsAfter s event (Some fault) (FindsAs (left old) c) c)
  file_fault Save fault same unsaved running = save_fault fault unsaved running
  file_fault event fault same unsaved running = stays (same (λ e. cc))

-- with what the keeper knows as the last
pub saved_or_last : (outcomes : List ℕ → Type 0) (last : Option (List ℕ)) (s : State) → Leaves outcomes (FindsState s) → IsSavedAs s last → Leaves (OrLast outcomes last) (FindsState s)
saved_or_last outcomes last s found is c either = ⊎_elim (λ left. found c left) (λ finds. record { body = subst (λ (b : Option (List ℕ)). FindsBody b c) is.octets finds; spells = is.spells }) either

pub running_or_last : (left : List ℕ → Type 0) (outcomes : List ℕ → Type 0) (last0 last1 : Option (List ℕ)) (s : State) → last1 ≡ last0 → Leaves left (FindsRunning (OrLast outcomes last0) s) → Leaves (OrLast left last1) (FindsRunning (OrLast outcomes last0) s)
running_or_last left outcomes last0 last1 s same found c either = ⊎_elim
    (λ here. found c here)
    (λ finds. inl (itself (OrLast outcomes last0) c (inr (subst (λ (b : Option (List ℕ)). FindsBody b c) same finds))))
    either

-- a borrowed event is a save where the event is one
pub not_save : (e : LentEvent) → (owned e ≡ Save → ⊥) → e ≡ Save → ⊥
not_save e other is = other (ap owned is)

pub is_save : (e : LentEvent) → owned e ≡ Save → e ≡ Save
is_save (StartPoll t) is = absurd cc
is_save (Timeout id) is = absurd cc
is_save (FromAgent a o) is = absurd cc
is_save (FromPeer o) is = absurd cc
is_save (Share y) is = absurd cc
is_save Save is = refl

-- ---- counts
pub faults_more : (answers : List Answer) (answer : Answer) → faults_in (answers ++ answer ∷ []) ≡ faults_in answers + faults_in (answer ∷ [])
faults_more [] answer = sym (zero-add (faults_in (answer ∷ [])))
faults_more (Handled n answered ∷ answers) answer = faults_more answers answer
faults_more (GaveUp n ∷ answers) answer = faults_more answers answer
faults_more (Memory ∷ answers) answer = omega (arith, faults_more answers answer)
faults_more (Refused f ∷ answers) answer = omega (arith, faults_more answers answer)
faults_more (Keeper n ∷ answers) answer = omega (arith, faults_more answers answer)

pub faults_few : (answers : List Answer) → faults_in answers ≤ length answers
faults_few [] = omega arith
faults_few (Handled n answered ∷ answers) = omega (arith, faults_few answers)
faults_few (GaveUp n ∷ answers) = omega (arith, faults_few answers)
faults_few (Memory ∷ answers) = omega (arith, faults_few answers)
faults_few (Refused f ∷ answers) = omega (arith, faults_few answers)
faults_few (Keeper n ∷ answers) = omega (arith, faults_few answers)

-- answers and faults of the source are no more than the calls
pub calls_few : {V : Type 0} (calls : List (Call V)) → length (answers_of (turns_of calls)) + failed_of calls ≤ length calls
calls_few [] = omega arith
calls_few (c ∷ calls) = one_more c.gave (calls_few calls)
  where
    one_more : (gave : Gave) → length (answers_of (turns_of calls)) + failed_of calls ≤ length calls → length (answers_of (turn_in gave ++ turns_of calls)) + (failed_of calls + failed_in gave) ≤ suc (length calls)
    one_more (ran.Event t) few = omega (arith, few, length-append (answers_of (turns_of calls)) (shown t.answer t.taken t.given_up t.answered ∷ []))
    one_more ran.End few = omega (arith, few)
    one_more (ran.Fault f) few = omega (arith, few)

pub few_told : {V : Type 0} (run : Run) (calls : List (Call V)) → Tells run calls → length run.answers.items + run.source_faults ≤ run.turns
few_told run calls told = omega (arith, calls_few calls, ap length told.answers, told.source_faults, told.turns)

-- a run with this many calls
abbrev pub with_turns : Run → ℕ → Run
with_turns run turns = record { turns = turns; answers = run.answers; refused = run.refused; source_faults = run.source_faults; send_faults = run.send_faults }

pub room_left : (refused turn turns : ℕ) (answers : List Answer) → refused ≡ faults_in answers → length answers ≤ turn → turn < turns → turns < 2 ^ 64 → refused < 2 ^ 64 - 1
room_left refused turn turns answers e few lt fits = omega (arith, e, faults_few answers)

pub failed_more : {A F : Type 0} (first old new counted result : ℕ) (given : Result A F) → HasFailed first old counted → new ≡ failed_after given old → result ≡ failed_after given counted → HasFailed first new result
failed_more first old new counted result (Ok a) h e r = record { times = h.times; stream = e ∙ h.stream; count = r ∙ h.count }
failed_more first old new counted result (Err fault) h e r = record { times = suc h.times; stream = e ∙ ap next_count h.stream; count = r ∙ ap next_count h.count }

pub none_failed : (first : ℕ) → HasFailed first first 0
none_failed first = record { times = 0; stream = refl; count = refl }

pub failure_more : (first old new times : ℕ) → new ≡ next_count old → old ≡ failures_after times first → new ≡ failures_after (times + 1) first
failure_more first old new times e h = e ∙ ap next_count h ∙ ap (λ n. failures_after n first) (sym (add-one times))
