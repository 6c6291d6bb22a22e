-- What the clauses of a station's step say, as a move of its world.
use Rattle.std.proofs.Common.{ℕ, suc, ◌≡◌, ◌+◌, ◌⊎◌, inl, inr, List, [], ◌∷◌, length, map, Option, Some, None, Result, Ok, Err, refl, sym, ◌∙◌, ap, subst}
use Rattle.std.specs.Prelude.{◌==◌, slice_set}
use Rattle.std.specs.List.{AllByRecursion}
use Rattle.std.proofs.lemmas.Bool.{eqb-true, ne_eqb, cases_Bool}
use Rattle.std.proofs.lemmas.List.{length-set}
use Rattle.mon_board.specs.Watch.{Watch}
use Rattle.mon_disk.specs.declared.disk.Disk.{Ghosts}
use Rattle.mon_disk.specs.declared.fault.KeeperFault.TheVariants as keeper
use Rattle.mon_disk.specs.declared.keeper.Keeper.{Keeper}
use Rattle.mon_disk.specs.declared.memory.MemoryDisk.{MemoryDisk}
use Rattle.mon_disk.specs.Disk.{Leaves, LeavesSince}
use Rattle.mon_disk.specs.Keeper.{FindsBody, IsAs}
use Rattle.mon_disk.specs.Kept.{device_of, last_body}
use Rattle.mon_disk.specs.Memory.{memory_first, memory_leaves}
use Rattle.mon_disk.specs.Outcomes.{counts}
use Rattle.mon_disk.specs.Record.{leaves_since}
use Rattle.mon_exchange.specs.declared.claim.Claim.{Claim}
use Rattle.mon_exchange.specs.Claim.{IsClaim, claim_octets}
use Rattle.mon_poller.specs.declared.poller.TimedOut.{TimedOut}
use Rattle.mon_poller.specs.declared.poller.TimedOut.TheVariants.{Again, GivenUp, NotOpen}
use Rattle.mon_poller.specs.Verdict.{timeout_verdict}
use Rattle.mon_config.specs.StationCore.{Core}
use Rattle.mon_station.specs.declared.event.Told.{Told}
use Rattle.mon_station.specs.declared.fault.StationFault.{StationFault}
use Rattle.mon_station.specs.declared.fault.StationFault.TheVariants as station
use Rattle.mon_station.specs.declared.station.Station.{Station}
use Rattle.mon_station.specs.Lived.{IsLived, HandledIn, last_state, saved_states}
use Rattle.mon_station.specs.ReadEvent.{ReadEvent, ReadsAs, SaysAs, Said, owned, OwnedEvent, LentEvent}
use Rattle.mon_station.specs.declared.event.Event.TheVariants.{StartPoll, Timeout, FromAgent, FromPeer, Share, Save}
use Rattle.mon_station.specs.Saved.{FindsRunning, FindsState, IsSavedAs, OrLast}
use Rattle.mon_station.specs.State.{State, IsHandled}
use Rattle.mon_station.specs.Taken.{Entry, Answered, at_place}
use Rattle.mon_station.specs.Told.{IsTold, claims_sent, resends, sends, to_peer}
use Rattle.mon_station.specs.Verdict.{Setting}
use Rattle.mon_world.specs.Fault.{refusal_in, station_refusal}
use Rattle.mon_world.specs.Moves.{AreLives, AreMoves, IsNumberedIn, MayFind, Move, addressee, letter, letters_by, lives_of}
use Rattle.mon_world.specs.Outcome.{answers}
use Rattle.mon_world.specs.Places.{HasNumber, setting_at}
use Rattle.mon_world.specs.Sending.{to_peers}
use Rattle.mon_world.specs.Shows.{AreSent, AreShown, FindsOne, IsStationAsked, IsStationRefused, Parcel, Stands, disk_leaves, parcel_of, parcel_with, state_in}
use Rattle.mon_world.proofs.Letters.{claims_to, other_lives, own_lives}
use Rattle.mon_world.proofs.Lives.{not_some, setting_is}
use Rattle.mon_world.proofs.Stations.{number_set}

-- ---- what a station sends
peers_of : (y : ℕ) (cs : List Claim) → map parcel_of (to_peers (map (to_peer y) cs)) ≡ map parcel_with (map (letter y) cs)
peers_of y [] = refl
peers_of y (c ∷ cs) = ap (λ (l : List Parcel). (y, claim_octets c) ∷ l) (peers_of y cs)

no_resends : (verdict : TimedOut) → to_peers (resends verdict) ≡ []
no_resends (Again target octets) = refl
no_resends (GivenUp target) = refl
no_resends NotOpen = refl

sends_are : (s : State) (e : ReadEvent) → map parcel_of (to_peers (sends s e)) ≡ map parcel_with (map (letter (addressee e)) (claims_sent s e))
sends_are s (StartPoll target) = refl
sends_are s (Timeout id) = ap (map parcel_of) (no_resends (timeout_verdict s.poller.targets s.poller.polls id))
sends_are s (FromAgent from read) = refl
sends_are s (FromPeer (Err f)) = refl
sends_are s (FromPeer (Ok said)) = peers_of said.claim.station (claims_sent s (FromPeer (Ok said)))
sends_are s (Share y) = peers_of y (claims_sent s (Share y))
sends_are s Save = refl

pub sent_told : (s : State) (e : ReadEvent) (told : Told) → IsTold s e told → AreSent (to_peers told.sends.items) (letters_by (Some s) (Answered e None))
sent_told s e told is = record {
  parcels = ap (λ outs. map parcel_of (to_peers outs)) is.sent ∙ sends_are s e;
  claims = subst (AllByRecursion IsClaim) (sym (claims_to (addressee e) (claims_sent s e))) is.claims;
}

-- ---- how an event reads
pub numbered : (watch : Watch) (event : OwnedEvent) (e : ReadEvent) → ReadsAs watch event e → IsNumberedIn watch e
numbered watch (StartPoll target) e is = subst (IsNumberedIn watch) (sym is) tt
numbered watch (Timeout id) e is = subst (IsNumberedIn watch) (sym is) tt
numbered watch (FromAgent from octets) e is = subst (IsNumberedIn watch) (sym is.2) tt
numbered watch (FromPeer octets) e is = subst (IsNumberedIn watch) (sym is.2) (at is.0 is.1)
  where
    at : (said : Result Said _) → SaysAs watch octets said → IsNumberedIn watch (FromPeer said)
    at (Ok said) says = says.1
    at (Err f) says = tt
numbered watch (Share y) e is = subst (IsNumberedIn watch) (sym is) tt
numbered watch Save e is = subst (IsNumberedIn watch) (sym is) tt

-- ---- what an opening finds after an event
pub torn : (old new : MemoryDisk) (P : List ℕ → Type 0) → LeavesSince (λ m. length m.calls.items) (λ m. leaves_since (memory_first m) m.calls.items) old new P → Leaves (memory_leaves new) P
torn old new P since c left = since.each c (counts (memory_first new) new.calls.items (length old.calls.items) c since.later left)

pub finds_as : (lives : List (Entry × State)) (c old : List ℕ) → IsAs c old → FindsOne lives old → FindsOne lives c
finds_as lives c old same one = record {
  later = one.later;
  state = one.state;
  may = one.may;
  there = one.there;
  finds = record { body = record { undamaged = same.undamaged ∙ one.finds.body.undamaged; body_is = same.body_is ∙ one.finds.body.body_is }; spells = one.finds.spells };
}

pub finds_running : (lives : List (Entry × State)) (s : State) (outcomes : List ℕ → Type 0) → Leaves outcomes (FindsOne lives) → (c : List ℕ) → FindsRunning outcomes s c → FindsOne lives c ⊎ FindsState s c
finds_running lives s outcomes were c (inl as_old) = inl (finds_as lives c as_old.0 as_old.2 (were as_old.0 as_old.1))
finds_running lives s outcomes were c (inr here) = inr here

-- files in which this state is found, also those in which the keeper's last save is, if that is
-- this state
pub saved_or_last : (outcomes : List ℕ → Type 0) (last : Option (List ℕ)) (s : State) → Leaves outcomes (FindsState s) → IsSavedAs s last → Leaves (OrLast outcomes last) (FindsState s)
saved_or_last outcomes last s found is c (inl left) = found c left
saved_or_last outcomes last s found is c (inr finds) = record { body = subst (λ (b : Option (List ℕ)). FindsBody b c) is.octets finds; spells = is.spells }

-- a file in which the keeper's last save is found, as it was before
running_or_last : (lives : List (Entry × State)) (s : State) (left outcomes : List ℕ → Type 0) (before now : Option (List ℕ)) → now ≡ before → Leaves (OrLast outcomes before) (FindsOne lives)
    → Leaves left (FindsRunning (OrLast outcomes before) s) → (c : List ℕ) → OrLast left now c → FindsOne lives c ⊎ FindsState s c
running_or_last lives s left outcomes before now same were since c (inl here) = finds_running lives s (OrLast outcomes before) were c (since c here)
running_or_last lives s left outcomes before now same were since c (inr finds) = inl (were c (inr (subst (λ (b : Option (List ℕ)). FindsBody b c) same finds)))

-- an event that is no save
still : (lives : List (Entry × State)) (e : ReadEvent) (answer : Option StationFault) (s : State) (c : List ℕ) → (MayFind ((Answered e answer, s) ∷ lives) ≡ MayFind lives) → (saved_states ((Answered e answer, s) ∷ lives) ≡ saved_states lives)
    → FindsOne lives c → FindsOne ((Answered e answer, s) ∷ lives) c
still lives e answer s c same saved one = record {
  later = one.later;
  state = one.state;
  may = subst (λ (P : ℕ → Type 0). P one.later) (sym same) one.may;
  there = ap (λ l. at_place one.later l) saved ∙ one.there;
  finds = one.finds;
}

module _ (lives : List (Entry × State)) (o s : State) (is : last_state lives ≡ Some o) where
  -- the save that was answered, or that met the disk's fault
  unfoldable pub this_save : (answer : Option StationFault) → MayFind ((Answered Save answer, s) ∷ lives) 0 → (c : List ℕ) → FindsState o c → FindsOne ((Answered Save answer, s) ∷ lives) c
  this_save answer may c finds = record { later = 0; state = o; may = may; there = front (last_state lives) is; finds = finds }
    where
      front : (old : Option State) → old ≡ Some o → at_place 0 (Rattle.mon_station.specs.Lived.in_front old (saved_states lives)) ≡ Some o
      front None e = absurd (not_some e)
      front (Some p) e = e

  -- an earlier one
  unfoldable pub earlier_save : (f : StationFault) (c : List ℕ) → FindsOne lives c → FindsOne ((Answered Save (Some f), s) ∷ lives) c
  earlier_save f c one = record { later = suc one.later; state = one.state; may = one.may; there = front (last_state lives) is; finds = one.finds }
    where
      front : (old : Option State) → old ≡ Some o → at_place (suc one.later) (Rattle.mon_station.specs.Lived.in_front old (saved_states lives)) ≡ Some one.state
      front None e = absurd (not_some e)
      front (Some p) e = one.there

pub is_disk_fault : (f : StationFault) → (f ≡ station.Keeper keeper.DiskFault) ⊎ (f ≡ station.Keeper keeper.DiskFault → ⊥)
is_disk_fault station.OutOfMemory = inr (λ e. cc)
is_disk_fault (station.Poll f) = inr (λ e. cc)
is_disk_fault (station.Response f) = inr (λ e. cc)
is_disk_fault (station.Exchange f) = inr (λ e. cc)
is_disk_fault (station.Keeper keeper.OutOfMemory) = inr (λ e. cc)
is_disk_fault (station.Keeper keeper.DiskFault) = inl refl
is_disk_fault (station.Keeper keeper.NoMoreGenerations) = inr (λ e. cc)
is_disk_fault (station.Keeper keeper.TooLarge) = inr (λ e. cc)
is_disk_fault (station.Keeper keeper.Damaged) = inr (λ e. cc)
is_disk_fault (station.Keeper keeper.Reopen) = inr (λ e. cc)
is_disk_fault (station.Image f) = inr (λ e. cc)
is_disk_fault station.NoMoreIncarnations = inr (λ e. cc)

module _ {G : Ghosts MemoryDisk} (old new : Station MemoryDisk G) (watch : Watch) (lives : List (Entry × State)) (is : last_state lives ≡ Some (state_in old)) (were : Leaves (disk_leaves old) (FindsOne lives))
    (event : LentEvent) (disk : (event ≡ Save → ⊥) → new.keeper ≡ old.keeper) where
  same_left : new.keeper ≡ old.keeper → (c : List ℕ) → disk_leaves new c → FindsOne lives c
  same_left same c left = were c (subst (λ (k : Keeper MemoryDisk G). OrLast (memory_leaves (device_of k)) (last_body k) c) same left)

  -- what an opening finds after an event with this answer
  pub finds_next : (e : ReadEvent) → ReadsAs watch (owned event) e → (answer : Option StationFault) → (event ≡ Save → Leaves (disk_leaves new) (FindsOne ((Answered Save answer, state_in new) ∷ lives)))
      → Leaves (disk_leaves new) (FindsOne ((Answered e answer, state_in new) ∷ lives))
  finds_next e reads answer save = by event reads disk save
    where
      by : (h : LentEvent) → ReadsAs watch (owned h) e → ((h ≡ Save → ⊥) → new.keeper ≡ old.keeper) → (h ≡ Save → Leaves (disk_leaves new) (FindsOne ((Answered Save answer, state_in new) ∷ lives)))
          → Leaves (disk_leaves new) (FindsOne ((Answered e answer, state_in new) ∷ lives))
      by (StartPoll target) r d v c left = subst (λ f. FindsOne ((Answered f answer, state_in new) ∷ lives) c) (sym r) (still lives (StartPoll target) answer (state_in new) c refl refl (same_left (d (λ q. cc)) c left))
      by (Timeout id) r d v c left = subst (λ f. FindsOne ((Answered f answer, state_in new) ∷ lives) c) (sym r) (still lives (Timeout id) answer (state_in new) c refl refl (same_left (d (λ q. cc)) c left))
      by (FromAgent from octets) r d v c left = subst (λ f. FindsOne ((Answered f answer, state_in new) ∷ lives) c) (sym r.2) (still lives (FromAgent from r.0) answer (state_in new) c refl refl (same_left (d (λ q. cc)) c left))
      by (FromPeer octets) r d v c left = subst (λ f. FindsOne ((Answered f answer, state_in new) ∷ lives) c) (sym r.2) (still lives (FromPeer r.0) answer (state_in new) c refl refl (same_left (d (λ q. cc)) c left))
      by (Share y) r d v c left = subst (λ f. FindsOne ((Answered f answer, state_in new) ∷ lives) c) (sym r) (still lives (Share y) answer (state_in new) c refl refl (same_left (d (λ q. cc)) c left))
      by Save r d v c left = subst (λ f. FindsOne ((Answered f answer, state_in new) ∷ lives) c) (sym r) (v refl c left)

  pub saved_well : (event ≡ Save → Leaves (memory_leaves (device_of new.keeper)) (FindsState (state_in old))) → (event ≡ Save → IsSavedAs (state_in old) (last_body new.keeper)) → event ≡ Save
      → Leaves (disk_leaves new) (FindsOne ((Answered Save None, state_in new) ∷ lives))
  saved_well saved last save c left =
      this_save lives (state_in old) (state_in new) is None refl c (saved_or_last (memory_leaves (device_of new.keeper)) (last_body new.keeper) (state_in old) (saved save) (last save) c left)

  pub saved_badly : (f : StationFault) → ((f ≡ station.Keeper keeper.DiskFault → ⊥) → new.keeper ≡ old.keeper) → last_body new.keeper ≡ last_body old.keeper
      → Leaves (memory_leaves (device_of new.keeper)) (FindsRunning (disk_leaves old) (state_in old)) → Leaves (disk_leaves new) (FindsOne ((Answered Save (Some f), state_in new) ∷ lives))
  saved_badly f unsaved last since c left = elim (is_disk_fault f) [
    | inl disk_fault ↦ elim (running_or_last lives (state_in old) (memory_leaves (device_of new.keeper)) (memory_leaves (device_of old.keeper)) (last_body old.keeper) (last_body new.keeper) last were since c left) [
      | inl before ↦ earlier_save lives (state_in old) (state_in new) is f c before
      | inr here ↦ this_save lives (state_in old) (state_in new) is (Some f) disk_fault c here
    ]
    | inr other ↦ earlier_save lives (state_in old) (state_in new) is f c (same_left (unsaved other) c left)
  ]

-- ---- a move of a station
module _ {G : Ghosts MemoryDisk} (core : Core) (stations : List (Station MemoryDisk G)) (past : List Move) (was : AreShown core stations past) (place : ℕ) (old new : Station MemoryDisk G)
    (at : HasNumber stations (place + 1) old) where
  abbrev its_lives : List (Entry × State)
  its_lives = lives_of (place + 1) past

  pub its_state : last_state its_lives ≡ Some (state_in old)
  its_state = (was.stand (place + 1) old at).state

  pub its_disk : Leaves (disk_leaves old) (FindsOne its_lives)
  its_disk = (was.stand (place + 1) old at).disk

  pub its_watch : (state_in old).board.watch ≡ core.watch
  its_watch = ap (λ (w : Setting). w.watch) (setting_is (setting_at core (length stations) (place + 1)) its_lives (was.are.lived (place + 1)) (was.are.lives (place + 1)) (state_in old) its_state)

  same_count : length (slice_set stations place new) ≡ length stations
  same_count = length-set stations place new

  module _ (entry : Entry) where
    abbrev pub move : Move
    move = record { station = place + 1; entry = entry; after = state_in new }

    own_lived : IsLived ((entry, state_in new) ∷ its_lives) → (x : ℕ) → IsLived (lives_of x (move ∷ past))
    own_lived lived x = elim (cases_Bool (place + 1 == x)) [
      | inl is ↦ subst (λ y. IsLived (lives_of y (move ∷ past))) (eqb-true (place + 1) x is) (subst IsLived (sym (own_lives move past)) lived)
      | inr not ↦ subst IsLived (sym (other_lives x move past not)) (was.are.lived x)
    ]

    own_setting : AreLives (setting_at core (length stations) (place + 1)) ((entry, state_in new) ∷ its_lives) → (x : ℕ) → AreLives (setting_at core (length stations) x) (lives_of x (move ∷ past))
    own_setting lives x = elim (cases_Bool (place + 1 == x)) [
      | inl is ↦ subst (λ y. AreLives (setting_at core (length stations) y) (lives_of y (move ∷ past))) (eqb-true (place + 1) x is)
          (subst (AreLives (setting_at core (length stations) (place + 1))) (sym (own_lives move past)) lives)
      | inr not ↦ subst (AreLives (setting_at core (length stations) x)) (sym (other_lives x move past not)) (was.are.lives x)
    ]

    new_stand : Leaves (disk_leaves new) (FindsOne ((entry, state_in new) ∷ its_lives)) → (x : ℕ) (t : Station MemoryDisk G) → HasNumber (slice_set stations place new) x t → Stands t (lives_of x (move ∷ past))
    new_stand finds x t here = elim (number_set stations place x new t here) [
      | inl same ↦ subst (λ y. Stands t (lives_of y (move ∷ past))) (sym same.0) (subst (λ (u : Station MemoryDisk G). Stands u (lives_of (place + 1) (move ∷ past))) (sym same.1)
          (subst (Stands new) (sym (own_lives move past)) (record { state = refl; disk = finds })))
      | inr other ↦ subst (Stands t) (sym (other_lives x move past (ne_eqb (place + 1) x (λ e. other.0 (sym e))))) (was.stand x t other.1)
    ]

    -- the new station took the place of the old one, with this move
    pub moved : IsLived ((entry, state_in new) ∷ its_lives) → AreLives (setting_at core (length stations) (place + 1)) ((entry, state_in new) ∷ its_lives)
        → Leaves (disk_leaves new) (FindsOne ((entry, state_in new) ∷ its_lives)) → AreShown core (slice_set stations place new) (move ∷ past)
    moved lived lives finds = record {
      are = subst (λ n. AreMoves (setting_at core n) (move ∷ past)) (sym same_count) (record { lived = own_lived lived; lives = own_setting lives });
      stand = new_stand finds;
    }

  -- the new station is as the old one, and so is its disk
  pub unmoved : state_in new ≡ state_in old → new.keeper ≡ old.keeper → AreShown core (slice_set stations place new) past
  unmoved same keeper = record { are = subst (λ n. AreMoves (setting_at core n) past) (sym same_count) was.are; stand = stand }
    where
      stand : (x : ℕ) (t : Station MemoryDisk G) → HasNumber (slice_set stations place new) x t → Stands t (lives_of x past)
      stand x t here = elim (number_set stations place x new t here) [
        | inl is ↦ subst (λ y. Stands t (lives_of y past)) (sym is.0) (subst (λ (u : Station MemoryDisk G). Stands u its_lives) (sym is.1) (record {
          state = its_state ∙ ap (λ (q : State). Some q) (sym same);
          disk = λ c left. its_disk c (subst (λ (k : Keeper MemoryDisk G). OrLast (memory_leaves (device_of k)) (last_body k) c) keeper left);
        }))
        | inr other ↦ was.stand x t other.1
      ]

  -- ---- an event that was handled, or refused
  pub handled_lived : (e : ReadEvent) (answer : Option StationFault) → IsHandled e answer (state_in old) (state_in new) → IsLived ((Answered e answer, state_in new) ∷ its_lives)
  handled_lived e answer handled = (subst (λ (o : Option State). HandledIn o e answer (state_in new)) (sym its_state) handled, was.are.lived (place + 1))

  module _ (event : LentEvent) (e : ReadEvent) (reads : ReadsAs (state_in old).board.watch (owned event) e) (disk : (event ≡ Save → ⊥) → new.keeper ≡ old.keeper) where
    reads_as : ReadsAs core.watch (owned event) e
    reads_as = subst (λ w. ReadsAs w (owned event) e) its_watch reads

    shown_after : (answer : Option StationFault) → IsHandled e answer (state_in old) (state_in new) → (event ≡ Save → Leaves (disk_leaves new) (FindsOne ((Answered Save answer, state_in new) ∷ its_lives)))
        → AreShown core (slice_set stations place new) (answers (place + 1) e answer (state_in new) ∷ past)
    shown_after answer handled save = moved (Answered e answer) (handled_lived e answer handled) (numbered core.watch (owned event) e reads_as, was.are.lives (place + 1))
        (finds_next old new core.watch its_lives its_state its_disk event disk e reads_as answer save)

    pub asked_ok : (told : Told) → IsHandled e None (state_in old) (state_in new) → IsTold (state_in old) e told
        → (event ≡ Save → Leaves (memory_leaves (device_of new.keeper)) (FindsState (state_in old))) → (event ≡ Save → IsSavedAs (state_in old) (last_body new.keeper))
        → IsStationAsked core (place + 1) (owned event) None (to_peers told.sends.items) past (slice_set stations place new)
    asked_ok told handled is_told saved last = record {
      read = e;
      after = state_in new;
      reads = reads_as;
      shown = shown_after None handled (saved_well old new core.watch its_lives its_state its_disk event disk saved last);
      letters = subst (λ o. AreSent (to_peers told.sends.items) (letters_by o (Answered e None))) (sym its_state) (sent_told (state_in old) e told is_told);
    }

    pub asked_err : (f : StationFault) → IsHandled e (Some f) (state_in old) (state_in new) → ((f ≡ station.Keeper keeper.DiskFault → ⊥) → new.keeper ≡ old.keeper)
        → last_body new.keeper ≡ last_body old.keeper → Leaves (memory_leaves (device_of new.keeper)) (FindsRunning (disk_leaves old) (state_in old)) → IsStationAsked core (place + 1) (owned event) (Some f) [] past (slice_set stations place new)
    asked_err f handled unsaved last since = record {
      read = e;
      after = state_in new;
      reads = reads_as;
      shown = shown_after (Some f) handled (λ _. saved_badly old new core.watch its_lives its_state its_disk event disk f unsaved last since);
      letters = subst (λ o. AreSent [] (letters_by o (Answered e (Some f)))) (sym its_state) (record { parcels = refl; claims = tt });
    }

  -- what a refusal of the station is to the world
  pub refused_as : (event : LentEvent) (f : StationFault) → (f ≡ station.OutOfMemory → AreShown core (slice_set stations place new) past)
      → ((f ≡ station.OutOfMemory → ⊥) → IsStationAsked core (place + 1) (owned event) (Some f) [] past (slice_set stations place new))
      → IsStationRefused core (place + 1) (owned event) (refusal_in (station_refusal f)) past (slice_set stations place new)
  refused_as event station.OutOfMemory memory other = memory refl
  refused_as event (station.Poll f) memory other = other (λ e. cc)
  refused_as event (station.Response f) memory other = other (λ e. cc)
  refused_as event (station.Exchange f) memory other = other (λ e. cc)
  refused_as event (station.Keeper f) memory other = other (λ e. cc)
  refused_as event (station.Image f) memory other = other (λ e. cc)
  refused_as event station.NoMoreIncarnations memory other = other (λ e. cc)
