-- A station that is opened again, from its disk or after a stop.
use Rattle.std.proofs.Common.{ℕ, zero, suc, ◌≡◌, ◌+◌, Bool, true, false, List, [], ◌∷◌, ◌++◌, length, Option, Some, None, Result, Ok, Err, refl, inl, sym, ◌∙◌, ap, subst, arith}
use Rattle.std.specs.Prelude.{◌&&◌, OnErr, OnOk, nat_lt, slice_get, slice_set}
use Rattle.std.proofs.lemmas.List.{append-nil, set-get_or}
use Rattle.std.proofs.lemmas.Option.{get_or_from_slice_get}
use Rattle.mon_board.specs.Board.{Board, MarksEntries, is_marked, window_of}
use Rattle.mon_board.specs.Instance.{instances_of}
use Rattle.mon_board.specs.Windows.{joined}
use Rattle.std.specs.FinSet as set
use Rattle.mon_disk.specs.declared.disk.Disk.{Ghosts}
use Rattle.mon_disk.specs.declared.fault.KeeperFault.TheVariants as keeper
use Rattle.mon_disk.specs.declared.memory.MemoryDisk.{MemoryDisk}
use Rattle.mon_disk.specs.Disk.{Leaves}
use Rattle.mon_disk.specs.Keeper.{found_body}
use Rattle.mon_disk.specs.Kept.{device_of}
use Rattle.mon_disk.specs.Memory.{memory_first, memory_leaves, memory_octets}
use Rattle.mon_disk.specs.Outcomes.{seen_left}
use Rattle.mon_config.specs.StationCore.{Core}
use Rattle.mon_station.specs.declared.fault.StationFault.{StationFault}
use Rattle.mon_station.specs.declared.fault.StationFault.TheVariants as station
use Rattle.mon_station.specs.declared.station.Station.{Station}
use Rattle.mon_station.specs.Lived.{IsLived, IsReopened, Reopens, in_front, last_state, saved_states}
use Rattle.mon_station.specs.declared.event.Event.TheVariants.{Save}
use Rattle.mon_station.specs.Saved.{FindsState, IsBegun}
use Rattle.mon_station.specs.State.{State, IsHandled, setting_of}
use Rattle.mon_station.specs.Taken.{Entry, Restart, Answered, Origin, Saved, at_place}
use Rattle.mon_station.specs.Verdict.{Setting}
use Rattle.mon_world.specs.declared.fault.WorldFault.{WorldFault}
use Rattle.mon_world.specs.declared.sending.Datagram.{Datagram}
use Rattle.mon_world.specs.declared.sending.Sent.{Sent}
use Rattle.mon_world.specs.Fault.{refusal_in}
use Rattle.mon_world.specs.Moves.{AreLives, MayBegin, MayFind, Move, letters_by, lives_of, sent_in}
use Rattle.mon_world.specs.Outcome.{Does, DoesOr, IsStopOrigin, Opens, StopsAndOpens, answers, calls_of_save, life_begins}
use Rattle.mon_world.specs.Places.{HasNumber, setting_at}
use Rattle.mon_world.specs.Shows.{AreSent, AreShown, FindsOne, FindsStopped, IsReplaced, LeadsTo, Shows, disk_leaves, state_in}
use Rattle.mon_world.proofs.Asked.{earlier_save, finds_as, handled_lived, its_disk, its_state, moved, this_save}
use Rattle.mon_world.proofs.Letters.{own_lives}
use Rattle.mon_world.proofs.Lives.{before, not_some, setting_is, some_same}

-- what a read of a disk in memory gives, a crash may leave
pub seen_is_left : (disk : MemoryDisk) → memory_leaves disk (memory_octets disk)
seen_is_left disk = seen_left (memory_first disk) disk.calls.items disk.octets.items disk.read

-- ---- saved states have the setting of their lives
abbrev HasSetting : Setting → Option State → Type 0
HasSetting w None = Unit {0}
HasSetting w (Some o) = setting_of o ≡ w

saved_setting : (w : Setting) (h : List (Entry × State)) → IsLived h → AreLives w h → (later : ℕ) → HasSetting w (at_place later (saved_states h))
saved_setting w [] lived are zero = tt
saved_setting w [] lived are (suc later) = tt
saved_setting w ((Restart origin v, t) ∷ past) lived are zero = setting_is w ((Restart origin v, t) ∷ past) lived are t refl
saved_setting w ((Restart origin v, t) ∷ past) lived are (suc later) = saved_setting w past lived.1 are.2 later
saved_setting w ((Answered Save answer, t) ∷ past) lived are later =
    let o = before (last_state past) Save answer t lived.0 in
    front (last_state past) o.1 later (setting_is w past lived.1 are.1 o.0 o.1) (saved_setting w past lived.1 are.1)
  where
    front : (old : Option State) → {o : State} → old ≡ Some o → (n : ℕ) → setting_of o ≡ w → ((m : ℕ) → HasSetting w (at_place m (saved_states past))) → HasSetting w (at_place n (in_front old (saved_states past)))
    front None is n same rest = absurd (not_some is)
    front (Some p) is zero same rest = subst (λ (q : State). setting_of q ≡ w) (sym (some_same is)) same
    front (Some p) is (suc n) same rest = rest n
saved_setting w ((Answered e answer, t) ∷ past) lived are later = saved_setting w past lived.1 are.1 later

-- ---- a life begins from what was found
module _ (w : Setting) (lives : List (Entry × State)) (lived : IsLived lives) (are : AreLives w lives) (o : State) (is : last_state lives ≡ Some o) where
  abbrev pub again : (later : ℕ) → Entry
  again later = Restart (Saved later) w

  reopens : (file : List ℕ) (s : State) → IsBegun w (found_body file) s → (one : FindsOne lives file) → IsReopened w one.state s
  reopens file s begun one =
      let same : setting_of one.state ≡ w = subst (HasSetting w) one.there (saved_setting w lives lived are one.later) in
      record {
        instances = λ j. instances_of (sym same j).watch.instances;
        spells = one.finds.spells;
        begun = subst (λ b. IsBegun w b s) one.finds.body.body_is begun;
      }

  begin_lived : (file : List ℕ) (s : State) → IsBegun w (found_body file) s → (one : FindsOne lives file) → IsLived ((again one.later, s) ∷ lives)
  begin_lived file s begun one = (subst (λ (old : Option State). Reopens w old s) (sym one.there) (reopens file s begun one), lived)

  may_begin : (h : List (Entry × State)) → last_state h ≡ Some o → (later : ℕ) → MayFind h later → MayBegin h (Saved later)
  may_begin [] none later may = absurd (not_some none)
  may_begin (x ∷ past) there later may = may

  begin_lives : (later : ℕ) (s : State) → MayFind lives later → AreLives w ((again later, s) ∷ lives)
  begin_lives later s may = (refl, may_begin lives is later may, are)

-- after it, what is found is this life
found_first : (lives : List (Entry × State)) (origin : Origin) (w : Setting) (s : State) (outcomes : List ℕ → Type 0) → Leaves outcomes (FindsState s) → Leaves outcomes (FindsOne ((Restart origin w, s) ∷ lives))
found_first lives origin w s outcomes kept c left = record { later = 0; state = s; may = refl; there = refl; finds = kept c left }

-- ---- a save that met the disk's fault, at a stop
kept_own : (m a : Bool) → (m ≡ true → a ≡ true) → m ≡ ((m && a) && a)
kept_own true a h = sym (h refl) ∙ twice a
  where
    twice : (b : Bool) → b ≡ (b && b)
    twice true = refl
    twice false = refl
kept_own false a h = refl

pub stopped_save : (s : State) → ((i : ℕ) → joined s.board.watch (window_of s.board) [] i ≡ window_of s.board i) → MarksEntries s.board → IsHandled Save (Some (station.Keeper keeper.DiskFault)) s s
stopped_save s whole entries = record {
  lawful = tt;
  after = record {
    setting = refl;
    windows = λ i. sym (whole i);
    polls = refl;
    incarnation = refl;
    serial = refl;
    known = λ y. refl;
    marks = λ k i x. kept_own (is_marked s.board k i x) (set.contains (window_of s.board i) x) (entries k i x);
  };
}

pub stopped_as : (s : State) (b : Board) → b ≡ s.board → ((i : ℕ) → joined b.watch (window_of b) [] i ≡ window_of b i) → MarksEntries b → IsHandled Save (Some (station.Keeper keeper.DiskFault)) s s
stopped_as s b same whole entries = stopped_save s (subst (λ (d : Board). (i : ℕ) → joined d.watch (window_of d) [] i ≡ window_of d i) same whole) (subst MarksEntries same entries)

-- ---- moves
module _ {G : Ghosts MemoryDisk} (core : Core) (stations : List (Station MemoryDisk G)) (past : List Move) (place : ℕ) (old : Station MemoryDisk G) (at : HasNumber stations (place + 1) old) where
  no_letters : (past : List Move) (m : Move) (o : Option State) → last_state (lives_of m.station past) ≡ o → letters_by o m.entry ≡ [] → sent_in (m ∷ past) ≡ sent_in past
  no_letters past m o is none = ap (λ (q : Option State). sent_in past ++ letters_by q m.entry) is ∙ ap (λ l. sent_in past ++ l) none ∙ append-nil (sent_in past)

  -- a station that is opened from what may be found of its lives
  pub opened_from : (was : AreShown core stations past) (file : List ℕ) → (one : FindsOne (lives_of (place + 1) past) file) → (new : List (Station MemoryDisk G)) → IsReplaced core place (found_body file) stations new
      → (sent : List Datagram) → AreSent sent (sent_in past)
      → LeadsTo core new sent (λ now. (s : State) × (now ≡ life_begins (place + 1) (Saved one.later) (setting_at core (length stations) (place + 1)) s ∷ past))
  opened_from was file one new replaced sent letters =
      let lives = lives_of (place + 1) past in
      let w = setting_at core (length stations) (place + 1) in
      let s = state_in replaced.station in
      let state = its_state core stations past was place old replaced.station at in
      let m : Move = life_begins (place + 1) (Saved one.later) w s in
      let shown : AreShown core (slice_set stations place replaced.station) (m ∷ past) =
      moved core stations past was place old replaced.station at (again w lives (was.are.lived (place + 1)) (was.are.lives (place + 1)) (state_in old) state one.later)
      (begin_lived w lives (was.are.lived (place + 1)) (was.are.lives (place + 1)) (state_in old) state file s replaced.begun one)
      (begin_lives w lives (was.are.lived (place + 1)) (was.are.lives (place + 1)) (state_in old) state one.later s one.may)
      (found_first lives (Saved one.later) w s (disk_leaves replaced.station) replaced.kept) in
      record {
        now = m ∷ past;
        shows = record {
          shown = subst (λ (l : List (Station MemoryDisk G)). AreShown core l (m ∷ past)) (sym replaced.is) shown;
          letters = subst (AreSent sent) (sym (no_letters past m (Some (state_in old)) state refl)) letters;
        };
        is = (s, refl);
      }

  pub opened_again : (was : AreShown core stations past) (file : List ℕ) → FindsOne (lives_of (place + 1) past) file → (new : List (Station MemoryDisk G)) → IsReplaced core place (found_body file) stations new
      → (sent : List Datagram) → AreSent sent (sent_in past) → LeadsTo core new sent (λ now. Opens (setting_at core (length stations)) (place + 1) None past now)
  opened_again was file one new replaced sent letters =
      let leads = opened_from was file one new replaced sent letters in
      record { now = leads.now; shows = leads.shows; is = (Saved one.later, leads.is.0, leads.is.1) }

  -- what an opening finds in what a crash leaves of its disk
  pub found_there : (was : AreShown core stations past) (file : List ℕ) → disk_leaves old file → FindsOne (lives_of (place + 1) past) file
  found_there was file left = its_disk core stations past was place old old at file left

  -- the save that was stopped
  abbrev pub disk_fault : StationFault
  disk_fault = station.Keeper keeper.DiskFault

  abbrev pub save_move : Move
  save_move = answers (place + 1) Save (Some disk_fault) (state_in old)

  same_place : slice_set stations place old ≡ stations
  same_place = ap (λ (s : Station MemoryDisk G). slice_set stations place s) (sym (get_or_from_slice_get stations place old old (at_of place old at))) ∙ set-get_or stations place old
    where
      at_of : (n : ℕ) (s : Station MemoryDisk G) → HasNumber stations (n + 1) s → slice_get stations n ≡ Some s
      at_of n s here = let next : n + 1 ≡ suc n = omega arith in subst (λ x. HasNumber stations x s) next here

  pub save_shown : (was : AreShown core stations past) → IsHandled Save (Some disk_fault) (state_in old) (state_in old) → AreShown core stations (save_move ∷ past)
  save_shown was handled =
      let lives = lives_of (place + 1) past in
      subst (λ (l : List (Station MemoryDisk G)). AreShown core l (save_move ∷ past)) same_place
      (moved core stations past was place old old at (Answered Save (Some disk_fault)) (handled_lived core stations past was place old old at Save (Some disk_fault) handled) (tt, was.are.lives (place + 1))
      (λ c left. earlier_save lives (state_in old) (state_in old) (its_state core stations past was place old old at) disk_fault c (its_disk core stations past was place old old at c left)))

  -- what an opening finds after these lives, and from where a life begins that does
  abbrev FindsFrom : (early : Bool) → List ℕ → List (Entry × State) → Type 0
  FindsFrom early file lives = (one : FindsOne lives file) × IsStopOrigin early (lives_of (place + 1) past) (Saved one.later)

  pub found_stopped : (was : AreShown core stations past) (early : Bool) (file : List ℕ) → FindsStopped early (state_in old) (memory_octets (device_of old.keeper)) file → FindsFrom early file (lives_of (place + 1) (save_move ∷ past))
  unfolding this_save earlier_save
  found_stopped was true file found =
      let lives = lives_of (place + 1) past in
      let seen = memory_octets (device_of old.keeper) in
      let before = finds_as lives file seen found (found_there was seen (inl (seen_is_left (device_of old.keeper)))) in
      subst (FindsFrom true file) (sym (own_lives save_move past)) (earlier_save lives (state_in old) (state_in old) (its_state core stations past was place old old at) disk_fault file before, before.may)
  found_stopped was false file found =
      let lives = lives_of (place + 1) past in
      subst (FindsFrom false file) (sym (own_lives save_move past)) (this_save lives (state_in old) (state_in old) (its_state core stations past was place old old at) (Some disk_fault) refl file found, tt)

  pub save_letters : (was : AreShown core stations past) → sent_in (save_move ∷ past) ≡ sent_in past
  save_letters was = no_letters past save_move (Some (state_in old)) (its_state core stations past was place old old at) refl

-- a station that is opened after a stop
pub opened_stopped : {G : Ghosts MemoryDisk} (core : Core) (stations : List (Station MemoryDisk G)) (past : List Move) (place : ℕ) (old : Station MemoryDisk G) (at : HasNumber stations (place + 1) old)
    → AreShown core stations past → IsHandled Save (Some (station.Keeper keeper.DiskFault)) (state_in old) (state_in old) → (calls : ℕ) (keep : Bool) (file : List ℕ)
    → FindsStopped (nat_lt calls (calls_of_save keep)) (state_in old) (memory_octets (device_of old.keeper)) file
    → (new : List (Station MemoryDisk G)) → IsReplaced core place (found_body file) stations new → (sent : List Datagram) → AreSent sent (sent_in past)
    → LeadsTo core new sent (λ now. StopsAndOpens (setting_at core (length stations)) (place + 1) calls keep None past now)
opened_stopped core stations past place old at was handled calls keep file found new replaced sent letters =
    let from = found_stopped core stations past place old at was (nat_lt calls (calls_of_save keep)) file found in
    let leads = opened_from core stations (save_move core stations past place old at ∷ past) place old at (save_shown core stations past place old at was handled) file
    from.0 new replaced sent (subst (AreSent sent) (sym (save_letters core stations past place old at was)) letters) in
    record { now = leads.now; shows = leads.shows; is = record { running = state_in old; origin = Saved from.0.later; after = leads.is.0; is = leads.is.1; from = from.1 } }

-- ---- calls that open again
module _ {G : Ghosts MemoryDisk} (core : Core) (stations new : List (Station MemoryDisk G)) (past : List Move) (place : ℕ) (sent : List Datagram) (was : Shows core stations sent past) where
  stays : (makes : Option StationFault → List Move → List Move → Type 0) → ((f : StationFault) → makes (Some f) past past) → (o : Option StationFault) → new ≡ stations → LeadsTo core new sent (λ now. DoesOr makes o past now)
  stays makes still o same = record { now = past; shows = subst (λ (l : List (Station MemoryDisk G)). Shows core l sent past) (sym same) was; is = by o }
    where
      by : (q : Option StationFault) → DoesOr makes q past past
      by None = refl
      by (Some f) = still f

  pub restart_leads : (number : ℕ) → number ≡ place + 1 → (old : Station MemoryDisk G) → HasNumber stations (place + 1) old → (file : List ℕ) → disk_leaves old file
      → (result : Result Sent WorldFault) → OnOk result (IsReplaced core place (found_body file) stations new) → OnErr result (new ≡ stations)
      → LeadsTo core new sent (λ now. Does (Opens (setting_at core (length stations)) number) result past now)
  restart_leads number same old at file left result opened kept = subst (λ x. LeadsTo core new sent (λ now. Does (Opens (setting_at core (length stations)) x) result past now)) (sym same) (by result opened kept)
    where
      by : (r : Result Sent WorldFault) → OnOk r (IsReplaced core place (found_body file) stations new) → OnErr r (new ≡ stations) → LeadsTo core new sent (λ now. Does (Opens (setting_at core (length stations)) (place + 1)) r past now)
      by (Ok s) rep k = opened_again core stations past place old at was.shown file (found_there core stations past place old at was.shown file left) new rep sent was.letters
      by (Err f) rep k = stays (Opens (setting_at core (length stations)) (place + 1)) (λ g. refl) (refusal_in f) k

  pub stop_leads : (number : ℕ) → number ≡ place + 1 → (old : Station MemoryDisk G) → HasNumber stations (place + 1) old → IsHandled Save (Some (station.Keeper keeper.DiskFault)) (state_in old) (state_in old)
      → (calls : ℕ) (keep : Bool) (file : List ℕ) → FindsStopped (nat_lt calls (calls_of_save keep)) (state_in old) (memory_octets (device_of old.keeper)) file
      → (result : Result Sent WorldFault) → OnOk result (IsReplaced core place (found_body file) stations new) → OnErr result (new ≡ stations)
      → LeadsTo core new sent (λ now. Does (StopsAndOpens (setting_at core (length stations)) number calls keep) result past now)
  stop_leads number same old at handled calls keep file found result opened kept =
      subst (λ x. LeadsTo core new sent (λ now. Does (StopsAndOpens (setting_at core (length stations)) x calls keep) result past now)) (sym same) (by result opened kept)
    where
      by : (r : Result Sent WorldFault) → OnOk r (IsReplaced core place (found_body file) stations new) → OnErr r (new ≡ stations) → LeadsTo core new sent (λ now. Does (StopsAndOpens (setting_at core (length stations)) (place + 1) calls keep) r past now)
      by (Ok s) rep k = opened_stopped core stations past place old at was.shown handled calls keep file found new rep sent was.letters
      by (Err f) rep k = stays (StopsAndOpens (setting_at core (length stations)) (place + 1) calls keep) (λ g. refl) (refusal_in f) k

-- what a copy of a disk reads, a crash may leave of the disk
pub left_of_copy : (device disk copy : MemoryDisk) → disk ≡ device → memory_octets copy ≡ memory_octets disk → memory_leaves device (memory_octets copy)
left_of_copy device disk copy same octets = subst (memory_leaves device) (sym (octets ∙ ap memory_octets same)) (seen_is_left device)
