-- A station's marks say what the claims that it accepted in its present life have said.
use Rattle.std.proofs.Common.{ℕ, ◌≡◌, ◌∙◌, inl, inr, Bool, true, false, List, [], ◌∷◌, ◌++◌, Option, Some, None, Ok, refl, sym, ap, subst}
use Rattle.std.specs.Prelude.{◌==◌, ◌≢◌, ◌&&◌, if◌then◌else◌}
use Rattle.std.specs.FinSet as set
use Rattle.std.specs.Ordering.{nat_cmp}
use Rattle.std.proofs.lemmas.Bool.{cases_Bool, eq-eqb, eqb-true, ne_eqb}
use Rattle.std.proofs.lemmas.List.Quantifiers.{position-Some}
use Rattle.mon_window.specs.Window.{Samples, In}
use Rattle.mon_window.proofs.Promised.{from_list-append, in_left, in_right}
use Rattle.mon_board.specs.Board.{is_marked, window_of}
use Rattle.mon_board.specs.Owed.{kept_marks}
use Rattle.mon_board.specs.Windows.{Has, IsPartOf, joined, paired, samples_of, set_of, window, kept_by}
use Rattle.mon_board.proofs.Promised.{kept_none}
use Rattle.mon_board.specs.Watch.{Watch}
use Rattle.mon_exchange.specs.declared.noted.Noted.{Noted}
use Rattle.mon_exchange.specs.Debts.{Heard, TellsDebts, WereTaken, said_of}
use Rattle.mon_exchange.specs.Peers.{is_claimed, latest, marked_by, noted_as}
use Rattle.mon_saved.specs.Restored.{saved_pairs}
use Rattle.mon_station.specs.declared.fault.StationFault.{StationFault}
use Rattle.mon_station.specs.Lived.{BeginsFrom, IsLived, Reopens, last_state, saved_states}
use Rattle.mon_station.specs.ReadEvent.{ReadEvent, Said}
use Rattle.mon_station.specs.declared.event.Event.TheVariants.{FromPeer}
use Rattle.mon_station.specs.Saved.{IsBegun, saved_octets}
use Rattle.mon_station.specs.State.{State, IsAfter, IsHandled, known_after, known_of, marks_after, marks_by, setting_of}
use Rattle.mon_station.specs.Taken.{Entry, Restart, Answered, Origin, Nothing, Saved, Other, at_place}
use Rattle.mon_station.specs.Verdict.{Setting, added, claim_fault, slot_of}
use Rattle.mon_world.specs.Debts.{heard_of_claim, heard_by, heard_in}
use Rattle.mon_world.specs.Moves.{AreLives}
use Rattle.mon_world.proofs.Lives.{before, not_some, setting_is, some_same}
use Rattle.mon_world.proofs.Offers.{all_map, has_paired}

-- ---- pairs
samples_append : (i : ℕ) (xs ys : List (ℕ × ℕ)) → samples_of i (xs ++ ys) ≡ samples_of i xs ++ samples_of i ys
samples_append i [] ys = refl
samples_append i (x ∷ xs) ys = elim (cases_Bool (x.0 == i)) [
  | inl is ↦ rw is (ap (λ (l : List ℕ). x.1 ∷ l) (samples_append i xs ys))
  | inr not ↦ rw not (samples_append i xs ys)
]

pub set_append : (i : ℕ) (xs ys : List (ℕ × ℕ)) → set_of i (xs ++ ys) ≡ set.union (set_of i xs) (set_of i ys)
set_append i xs ys = ap (λ (l : List ℕ). set.from_list {R = nat_cmp} l) (samples_append i xs ys) ∙ from_list-append (samples_of i xs) (samples_of i ys)

pub part_left : (xs ys : List (ℕ × ℕ)) → IsPartOf xs (xs ++ ys)
part_left xs ys i k h = subst (λ (a : Samples). In k a) (sym (set_append i xs ys)) (in_left k (set_of i xs) (set_of i ys) h)

pub part_right : (xs ys : List (ℕ × ℕ)) → IsPartOf ys (xs ++ ys)
part_right xs ys i k h = subst (λ (a : Samples). In k a) (sym (set_append i xs ys)) (in_right k (set_of i xs) (set_of i ys) h)

-- ---- slots
-- stations with one slot are one
one_slot : (peers : List ℕ) (y z slot : ℕ) → slot_of peers y ≡ Some slot → slot_of peers z ≡ Some slot → y ≡ z
one_slot peers y z slot is as_well =
    sym (eqb-true _ y (position-Some (λ n. n == y) peers slot 0 is).1) ∙ eqb-true _ z (position-Some (λ n. n == z) peers slot 0 as_well).1

-- an accepted claim is of a peer and of a watched instance
slot_there : (slot number : Option ℕ) → claim_fault slot number ≡ None → (k : ℕ) × (n : ℕ) × (slot ≡ Some k) × (number ≡ Some n)
slot_there None number h = absurd (cc)
slot_there (Some k) None h = absurd (cc)
slot_there (Some k) (Some n) h = (k, n, refl, refl)

module _ (taking : (watch : Watch) (y : ℕ) (old new : List (ℕ × ℕ)) (claims : List Heard) (known : Option ℕ) (marked : ℕ → ℕ → Bool) → IsPartOf old new → WereTaken old claims
    → TellsDebts y (window watch old) claims known marked → TellsDebts y (window watch new) claims known (kept_marks (window watch old) (window watch new) marked))
    (noting_own : (y : ℕ) (windows : ℕ → Samples) (claims : List Heard) (known : Option ℕ) (marked : ℕ → ℕ → Bool) (c : Heard) → c.station ≡ y → TellsDebts y windows claims known marked
    → TellsDebts y windows (c ∷ claims) (Some (latest known c.incarnation)) (λ i s. marked_by (noted_as known c.incarnation) (is_claimed c.instance c.samples windows i s) (marked i s)))
    (noting_other : (y : ℕ) (windows : ℕ → Samples) (claims : List Heard) (known : Option ℕ) (marked : ℕ → ℕ → Bool) (c : Heard) → c.station ≢ y → TellsDebts y windows claims known marked → TellsDebts y windows (c ∷ claims) known marked)
    (joined_windows : (watch : Watch) (taken pairs : List (ℕ × ℕ)) (i : ℕ) → joined watch (window watch taken) pairs i ≡ window watch (taken ++ pairs) i)
    (w : Setting) (y slot : ℕ) (has_slot : slot_of w.peers y ≡ Some slot) where
  abbrev watch : Watch
  watch = w.watch

  -- a state whose windows hold what is kept of some pairs, of which its marks for the peer say the
  -- debts
  pub record Knows (s : State) (claims : List Heard) : Type 0 where
    pub pairs : List (ℕ × ℕ)
    pub windows : (i : ℕ) → window_of s.board i ≡ window watch pairs i
    pub said : WereTaken pairs claims
    pub tells : TellsDebts y (window watch pairs) claims (known_of s y) (is_marked s.board slot)

  tells_as : (windows : ℕ → Samples) (claims : List Heard) (known known' : Option ℕ) (marked marked' : ℕ → ℕ → Bool) → known' ≡ known → ((i k : ℕ) → marked' i k ≡ marked i k)
      → TellsDebts y windows claims known marked → TellsDebts y windows claims known' marked'
  tells_as windows claims known known' marked marked' same_known same was = record {
    known_is = same_known ∙ was.known_is;
    marked_is = λ i k there. same i k ∙ was.marked_is i k there;
  }

  wider : (pairs more : List (ℕ × ℕ)) (claims : List Heard) → WereTaken pairs claims → WereTaken (pairs ++ more) claims
  wider pairs more claims all = all_map (λ (c : Heard). (s : ℕ) → In s (said_of c) → Has pairs c.instance s) (λ (c : Heard). (s : ℕ) → In s (said_of c) → Has (pairs ++ more) c.instance s) claims (λ c was s h. part_left pairs more c.instance s (was s h)) all

  -- ---- a life begins
  begun : (body : Option (List ℕ)) (s : State) → IsBegun w body s → Knows s []
  begun None s b = record {
    pairs = [];
    windows = λ i. b.restored.0 i ∙ sym (kept_none watch i);
    said = tt;
    tells = record { known_is = b.known y; marked_is = λ i k there. b.unmarked slot i k };
  }
  begun (Some octets) s b = record {
    pairs = saved_pairs b.restored.1.image;
    windows = b.restored.1.windows;
    said = tt;
    tells = record { known_is = b.known y; marked_is = λ i k there. b.unmarked slot i k };
  }

  begins : (saved : List State) (origin : Origin) (v : Setting) (s : State) → v ≡ w → BeginsFrom saved origin v s → Knows s []
  begins saved Nothing v s same h = begun None s (subst (λ u. IsBegun u None s) same h)
  begins saved (Saved later) v s same h = at (at_place later saved) h
    where
      at : (old : Option State) → Reopens v old s → Knows s []
      at None r = absurd r
      at (Some old) r = begun (Some (saved_octets old)) s (subst (λ u. IsBegun u (Some (saved_octets old)) s) same r.begun)
  begins saved (Other image) v s same h = begun (Some h.0) s (subst (λ u. IsBegun u (Some h.0) s) same h.2)

  -- ---- an event
  module _ (o s : State) (setting : setting_of o ≡ w) (claims : List Heard) (was : Knows o claims) where
    -- the pairs after it
    abbrev more : ReadEvent → Option StationFault → List (ℕ × ℕ)
    more e answer = added (setting_of o) o.poller.polls e answer

    windows_then : (e : ReadEvent) (answer : Option StationFault) → IsAfter e answer o s → (i : ℕ) → window_of s.board i ≡ window watch (was.pairs ++ more e answer) i
    windows_then e answer after i =
        after.windows i
        ∙ (λ j. kept_by (setting j).watch i (set.union (was.windows i j) (set_of i (more e answer))))
        ∙ joined_windows watch was.pairs (more e answer) i

    kept_then : (e : ReadEvent) (answer : Option StationFault) → IsAfter e answer o s → TellsDebts y (window watch (was.pairs ++ more e answer)) claims (known_of o y)
        (kept_marks (window watch was.pairs) (window watch (was.pairs ++ more e answer)) (is_marked o.board slot))
    kept_then e answer after = taking watch y was.pairs (was.pairs ++ more e answer) claims (known_of o y) (is_marked o.board slot) (part_left was.pairs (more e answer)) was.said was.tells

    -- marks that are kept, by these windows or by those of the pairs
    kept_same : (e : ReadEvent) (answer : Option StationFault) → IsAfter e answer o s → (i k : ℕ)
        → kept_marks (window_of o.board) (window_of s.board) (is_marked o.board slot) i k ≡ kept_marks (window watch was.pairs) (window watch (was.pairs ++ more e answer)) (is_marked o.board slot) i k
    kept_same e answer after i k = λ j. (is_marked o.board slot i k && set.contains (was.windows i j) k) && set.contains (windows_then e answer after i j) k

    -- an event that is no accepted claim
    quiet : (e : ReadEvent) (answer : Option StationFault) → IsAfter e answer o s → known_after e answer (known_of o) y ≡ known_of o y
        → ((i k : ℕ) → marks_after (setting_of o) (known_of o) e answer (window_of o.board) (window_of s.board) (is_marked o.board) slot i k ≡ kept_marks (window_of o.board) (window_of s.board) (is_marked o.board slot) i k)
        → Knows s claims
    quiet e answer after same_known kept = record {
      pairs = was.pairs ++ more e answer;
      windows = windows_then e answer after;
      said = wider was.pairs (more e answer) claims was.said;
      tells = tells_as (window watch (was.pairs ++ more e answer)) claims (known_of o y) (known_of s y) _ (is_marked s.board slot)
          (after.known y ∙ same_known)
          (λ i k. after.marks slot i k ∙ kept i k ∙ kept_same e answer after i k)
          (kept_then e answer after);
    }

    -- an accepted claim
    module _ (said : Said) (h : IsHandled (FromPeer (Ok said)) None o s) (k n : ℕ) (its_slot : slot_of (setting_of o).peers said.claim.station ≡ Some k) (number : said.number ≡ Some n) where
      abbrev c : Heard
      c = record { station = said.claim.station; incarnation = said.claim.incarnation; instance = n; samples = said.claim.samples }

      abbrev noted : Noted
      noted = noted_as (known_of o said.claim.station) said.claim.incarnation

      abbrev pairs_then : List (ℕ × ℕ)
      pairs_then = was.pairs ++ more (FromPeer (Ok said)) None

      added_is : more (FromPeer (Ok said)) None ≡ paired n said.claim.samples
      added_is = ap (λ m. added (setting_of o) o.poller.polls (FromPeer (Ok (record { claim = said.claim; number = m }))) None) number

      said_then : WereTaken pairs_then (c ∷ claims)
      said_then = (
        (λ q there. part_right was.pairs (more (FromPeer (Ok said)) None) n q (subst (λ (ps : List (ℕ × ℕ)). Has ps n q) (sym added_is) (has_paired n q said.claim.samples there))),
        wider was.pairs (more (FromPeer (Ok said)) None) claims was.said,
      )

      -- the marks after it, by its slot
      marks_are : (i q : ℕ) → is_marked s.board slot i q ≡ (if slot == k then marked_by noted (is_claimed n said.claim.samples (window_of s.board) i q) (kept_marks (window_of o.board) (window_of s.board) (is_marked o.board slot) i q)
          else kept_marks (window_of o.board) (window_of s.board) (is_marked o.board slot) i q)
      marks_are i q = h.after.marks slot i q
          ∙ (λ j. marks_by (its_slot j) (number j) noted said.claim.samples (window_of o.board) (window_of s.board) (is_marked o.board) slot i q)

      known_are : known_of s y ≡ (if y == said.claim.station then Some (latest (known_of o y) said.claim.incarnation) else known_of o y)
      known_are = h.after.known y

      claimed_same : (i q : ℕ) → is_claimed n said.claim.samples (window_of s.board) i q ≡ is_claimed n said.claim.samples (window watch pairs_then) i q
      claimed_same i q = λ j. (i == n) && (set.contains (said_of c) q && set.contains (windows_then (FromPeer (Ok said)) None h.after i j) q)

      own : said.claim.station ≡ y → Knows s (c ∷ claims)
      own is =
          let one : k ≡ slot = some_same (sym its_slot ∙ (λ j. slot_of (setting j).peers (is j)) ∙ has_slot) in
          let test : (slot == k) ≡ true = eq-eqb slot k (sym one) in
          let same_station : (y == said.claim.station) ≡ true = eq-eqb y said.claim.station (sym is) in
          let same_noted : noted ≡ noted_as (known_of o y) said.claim.incarnation = ap (λ z. noted_as (known_of o z) said.claim.incarnation) is in
          record {
            pairs = pairs_then;
            windows = windows_then (FromPeer (Ok said)) None h.after;
            said = said_then;
            tells = tells_as (window watch pairs_then) (c ∷ claims) (Some (latest (known_of o y) said.claim.incarnation)) (known_of s y) _ (is_marked s.board slot)
                (known_are ∙ ap (λ b. if b then Some (latest (known_of o y) said.claim.incarnation) else known_of o y) same_station)
                (λ i q. marks_are i q ∙ ap (λ b. if b then marked_by noted (is_claimed n said.claim.samples (window_of s.board) i q) (kept_marks (window_of o.board) (window_of s.board) (is_marked o.board slot) i q)
                else kept_marks (window_of o.board) (window_of s.board) (is_marked o.board slot) i q) test
                ∙ (λ j. marked_by (same_noted j) (claimed_same i q j) (kept_same (FromPeer (Ok said)) None h.after i q j)))
                (noting_own y (window watch pairs_then) claims (known_of o y) (kept_marks (window watch was.pairs) (window watch pairs_then) (is_marked o.board slot)) c is (kept_then (FromPeer (Ok said)) None h.after));
          }

      other : said.claim.station ≢ y → Knows s (c ∷ claims)
      other not =
          let test : (slot == k) ≡ false = ne_eqb slot k (λ e. not (one_slot w.peers said.claim.station y slot ((λ j. slot_of (sym setting j).peers said.claim.station) ∙ its_slot ∙ ap (λ z. Some z) (sym e)) has_slot)) in
          let same_station : (y == said.claim.station) ≡ false = ne_eqb y said.claim.station (λ e. not (sym e)) in
          record {
            pairs = pairs_then;
            windows = windows_then (FromPeer (Ok said)) None h.after;
            said = said_then;
            tells = tells_as (window watch pairs_then) (c ∷ claims) (known_of o y) (known_of s y) _ (is_marked s.board slot)
                (known_are ∙ ap (λ b. if b then Some (latest (known_of o y) said.claim.incarnation) else known_of o y) same_station)
                (λ i q. marks_are i q ∙ ap (λ b. if b then marked_by noted (is_claimed n said.claim.samples (window_of s.board) i q) (kept_marks (window_of o.board) (window_of s.board) (is_marked o.board slot) i q)
                else kept_marks (window_of o.board) (window_of s.board) (is_marked o.board slot) i q) test
                ∙ kept_same (FromPeer (Ok said)) None h.after i q)
                (noting_other y (window watch pairs_then) claims (known_of o y) (kept_marks (window watch was.pairs) (window watch pairs_then) (is_marked o.board slot)) c not (kept_then (FromPeer (Ok said)) None h.after));
          }

      claimed : Knows s (heard_of_claim said.claim said.number ++ claims)
      claimed = subst (λ m. Knows s (heard_of_claim said.claim m ++ claims)) (sym number) (elim (cases_Bool (said.claim.station == y)) [
        | inl is ↦ own (eqb-true said.claim.station y is)
        | inr not ↦ other (λ e. let test : (said.claim.station == y) ≡ true = eq-eqb said.claim.station y e in cc)
      ])

    pub handled : (e : ReadEvent) (answer : Option StationFault) → IsHandled e answer o s → Knows s (heard_by e answer ++ claims)
    handled (FromPeer (Ok said)) None h =
        let there = slot_there (slot_of (setting_of o).peers said.claim.station) said.number h.lawful in
        claimed said h there.0 there.1 there.2 there.3
    handled e answer h = quiet e answer h.after refl (λ i k. refl)

  -- ---- all lives
  pub knows : (h : List (Entry × State)) → IsLived h → AreLives w h → (s : State) → last_state h ≡ Some s → Knows s (heard_in h)
  knows [] lived are s is = absurd (not_some is)
  knows ((Restart origin v, t) ∷ past) lived are s is = subst (λ (u : State). Knows u []) (some_same is) (begins (saved_states past) origin v t are.0 lived.0)
  knows ((Answered e answer, t) ∷ past) lived are s is =
      let o = before (last_state past) e answer t lived.0 in
      subst (λ (u : State). Knows u (heard_by e answer ++ heard_in past)) (some_same is)
      (handled o.0 t (setting_is w past lived.1 are.1 o.0 o.1) (heard_in past) (knows past lived.1 are.1 o.0 o.1) e answer o.2)
