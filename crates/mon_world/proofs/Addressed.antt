-- Every letter goes to a station of the world, and each datagram is one.
use Rattle.std.proofs.Common.{ℕ, zero, suc, ◌≡◌, ◌+◌, ◌<◌, ◌∙◌, inl, inr, List, [], ◌∷◌, length, map, Option, Some, None, Ok, refl, sym, ap, subst, arith}
use Rattle.std.specs.Prelude.{slice_get}
use Rattle.std.specs.List.{AllByRecursion}
use Rattle.mon_disk.specs.declared.disk.Disk.{Ghosts}
use Rattle.mon_disk.specs.declared.memory.MemoryDisk.{MemoryDisk}
use Rattle.mon_exchange.specs.declared.claim.Claim.{Claim}
use Rattle.mon_exchange.specs.Claim.{claim_octets}
use Rattle.mon_config.specs.StationCore.{Core}
use Rattle.mon_station.specs.declared.fault.StationFault.{StationFault}
use Rattle.mon_station.specs.declared.station.Station.{Station}
use Rattle.mon_station.specs.Lived.{HandledIn, IsLived, last_state}
use Rattle.mon_station.specs.ReadEvent.{ReadEvent}
use Rattle.mon_station.specs.declared.event.Event.TheVariants.{FromPeer, Share}
use Rattle.mon_station.specs.State.{State, IsHandled, setting_of}
use Rattle.mon_station.specs.Taken.{Entry, Restart, Answered}
use Rattle.mon_station.specs.Told.{claims_sent}
use Rattle.mon_station.specs.Verdict.{claim_fault, share_fault, slot_of}
use Rattle.mon_world.specs.declared.sending.Datagram.{Datagram}
use Rattle.mon_world.specs.Moves.{AreLives, AreMoves, Letter, Move, letter, letters_by, lives_of, sent_in}
use Rattle.mon_world.specs.declared.fault.WorldFault.{WorldFault}
use Rattle.mon_world.specs.declared.fault.WorldFault.TheVariants as world
use Rattle.mon_world.specs.Fault.{IsDeliveryCause, IsStationCause}
use Rattle.mon_world.specs.Places.{HasNumber, IsNoNumberTo, IsNumberTo, setting_at}
use Rattle.mon_world.specs.Outcome.{Delivers, Hands}
use Rattle.mon_world.specs.Shows.{Parcel, Shows, parcel_of, parcel_with}
use Rattle.mon_world.proofs.Letters.{earlier, last_lived, last_lives}
use Rattle.mon_world.proofs.Lives.{setting_is, some_same}
use Rattle.mon_world.proofs.Offers.{all_append}
use Rattle.mon_world.proofs.Others.{peer_number}

all_to : (P : ℕ → Type 0) (y : ℕ) (cs : List Claim) → P y → AllByRecursion (λ (l : Letter). P l.to) (map (letter y) cs)
all_to P y [] is = tt
all_to P y (c ∷ cs) is = (is, all_to P y cs is)

claimed_slot : (slot number : Option ℕ) → claim_fault slot number ≡ None → (k : ℕ) × (slot ≡ Some k)
claimed_slot None number h = absurd (cc)
claimed_slot (Some k) number h = (k, refl)

shared_slot : (slot : Option ℕ) → share_fault slot ≡ None → (k : ℕ) × (slot ≡ Some k)
shared_slot None h = absurd (cc)
shared_slot (Some k) h = (k, refl)

module _ (core : Core) (count : ℕ) where
  sent_by : (x : ℕ) (o s : State) (e : ReadEvent) → setting_of o ≡ setting_at core count x → IsHandled e None o s → AllByRecursion (λ (l : Letter). IsNumberTo count l.to) (letters_by (Some o) (Answered e None))
  sent_by x o s (FromPeer (Ok said)) same h =
      let slot = claimed_slot (slot_of (setting_of o).peers said.claim.station) said.number h.lawful in
      all_to (IsNumberTo count) said.claim.station (claims_sent o (FromPeer (Ok said))) (peer_number x count said.claim.station slot.0 ((λ j. slot_of (sym same j).peers said.claim.station) ∙ slot.1))
  sent_by x o s (Share y) same h =
      let slot = shared_slot (slot_of (setting_of o).peers y) h.lawful in
      all_to (IsNumberTo count) y (claims_sent o (Share y)) (peer_number x count y slot.0 ((λ j. slot_of (sym same j).peers y) ∙ slot.1))
  sent_by x o s e same h = tt

  of_entry : (x : ℕ) (h : List (Entry × State)) (s : State) (entry : Entry) → IsLived ((entry, s) ∷ h) → AreLives (setting_at core count x) ((entry, s) ∷ h) → (old : Option State) → last_state h ≡ old
      → AllByRecursion (λ (l : Letter). IsNumberTo count l.to) (letters_by old entry)
  of_entry x h s entry lived are None is = tt
  of_entry x h s (Restart origin w) lived are (Some o) is = tt
  of_entry x h s (Answered e (Some f)) lived are (Some o) is = tt
  of_entry x h s (Answered e None) lived are (Some o) is =
      sent_by x o s e (setting_is (setting_at core count x) h lived.1 are.1 o is) (subst (λ (p : Option State). HandledIn p e None s) is lived.0)

  pub addressed : (moves : List Move) → AreMoves (setting_at core count) moves → AllByRecursion (λ (l : Letter). IsNumberTo count l.to) (sent_in moves)
  addressed [] are = tt
  addressed (m ∷ moves) are = all_append (λ (l : Letter). IsNumberTo count l.to) (sent_in moves) (letters_by (last_state (lives_of m.station moves)) m.entry)
      (addressed moves (earlier (setting_at core count) m moves are))
      (of_entry m.station (lives_of m.station moves) m.after m.entry (last_lived (setting_at core count) m moves are) (last_lives (setting_at core count) m moves are) (last_state (lives_of m.station moves)) refl)

-- the letter at the place of a datagram
pub letter_at : (sent : List Datagram) (letters : List Letter) (k : ℕ) (d : Datagram) → map parcel_of sent ≡ map parcel_with letters → slice_get sent k ≡ Some d
    → (l : Letter) × (slice_get letters k ≡ Some l) × (parcel_with l ≡ parcel_of d)
letter_at [] letters k d same is = cc
letter_at (e ∷ sent) [] k d same is = cc
letter_at (e ∷ sent) (l ∷ letters) zero d same is =
    let first : parcel_of e ≡ parcel_with l = cc in
    let here : e ≡ d = cc in
    (l, refl, sym first ∙ ap parcel_of here)
letter_at (e ∷ sent) (l ∷ letters) (suc k) d same is =
    let rest : map parcel_of sent ≡ map parcel_with letters = cc in
    letter_at sent letters k d rest is

pub one_at : {A : Type 0} (P : A → Type 0) (xs : List A) (k : ℕ) (x : A) → AllByRecursion P xs → slice_get xs k ≡ Some x → P x
one_at P [] k x all is = cc
one_at P (y ∷ xs) zero x all is = subst P (some_same is) all.0
one_at P (y ∷ xs) (suc k) x all is = one_at P xs k x all.1 is

-- the letter of a datagram of a world
pub letter_of : {G : Ghosts MemoryDisk} (core : Core) (stations : List (Station MemoryDisk G)) (sent : List Datagram) (past : List Move) → Shows core stations sent past → (number k : ℕ) → number ≡ k + 1 → (d : Datagram) → slice_get sent k ≡ Some d
    → (l : Letter) × HasNumber (sent_in past) number l × (l.to ≡ d.to) × (claim_octets l.claim ≡ d.octets)
letter_of core stations sent past was number k same d there =
    let l = letter_at sent (sent_in past) k d was.letters.parcels there in
    let next : suc k ≡ number = omega (arith, same) in
    (l.0, subst (λ n. HasNumber (sent_in past) n l.0) next l.1, ap (λ (p : Parcel). p.0) l.2, ap (λ (p : Parcel). p.1) l.2)

-- it goes to a station
pub letter_addressed : {G : Ghosts MemoryDisk} (core : Core) (stations : List (Station MemoryDisk G)) (sent : List Datagram) (past : List Move) → Shows core stations sent past → (number : ℕ) (l : Letter) → HasNumber (sent_in past) number l
    → IsNumberTo (length stations) l.to
letter_addressed core stations sent past was zero l there = absurd there
letter_addressed core stations sent past was (suc n) l there = one_at (λ (l : Letter). IsNumberTo (length stations) l.to) (sent_in past) n l (addressed core (length stations) past was.shown.are) there

-- what its station was given is the delivery
pub as_delivery : (core : Core) (count number x : ℕ) (past : List Move) (l : Letter) → HasNumber (sent_in past) number l → l.to ≡ x → (octets : List ℕ) → claim_octets l.claim ≡ octets → (answer : Option StationFault) (now : List Move)
    → Hands (setting_at core count x) x (FromPeer octets) answer past now → Delivers (setting_at core count) number answer past now
as_delivery core count number x past l there to octets says answer now hands = record {
  letter = l;
  there = there;
  hands = subst (λ y. Hands (setting_at core count y) y (FromPeer (claim_octets l.claim)) answer past now) (sym to) (subst (λ o. Hands (setting_at core count x) x (FromPeer o) answer past now) (sym says) hands);
}

-- a station that is there is not missing
pub not_there : (count x : ℕ) (f : WorldFault) → f ≡ world.NoSuchStation → IsNumberTo count x → IsStationCause count x f → ⊥
not_there count x f is there cause = by (subst (IsStationCause count x) is cause)
  where
    by : IsNoNumberTo count x → ⊥
    by (inl none) = omega (arith, there.0, none)
    by (inr beyond) = omega (arith, there.1, beyond)

-- the number of a place
pub number_to : (count place number : ℕ) → number ≡ place + 1 → place < count → IsNumberTo count number
number_to count place number same within = (omega (arith, same), omega (arith, same, within))

-- why the station of a datagram did not take it is why the delivery failed
pub delivery_cause : (stations datagrams place number k : ℕ) → place < stations → number ≡ k + 1 → k < datagrams → (f : WorldFault) → IsStationCause stations (place + 1) f → IsDeliveryCause datagrams number f
delivery_cause stations datagrams place number k within same there world.OutOfMemory cause = tt
delivery_cause stations datagrams place number k within same there world.NoSuchStation cause = absurd (not_there stations (place + 1) world.NoSuchStation refl (number_to stations place (place + 1) refl within) cause)
delivery_cause stations datagrams place number k within same there world.NoSuchDatagram cause = absurd cause
delivery_cause stations datagrams place number k within same there (world.Refused g) cause = (number_to datagrams k number same there, cause.1)
delivery_cause stations datagrams place number k within same there world.BadCount cause = absurd cause
delivery_cause stations datagrams place number k within same there world.BadStop cause = absurd cause
