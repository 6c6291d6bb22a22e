-- The slots of peers.
use Rattle.std.proofs.Common.{◌≡◌, ◌≢◌, ℕ, zero, suc, ◌+◌, ◌<◌, Bool, true, false, cond, List, [], ◌∷◌, length, get_or, map, set, Option, Some, None, refl, sym, ap, ◌∙◌, arith, inl, inr}
use Rattle.std.specs.Prelude.{◌==◌, if◌then◌else◌, nat_lt, not, IfSome}
use Rattle.std.specs.List.{position, position_or_len}
use Rattle.std.specs.Option.{option_and_then}
use Rattle.std.proofs.Math.Seq.{map-set_same}
use Rattle.std.proofs.lemmas.Bool.{cases_eq, eq-eqb, eqb-true, ne_eqb}
use Rattle.std.proofs.lemmas.List.{get_or-map, length-map, map-set, get_or-set_same, get_or-set_other}
use Rattle.std.proofs.lemmas.List.Quantifiers.{position-Some}
use Rattle.std.proofs.lemmas.List.Recursion.{is_position_or_len}
use Rattle.mon_exchange.specs.Peers.{incarnation_in, known_incarnation, latest, peer_numbers, peer_slot, unheard}
use Rattle.mon_exchange.specs.declared.peers.Peer.{Peer}

turned : (b : Bool) (m n : ℕ) → cond (not b) m n ≡ cond b n m
turned true m n = refl
turned false m n = refl

-- a place by a part of the elements
pub position_mapped : {X : Type 0} (f : X → ℕ) (q : ℕ → Bool) (xs : List X) → position (λ x. q (f x)) xs ≡ position q (map f xs)
position_mapped f q xs =
    let place : position_or_len q (map f xs) ≡ position_or_len (λ x. q (f x)) xs = is_position_or_len (λ ys. position_or_len q (map f ys)) (λ x. q (f x)) refl (λ y ys. turned (q (f y)) (1 + position_or_len q (map f ys)) 0) xs in
    let long = length-map xs f in
    sym (λ j. cond (nat_lt (place j) (long j)) (Some (place j)) None)

-- a slot is a place, and the number is there
module _ (peers : List Peer) (station slot : ℕ) (is : peer_slot peers station ≡ Some slot) where
  pub slot_within : slot < length peers
  slot_within = let p = position-Some (λ n. n == station) (peer_numbers peers) slot 0 is in omega (arith, p.0, length-map peers (λ (p : Peer). p.number))

  pub at_slot : get_or (peer_numbers peers) slot 0 ≡ station
  at_slot = eqb-true (get_or (peer_numbers peers) slot 0) station (position-Some (λ n. n == station) (peer_numbers peers) slot 0 is).1

pub if_within : (peers : List Peer) (station : ℕ) (slot : Option ℕ) → slot ≡ peer_slot peers station → IfSome slot (λ k. k < length peers)
if_within peers station None is = tt
if_within peers station (Some slot) is = slot_within peers station slot (sym is)

-- ---- another known incarnation in a slot
module _ (peers : List Peer) (slot : ℕ) (lt : slot < length peers) (old : Peer) (was : old ≡ get_or peers slot old) (inc : ℕ) where
  abbrev pub heard : Peer
  heard = record { number = old.number; known = Some inc }

  pub same_numbers : peer_numbers (set peers slot heard) ≡ peer_numbers peers
  same_numbers = map-set_same (λ (p : Peer). p.number) peers slot heard old (ap (λ (p : Peer). p.number) was)

  pub known_was : incarnation_in peers slot ≡ old.known
  known_was = get_or-map (λ (p : Peer). p.known) peers slot old None lt ∙ ap (λ (p : Peer). p.known) (sym was)

  pub known_now : (k : ℕ) → incarnation_in (set peers slot heard) k ≡ (if k == slot then Some inc else incarnation_in peers k)
  known_now k = ap (λ (l : List (Option ℕ)). get_or l k None) (map-set (λ (p : Peer). p.known) peers slot heard) ∙ elim (cases_eq k slot) [
    | inl e ↦
        let there : slot < length (map (λ (p : Peer). p.known) peers) = omega (arith, lt, length-map peers (λ (p : Peer). p.known)) in
        ap (λ m. get_or (set (map (λ (p : Peer). p.known) peers) slot (Some inc)) m None) e ∙ get_or-set_same (map (λ (p : Peer). p.known) peers) slot (Some inc) None there
        ∙ rw (eq-eqb k slot e) refl
    | inr ne ↦ get_or-set_other (map (λ (p : Peer). p.known) peers) slot k (Some inc) None ne ∙ rw (ne_eqb k slot ne) refl
  ]

-- ---- by station
pub same_slot : (old new : List Peer) (station : ℕ) → peer_numbers new ≡ peer_numbers old → peer_slot new station ≡ peer_slot old station
same_slot old new station same = ap (λ numbers. position (λ n. n == station) numbers) same

pub known_at : (peers : List Peer) (station slot : ℕ) → peer_slot peers station ≡ Some slot → known_incarnation peers station ≡ incarnation_in peers slot
known_at peers station slot is = ap (option_and_then (incarnation_in peers)) is

module _ (old new : List Peer) (same : peer_numbers new ≡ peer_numbers old) (station slot inc : ℕ) (is : peer_slot old station ≡ Some slot)
    (known : (k : ℕ) → incarnation_in new k ≡ (if k == slot then Some inc else incarnation_in old k)) where
  own_known : known_incarnation new station ≡ Some inc
  own_known = known_at new station slot (same_slot old new station same ∙ is) ∙ known slot ∙ rw (eq-eqb slot slot refl) refl

  other_known : (y : ℕ) → y ≢ station → (o : Option ℕ) → peer_slot old y ≡ o → known_incarnation new y ≡ known_incarnation old y
  other_known y ne None none =
      ap (option_and_then (incarnation_in new)) (same_slot old new y same ∙ none) ∙ sym (ap (option_and_then (incarnation_in old)) none)
  other_known y ne (Some k) some =
      let apart : k ≢ slot = (λ e. ne (sym (at_slot old y k some) ∙ ap (λ m. get_or (peer_numbers old) m 0) e ∙ at_slot old station slot is)) in
      known_at new y k (same_slot old new y same ∙ some) ∙ known k ∙ rw (ne_eqb k slot apart) refl ∙ sym (known_at old y k some)

  pub by_station : (y : ℕ) → known_incarnation new y ≡ (if y == station then Some inc else known_incarnation old y)
  by_station y = elim (cases_eq y station) [
    | inl e ↦ ap (known_incarnation new) e ∙ own_known ∙ rw (eq-eqb y station e) refl
    | inr ne ↦ other_known y ne (peer_slot old y) refl ∙ rw (ne_eqb y station ne) refl
  ]

-- the known incarnation, if it is the later of the known one and the claim's
pub by_latest : (old new : List Peer) → peer_numbers new ≡ peer_numbers old → (station slot j : ℕ) → peer_slot old station ≡ Some slot
    → ((k : ℕ) → incarnation_in new k ≡ (if k == slot then Some (latest (incarnation_in old slot) j) else incarnation_in old k))
    → (y : ℕ) → known_incarnation new y ≡ (if y == station then Some (latest (known_incarnation old y) j) else known_incarnation old y)
by_latest old new same station slot j is known y = by_station old new same station slot (latest (incarnation_in old slot) j) is known y ∙ elim (cases_eq y station) [
  | inl e ↦ ap (λ (o : Option ℕ). if y == station then Some (latest o j) else known_incarnation old y) (sym (ap (known_incarnation old) e ∙ known_at old station slot is))
  | inr ne ↦ rw (ne_eqb y station ne) refl
]

-- ---- peers of which no incarnation is known
pub numbers_unheard : (numbers : List ℕ) → peer_numbers (map unheard numbers) ≡ numbers
numbers_unheard [] = refl
numbers_unheard (n ∷ numbers) = ap (λ (l : List ℕ). n ∷ l) (numbers_unheard numbers)

none_in : (numbers : List ℕ) (k : ℕ) → incarnation_in (map unheard numbers) k ≡ None
none_in [] k = refl
none_in (n ∷ numbers) zero = refl
none_in (n ∷ numbers) (suc k) = none_in numbers k

none_at : (numbers : List ℕ) (slot : Option ℕ) → option_and_then (incarnation_in (map unheard numbers)) slot ≡ None
none_at numbers None = refl
none_at numbers (Some k) = none_in numbers k

pub none_known : (numbers : List ℕ) (y : ℕ) → known_incarnation (map unheard numbers) y ≡ None
none_known numbers y = none_at numbers (peer_slot (map unheard numbers) y)
