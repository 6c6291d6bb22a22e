-- What an accepted claim leaves, and a refused one.
use Rattle.std.proofs.Common.{◌≡◌, ◌≢◌, ◌⊎◌, inl, inr, ℕ, Option, Some, None, Ok, refl, sym, ap, subst, ◌∙◌, map}
use Rattle.std.specs.Prelude.{◌==◌, if◌then◌else◌}
use Rattle.std.specs.List.{AllByRecursion}
use Rattle.mon_board.specs.Board.{Board, is_marked, window_of}
use Rattle.mon_board.specs.Windows.{joined, paired}
use Rattle.mon_exchange.specs.declared.claim.Claim.{Claim}
use Rattle.mon_exchange.specs.declared.fault.ExchangeFault.{ExchangeFault}
use Rattle.mon_exchange.specs.declared.fault.ExchangeFault.TheVariants as exchange
use Rattle.mon_exchange.specs.declared.noted.Noted.{Noted}
use Rattle.mon_exchange.specs.Claim.{IsClaim}
use Rattle.mon_exchange.specs.Peers.{IsWatchedAs, Peers, known_incarnation, latest, marks_after, noted_as, peer_numbers, peer_slot}
use Rattle.mon_station.specs.declared.event.Told.{Told}
use Rattle.mon_station.specs.declared.fault.StationFault.{StationFault}
use Rattle.mon_station.specs.declared.fault.StationFault.TheVariants as station
use Rattle.mon_station.specs.Fault.{exchange_refusal}
use Rattle.mon_station.specs.ReadEvent.{FromPeer, Said, IsNumbered}
use Rattle.mon_station.specs.State.{State, IsHandled, known_of, marks_by}
use Rattle.mon_station.specs.Step.{IsSettled}
use Rattle.mon_station.specs.Told.{IsTold, confirms, to_peer}
use Rattle.mon_station.specs.Verdict.{claim_fault, claim_pairs}
use Rattle.mon_station.proofs.Handled.{refused}

-- the state with this board and these peers
abbrev pub with_both : State → Board → Peers → State
with_both s b p = record { board = b; poller = s.poller; peers = p; incarnation = s.incarnation; serial = s.serial }

abbrev pub said_as : Claim → Option ℕ → Said
said_as c n = record { claim = c; number = n }

module _ (s : State) (settled : IsSettled s) (c : Claim) where
  abbrev slot : Option ℕ
  slot = peer_slot s.peers.peers c.station

  abbrev Absent : Type 0
  Absent = (i : ℕ) → ¬ (IsWatchedAs s.board.watch c.engine c.name i)

  abbrev noted_so : Noted
  noted_so = noted_as (known_of s c.station) c.incarnation

  -- ---- accepted
  module _ (b : Board) (p : Peers) (there : slot ≢ None) (watched : ¬ ((slot ≢ None) × Absent)) (watch : b.watch ≡ s.board.watch)
      (windows : (number : ℕ) → IsWatchedAs s.board.watch c.engine c.name number → (i : ℕ) → window_of b i ≡ joined s.board.watch (window_of s.board) (paired number c.samples) i)
      (own : p.own ≡ s.peers.own) (numbers : peer_numbers p.peers ≡ peer_numbers s.peers.peers)
      (known : (y : ℕ) → known_incarnation p.peers y ≡ (if y == c.station then Some (latest (known_incarnation s.peers.peers y) c.incarnation) else known_incarnation s.peers.peers y))
      (marks : (k number : ℕ) → slot ≡ Some k → IsWatchedAs s.board.watch c.engine c.name number
      → (j i x : ℕ) → is_marked b j i x ≡ marks_after noted_so k number c.samples (window_of s.board) (window_of b) (is_marked s.board) j i x) where
    lawful : (o n : Option ℕ) → o ≡ slot → IsNumbered s.board.watch c n → claim_fault o n ≡ None
    lawful None n is numbered = absurd (there (sym is))
    lawful (Some k) None is numbered = absurd (watched (there, numbered))
    lawful (Some k) (Some number) is numbered = refl

    put : (n : Option ℕ) → IsNumbered s.board.watch c n → (i : ℕ) → window_of b i ≡ joined s.board.watch (window_of s.board) (claim_pairs n c.samples) i
    put None numbered = absurd (watched (there, numbered))
    put (Some number) numbered = windows number numbered

    marked : (o n : Option ℕ) → o ≡ slot → IsNumbered s.board.watch c n → (j i x : ℕ) → is_marked b j i x ≡ marks_by o n noted_so c.samples (window_of s.board) (window_of b) (is_marked s.board) j i x
    marked None n is numbered = absurd (there (sym is))
    marked (Some k) None is numbered = absurd (watched (there, numbered))
    marked (Some k) (Some number) is numbered = marks k number (sym is) numbered

    pub accepted : (n : Option ℕ) → IsNumbered s.board.watch c n → IsHandled (FromPeer (Ok (said_as c n))) None s (with_both s b p)
    accepted n numbered = record {
      lawful = lawful slot n refl numbered;
      after = record {
        setting = λ j. record { watch = watch j; targets = s.poller.targets; own = own j; peers = numbers j };
        windows = put n numbered;
        polls = refl;
        incarnation = refl;
        serial = refl;
        known = known;
        marks = marked slot n refl numbered;
      };
    }

  pub told_claim : (n : Option ℕ) (told : Told) (noted : Noted) → told.taken ≡ claim_pairs n c.samples → told.sends.items ≡ map (to_peer c.station) (confirms s c.kind c) → told.noted ≡ Some noted → told.given_up ≡ None → told.answered ≡ None → noted ≡ noted_so
      → AllByRecursion IsClaim (confirms s c.kind c) → IsTold s (FromPeer (Ok (said_as c n))) told
  told_claim n told noted taken sends is given_up answered same claims = record { taken = taken; sent = sends; noted = is ∙ ap Some same; given_up = given_up; answered = answered; claims = claims }

  -- ---- refused
  not_none : (k : ℕ) → Some k ≢ None
  not_none k e = cc

  no_peer : (o n : Option ℕ) → o ≡ None → claim_fault o n ≡ Some (station.Exchange exchange.UnknownPeer)
  no_peer None n is = refl
  no_peer (Some k) n is = absurd (not_none k is)

  no_instance : (o n : Option ℕ) → o ≢ None → Absent → IsNumbered s.board.watch c n → claim_fault o n ≡ Some (station.Exchange exchange.UnknownInstance)
  no_instance None n there absent numbered = absurd (there refl)
  no_instance (Some k) None there absent numbered = refl
  no_instance (Some k) (Some number) there absent numbered = absurd (absent number numbered)

  pub claim_refused : (n : Option ℕ) (f : ExchangeFault) (g : StationFault) (b : Board) (p : Peers) → g ≡ exchange_refusal f → IsNumbered s.board.watch c n → p ≡ s.peers → b ≡ s.board → (f ≡ exchange.UnknownPeer) ⊎ (f ≡ exchange.UnknownInstance)
      → (f ≡ exchange.UnknownPeer → slot ≡ None) → (f ≡ exchange.UnknownInstance → (slot ≢ None) × Absent)
      → IsHandled (FromPeer (Ok (said_as c n))) (Some g) s (with_both s b p)
  claim_refused n f g b p same numbered same_peers same_board which peer instance =
      subst (λ (x : StationFault). IsHandled (FromPeer (Ok (said_as c n))) (Some x) s (with_both s b p)) (sym same)
      (subst (λ (q : Peers). IsHandled (FromPeer (Ok (said_as c n))) (Some (exchange_refusal f)) s (with_both s b q)) (sym same_peers)
      (subst (λ (d : Board). IsHandled (FromPeer (Ok (said_as c n))) (Some (exchange_refusal f)) s (with_both s d s.peers)) (sym same_board)
      (either which)))
    where
      either : (f ≡ exchange.UnknownPeer) ⊎ (f ≡ exchange.UnknownInstance) → IsHandled (FromPeer (Ok (said_as c n))) (Some (exchange_refusal f)) s s
      either (inl is) =
          subst (λ (g : ExchangeFault). IsHandled (FromPeer (Ok (said_as c n))) (Some (exchange_refusal g)) s s) (sym is)
          (refused s settled (FromPeer (Ok (said_as c n))) (station.Exchange exchange.UnknownPeer) refl (no_peer slot n (peer is)))
      either (inr is) =
          subst (λ (g : ExchangeFault). IsHandled (FromPeer (Ok (said_as c n))) (Some (exchange_refusal g)) s s) (sym is)
          (refused s settled (FromPeer (Ok (said_as c n))) (station.Exchange exchange.UnknownInstance) refl (no_instance slot n (instance is).0 (instance is).1 numbered))
