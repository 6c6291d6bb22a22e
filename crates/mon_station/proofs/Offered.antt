-- Offers of portions.
use Rattle.std.proofs.Common.{◌≡◌, ◌<◌, ℕ, List, [], ◌∷◌, ◌++◌, length, map, take, get_or, ◌+◌, Some, None, refl, sym, ap, subst, ◌∙◌}
use Rattle.std.specs.List.{AllByRecursion}
use Rattle.std.proofs.lemmas.List.{get_or-map, take_more}
use Rattle.std.specs.FinSet as set
use Rattle.mon_board.specs.Board.{is_marked, window_of}
use Rattle.mon_board.specs.declared.instance.Watched.{Watched}
use Rattle.mon_board.specs.Instance.{named}
use Rattle.mon_board.specs.Watch.{Watch}
use Rattle.mon_exchange.specs.declared.claim.Claim.{Claim}
use Rattle.mon_exchange.specs.declared.sharing.Portion.{Portion}
use Rattle.mon_exchange.specs.Claim.{IsClaim}
use Rattle.mon_exchange.specs.Peers.{peer_slot}
use Rattle.mon_exchange.specs.Portions.{serial_after}
use Rattle.mon_station.specs.declared.event.Outgoing.{Outgoing}
use Rattle.mon_station.specs.declared.event.Told.{Told}
use Rattle.mon_station.specs.ReadEvent.{Share}
use Rattle.mon_station.specs.State.{State, IsHandled, portions_to, serial_past, shared_in, shared_with}
use Rattle.mon_station.specs.Step.{IsSettled}
use Rattle.mon_station.specs.Told.{IsTold, instance_at, offer_of, offers_from, to_peer}
use Rattle.mon_station.specs.Verdict.{share_fault}
use Rattle.mon_station.proofs.Quiet.{kept_own, nothing_joined}

-- one portion more
pub past_more : (serial : ℕ) (xs : List Portion) (p : Portion) → serial_past serial (xs ++ p ∷ []) ≡ serial_after (serial_past serial xs)
past_more serial [] p = refl
past_more serial (x ∷ xs) p = past_more (serial_after serial) xs p

pub offers_more : (s : State) (serial : ℕ) (xs : List Portion) (p : Portion) → offers_from s serial (xs ++ p ∷ []) ≡ offers_from s serial xs ++ offer_of s (serial_past serial xs) p ∷ []
offers_more s serial [] p = refl
offers_more s serial (x ∷ xs) p = ap (λ (cs : List Claim). offer_of s serial x ∷ cs) (offers_more s (serial_after serial) xs p)

pub map_more : (y : ℕ) (cs : List Claim) (c : Claim) → map (to_peer y) (cs ++ c ∷ []) ≡ map (to_peer y) cs ++ to_peer y c ∷ []
map_more y [] c = refl
map_more y (d ∷ cs) c = ap (λ (outs : List Outgoing). to_peer y d ∷ outs) (map_more y cs c)

pub claims_more : (cs : List Claim) (c : Claim) → AllByRecursion IsClaim cs → IsClaim c → AllByRecursion IsClaim (cs ++ c ∷ [])
claims_more [] c all is = (is, tt)
claims_more (d ∷ cs) c all is = (all.0, claims_more cs c all.1 is)

pub portions_more : (ps : List Portion) (k : ℕ) (p : Portion) → k < length ps → p ≡ get_or ps k p → take (k + 1) ps ≡ take k ps ++ p ∷ []
portions_more ps k p lt is = take_more ps k p lt ∙ ap (λ (q : Portion). take k ps ++ q ∷ []) (sym is)

pub one_past_more : (serial : ℕ) (xs : List Portion) (p : Portion) → serial_after (serial_past serial xs) ≡ serial_past serial (xs ++ p ∷ [])
one_past_more serial xs p = sym (past_more serial xs p)

pub one_offer_more : (s : State) (y first serial : ℕ) (xs : List Portion) (p : Portion) → serial ≡ serial_past first xs
    → map (to_peer y) (offers_from s first xs) ++ to_peer y (offer_of s serial p) ∷ [] ≡ map (to_peer y) (offers_from s first (xs ++ p ∷ []))
one_offer_more s y first serial xs p is =
    ap (λ k. map (to_peer y) (offers_from s first xs) ++ to_peer y (offer_of s k p) ∷ []) is
    ∙ sym (map_more y (offers_from s first xs) (offer_of s (serial_past first xs) p))
    ∙ ap (map (to_peer y)) (sym (offers_more s first xs p))

pub one_claim_more : (s : State) (first serial : ℕ) (xs : List Portion) (p : Portion) → serial ≡ serial_past first xs → AllByRecursion IsClaim (offers_from s first xs) → IsClaim (offer_of s serial p)
    → AllByRecursion IsClaim (offers_from s first (xs ++ p ∷ []))
one_claim_more s first serial xs p is all one =
    subst (AllByRecursion IsClaim) (sym (offers_more s first xs p))
    (claims_more (offers_from s first xs) (offer_of s (serial_past first xs) p) all (subst (λ k. IsClaim (offer_of s k p)) is one))

-- the instance of a number, as it is in the watch
pub instance_is : (watch : Watch) (i : ℕ) (w : Watched) → i < length watch.instances → w ≡ get_or watch.instances i w → instance_at watch i ≡ w.instance
instance_is watch i w lt is = get_or-map (λ (x : Watched). x.instance) watch.instances i w (named [] []) lt ∙ ap (λ (x : Watched). x.instance) (sym is)

-- a share that was handled
pub shared : (s : State) → IsSettled s → (y k serial : ℕ) (told : Told) → Some k ≡ peer_slot s.peers.peers y → serial ≡ serial_past s.serial (portions_to s k)
    → told.taken ≡ [] → told.sends.items ≡ map (to_peer y) (offers_from s s.serial (portions_to s k)) → told.noted ≡ None → told.given_up ≡ None → told.answered ≡ None → AllByRecursion IsClaim (offers_from s s.serial (portions_to s k))
    → IsHandled (Share y) None s (record { board = s.board; poller = s.poller; peers = s.peers; incarnation = s.incarnation; serial = serial }) × IsTold s (Share y) told
shared s settled y k serial told slot next taken sends noted given_up answered claims =
    let same : portions_to s k ≡ shared_with s y = ap (shared_in s) slot in (
      record {
        lawful = ap share_fault (sym slot);
        after = record {
          setting = refl;
          windows = λ i. nothing_joined s.board.watch (window_of s.board) i (settled.whole i);
          polls = refl;
          incarnation = refl;
          serial = next ∙ ap (serial_past s.serial) same;
          known = λ y. refl;
          marks = λ j i x. kept_own (is_marked s.board j i x) (set.contains (window_of s.board i) x) (settled.entries j i x);
        };
      },
      record {
        taken = taken;
        sent = sends ∙ ap (λ ps. map (to_peer y) (offers_from s s.serial ps)) same;
        noted = noted;
        given_up = given_up;
        answered = answered;
        claims = subst (λ ps. AllByRecursion IsClaim (offers_from s s.serial ps)) same claims;
      },
    )
