-- How events read, and what is refused without being read.
use Rattle.std.proofs.Common.{◌≡◌, ℕ, List, Option, Some, Result, Ok, Err, IfOk, IfErr, refl, sym, ap, subst, ◌∙◌}
use Rattle.mon_board.specs.Watch.{Watch}
use Rattle.mon_exchange.specs.declared.claim.Claim.{Claim}
use Rattle.mon_exchange.specs.declared.fault.ExchangeFault.{ExchangeFault}
use Rattle.mon_exchange.specs.declared.fault.ExchangeFault.TheVariants as exchange
use Rattle.mon_exchange.specs.Claim.{SpellsClaim}
use Rattle.mon_exchange.specs.Reading.{Fails, Gives, claim_at}
use Rattle.mon_station.specs.declared.event.Told.{Told}
use Rattle.mon_station.specs.declared.fault.StationFault.{StationFault}
use Rattle.mon_station.specs.declared.fault.StationFault.TheVariants as station
use Rattle.mon_station.specs.Fault.{exchange_refusal}
use Rattle.mon_station.specs.ReadEvent.{IsNumbered, ReadEvent, ReadsAs, Said, SaysAs, FromPeer, OwnedEvent}
use Rattle.mon_station.specs.State.{State, IsHandled}
use Rattle.mon_station.specs.Step.{IsRead, IsSettled}
use Rattle.mon_station.proofs.Claimed.{said_as}
use Rattle.mon_station.proofs.Handled.{refused}

-- what holds whatever was answered
pub if_ok_always : {A F : Type 0} (r : Result A F) (P : Type 0) → P → IfOk r (λ x. P)
if_ok_always (Ok x) P h = h
if_ok_always (Err e) P h = tt

pub if_err_always : {A F : Type 0} (r : Result A F) (P : F → Type 0) → ((f : F) → P f) → IfErr r P
if_err_always (Ok x) P h = tt
if_err_always (Err e) P h = h e

-- an event that reads so, whatever was answered
pub read_always : (watch : Watch) (event event' : OwnedEvent) → event ≡ event' → (e : ReadEvent) → ReadsAs watch event' e → (r : Result Told StationFault) → IsRead watch event r
read_always watch event event' is e reads (Ok told) = (e, subst (λ (x : OwnedEvent). ReadsAs watch x e) (sym is) reads)
read_always watch event event' is e reads (Err f) = λ other. (e, subst (λ (x : OwnedEvent). ReadsAs watch x e) (sym is) reads)

-- an event that reads so, unless memory ran out
pub read_unless : (watch : Watch) (event event' : OwnedEvent) → event ≡ event' → (r : Result Told StationFault) → IfOk r (λ x. (e : ReadEvent) × ReadsAs watch event' e)
    → IfErr r (λ f. (f ≡ station.OutOfMemory → ⊥) → (e : ReadEvent) × ReadsAs watch event' e) → IsRead watch event r
read_unless watch event event' is (Ok told) h k = subst (λ (x : OwnedEvent). (e : ReadEvent) × ReadsAs watch x e) (sym is) h
read_unless watch event event' is (Err f) h k = λ other. subst (λ (x : OwnedEvent). (e : ReadEvent) × ReadsAs watch x e) (sym is) (k other)

-- ---- claims
-- octets that were read as a claim say that claim
pub says_claim : (watch : Watch) (octets : List ℕ) (c : Claim) → SpellsClaim octets c → ((d : Claim) → SpellsClaim octets d → (let x : Result Claim ExchangeFault = Ok c in Gives (λ (z : Claim). z) x (Ok d)))
    → (r : Result Said ExchangeFault) → SaysAs watch octets r → (n : Option ℕ) × IsNumbered watch c n × (Ok (said_as c n) ≡ r)
says_claim watch octets c spells only (Err f) says = absurd (says.1 c spells)
says_claim watch octets c spells only (Ok said) says =
    let same : said.claim ≡ c = claim_is (only said.claim says.0) in
    (said.number, subst (λ (d : Claim). IsNumbered watch d said.number) same says.1, (λ k. Ok (said_as (sym same k) said.number)))
  where
    claim_is : (let a : Result Claim ExchangeFault = Ok said.claim in a ≡ Ok c) → said.claim ≡ c
    claim_is e = cc

-- octets that were not read as a claim
module _ (s : State) (settled : IsSettled s) (octets : List ℕ) where
  -- for any other fault than out of memory
  module _ (f : ExchangeFault) (same : exchange_refusal f ≡ station.Exchange f) (fails : claim_at octets ≡ Err f) (none : (c : Claim) → SpellsClaim octets c → (let x : Result Claim ExchangeFault = Ok c in x ≡ Err f)) where
    no_claim : (c : Claim) → (let x : Result Claim ExchangeFault = Ok c in x ≡ Err f) → ⊥
    no_claim c e = cc

    fault_same : (e : ExchangeFault) → (let x : Result Claim ExchangeFault = Err e in x ≡ Err f) → e ≡ f
    fault_same e is = cc

    not_read : (r : Result Said ExchangeFault) → SaysAs s.board.watch octets r → IsHandled (FromPeer r) (Some (exchange_refusal f)) s s
    not_read (Ok said) says = absurd (no_claim said.claim (none said.claim says.0))
    not_read (Err e) says =
        subst (λ (x : StationFault). IsHandled (FromPeer (Err e)) (Some x) s s) (sym same)
        (refused s settled (FromPeer (Err e)) (station.Exchange f) refl (ap (λ (x : ExchangeFault). Some (station.Exchange x)) (fault_same e (sym says.0 ∙ fails))))

    says_none : SaysAs s.board.watch octets (Err f)
    says_none = (fails, λ c spells. no_claim c (none c spells))

  pub unread : (f : ExchangeFault) → Fails f (claim_at octets) → ((c : Claim) → SpellsClaim octets c → (let x : Result Claim ExchangeFault = Ok c in Fails f x)) → (r : Result Said ExchangeFault) → SaysAs s.board.watch octets r
      → IsHandled (FromPeer r) (Some (exchange_refusal f)) s s
  unread exchange.OutOfMemory fails none r says = refused s settled (FromPeer r) station.OutOfMemory refl tt
  unread exchange.NotAClaim fails none r says = not_read exchange.NotAClaim refl fails none r says
  unread exchange.BadVersion fails none r says = not_read exchange.BadVersion refl fails none r says
  unread exchange.BadSample fails none r says = not_read exchange.BadSample refl fails none r says
  unread exchange.NotRising fails none r says = not_read exchange.NotRising refl fails none r says
  unread exchange.BadName fails none r says = not_read exchange.BadName refl fails none r says
  unread exchange.UnknownPeer fails none r says = not_read exchange.UnknownPeer refl fails none r says
  unread exchange.UnknownInstance fails none r says = not_read exchange.UnknownInstance refl fails none r says

  pub reads_none : (f : ExchangeFault) → Fails f (claim_at octets) → ((c : Claim) → SpellsClaim octets c → (let x : Result Claim ExchangeFault = Ok c in Fails f x)) → (exchange_refusal f ≡ station.OutOfMemory → ⊥)
      → (r : Result Said ExchangeFault) × SaysAs s.board.watch octets r
  reads_none exchange.OutOfMemory fails none other = absurd (other refl)
  reads_none exchange.NotAClaim fails none other = (Err exchange.NotAClaim, says_none exchange.NotAClaim refl fails none)
  reads_none exchange.BadVersion fails none other = (Err exchange.BadVersion, says_none exchange.BadVersion refl fails none)
  reads_none exchange.BadSample fails none other = (Err exchange.BadSample, says_none exchange.BadSample refl fails none)
  reads_none exchange.NotRising fails none other = (Err exchange.NotRising, says_none exchange.NotRising refl fails none)
  reads_none exchange.BadName fails none other = (Err exchange.BadName, says_none exchange.BadName refl fails none)
  reads_none exchange.UnknownPeer fails none other = (Err exchange.UnknownPeer, says_none exchange.UnknownPeer refl fails none)
  reads_none exchange.UnknownInstance fails none other = (Err exchange.UnknownInstance, says_none exchange.UnknownInstance refl fails none)
