-- From what a station was asked to where the world's moves lead.
use Rattle.std.proofs.Common.{ℕ, ◌≡◌, ◌+◌, List, [], ◌∷◌, ◌++◌, length, map, Option, Some, None, Result, Ok, Err, refl, sym, ◌∙◌, ap, subst}
use Rattle.std.specs.List.{AllByRecursion}
use Rattle.std.specs.Result.{IsErrAnd}
use Rattle.std.proofs.lemmas.List.{append-nil}
use Rattle.mon_disk.specs.declared.disk.Disk.{Ghosts}
use Rattle.mon_disk.specs.declared.memory.MemoryDisk.{MemoryDisk}
use Rattle.mon_exchange.specs.Claim.{IsClaim}
use Rattle.mon_config.specs.StationCore.{Core}
use Rattle.mon_station.specs.ReadEvent.{OwnedEvent}
use Rattle.mon_station.specs.declared.fault.StationFault.{StationFault}
use Rattle.mon_station.specs.declared.station.Station.{Station}
use Rattle.mon_station.specs.Lived.{last_state}
use Rattle.mon_station.specs.Taken.{Answered}
use Rattle.mon_world.specs.declared.fault.WorldFault.{WorldFault}
use Rattle.mon_world.specs.declared.sending.Datagram.{Datagram}
use Rattle.mon_world.specs.declared.sending.Sent.{Sent}
use Rattle.mon_world.specs.Fault.{refusal_in}
use Rattle.mon_world.specs.Moves.{Letter, Move, letters_by, lives_of, sent_in}
use Rattle.mon_world.specs.Outcome.{Does, DoesOr, Hands, answers}
use Rattle.mon_world.specs.Places.{setting_at}
use Rattle.mon_world.specs.Shows.{AreSent, IsStationAsked, IsStationRefused, LeadsTo, Parcel, Shows, parcel_of, parcel_with}
use Rattle.mon_world.proofs.Letters.{claims_append, claims_of}
use Rattle.mon_world.proofs.Offers.{all_append}

parcels_append : (xs ys : List Datagram) → map parcel_of (xs ++ ys) ≡ map parcel_of xs ++ map parcel_of ys
parcels_append [] ys = refl
parcels_append (x ∷ xs) ys = ap (λ (l : List Parcel). parcel_of x ∷ l) (parcels_append xs ys)

letters_append : (xs ys : List Letter) → map parcel_with (xs ++ ys) ≡ map parcel_with xs ++ map parcel_with ys
letters_append [] ys = refl
letters_append (x ∷ xs) ys = ap (λ (l : List Parcel). parcel_with x ∷ l) (letters_append xs ys)

sent_append : (datagrams more : List Datagram) (letters new : List Letter) → AreSent datagrams letters → AreSent more new → AreSent (datagrams ++ more) (letters ++ new)
sent_append datagrams more letters new first second = record {
  parcels = parcels_append datagrams more ∙ (λ j. first.parcels j ++ second.parcels j) ∙ sym (letters_append letters new);
  claims = subst (AllByRecursion IsClaim) (sym (claims_append letters new)) (all_append IsClaim (claims_of letters) (claims_of new) first.claims second.claims);
}

module _ {G : Ghosts MemoryDisk} (core : Core) (stations now_stations : List (Station MemoryDisk G)) (sent : List Datagram) (past : List Move) (number place : ℕ) (same : number ≡ place + 1) (was : Shows core stations sent past)
    (event : OwnedEvent) where
  abbrev pub Handed : Option StationFault → List Move → List Move → Type 0
  Handed = Hands (setting_at core (length stations) number) number event

  asked_shows : (answer : Option StationFault) (sends now_sent : List Datagram) → now_sent ≡ sent ++ sends → IsStationAsked core (place + 1) event answer sends past now_stations → LeadsTo core now_stations now_sent (Handed answer past)
  asked_shows answer sends now_sent appended asked = record {
    now = answers (place + 1) asked.read answer asked.after ∷ past;
    shows = record {
      shown = asked.shown;
      letters = subst (λ l. AreSent l (sent_in (answers (place + 1) asked.read answer asked.after ∷ past))) (sym appended)
          (sent_append sent sends (sent_in past) (letters_by (last_state (lives_of (place + 1) past)) (Answered asked.read answer)) was.letters asked.letters);
    };
    is = record { read = asked.read; reads = asked.reads; after = asked.after; is = λ j. answers (sym same j) asked.read answer asked.after ∷ past };
  }

  -- it handled the event
  pub leads_ok : (sends now_sent : List Datagram) → now_sent ≡ sent ++ sends → IsStationAsked core (place + 1) event None sends past now_stations → (result : Sent) → LeadsTo core now_stations now_sent (λ now. Does Handed (Ok result) past now)
  leads_ok sends now_sent appended asked result = asked_shows None sends now_sent appended asked

  -- it refused
  pub leads_refused : (f : WorldFault) (now_sent : List Datagram) → now_sent ≡ sent → IsStationRefused core (place + 1) event (refusal_in f) past now_stations → LeadsTo core now_stations now_sent (λ now. DoesOr Handed (refusal_in f) past now)
  leads_refused f now_sent kept = by (refusal_in f)
    where
      by : (answer : Option StationFault) → IsStationRefused core (place + 1) event answer past now_stations → LeadsTo core now_stations now_sent (λ now. DoesOr Handed answer past now)
      by None shown = record { now = past; shows = record { shown = shown; letters = subst (λ l. AreSent l (sent_in past)) (sym kept) was.letters }; is = refl }
      by (Some g) asked = asked_shows (Some g) [] now_sent (kept ∙ sym (append-nil sent)) asked

-- nothing happened
pub leads_nowhere : {G : Ghosts MemoryDisk} (core : Core) (stations : List (Station MemoryDisk G)) (sent : List Datagram) (past : List Move) (makes : Option StationFault → List Move → List Move → Type 0) (f : WorldFault)
    → refusal_in f ≡ None → Shows core stations sent past → LeadsTo core stations sent (λ now. DoesOr makes (refusal_in f) past now)
leads_nowhere core stations sent past makes f none was = record { now = past; shows = was; is = subst (λ o. DoesOr makes o past past) (sym none) refl }

-- the result of a call that failed
pub leads_err : {G : Ghosts MemoryDisk} (core : Core) (stations : List (Station MemoryDisk G)) (sent : List Datagram) (past : List Move) (makes : Option StationFault → List Move → List Move → Type 0) (result : Result Sent WorldFault) (f : WorldFault)
    → IsErrAnd result (λ x. x ≡ f) → LeadsTo core stations sent (λ now. DoesOr makes (refusal_in f) past now) → LeadsTo core stations sent (λ now. Does makes result past now)
leads_err core stations sent past makes (Ok x) f is leads = absurd is
leads_err core stations sent past makes (Err y) f is leads = record { now = leads.now; shows = leads.shows; is = subst (λ g. DoesOr makes (refusal_in g) past leads.now) (sym is) leads.is }

-- what is done may be said otherwise
pub leads_as : {G : Ghosts MemoryDisk} (core : Core) (stations : List (Station MemoryDisk G)) (sent : List Datagram) (past : List Move) (makes others : Option StationFault → List Move → List Move → Type 0) (result : Result Sent WorldFault)
    → ((answer : Option StationFault) (now : List Move) → makes answer past now → others answer past now) → LeadsTo core stations sent (λ now. Does makes result past now) → LeadsTo core stations sent (λ now. Does others result past now)
leads_as core stations sent past makes others result f leads = record { now = leads.now; shows = leads.shows; is = by result leads.is }
  where
    by_or : (o : Option StationFault) → DoesOr makes o past leads.now → DoesOr others o past leads.now
    by_or None is = is
    by_or (Some g) is = f (Some g) leads.now is

    by : (r : Result Sent WorldFault) → Does makes r past leads.now → Does others r past leads.now
    by (Ok x) is = f None leads.now is
    by (Err g) is = by_or (refusal_in g) is

-- core and datagrams stay
pub leads_same : {G : Ghosts MemoryDisk} (core new_core : Core) (stations : List (Station MemoryDisk G)) (sent new_sent : List Datagram) (P : List Move → Type 0) → new_core ≡ core → new_sent ≡ sent
    → LeadsTo core stations sent P → LeadsTo new_core stations new_sent P
leads_same core new_core stations sent new_sent P same_core same_sent leads =
    subst (λ c. LeadsTo c stations new_sent P) (sym same_core) (subst (λ l. LeadsTo core stations l P) (sym same_sent) leads)

-- nothing happened where a call failed and no station refused
pub leads_unasked : {G : Ghosts MemoryDisk} (core : Core) (stations : List (Station MemoryDisk G)) (sent now_sent : List Datagram) (past : List Move) (makes : Option StationFault → List Move → List Move → Type 0) (result : Result Sent WorldFault)
    (f : WorldFault) → IsErrAnd result (λ x. x ≡ f) → refusal_in f ≡ None → now_sent ≡ sent → Shows core stations sent past → LeadsTo core stations now_sent (λ now. Does makes result past now)
leads_unasked core stations sent now_sent past makes result f is none same was =
    leads_same core core stations sent now_sent (λ now. Does makes result past now) refl same (leads_err core stations sent past makes result f is (leads_nowhere core stations sent past makes f none was))
