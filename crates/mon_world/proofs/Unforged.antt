-- Steps that forge nothing.
use Rattle.std.proofs.Common.{ℕ, zero, suc, ◌≡◌, ◌+◌, Bool, List, [], ◌∷◌, ◌++◌, Option, Some, None, Result, Ok, Err, refl, sym, ap, subst, arith}
use Rattle.std.specs.Prelude.{Contains, slice_get}
use Rattle.std.specs.List.{AllByRecursion}
use Rattle.mon_board.specs.Watch.{Watch}
use Rattle.mon_disk.specs.declared.fault.KeeperFault.TheVariants as keeper
use Rattle.mon_exchange.specs.declared.claim.Claim.{Claim}
use Rattle.mon_exchange.specs.declared.fault.ExchangeFault.{ExchangeFault}
use Rattle.mon_exchange.specs.Claim.{IsClaim, SpellsClaim, claim_octets}
use Rattle.mon_station.specs.declared.fault.StationFault.{StationFault}
use Rattle.mon_station.specs.declared.fault.StationFault.TheVariants as fault
use Rattle.mon_station.specs.Lived.{last_state}
use Rattle.mon_station.specs.ReadEvent.{ReadEvent, ReadsAs, Said, SaysAs, OwnedEvent}
use Rattle.mon_station.specs.declared.event.Event.TheVariants.{FromPeer, Save, StartPoll, Timeout, FromAgent, Share}
use Rattle.mon_station.specs.State.{State}
use Rattle.mon_station.specs.Taken.{Answered}
use Rattle.mon_station.specs.Verdict.{Setting}
use Rattle.mon_world.specs.declared.fault.WorldFault.{WorldFault}
use Rattle.mon_world.specs.declared.sending.Sent.{Sent}
use Rattle.mon_world.specs.declared.step.Step.{Step}
use Rattle.mon_world.specs.declared.step.Step.TheVariants as step
use Rattle.mon_world.specs.Fault.{refusal_in}
use Rattle.mon_world.specs.Moves.{AreUnforged, Letter, Move, WasSent, letters_by, lives_of, sent_in}
use Rattle.mon_world.specs.Outcome.{AreStepOutcomes, answers, life_begins, first_lives, target_number, DoesOr, Hands, IsStepOutcome, IsUnforged, Makes, Opens, StopsAndOpens}
use Rattle.mon_world.specs.Places.{HasNumber}
use Rattle.mon_world.proofs.Lives.{not_some, some_same}
use Rattle.mon_world.proofs.Letters.{claims_append, claims_of}

-- ---- lists
all_front : {A : Type 0} (P : A → Type 0) (xs ys : List A) → AllByRecursion P (xs ++ ys) → AllByRecursion P xs
all_front P [] ys all = tt
all_front P (x ∷ xs) ys all = (all.0, all_front P xs ys all.1)

abbrev pub AreClaims : List Move → Type 0
AreClaims moves = AllByRecursion IsClaim (claims_of (sent_in moves))

claims_before : (m : Move) (moves : List Move) → AreClaims (m ∷ moves) → AreClaims moves
claims_before m moves all =
    all_front IsClaim (claims_of (sent_in moves)) (claims_of (letters_by (last_state (lives_of m.station moves)) m.entry))
    (subst (AllByRecursion IsClaim) (claims_append (sent_in moves) (letters_by (last_state (lives_of m.station moves)) m.entry)) all)

claim_there : (letters : List Letter) (n : ℕ) (l : Letter) → slice_get letters n ≡ Some l → AllByRecursion IsClaim (claims_of letters) → IsClaim l.claim × Contains (claims_of letters) l.claim
claim_there [] n l is all = absurd (not_some is)
claim_there (m ∷ letters) zero l is all =
    let same : m.claim ≡ l.claim = ap (λ (k : Letter). k.claim) (some_same is) in
    (subst IsClaim same all.0, (0, omega arith, same))
claim_there (m ∷ letters) (suc n) l is all =
    let rest = claim_there letters n l is all.1 in
    (rest.0, (suc rest.1.0, omega (arith, rest.1.1), rest.1.2))

-- ---- what a move was given
-- an event that is no claim
harmless : (letters : List Letter) (watch : Watch) (event : OwnedEvent) (e : ReadEvent) (answer : Option StationFault) → ((octets : List ℕ) → event ≡ FromPeer octets → ⊥) → ReadsAs watch event e → WasSent letters (Answered e answer)
harmless letters watch (StartPoll target) e answer no_claim is = subst (λ r. WasSent letters (Answered r answer)) (sym is) tt
harmless letters watch (Timeout id) e answer no_claim is = subst (λ r. WasSent letters (Answered r answer)) (sym is) tt
harmless letters watch (FromAgent from octets) e answer no_claim is = subst (λ r. WasSent letters (Answered r answer)) (sym is.2) tt
harmless letters watch (FromPeer octets) e answer no_claim is = absurd (no_claim octets refl)
harmless letters watch (Share y) e answer no_claim is = subst (λ r. WasSent letters (Answered r answer)) (sym is) tt
harmless letters watch Save e answer no_claim is = subst (λ r. WasSent letters (Answered r answer)) (sym is) tt

module _ (meaning : (octets : List ℕ) (c d : Claim) → SpellsClaim octets c → SpellsClaim octets d → c ≡ d) (settings : ℕ → Setting) where
  delivered : (letters : List Letter) (watch : Watch) (l : Letter) → IsClaim l.claim → Contains (claims_of letters) l.claim → (e : ReadEvent) (answer : Option StationFault) → ReadsAs watch (FromPeer (claim_octets l.claim)) e → WasSent letters (Answered e answer)
  delivered letters watch l valid there e answer is = subst (λ r. WasSent letters (Answered r answer)) (sym is.2) (by is.0 answer is.1)
    where
      by : (said : Result Said ExchangeFault) (a : Option StationFault) → SaysAs watch (claim_octets l.claim) said → WasSent letters (Answered (FromPeer said) a)
      by (Ok said) None says =
          let same : l.claim ≡ said.claim = meaning (claim_octets l.claim) l.claim said.claim (record { spelled = refl; valid = valid }) says.0 in
          subst (Contains (claims_of letters)) same there
      by (Ok said) (Some f) says = tt
      by (Err f) None says = tt
      by (Err f) (Some g) says = tt

  handed : (w : Setting) (x : ℕ) (event : OwnedEvent) (answer : Option StationFault) (past now : List Move) → ((e : ReadEvent) → ReadsAs w.watch event e → WasSent (sent_in past) (Answered e answer)) → Hands w x event answer past now → AreUnforged past → AreUnforged now
  handed w x event answer past now sent h were = subst AreUnforged (sym h.is) (sent h.read h.reads, were)

  opened : (x : ℕ) (answer : Option StationFault) (past now : List Move) → Opens settings x answer past now → AreUnforged past → AreUnforged now
  opened x None past now o were = subst AreUnforged (sym o.2) (tt, were)
  opened x (Some f) past now o were = subst AreUnforged (sym o) were

  stopped : (x calls : ℕ) (keep : Bool) (answer : Option StationFault) (past now : List Move) → StopsAndOpens settings x calls keep answer past now → AreUnforged past → AreUnforged now
  stopped x calls keep None past now o were = subst AreUnforged (sym o.is) (tt, (tt, were))
  stopped x calls keep (Some f) past now o were = subst AreUnforged (sym o) were

  letter_sent : (d : ℕ) (l : Letter) (past : List Move) → HasNumber (sent_in past) d l → AreClaims past → IsClaim l.claim × Contains (claims_of (sent_in past)) l.claim
  letter_sent zero l past there all = absurd there
  letter_sent (suc n) l past there all = claim_there (sent_in past) n l there all

  made : (s : Step) (answer : Option StationFault) (past now : List Move) → IsUnforged s → AreClaims past → Makes settings s answer past now → AreUnforged past → AreUnforged now
  made (step.StartPoll x t) answer past now unforged all h were = handed (settings x) x (StartPoll (target_number t)) answer past now (λ e reads. harmless (sent_in past) (settings x).watch (StartPoll (target_number t)) e answer (λ octets is. cc) reads) h were
  made (step.AgentSays x t octets) answer past now unforged all h were = handed (settings x) x (FromAgent h.from octets.now) answer past now (λ e reads. harmless (sent_in past) (settings x).watch (FromAgent h.from octets.now) e answer (λ o is. cc) reads) h.hands were
  made (step.Timeout x id) answer past now unforged all h were = handed (settings x) x (Timeout id) answer past now (λ e reads. harmless (sent_in past) (settings x).watch (Timeout id) e answer (λ octets is. cc) reads) h were
  made (step.Share x p) answer past now unforged all h were = handed (settings x) x (Share p) answer past now (λ e reads. harmless (sent_in past) (settings x).watch (Share p) e answer (λ octets is. cc) reads) h were
  made (step.Deliver d) answer past now unforged all h were =
      let there = letter_sent d h.letter past h.there all in
      handed (settings h.letter.to) h.letter.to (FromPeer (claim_octets h.letter.claim)) answer past now (λ e reads. delivered (sent_in past) (settings h.letter.to).watch h.letter there.0 there.1 e answer reads) h.hands were
  made (step.Save x) answer past now unforged all h were = handed (settings x) x Save answer past now (λ e reads. harmless (sent_in past) (settings x).watch Save e answer (λ octets is. cc) reads) h were
  made (step.Restart x) answer past now unforged all h were = opened x answer past now h were
  made (step.Forge x octets) answer past now unforged all h were = absurd unforged
  made (step.Stop x calls keep) answer past now unforged all h were = stopped x calls keep answer past now h were

  -- ---- moves go on from those before
  hands_claims : (w : Setting) (x : ℕ) (event : OwnedEvent) (answer : Option StationFault) (past now : List Move) → Hands w x event answer past now → AreClaims now → AreClaims past
  hands_claims w x event answer past now h all = claims_before (answers x h.read answer h.after) past (subst AreClaims h.is all)

  opened_claims : (x : ℕ) (answer : Option StationFault) (past now : List Move) → Opens settings x answer past now → AreClaims now → AreClaims past
  opened_claims x None past now o all = claims_before (life_begins x o.0 (settings x) o.1) past (subst AreClaims o.2 all)
  opened_claims x (Some f) past now o all = subst AreClaims o all

  stopped_claims : (x calls : ℕ) (keep : Bool) (answer : Option StationFault) (past now : List Move) → StopsAndOpens settings x calls keep answer past now → AreClaims now → AreClaims past
  stopped_claims x calls keep None past now o all =
      let save = answers x Save (Some (fault.Keeper keeper.DiskFault)) o.running in
      claims_before save past (claims_before (life_begins x o.origin (settings x) o.after) (save ∷ past) (subst AreClaims o.is all))
  stopped_claims x calls keep (Some f) past now o all = subst AreClaims o all

  made_claims : (s : Step) (answer : Option StationFault) (past now : List Move) → Makes settings s answer past now → AreClaims now → AreClaims past
  made_claims (step.StartPoll x t) answer past now h all = hands_claims (settings x) x _ answer past now h all
  made_claims (step.AgentSays x t octets) answer past now h all = hands_claims (settings x) x _ answer past now h.hands all
  made_claims (step.Timeout x id) answer past now h all = hands_claims (settings x) x _ answer past now h all
  made_claims (step.Share x p) answer past now h all = hands_claims (settings x) x _ answer past now h all
  made_claims (step.Deliver d) answer past now h all = hands_claims (settings h.letter.to) h.letter.to _ answer past now h.hands all
  made_claims (step.Save x) answer past now h all = hands_claims (settings x) x _ answer past now h all
  made_claims (step.Restart x) answer past now h all = opened_claims x answer past now h all
  made_claims (step.Forge x octets) answer past now h all = hands_claims (settings x) x _ answer past now h all
  made_claims (step.Stop x calls keep) answer past now h all = stopped_claims x calls keep answer past now h all

  -- ---- steps and their results
  outcome_both : (s : Step) (r : Result Sent WorldFault) (past now : List Move) → IsUnforged s → AreClaims now → IsStepOutcome settings s r past now → AreClaims past × (AreUnforged past → AreUnforged now)
  outcome_both s (Ok x) past now unforged all h =
      let before = made_claims s None past now h all in
      (before, made s None past now unforged before h)
  outcome_both s (Err f) past now unforged all h = by (refusal_in f) h
    where
      by : (o : Option StationFault) → DoesOr (Makes settings s) o past now → AreClaims past × (AreUnforged past → AreUnforged now)
      by None is = (subst AreClaims is all, subst AreUnforged (sym is))
      by (Some g) h = let before = made_claims s (Some g) past now h all in (before, made s (Some g) past now unforged before h)

  outcomes_both : (n : ℕ) (steps : List Step) (results : List (Result Sent WorldFault)) (past now : List Move) → AllByRecursion IsUnforged steps → AreClaims now → AreStepOutcomes settings n steps results past now → AreClaims past × (AreUnforged past → AreUnforged now)
  outcomes_both n [] [] past now unforged all is = (subst AreClaims is all, subst AreUnforged (sym is))
  outcomes_both n [] (r ∷ results) past now unforged all h = absurd h
  outcomes_both n (s ∷ steps) [] past now unforged all h = absurd h
  outcomes_both n (s ∷ steps) (r ∷ results) past now unforged all h =
      let rest = outcomes_both n steps results h.0 now unforged.1 all h.2 in
      let first = outcome_both s r past h.0 unforged.0 rest.0 h.1.outcome in
      (first.0, λ were. rest.1 (first.1 were))

  -- steps of which none forges a claim
  pub unforged_outcomes : (n : ℕ) (steps : List Step) (results : List (Result Sent WorldFault)) (past now : List Move) → AllByRecursion IsUnforged steps → AreClaims now → AreStepOutcomes settings n steps results past now → AreUnforged past → AreUnforged now
  unforged_outcomes n steps results past now unforged all h = (outcomes_both n steps results past now unforged all h).1

  pub unforged_outcome : (s : Step) (r : Result Sent WorldFault) (past now : List Move) → IsUnforged s → AreClaims now → IsStepOutcome settings s r past now → AreUnforged past → AreUnforged now
  unforged_outcome s r past now unforged all h = (outcome_both s r past now unforged all h).1

-- this many stations, before any step
pub unforged_first : (settings : ℕ → Setting) (x : ℕ) (states : List State) → AreUnforged (first_lives settings x states)
unforged_first settings x [] = tt
unforged_first settings x (s ∷ states) = (tt, unforged_first settings (x + 1) states)
