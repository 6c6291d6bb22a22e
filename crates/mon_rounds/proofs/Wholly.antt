-- A round from its beginning to its end.
use Rattle.std.proofs.Common.{ℕ, ◌≡◌, ◌≤◌, ◌+◌, ◌-◌, inl, inr, ⊎_elim, Bool, true, false, List, [], ◌∷◌, ◌++◌, Option, Some, None, Result, Ok, Err, length, refl, sym, ap, subst, ◌∙◌, arith}
use Rattle.std.specs.Prelude.{zero, suc, cond, is_some, nat_lt, option_map, ◌&&◌}
use Rattle.std.proofs.lemmas.List.{append-nil}
use Rattle.std.proofs.lemmas.List.Elements.{All-append, All-nil}
use Rattle.std.proofs.lemmas.List.Sums.{sum_by-append}
use Rattle.mon_disk.specs.declared.disk.Disk.{Ghosts}
use Rattle.mon_poller.specs.Polls.{Open}
use Rattle.mon_station.specs.ReadEvent.{OwnedEvent}
use Rattle.mon_station.specs.declared.running.Answer.{Answer}
use Rattle.mon_station.specs.declared.event.Event.TheVariants.{Timeout}
use Rattle.mon_udp.specs.declared.addr.Addr.{Addr}
use Rattle.mon_rounds.specs.declared.receiver.Arrival.{Arrival}
use Rattle.mon_rounds.specs.declared.receiver.Arrival.TheVariants.{Datagram, Quiet}
use Rattle.mon_rounds.specs.declared.round.Phase.{Phase}
use Rattle.mon_rounds.specs.declared.round.Phase.TheVariants.{Polling, AwaitResponses, TimingOut, Sharing, AwaitConfirmations, Over, BetweenRounds, Rested}
use Rattle.mon_rounds.specs.declared.round.Span.{Span}
use Rattle.mon_rounds.specs.declared.round.Span.TheVariants.{Round, Between}
use Rattle.mon_rounds.specs.Given.{AreGiven, IsGiven, with_octets}
use Rattle.mon_rounds.specs.Next.{GivesNext, IsEnded, LeadsTo, Proceeds, Receives, RoundState, TakesTurn, after_datagram, after_event, after_failure, after_polls, event_from, event_in_phase, may_time_out, next_event, phase_ended, save_if, settled, settled_phase, share_at, slot_after, listens_to, turns_left, waits_left}
use Rattle.mon_rounds.specs.Order.{RoundEvent, AreSoFar, IsRound}
use Rattle.mon_rounds.specs.Orderly.{begun, first_phase, first_wait, most_waits}
use Rattle.mon_rounds.proofs.Waited.{Keeps, settled_used}
use Rattle.mon_rounds.proofs.Onward.{round_within}
use Rattle.mon_rounds.specs.Reception.{EachLasts, HasWaits, Lasts, Reception, begins_in, begins_of}
use Rattle.mon_udp.proofs.Promised.{extended_by_none, extended_on}
use Rattle.mon_udp.specs.Told.{GoesOnBy, extended}
use Rattle.mon_rounds.specs.Kept.{Kept}
use Rattle.mon_rounds.specs.Whole.{GivesOn, HasRun, HasSame, IsWhole, IsWholeRest, IsWholeRound, RoundsView, view_of}
use Rattle.mon_station.specs.declared.running.Run.{Run}
use Rattle.mon_station.specs.declared.running.SourceFault.{SourceFault}
use Rattle.mon_station.specs.Ran.{AreAsked, AreCalls, Call, End, Event, Fault, Gave, Ran, Turn, events_of, go_on, goes_on, last_answer, result_of, state_after, turn_in, turns_of, view_after}
use Rattle.mon_station.specs.Seen.{Seen}
use Rattle.mon_station.specs.State.{State}

-- ---- one call
-- the event of a result
abbrev given_in : Result (Option OwnedEvent) SourceFault → List OwnedEvent
given_in (Ok (Some e)) = e ∷ []
given_in (Ok None) = []
given_in (Err f) = []

-- one event more
given_more : (events : List RoundEvent) (given : List OwnedEvent) (e : RoundEvent) (o : OwnedEvent) → AreGiven events given → IsGiven e o → AreGiven (events ++ e ∷ []) (given ++ o ∷ [])
given_more [] [] e o are is = (is, tt)
given_more [] (g ∷ given) e o are is = absurd are
given_more (x ∷ events) [] e o are is = absurd are
given_more (x ∷ events) (g ∷ given) e o are is = (are.0, given_more events given e o are.1 is)

given_none : (events : List RoundEvent) (given : List OwnedEvent) → AreGiven events given → AreGiven events (given ++ [])
given_none events given are = subst (AreGiven events) (sym (append-nil given)) are

-- the time between two rounds
abbrev is_rest : Phase → Bool
is_rest BetweenRounds = true
is_rest Rested = true
is_rest (Polling target) = false
is_rest AwaitResponses = false
is_rest (TimingOut last) = false
is_rest (Sharing slot) = false
is_rest AwaitConfirmations = false
is_rest Over = false

-- what a call leaves
record IsLeft (r new : RoundState) (result : Result (Option OwnedEvent) SourceFault) : Type 0 where
  same : HasSame r new
  saving : new.saving ≡ r.saving
  given : (all : List OwnedEvent) → AreGiven r.events all → AreGiven new.events (all ++ given_in result)
  rest : is_rest new.phase ≡ is_rest r.phase

itself : (r : RoundState) → HasSame r r
itself r = record { targets = refl; peers = refl; peer_addresses = refl; wait_ms = refl; tries = refl; saves = refl }

-- whether this is the time between two rounds, after an event or after none
abbrev rest_after : RoundState → Option RoundEvent → Bool
rest_after r n = is_rest (after_event r n).phase

ended_rest : (phase : Phase) → is_rest (phase_ended phase) ≡ is_rest phase
ended_rest (Polling target) = refl
ended_rest AwaitResponses = refl
ended_rest (TimingOut last) = refl
ended_rest (Sharing slot) = refl
ended_rest AwaitConfirmations = refl
ended_rest Over = refl
ended_rest BetweenRounds = refl
ended_rest Rested = refl

save_rest : (r : RoundState) (saves : Bool) → is_rest r.phase ≡ false → rest_after r (save_if saves) ≡ false
save_rest r true round = refl
save_rest r false round = ended_rest r.phase ∙ round

share_rest : (r : RoundState) (saves : Bool) (peers : List ℕ) (slot : ℕ) → is_rest r.phase ≡ false → rest_after r (share_at saves peers slot) ≡ false
share_rest r saves [] slot round = save_rest r saves round
share_rest r saves (p ∷ peers) zero round = elim (nat_lt (slot_after r.phase) (length r.peers)) as (λ b. is_rest (cond b (Sharing (slot_after r.phase)) AwaitConfirmations) ≡ false) [ true ↦ refl | false ↦ refl ]
share_rest r saves (p ∷ peers) (suc slot) round = share_rest r saves peers slot round

-- after the polls a round goes on
polls_rest : (r : RoundState) (oldest : Option ℕ) → is_rest r.phase ≡ false → rest_after r (after_polls r oldest) ≡ false
polls_rest r None round = share_rest r r.saving r.peers 0 round
polls_rest r (Some id) round = timed (may_time_out r.phase r)
  where
    timed : (b : Bool) → rest_after r (cond b (Some (Timeout id)) (share_at r.saving r.peers 0)) ≡ false
    timed true = refl
    timed false = share_rest r r.saving r.peers 0 round

-- the phase that the next event of a round leaves, or its end
event_rest : (r : RoundState) (oldest : Option ℕ) (phase : Phase) → r.phase ≡ phase → rest_after r (event_in_phase phase r oldest) ≡ is_rest phase
event_rest r oldest (Polling target) is =
    elim (nat_lt (target + 1) (length r.targets)) as (λ b. is_rest (cond b (Polling (target + 1)) AwaitResponses) ≡ false) [ true ↦ refl | false ↦ refl ]
event_rest r oldest AwaitResponses is = polls_rest r oldest (ap is_rest is)
event_rest r oldest (TimingOut last) is = polls_rest r oldest (ap is_rest is)
event_rest r oldest (Sharing slot) is = share_rest r r.saving r.peers slot (ap is_rest is)
event_rest r oldest AwaitConfirmations is = save_rest r r.saving (ap is_rest is)
event_rest r oldest Over is = ended_rest r.phase ∙ ap is_rest is
event_rest r oldest BetweenRounds is = ended_rest r.phase ∙ ap is_rest is
event_rest r oldest Rested is = ended_rest r.phase ∙ ap is_rest is

-- the next event of the round, if it has one
next_left : (r : RoundState) (oldest : Option ℕ) (n : Option RoundEvent) → next_event r oldest ≡ n → IsLeft r (after_event r n) (Ok (option_map (λ e. with_octets e []) n))
next_left r oldest None is = record {
  same = record { targets = refl; peers = refl; peer_addresses = refl; wait_ms = refl; tries = refl; saves = refl };
  saving = refl;
  given = λ all are. given_none r.events all are;
  rest = ended_rest r.phase;
}
next_left r oldest (Some e) is = record {
  same = record { targets = refl; peers = refl; peer_addresses = refl; wait_ms = refl; tries = refl; saves = refl };
  saving = refl;
  given = λ all are. given_more r.events all e (with_octets e []) are ([], refl);
  rest = subst (λ n. rest_after r n ≡ is_rest r.phase) is (event_rest r oldest r.phase refl);
}

left_as : (r new other : RoundState) (result given : Result (Option OwnedEvent) SourceFault) → new ≡ other → result ≡ given → IsLeft r other given → IsLeft r new result
left_as r new other result given is same left = subst (λ (s : RoundState). IsLeft r s result) (sym is) (subst (λ (g : Result (Option OwnedEvent) SourceFault). IsLeft r other g) (sym same) left)

proceeds_left : (r new : RoundState) (oldest : Option ℕ) (result : Result (Option OwnedEvent) SourceFault) → Proceeds r oldest result new → IsLeft r new result
proceeds_left r new oldest result p = left_as r new _ result _ p.after p.event (next_left r oldest (next_event r oldest) refl)

arrived_left : (r new : RoundState) (oldest : Option ℕ) (arrival : Option Arrival) (result : Result (Option OwnedEvent) SourceFault) → LeadsTo r oldest arrival result new → IsLeft r new result
arrived_left r new oldest None result m = left_as r new (after_failure r) result (Err m.fault.0) m.after m.fault.1 (record { same = record { targets = refl; peers = refl; peer_addresses = refl; wait_ms = refl; tries = refl; saves = refl }; saving = refl; given = λ all are. given_none r.events all are; rest = refl })
arrived_left r new oldest (Some Quiet) result p = proceeds_left r new oldest result p
arrived_left r new oldest (Some (Datagram from octets)) result h =
    left_as r new (after_datagram r from) result (Ok (Some (with_octets (event_from r from) octets))) h.after h.event
    (record { same = record { targets = refl; peers = refl; peer_addresses = refl; wait_ms = refl; tries = refl; saves = refl }; saving = refl; given = λ all are. given_more r.events all (event_from r from) (with_octets (event_from r from) octets) are (octets, refl); rest = refl })

received_left : (r new : RoundState) (oldest : Option ℕ) (last : Option Answer) (log : List Reception) (result : Result (Option OwnedEvent) SourceFault) → Receives r oldest last log result new → IsLeft r new result
received_left r new oldest last [] result g = proceeds_left r new oldest result g.1
received_left r new oldest last (one ∷ []) result g = arrived_left r new oldest one.arrival result g.1
received_left r new oldest last (one ∷ two ∷ more) result g = absurd g

settled_rest : (phase : Phase) (more : Bool) → is_rest (settled_phase phase more) ≡ is_rest phase
settled_rest (TimingOut last) true = refl
settled_rest (TimingOut last) false = refl
settled_rest (Polling target) more = refl
settled_rest AwaitResponses more = refl
settled_rest (Sharing slot) more = refl
settled_rest AwaitConfirmations more = refl
settled_rest Over more = refl
settled_rest BetweenRounds more = refl
settled_rest Rested more = refl

call_left : (r new : RoundState) (open_polls : Open) (last : Option Answer) (log : List Reception) (result : Result (Option OwnedEvent) SourceFault) → GivesNext r open_polls last log result new → IsLeft r new result
call_left r new open_polls last log result g =
    let left = received_left (settled r g.more) new g.oldest last log result g.gives in
    record {
      same = record { targets = left.same.targets; peers = left.same.peers; peer_addresses = left.same.peer_addresses; wait_ms = left.same.wait_ms; tries = left.same.tries; saves = left.same.saves };
      saving = left.saving;
      given = left.given;
      rest = left.rest ∙ settled_rest r.phase (is_some g.more && nat_lt 0 r.timeouts);
    }

-- ---- all calls
same_then : (a b c : RoundState) → HasSame a b → HasSame b c → HasSame a c
same_then a b c one two = record {
  targets = two.targets ∙ one.targets;
  peers = two.peers ∙ one.peers;
  peer_addresses = two.peer_addresses ∙ one.peer_addresses;
  wait_ms = two.wait_ms ∙ one.wait_ms;
  tries = two.tries ∙ one.tries;
  saves = two.saves ∙ one.saves;
}

-- what the turn of a call was given
turn_given : (gave : Gave) (turns : List Turn) → events_of (turn_in gave ++ turns) ≡ events_of turns ++ given_in (result_of gave)
turn_given (Event t) turns = refl
turn_given End turns = sym (append-nil (events_of turns))
turn_given (Fault f) turns = sym (append-nil (events_of turns))

-- what calls leave
pub record AreLeft (first now : RoundState) (given : List OwnedEvent) : Type 0 where
  pub same : HasSame first now
  pub saving : now.saving ≡ first.saving
  pub are : AreGiven now.events given
  pub rest : is_rest now.phase ≡ is_rest first.phase

pub calls_left : (v : RoundsView) (s : State) (calls : List (Call RoundsView)) → v.round.events ≡ [] → AreCalls GivesOn v s calls → AreLeft v.round (view_after v calls).round (events_of (turns_of calls))
calls_left v s [] none are = record { same = itself v.round; saving = refl; are = subst (λ (l : List RoundEvent). AreGiven l []) (sym none) tt; rest = refl }
calls_left v s (c ∷ calls) none are =
    let before = calls_left v s calls none are.2 in
    let gives = are.0.gives in
    let left = call_left (view_after v calls).round c.view.round (state_after s (turns_of calls)).poller.polls.open_polls (last_answer calls) gives.step.more (result_of c.gave) gives.step.holds in
    record {
      same = same_then v.round (view_after v calls).round c.view.round before.same left.same;
      saving = left.saving ∙ before.saving;
      are = subst (AreGiven c.view.round.events) (sym (turn_given c.gave (turns_of calls))) (left.given (events_of (turns_of calls)) before.are);
      rest = left.rest ∙ before.rest;
    }

-- each call but the end leaves fewer
fewer : (gave : Gave) (before now n first : ℕ) → goes_on gave ≡ true → TakesTurn (result_of gave) before now → before + n ≤ first → now + (n + 1) ≤ first
fewer (Event t) before now n first on takes le = omega (arith, takes, le)
fewer End before now n first on takes le = absurd (let no : false ≡ true = on in cc)
fewer (Fault f) before now n first on takes le = omega (arith, takes, le)

counted : (v : RoundsView) (s : State) (calls : List (Call RoundsView)) → AreCalls GivesOn v s calls → go_on calls ≡ true → turns_left (view_after v calls).round + length calls ≤ turns_left v.round
counted v s [] are on = omega arith
counted v s (c ∷ calls) are on =
    let le = counted v s calls are.2 are.1 in
    let now : turns_left c.view.round + (length calls + 1) ≤ turns_left v.round =
    fewer c.gave (turns_left (view_after v calls).round) (turns_left c.view.round) (length calls) (turns_left v.round) on are.0.gives.turns le in
    omega (arith, now)

-- so a run of 5000 calls comes to the end
comes_to : (v : RoundsView) (s : State) (calls : List (Call RoundsView)) (b : Bool) → go_on calls ≡ b → turns_left v.round ≤ 4704 → AreCalls GivesOn v s calls → AreAsked 5000 calls → go_on calls ≡ false
comes_to v s calls false is few are asked = is
comes_to v s calls true is few are asked =
    let le = counted v s calls are is in
    ⊎_elim (λ all. absurd (omega (arith, le, few, all))) (λ less. less.1) asked

end_of : (gave : Gave) → goes_on gave ≡ false → result_of gave ≡ Ok None
end_of (Event t) off = absurd (let no : true ≡ false = off in cc)
end_of End off = refl
end_of (Fault f) off = absurd (let no : true ≡ false = off in cc)

last_ends : (v : RoundsView) (s : State) (calls : List (Call RoundsView)) → go_on calls ≡ false → AreCalls GivesOn v s calls → IsEnded (view_after v calls).round.phase
last_ends v s [] off are = absurd (let no : true ≡ false = off in cc)
last_ends v s (c ∷ calls) off are = are.0.gives.ended (end_of c.gave off)

pub ends : (v : RoundsView) (s : State) (calls : List (Call RoundsView)) → turns_left v.round ≤ 4704 → AreCalls GivesOn v s calls → AreAsked 5000 calls → IsEnded (view_after v calls).round.phase
ends v s calls few are asked = last_ends v s calls (comes_to v s calls (go_on calls) refl few are asked) are

pub over : (phase : Phase) → IsEnded phase → is_rest phase ≡ false → phase ≡ Over
over phase (inl is) round = is
over phase (inr is) round = absurd (let no : true ≡ false = sym (ap is_rest is) ∙ round in cc)

pub rested : (phase : Phase) → IsEnded phase → is_rest phase ≡ true → phase ≡ Rested
rested phase (inl is) rest = absurd (let no : false ≡ true = sym (ap is_rest is) ∙ rest in cc)
rested phase (inr is) rest = is

-- ---- waits
-- the waits of calls
record AreWaited (m : ℕ) (v w : RoundsView) : Type 0 where
  more : List Reception
  told : w.heard ≡ extended v.heard more
  few : begins_in more + waits_left w.round.phase w.round ≤ waits_left v.round.phase v.round
  each : EachLasts m more
  keeps : Keeps m w.round

calls_waited : (m : ℕ) (v : RoundsView) (s : State) (calls : List (Call RoundsView)) → Keeps m v.round → AreCalls GivesOn v s calls → AreWaited m v (view_after v calls)
calls_waited m v s [] keeps are = record { more = []; told = sym (extended_by_none v.heard); few = omega arith; each = All-nil (λ r. Lasts m r.wait); keeps = keeps }
calls_waited m v s (c ∷ calls) keeps are =
    let before = calls_waited m v s calls keeps are.2 in
    let step = are.0.gives.step in
    let used = settled_used m (view_after v calls).round c.view.round step.holds.more step.holds.oldest (last_answer calls) step.more (result_of c.gave) step.holds.gives before.keeps in
    let count : begins_in (before.more ++ step.more) ≡ begins_in before.more + begins_in step.more = sum_by-append (λ r. begins_of r.wait) before.more step.more in
    record {
      more = before.more ++ step.more;
      told = extended_on v.heard (view_after v calls).heard c.view.heard before.more step.more before.told step.told;
      few = omega (arith, before.few, used.few, count);
      each = All-append (λ r. Lasts m r.wait) before.more step.more before.each used.each;
      keeps = used.keeps;
    }

begin_keeps : (span : Span) (r : RoundState) → Keeps (first_wait span r.wait_ms) (begun span r)
begin_keeps Round r = inr (refl, inl refl)
begin_keeps (Between milliseconds) r = inr (refl, inr refl)

first_left : (r : RoundState) (targets : List Addr) → waits_left (first_phase Round targets) (begun Round r) ≡ 1 + (r.tries + listens_to r.peers)
first_left r [] = refl
first_left r (t ∷ targets) = refl

begin_left : (span : Span) (r : RoundState) → waits_left (begun span r).phase (begun span r) ≡ most_waits span r
begin_left Round r = first_left r r.targets
begin_left (Between milliseconds) r = refl

-- ---- whole runs
begins_round : (targets : List Addr) → is_rest (first_phase Round targets) ≡ false
begins_round [] = refl
begins_round (t ∷ targets) = refl

module _ {X : Type 0} {G : Ghosts X} (old new : RoundState) (begins : RoundState) (heard now : Option (List Reception)) (first_kept last_kept : Kept) (before after : Seen RoundsView G) (run : Run)
    (ran : Ran GivesOn before after 5000 run) (from : before.view ≡ view_of begins heard first_kept) (to : after.view ≡ view_of new now last_kept)
    (none : begins.events ≡ []) (few : turns_left begins ≤ 4704) (still : HasSame old begins) (marked : begins.saving ≡ old.saves)
    (order : AreSoFar (length new.targets) (new.tries - new.quiets) new.peers new.saving new.phase new.events) where
  abbrev given : List OwnedEvent
  given = events_of (turns_of ran.calls)

  first_is : before.view.round ≡ begins
  first_is = ap (λ (v : RoundsView). v.round) from

  last_is : (view_after before.view ran.calls).round ≡ new
  last_is = ap (λ (v : RoundsView). v.round) (sym ran.did.view ∙ to)

  left : AreLeft begins new given
  left =
      subst (λ (r : RoundState). AreLeft r new given) first_is
      (subst (λ (r : RoundState). AreLeft before.view.round r given) last_is
      (calls_left before.view before.state ran.calls (ap (λ (r : RoundState). r.events) first_is ∙ none) ran.did.are))

  ended : IsEnded new.phase
  ended = subst (λ (r : RoundState). IsEnded r.phase) last_is (ends before.view before.state ran.calls (subst (λ (r : RoundState). turns_left r ≤ 4704) (sym first_is) few) ran.did.are ran.asked)

  kept : HasSame old new
  kept = same_then old begins new still left.same

  whole_round : is_rest begins.phase ≡ false → HasRun (IsWholeRound old new) before after run
  whole_round round =
      let phase : new.phase ≡ Over = over new.phase ended (left.rest ∙ round) in
      let events : IsRound (length new.targets) (new.tries - new.quiets) new.peers new.saving new.events = subst (λ (p : Phase). AreSoFar (length new.targets) (new.tries - new.quiets) new.peers new.saving p new.events) phase order in
      let within : IsRound (length new.targets) new.tries new.peers new.saving new.events = round_within (length new.targets) (new.tries - new.quiets) new.tries new.peers new.saving new.events (omega arith) events in
      let said : IsRound (length new.targets) new.tries new.peers old.saves new.events = subst (λ (b : Bool). IsRound (length new.targets) new.tries new.peers b new.events) (left.saving ∙ marked) within in
      record {
        ran = ran;
        are = record {
          same = kept;
          over = phase;
          order =
              subst (λ (t : ℕ). IsRound (length old.targets) t old.peers old.saves new.events) kept.tries
              (subst (λ (n : ℕ). IsRound n new.tries old.peers old.saves new.events) (ap length kept.targets) (subst (λ (p : List ℕ). IsRound (length new.targets) new.tries p old.saves new.events) kept.peers said));
          are = left.are;
        };
      }

  whole_rest : is_rest begins.phase ≡ true → HasRun (IsWholeRest old new) before after run
  whole_rest resting =
      let phase : new.phase ≡ Rested = rested new.phase ended (left.rest ∙ resting) in
      record {
        ran = ran;
        are = record {
          same = kept;
          over = phase;
          each = subst (λ (p : Phase). AreSoFar (length new.targets) (new.tries - new.quiets) new.peers new.saving p new.events) phase order;
          are = left.are;
        };
      }

  pub whole : (span : Span) → begins.phase ≡ first_phase span begins.targets → HasRun (IsWhole span old new) before after run
  whole Round is = whole_round (ap is_rest is ∙ begins_round begins.targets)
  whole (Between milliseconds) is = whole_rest (ap is_rest is)

  pub waited : (span : Span) → begins ≡ begun span old → GoesOnBy (HasWaits (most_waits span old) (first_wait span old.wait_ms)) heard now
  waited span is =
      let m = first_wait span old.wait_ms in
      let at : before.view.round ≡ begun span old = first_is ∙ is in
      let all = calls_waited m before.view before.state ran.calls (subst (Keeps m) (sym at) (begin_keeps span old)) ran.did.are in
      let left : waits_left before.view.round.phase before.view.round ≡ most_waits span old = ap (λ (r : RoundState). waits_left r.phase r) at ∙ begin_left span old in
      let last : (view_after before.view ran.calls).heard ≡ now = ap (λ (v : RoundsView). v.heard) (sym ran.did.view ∙ to) in
      let first : before.view.heard ≡ heard = ap (λ (v : RoundsView). v.heard) from in
      record {
        more = all.more;
        holds = record { few = omega (arith, all.few, left); each = all.each };
        told = sym last ∙ all.told ∙ ap (λ h. extended h all.more) first;
      }
