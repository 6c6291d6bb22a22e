-- How often a round waits, and how long.
use Rattle.std.proofs.Common.{ℕ, ◌≡◌, ◌≤◌, ◌<◌, ◌+◌, ◌-◌, ◌*◌, ◌⊎◌, inl, inr, Bool, true, false, List, [], ◌∷◌, Option, Some, None, Result, length, map, refl, sym, ap, subst, ◌∙◌, arith, rules}
use Rattle.std.specs.Prelude.{zero, suc, cond, is_some, nat_lt, ◌&&◌}
use Rattle.std.proofs.lemmas.List.Elements.{All-head, All-nil, All-push, All-tail}
use Rattle.std.proofs.lemmas.List.Sums.{sum_by-cons}
use Rattle.mon_station.specs.ReadEvent.{OwnedEvent}
use Rattle.mon_station.specs.declared.event.Event.TheVariants.{StartPoll, Timeout, Share}
use Rattle.mon_station.specs.declared.running.Answer.{Answer}
use Rattle.mon_station.specs.declared.running.SourceFault.{SourceFault}
use Rattle.mon_rounds.specs.declared.receiver.Arrival.{Arrival}
use Rattle.mon_rounds.specs.declared.receiver.Arrival.TheVariants.{Datagram, Quiet}
use Rattle.mon_rounds.specs.declared.receiver.Wait.{Wait}
use Rattle.mon_rounds.specs.declared.receiver.Wait.TheVariants.{Begin, Renew, Rest}
use Rattle.mon_rounds.specs.declared.round.Phase.{Phase}
use Rattle.mon_rounds.specs.declared.round.Phase.TheVariants.{Polling, AwaitResponses, TimingOut, Sharing, AwaitConfirmations, Over, BetweenRounds, Rested}
use Rattle.mon_rounds.specs.Next.{LeadsTo, Receives, RoundState, after_datagram, after_event, after_failure, after_polls, event_in_phase, is_hearing, is_taken, listens_to, may_time_out, must_receive, next_event, next_wait, phase_ended, quiets_left, save_if, settled, settled_phase, share_at, slot_after, wait_due, wait_in, waits_left}
use Rattle.mon_rounds.specs.Order.{RoundEvent}
use Rattle.mon_rounds.specs.Reception.{AreTimely, EachLasts, HasWaits, Lasts, Reception, Timed, begins_in, begins_of, end_of, time_in}

-- ---- how many waits are left
-- without the one that is due
abbrev rest_left : Phase → RoundState → ℕ
rest_left (Polling target) r = 1 + (r.quiets + listens_to r.peers)
rest_left AwaitResponses r = r.quiets + listens_to r.peers
rest_left (TimingOut last) r = 1 + (r.quiets + listens_to r.peers)
rest_left (Sharing slot) r = 1
rest_left AwaitConfirmations r = 0
rest_left Over r = 0
rest_left BetweenRounds r = 0
rest_left Rested r = 0

-- after an event, or after none
abbrev left_after : RoundState → Option RoundEvent → ℕ
left_after r n = waits_left (after_event r n).phase (after_event r n)

ended_left : (r : RoundState) (phase : Phase) → waits_left (phase_ended phase) (after_event r None) ≡ 0
ended_left r (Polling target) = refl
ended_left r AwaitResponses = refl
ended_left r (TimingOut last) = refl
ended_left r (Sharing slot) = refl
ended_left r AwaitConfirmations = refl
ended_left r Over = refl
ended_left r BetweenRounds = refl
ended_left r Rested = refl

save_left : (r : RoundState) (saves : Bool) → left_after r (save_if saves) ≡ 0
save_left r true = refl
save_left r false = ended_left r r.phase

share_one : (r : RoundState) (p : ℕ) → left_after r (Some (Share p)) ≡ 1
share_one r p = elim (nat_lt (slot_after r.phase) (length r.peers)) as (λ b. waits_left (cond b (Sharing (slot_after r.phase)) AwaitConfirmations) (after_event r (Some (Share p))) ≡ 1) [ true ↦ refl | false ↦ refl ]

share_left : (r : RoundState) (saves : Bool) (peers : List ℕ) (slot : ℕ) → left_after r (share_at saves peers slot) ≤ 1
share_left r saves [] slot = let none = save_left r saves in omega (arith, none)
share_left r saves (p ∷ peers) zero = let one = share_one r p in omega (arith, one)
share_left r saves (p ∷ peers) (suc slot) = share_left r saves peers slot

share_first : (r : RoundState) (saves : Bool) (peers : List ℕ) → left_after r (share_at saves peers 0) ≤ listens_to peers
share_first r saves [] = let none = save_left r saves in omega (arith, none)
share_first r saves (p ∷ peers) = let one = share_one r p in omega (arith, one)

polls_left : (r : RoundState) (oldest : Option ℕ) (k : ℕ) → listens_to r.peers ≤ k → (may_time_out r.phase r ≡ true → 1 + (quiets_left r.phase r.quiets + listens_to r.peers) ≤ k) → left_after r (after_polls r oldest) ≤ k
polls_left r None k shares times = let first = share_first r r.saving r.peers in omega (arith, first, shares)
polls_left r (Some id) k shares times = timed (may_time_out r.phase r) refl
  where
    timed : (b : Bool) → may_time_out r.phase r ≡ b → left_after r (cond b (Some (Timeout id)) (share_at r.saving r.peers 0)) ≤ k
    timed true is = times is
    timed false is = let first = share_first r r.saving r.peers in omega (arith, first, shares)

some_quiets : (r : RoundState) → may_time_out AwaitResponses r ≡ true → 0 < r.quiets
some_quiets r may = let both : (0 < r.timeouts) × (0 < r.quiets) = search rules in both.1

event_left : (r : RoundState) (oldest : Option ℕ) (phase : Phase) → r.phase ≡ phase → left_after r (event_in_phase phase r oldest) ≤ rest_left phase r
event_left r oldest (Polling target) is =
    elim (nat_lt (target + 1) (length r.targets)) as (λ b. waits_left (cond b (Polling (target + 1)) AwaitResponses) (after_event r (Some (StartPoll target))) ≤ 1 + (r.quiets + listens_to r.peers)) [ true ↦ omega arith | false ↦ omega arith ]
event_left r oldest AwaitResponses is =
    let times : may_time_out r.phase r ≡ true → 1 + (quiets_left r.phase r.quiets + listens_to r.peers) ≤ r.quiets + listens_to r.peers =
    subst (λ p. may_time_out p r ≡ true → 1 + (quiets_left p r.quiets + listens_to r.peers) ≤ r.quiets + listens_to r.peers) (sym is)
    (λ may. let some = some_quiets r may in omega (arith, some)) in
    polls_left r oldest (r.quiets + listens_to r.peers) (omega arith) times
event_left r oldest (TimingOut last) is =
    let times : may_time_out r.phase r ≡ true → 1 + (quiets_left r.phase r.quiets + listens_to r.peers) ≤ 1 + (r.quiets + listens_to r.peers) =
    subst (λ p. may_time_out p r ≡ true → 1 + (quiets_left p r.quiets + listens_to r.peers) ≤ 1 + (r.quiets + listens_to r.peers)) (sym is) (λ may. omega arith) in
    polls_left r oldest (1 + (r.quiets + listens_to r.peers)) (omega arith) times
event_left r oldest (Sharing slot) is = share_left r r.saving r.peers slot
event_left r oldest AwaitConfirmations is = let none = save_left r r.saving in omega (arith, none)
event_left r oldest Over is = let none = ended_left r r.phase in omega (arith, none)
event_left r oldest BetweenRounds is = let none = ended_left r r.phase in omega (arith, none)
event_left r oldest Rested is = let none = ended_left r r.phase in omega (arith, none)

next_left : (r : RoundState) (oldest : Option ℕ) → left_after r (next_event r oldest) ≤ rest_left r.phase r
next_left r oldest = event_left r oldest r.phase refl

rest_within : (r : RoundState) (phase : Phase) → rest_left phase r ≤ waits_left phase r
rest_within r (Polling target) = omega arith
rest_within r AwaitResponses = omega arith
rest_within r (TimingOut last) = omega arith
rest_within r (Sharing slot) = omega arith
rest_within r AwaitConfirmations = omega arith
rest_within r Over = omega arith
rest_within r BetweenRounds = omega arith
rest_within r Rested = omega arith

-- where datagrams are received, the one that is due is left too
heard_left : (r : RoundState) (phase : Phase) → is_hearing phase ≡ true → waits_left phase r ≡ begins_of r.wait + rest_left phase r
heard_left r AwaitResponses at = refl
heard_left r AwaitConfirmations at = omega arith
heard_left r BetweenRounds at = omega arith
heard_left r (Polling target) at = absurd (let no : false ≡ true = at in cc)
heard_left r (TimingOut last) at = absurd (let no : false ≡ true = at in cc)
heard_left r (Sharing slot) at = absurd (let no : false ≡ true = at in cc)
heard_left r Over at = absurd (let no : false ≡ true = at in cc)
heard_left r Rested at = absurd (let no : false ≡ true = at in cc)

due_begins : (w : Wait) (last : Option Answer) → begins_of (wait_due w last) ≡ begins_of w
due_begins (Begin milliseconds) last = refl
due_begins Renew last = elim (is_taken last) as (λ b. begins_of (cond b Renew Rest) ≡ 0) [ true ↦ refl | false ↦ refl ]
due_begins Rest last = refl

in_begins : (phase : Phase) → begins_of (wait_in phase) ≡ 0
in_begins (Polling target) = refl
in_begins AwaitResponses = refl
in_begins (TimingOut last) = refl
in_begins (Sharing slot) = refl
in_begins AwaitConfirmations = refl
in_begins Over = refl
in_begins BetweenRounds = refl
in_begins Rested = refl

-- what is due, if something must be received
due_is : (r : RoundState) (last : Option Answer) (w : Wait) → next_wait r last ≡ Some w → (is_hearing r.phase ≡ true) × (w ≡ wait_due r.wait last)
due_is r last w is = by_test (must_receive r) refl is
  where
    by_test : (b : Bool) → must_receive r ≡ b → cond b (Some (wait_due r.wait last)) None ≡ Some w → (is_hearing r.phase ≡ true) × (w ≡ wait_due r.wait last)
    by_test true must is =
        let due : wait_due r.wait last ≡ w = (let s : Some (wait_due r.wait last) ≡ Some w = is in cc) in
        let at : is_hearing r.phase ≡ true = search rules in
        (at, sym due)
    by_test false must is = absurd (let s : None ≡ Some w = is in cc)

-- after a reception
arrived_uses : (r new : RoundState) (oldest : Option ℕ) (arrival : Option Arrival) (result : Result (Option OwnedEvent) SourceFault) → is_hearing r.phase ≡ true → LeadsTo r oldest arrival result new
    → waits_left new.phase new ≤ rest_left r.phase r
arrived_uses r new oldest None result at leads =
    subst (λ (n : RoundState). waits_left n.phase n ≤ rest_left r.phase r) (sym leads.after) (let left = heard_left (after_failure r) r.phase at in same_left r.phase at left)
  where
    same_left : (phase : Phase) → is_hearing phase ≡ true → waits_left phase (after_failure r) ≡ begins_of Rest + rest_left phase (after_failure r) → waits_left phase (after_failure r) ≤ rest_left phase r
    same_left AwaitResponses at left = omega arith
    same_left AwaitConfirmations at left = omega arith
    same_left BetweenRounds at left = omega arith
    same_left (Polling target) at left = omega arith
    same_left (TimingOut last) at left = omega arith
    same_left (Sharing slot) at left = omega arith
    same_left Over at left = omega arith
    same_left Rested at left = omega arith
arrived_uses r new oldest (Some Quiet) result at leads =
    subst (λ (n : RoundState). waits_left n.phase n ≤ rest_left r.phase r) (sym leads.after) (next_left r oldest)
arrived_uses r new oldest (Some (Datagram from octets)) result at leads =
    subst (λ (n : RoundState). waits_left n.phase n ≤ rest_left r.phase r) (sym leads.after) (none_left r.phase at (in_begins r.phase))
  where
    none_left : (phase : Phase) → is_hearing phase ≡ true → begins_of (after_datagram r from).wait ≡ 0 → waits_left phase (after_datagram r from) ≤ rest_left phase r
    none_left AwaitResponses at none = omega (arith, none)
    none_left AwaitConfirmations at none = omega (arith, none)
    none_left BetweenRounds at none = omega (arith, none)
    none_left (Polling target) at none = omega arith
    none_left (TimingOut last) at none = omega arith
    none_left (Sharing slot) at none = omega arith
    none_left Over at none = omega arith
    none_left Rested at none = omega arith

received_uses : (r new : RoundState) (oldest : Option ℕ) (last : Option Answer) (log : List Reception) (result : Result (Option OwnedEvent) SourceFault) → Receives r oldest last log result new
    → begins_in log + waits_left new.phase new ≤ waits_left r.phase r
received_uses r new oldest last [] result g =
    let left = next_left r oldest in
    let within = rest_within r r.phase in
    subst (λ (n : RoundState). 0 + waits_left n.phase n ≤ waits_left r.phase r) (sym g.1.after) (omega (arith, left, within))
received_uses r new oldest last (one ∷ []) result g =
    let due = due_is r last one.wait g.0 in
    let left = arrived_uses r new oldest one.arrival result due.0 g.1 in
    let all = heard_left r r.phase due.0 in
    let begins : begins_of one.wait ≡ begins_of r.wait = ap begins_of due.1 ∙ due_begins r.wait last in
    omega (arith, left, all, begins)
received_uses r new oldest last (one ∷ two ∷ more) result g = absurd g

begins_one : (w : Wait) → begins_of w ≤ 1
begins_one (Begin milliseconds) = omega arith
begins_one Renew = omega arith
begins_one Rest = omega arith

settled_left : (r : RoundState) (phase : Phase) (more : Bool) → waits_left (settled_phase phase more) (record r { phase = settled_phase phase more }) ≤ waits_left phase r
settled_left r (TimingOut last) true = omega arith
settled_left r (TimingOut last) false = let one = begins_one r.wait in omega (arith, one)
settled_left r (Polling target) more = omega arith
settled_left r AwaitResponses more = omega arith
settled_left r (Sharing slot) more = omega arith
settled_left r AwaitConfirmations more = omega arith
settled_left r Over more = omega arith
settled_left r BetweenRounds more = omega arith
settled_left r Rested more = omega arith

-- ---- how long each wait is
-- a wait that begins lasts this many milliseconds, or none begins any more
abbrev pub Keeps : ℕ → RoundState → Type 0
Keeps m r = (r.phase ≡ Rested) ⊎ (Lasts m r.wait × ((r.wait_ms ≡ m) ⊎ (r.phase ≡ BetweenRounds)))

due_lasts : (m : ℕ) (w : Wait) (last : Option Answer) → Lasts m w → Lasts m (wait_due w last)
due_lasts m (Begin milliseconds) last lasts = lasts
due_lasts m Renew last lasts = elim (is_taken last) as (λ b. Lasts m (cond b Renew Rest)) [ true ↦ tt | false ↦ tt ]
due_lasts m Rest last lasts = tt

in_lasts : (m : ℕ) (phase : Phase) → Lasts m (wait_in phase)
in_lasts m (Polling target) = tt
in_lasts m AwaitResponses = tt
in_lasts m (TimingOut last) = tt
in_lasts m (Sharing slot) = tt
in_lasts m AwaitConfirmations = tt
in_lasts m Over = tt
in_lasts m BetweenRounds = tt
in_lasts m Rested = tt

next_keeps : (m : ℕ) (r : RoundState) (oldest : Option ℕ) (n : Option RoundEvent) → next_event r oldest ≡ n → Keeps m r → Keeps m (after_event r n)
next_keeps m r oldest None is (inl rested) = inl (ap phase_ended rested)
next_keeps m r oldest None is (inr (lasts, inl same)) = inr (same, inl same)
next_keeps m r oldest None is (inr (lasts, inr resting)) = inl (ap phase_ended resting)
next_keeps m r oldest (Some e) is (inl rested) = absurd (let s : None ≡ Some e = subst (λ p. event_in_phase p r oldest ≡ Some e) rested is in cc)
next_keeps m r oldest (Some e) is (inr (lasts, inl same)) = inr (same, inl same)
next_keeps m r oldest (Some e) is (inr (lasts, inr resting)) = absurd (let s : None ≡ Some e = subst (λ p. event_in_phase p r oldest ≡ Some e) resting is in cc)

arrived_keeps : (m : ℕ) (r new : RoundState) (oldest : Option ℕ) (arrival : Option Arrival) (result : Result (Option OwnedEvent) SourceFault) → LeadsTo r oldest arrival result new → Keeps m r → Keeps m new
arrived_keeps m r new oldest None result leads (inl rested) = subst (Keeps m) (sym leads.after) (inl rested)
arrived_keeps m r new oldest None result leads (inr (lasts, same)) = subst (Keeps m) (sym leads.after) (inr (tt, same))
arrived_keeps m r new oldest (Some Quiet) result leads keeps = subst (Keeps m) (sym leads.after) (next_keeps m r oldest (next_event r oldest) refl keeps)
arrived_keeps m r new oldest (Some (Datagram from octets)) result leads (inl rested) = subst (Keeps m) (sym leads.after) (inl rested)
arrived_keeps m r new oldest (Some (Datagram from octets)) result leads (inr (lasts, same)) = subst (Keeps m) (sym leads.after) (inr (in_lasts m r.phase, same))

due_kept : (m : ℕ) (r : RoundState) (w : Wait) (last : Option Answer) → next_wait r last ≡ Some w → Keeps m r → Lasts m w
due_kept m r w last is (inl rested) =
    let due = due_is r last w is in
    absurd (let no : false ≡ true = sym (ap is_hearing rested) ∙ due.0 in cc)
due_kept m r w last is (inr (lasts, same)) = let due = due_is r last w is in subst (Lasts m) (sym due.1) (due_lasts m r.wait last lasts)

-- ---- one call
pub record Used (m : ℕ) (r new : RoundState) (log : List Reception) : Type 0 where
  pub few : begins_in log + waits_left new.phase new ≤ waits_left r.phase r
  pub each : EachLasts m log
  pub keeps : Keeps m new

received_used : (m : ℕ) (r new : RoundState) (oldest : Option ℕ) (last : Option Answer) (log : List Reception) (result : Result (Option OwnedEvent) SourceFault) → Receives r oldest last log result new → Keeps m r
    → Used m r new log
received_used m r new oldest last [] result g keeps = record {
  few = received_uses r new oldest last [] result g;
  each = All-nil (λ c. Lasts m c.wait);
  keeps = subst (Keeps m) (sym g.1.after) (next_keeps m r oldest (next_event r oldest) refl keeps);
}
received_used m r new oldest last (one ∷ []) result g keeps = record {
  few = received_uses r new oldest last (one ∷ []) result g;
  each = All-push (λ c. Lasts m c.wait) [] one (All-nil (λ c. Lasts m c.wait)) (due_kept m r one.wait last g.0 keeps);
  keeps = arrived_keeps m r new oldest one.arrival result g.1 keeps;
}
received_used m r new oldest last (one ∷ two ∷ more) result g keeps = absurd g

settled_keeps : (m : ℕ) (r : RoundState) (more : Bool) → Keeps m r → Keeps m (record r { phase = settled_phase r.phase more })
settled_keeps m r more (inl rested) = inl (ap (λ p. settled_phase p more) rested)
settled_keeps m r more (inr (lasts, inl same)) = inr (lasts, inl same)
settled_keeps m r more (inr (lasts, inr resting)) = inr (lasts, inr (ap (λ p. settled_phase p more) resting))

pub settled_used : (m : ℕ) (r new : RoundState) (more oldest : Option ℕ) (last : Option Answer) (log : List Reception) (result : Result (Option OwnedEvent) SourceFault)
    → Receives (settled r more) oldest last log result new → Keeps m r → Used m r new log
settled_used m r new more oldest last log result g keeps =
    let test = is_some more && nat_lt 0 r.timeouts in
    let used = received_used m (settled r more) new oldest last log result g (settled_keeps m r test keeps) in
    let left = settled_left r r.phase test in
    record { few = omega (arith, used.few, left); each = used.each; keeps = used.keeps }

-- ---- how long receptions take
more_time : (w : Wait) (most from to now end time begins long : ℕ) → now ≤ from → from ≤ to → ((to ≤ from) ⊎ (to ≤ end_of w from end)) → Lasts most w → long ≡ 4 * (most * 1_000_000)
    → time ≤ begins * long + (end_of w from end - to) → to - from + time ≤ (begins_of w + begins) * long + (end - now)
more_time (Begin milliseconds) most from to now end time begins long after onward over lasts is short =
    let same : 4 * (milliseconds * 1_000_000) ≡ long = ap (λ n. 4 * (n * 1_000_000)) lasts ∙ sym is in
    let one : (1 + begins) * long ≡ long + begins * long = grind arith in
    let ends : time ≤ begins * long + (from + long - to) = subst (λ n. time ≤ begins * long + (from + n - to)) same short in
    begun over one ends
  where
    begun : ((to ≤ from) ⊎ (to ≤ from + 4 * (milliseconds * 1_000_000))) → (1 + begins) * long ≡ long + begins * long → time ≤ begins * long + (from + long - to) → to - from + time ≤ (1 + begins) * long + (end - now)
    begun (inl at_once) one ends = omega (arith, at_once, one, ends, onward)
    begun (inr in_time) one ends =
        let within : to ≤ from + long = subst (λ n. to ≤ from + n) (ap (λ n. 4 * (n * 1_000_000)) lasts ∙ sym is) in_time in
        omega (arith, within, one, ends, onward)
more_time Renew most from to now end time begins long after onward over lasts is short =
    let none : (0 + begins) * long ≡ begins * long = ap (λ n. n * long) (omega arith) in renewed over none
  where
    renewed : ((to ≤ from) ⊎ (to ≤ end)) → (0 + begins) * long ≡ begins * long → to - from + time ≤ (0 + begins) * long + (end - now)
    renewed (inl at_once) none = omega (arith, at_once, none, short, onward, after)
    renewed (inr in_time) none = omega (arith, in_time, none, short, onward, after)
more_time Rest most from to now end time begins long after onward over lasts is short =
    let none : (0 + begins) * long ≡ begins * long = ap (λ n. n * long) (omega arith) in renewed over none
  where
    renewed : ((to ≤ from) ⊎ (to ≤ end)) → (0 + begins) * long ≡ begins * long → to - from + time ≤ (0 + begins) * long + (end - now)
    renewed (inl at_once) none = omega (arith, at_once, none, short, onward, after)
    renewed (inr in_time) none = omega (arith, in_time, none, short, onward, after)

timely_time : (m long now end : ℕ) (all : List Timed) → long ≡ 4 * (m * 1_000_000) → AreTimely now end all → EachLasts m (map (λ t. t.reception) all) → time_in all ≤ begins_in (map (λ t. t.reception) all) * long + (end - now)
timely_time m long now end [] is timely each = omega arith
timely_time m long now end (t ∷ all) is timely each =
    let others = map (λ u. u.reception) all in
    let later = timely_time m long t.to (end_of t.reception.wait t.from end) all is timely.3 (All-tail (λ c. Lasts m c.wait) t.reception others each) in
    let one = more_time t.reception.wait m t.from t.to now end (time_in all) (begins_in others) long timely.0 timely.1 timely.2
    (All-head (λ c. Lasts m c.wait) t.reception others each) is later in
    let time : time_in (t ∷ all) ≡ t.to - t.from + time_in all = sum_by-cons (λ u. u.to - u.from) t all in
    let begins : begins_in (t.reception ∷ others) * long ≡ (begins_of t.reception.wait + begins_in others) * long = ap (λ n. n * long) (sum_by-cons (λ c. begins_of c.wait) t.reception others) in
    omega (arith, one, time, begins)

times_more : (a b n : ℕ) → a ≤ b → a * n ≤ b * n
times_more a b n le =
    let all : a + (b - a) ≡ b = omega (arith, le) in
    let split : (a + (b - a)) * n ≡ a * n + (b - a) * n = grind arith in
    let same : b * n ≡ a * n + (b - a) * n = ap (λ k. k * n) (sym all) ∙ split in
    omega (arith, same)

pub waiting_ends : (most wait_ms now end : ℕ) (all : List Timed) → end ≤ now → AreTimely now end all → HasWaits most wait_ms (map (λ t. t.reception) all) → time_in all ≤ most * (4 * (wait_ms * 1_000_000))
waiting_ends most wait_ms now end all over timely waits =
    let time = timely_time wait_ms (4 * (wait_ms * 1_000_000)) now end all refl timely waits.each in
    let few = times_more (begins_in (map (λ t. t.reception) all)) most (4 * (wait_ms * 1_000_000)) waits.few in
    omega (arith, time, few, over)
