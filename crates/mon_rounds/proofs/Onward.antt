-- The events of a round as it goes on.
use Rattle.std.proofs.Common.{◌≡◌, ◌≤◌, ◌<◌, ◌+◌, ◌-◌, ℕ, suc, Bool, true, false, rules, List, [], ◌∷◌, ◌++◌, Some, None, All, length, take, refl, sym, ap, ◌∙◌, subst, arith, append_assoc, length-append}
use Rattle.std.specs.Prelude.{zero, slice_get}
use Rattle.std.proofs.lemmas.List.{append-nil, map-append, take_all, take_more}
use Rattle.std.proofs.lemmas.List.Elements.{All-nil, All-push}
use Rattle.std.proofs.lemmas.List.Sums.{sum_by-append}
use Rattle.std.proofs.lemmas.Option.{get_or_from_slice_get, same_Some, slice_get_within}
use Rattle.mon_rounds.specs.declared.receiver.Wait.{Wait}
use Rattle.mon_rounds.specs.declared.round.Phase.{Phase}
use Rattle.mon_rounds.specs.declared.round.Phase.TheVariants.{Polling, AwaitResponses, TimingOut, Sharing, AwaitConfirmations, Over, BetweenRounds, Rested}
use Rattle.mon_rounds.specs.Next.{RoundState, event_in_phase, events_left, is_hearing, may_time_out, phase_ended, quiets_left, save_if, settled_phase, share_at, slot_after, timed_out}
use Rattle.mon_rounds.specs.Order.{RoundEvent, AreHeardIn, AreRising, AreSoFar, HasListened, HasPolled, HasShared, HasTimedOut, IsDatagram, IsRound, datagrams_in, datagrams_of, polls_of, saved_by, shares_with, timeouts_of}
use Rattle.mon_rounds.specs.Orderly.{IsOrderly, IsSaving, IsSharing, IsTiming}
use Rattle.mon_station.specs.declared.event.Event.TheVariants.{StartPoll, Timeout, Share, Save}

-- ---- counts
pub datagrams_more : (events : List RoundEvent) (e : RoundEvent) → datagrams_in (events ++ e ∷ []) ≡ datagrams_in events + datagrams_of e
datagrams_more events e = sum_by-append datagrams_of events (e ∷ []) ∙ ap (λ n. datagrams_in events + n) (omega arith)

pub length_more : (events es : List RoundEvent) (e : RoundEvent) → es ≡ events ++ e ∷ [] → length es ≡ suc (length events)
length_more events es e more = let long = length-append events (e ∷ []) in ap length more ∙ omega (arith, long)

-- no event but a datagram counts as one
pub few_more : (events es : List RoundEvent) (e : RoundEvent) (left : ℕ) → es ≡ events ++ e ∷ [] → datagrams_of e ≡ 0 → datagrams_in events + left ≡ 4096 → datagrams_in es + left ≡ 4096
few_more events es e left more none few =
    let count : datagrams_in es ≡ datagrams_in events + datagrams_of e = ap datagrams_in more ∙ datagrams_more events e in
    omega (arith, count, none, few)

-- ---- polls
pub polls_more : (n : ℕ) → polls_of (n + 1) ≡ polls_of n ++ StartPoll n ∷ []
polls_more n = let one : n + 1 ≡ suc n = omega arith in ap polls_of one

pub polled_all : (n m t : ℕ) (es : List RoundEvent) → n ≡ t + 1 → es ≡ polls_of t ++ StartPoll t ∷ [] → HasPolled n m es
polled_all n m t es all more = record {
  quiet = 0;
  few_quiet = omega arith;
  heard = [];
  each = All-nil IsDatagram;
  are = more ∙ sym (polls_more t) ∙ ap polls_of (sym all) ∙ sym (append-nil (polls_of n));
}

-- a datagram more
heard_on : (quiet : ℕ) (heard : List RoundEvent) (e : RoundEvent) → AreHeardIn quiet heard → IsDatagram e → AreHeardIn quiet (heard ++ e ∷ [])
heard_on zero heard e each is = All-push IsDatagram heard e each is
heard_on (suc quiet) heard e each is = record {
  before = each.before;
  last = each.last;
  timed_out = each.timed_out;
  heard = each.heard ++ e ∷ [];
  each = All-push IsDatagram each.heard e each.each is;
  are = ap (λ l. l ++ e ∷ []) each.are ∙ append_assoc each.before each.heard (e ∷ []);
}

pub polled_more : (n m : ℕ) (events es : List RoundEvent) (e : RoundEvent) → HasPolled n m events → IsDatagram e → es ≡ events ++ e ∷ [] → HasPolled n m es
polled_more n m events es e polled is more = record {
  quiet = polled.quiet;
  few_quiet = polled.few_quiet;
  heard = polled.heard ++ e ∷ [];
  each = heard_on polled.quiet polled.heard e polled.each is;
  are = more ∙ ap (λ l. l ++ e ∷ []) polled.are ∙ append_assoc (polls_of n) polled.heard (e ∷ []);
}

-- ---- timeouts
-- one request-id more
rising_on : (after last id : ℕ) (ids : List ℕ) → AreRising after last ids → last < id → AreRising after id (ids ++ id ∷ [])
rising_on after last id [] rise lt = (subst (λ a. a < id) (sym rise) lt, refl)
rising_on after last id (x ∷ ids) rise lt = (rise.0, rising_on x last id ids rise.1 lt)

-- the first timeout after an idle wait
pub timed_first : (n m more id : ℕ) (events es : List RoundEvent) → HasPolled n m events → m < more → 0 < id → es ≡ events ++ Timeout id ∷ [] → HasTimedOut n more id es
timed_first n m more id events es polled lt some is = record {
  quiet = polled.quiet;
  few_quiet = omega (arith, polled.few_quiet, lt);
  heard = polled.heard ++ Timeout id ∷ [];
  each = record { before = polled.heard; earlier = polled.each; ids = id ∷ []; rise = (some, refl); are = refl };
  are = is ∙ ap (λ l. l ++ Timeout id ∷ []) polled.are ∙ append_assoc (polls_of n) polled.heard (Timeout id ∷ []);
}

-- a further one
pub timed_more : (n m last id : ℕ) (events es : List RoundEvent) → HasTimedOut n m last events → last < id → es ≡ events ++ Timeout id ∷ [] → HasTimedOut n m id es
timed_more n m last id events es timed lt is =
    let each = timed.each in
    record {
      quiet = timed.quiet;
      few_quiet = timed.few_quiet;
      heard = timed.heard ++ Timeout id ∷ [];
      each = record {
        before = each.before;
        earlier = each.earlier;
        ids = each.ids ++ id ∷ [];
        rise = rising_on 0 last id each.ids each.rise lt;
        are = ap (λ l. l ++ Timeout id ∷ []) each.are ∙ append_assoc each.before (timeouts_of each.ids) (Timeout id ∷ [])
            ∙ ap (λ l. each.before ++ l) (sym (map-append Timeout each.ids (id ∷ [])));
      };
      are = is ∙ ap (λ l. l ++ Timeout id ∷ []) timed.are ∙ append_assoc (polls_of n) timed.heard (Timeout id ∷ []);
    }

-- no further one: the next wait follows
pub timed_all : (n m last : ℕ) (events : List RoundEvent) → HasTimedOut n m last events → HasPolled n m events
timed_all n m last events timed = record {
  quiet = suc timed.quiet;
  few_quiet = timed.few_quiet;
  heard = timed.heard;
  each = record { before = timed.heard; last = last; timed_out = timed.each; heard = []; each = All-nil IsDatagram; are = sym (append-nil timed.heard) };
  are = timed.are;
}

-- ---- more idle waits than there were
polled_within : (n a b : ℕ) (events : List RoundEvent) → a ≤ b → HasPolled n a events → HasPolled n b events
polled_within n a b events le polled = record {
  quiet = polled.quiet;
  few_quiet = omega (arith, polled.few_quiet, le);
  heard = polled.heard;
  each = polled.each;
  are = polled.are;
}

shared_within : (n a b : ℕ) (peers : List ℕ) (events : List RoundEvent) → a ≤ b → HasShared n a peers events → HasShared n b peers events
shared_within n a b peers events le shared = record { before = shared.before; polled = polled_within n a b shared.before le shared.polled; are = shared.are }

listened_within : (n a b : ℕ) (peers : List ℕ) (events : List RoundEvent) → a ≤ b → HasListened n a peers events → HasListened n b peers events
listened_within n a b peers events le listened = record {
  before = listened.before;
  shared = shared_within n a b peers listened.before le listened.shared;
  heard = listened.heard;
  each = listened.each;
  are = listened.are;
}

pub round_within : (n a b : ℕ) (peers : List ℕ) (saves : Bool) (events : List RoundEvent) → a ≤ b → IsRound n a peers saves events → IsRound n b peers saves events
round_within n a b peers saves events le round = record {
  before = round.before;
  listened = listened_within n a b peers round.before le round.listened;
  are = round.are;
  few = round.few;
}

-- ---- shares
pub shared_none : (n m : ℕ) (peers : List ℕ) (events : List RoundEvent) → HasPolled n m events → HasShared n m (take 0 peers) events
shared_none n m peers events polled = record { before = events; polled = polled; are = sym (append-nil events) }

pub shared_so_far : (n m slot : ℕ) (peers : List ℕ) (saves : Bool) (phase : Phase) (events : List RoundEvent) → IsSharing phase slot → AreSoFar n m peers saves phase events → HasShared n m (take slot peers) events
shared_so_far n m slot peers saves AwaitResponses events at polled = subst (λ k. HasShared n m (take k peers) events) (sym at) (shared_none n m peers events polled)
shared_so_far n m slot peers saves (Sharing next) events at shared = subst (λ k. HasShared n m (take k peers) events) (sym at) shared.1
shared_so_far n m slot peers saves (Polling t) events at so_far = elim at [ ]
shared_so_far n m slot peers saves (TimingOut last) events at timed = subst (λ k. HasShared n m (take k peers) events) (sym at) (shared_none n m peers events (timed_all n m last events timed))
shared_so_far n m slot peers saves AwaitConfirmations events at so_far = elim at [ ]
shared_so_far n m slot peers saves Over events at so_far = elim at [ ]
shared_so_far n m slot peers saves BetweenRounds events at so_far = elim at [ ]
shared_so_far n m slot peers saves Rested events at so_far = elim at [ ]

pub shared_more : (n m slot : ℕ) (peers : List ℕ) (p : ℕ) (events es : List RoundEvent) → HasShared n m (take slot peers) events → slice_get peers slot ≡ Some p → es ≡ events ++ Share p ∷ []
    → HasShared n m (take (slot + 1) peers) es
shared_more n m slot peers p events es shared at more =
    let lt : slot < length peers = slice_get_within peers slot p at in
    let one : take (slot + 1) peers ≡ take slot peers ++ p ∷ [] = take_more peers slot p lt ∙ ap (λ q. take slot peers ++ q ∷ []) (get_or_from_slice_get peers slot p p at) in
    record {
      before = shared.before;
      polled = shared.polled;
      are = more ∙ ap (λ l. l ++ Share p ∷ []) shared.are ∙ append_assoc shared.before (shares_with (take slot peers)) (Share p ∷ [])
          ∙ ap (λ l. shared.before ++ l) (sym (map-append Share (take slot peers) (p ∷ [])) ∙ ap shares_with (sym one));
    }

-- ---- what is received after the shares
pub listened_none : (n m : ℕ) (peers : List ℕ) (events : List RoundEvent) → HasShared n m peers events → HasListened n m peers events
listened_none n m peers events shared = record { before = events; shared = shared; heard = []; each = All-nil IsDatagram; are = sym (append-nil events) }

pub listened_more : (n m : ℕ) (peers : List ℕ) (events es : List RoundEvent) (e : RoundEvent) → HasListened n m peers events → IsDatagram e → es ≡ events ++ e ∷ [] → HasListened n m peers es
listened_more n m peers events es e listened is more = record {
  before = listened.before;
  shared = listened.shared;
  heard = listened.heard ++ e ∷ [];
  each = All-push IsDatagram listened.heard e listened.each is;
  are = more ∙ ap (λ l. l ++ e ∷ []) listened.are ∙ append_assoc listened.before listened.heard (e ∷ []);
}

pub listened_so_far : (n m : ℕ) (peers : List ℕ) (saves : Bool) (phase : Phase) (events : List RoundEvent) → IsSaving phase peers → AreSoFar n m peers saves phase events → HasListened n m peers events
listened_so_far n m peers saves AwaitResponses events none polled =
    listened_none n m peers events (subst (λ ps. HasShared n m ps events) (sym none) (shared_none n m [] events polled))
listened_so_far n m peers saves (TimingOut last) events none timed =
    listened_none n m peers events (subst (λ ps. HasShared n m ps events) (sym none) (shared_none n m [] events (timed_all n m last events timed)))
listened_so_far n m peers saves AwaitConfirmations events at listened = listened
listened_so_far n m peers saves (Polling t) events at so_far = elim at [ ]
listened_so_far n m peers saves (Sharing slot) events at so_far = elim at [ ]
listened_so_far n m peers saves Over events at so_far = elim at [ ]
listened_so_far n m peers saves BetweenRounds events at so_far = elim at [ ]
listened_so_far n m peers saves Rested events at so_far = elim at [ ]

-- ---- datagrams
pub heard_more : (n m : ℕ) (peers : List ℕ) (saves : Bool) (phase : Phase) (events es : List RoundEvent) (e : RoundEvent) → is_hearing phase ≡ true → IsDatagram e
    → AreSoFar n m peers saves phase events → es ≡ events ++ e ∷ [] → AreSoFar n m peers saves phase es
heard_more n m peers saves AwaitResponses events es e at is so_far more = polled_more n m events es e so_far is more
heard_more n m peers saves AwaitConfirmations events es e at is so_far more = listened_more n m peers events es e so_far is more
heard_more n m peers saves BetweenRounds events es e at is so_far more = subst (λ l. All IsDatagram l) (sym more) (All-push IsDatagram events e so_far is)
heard_more n m peers saves (Polling target) events es e at is so_far more = absurd cc
heard_more n m peers saves (TimingOut last) events es e at is so_far more = absurd cc
heard_more n m peers saves (Sharing slot) events es e at is so_far more = absurd cc
heard_more n m peers saves Over events es e at is so_far more = absurd cc
heard_more n m peers saves Rested events es e at is so_far more = absurd cc

-- ---- a round goes on
-- a target but the last is polled
pub after_poll : (room now : ℕ) (r : RoundState) (t : ℕ) (w : Wait) (es : List RoundEvent) → IsOrderly room r → r.phase ≡ Polling t → t + 1 < length r.targets
    → es ≡ r.events ++ StartPoll t ∷ [] → now ≡ room → IsOrderly now (record r { phase = Polling (t + 1); wait = w; events = es })
after_poll room now r t w es orderly at next more same =
    let so_far : AreSoFar (length r.targets) (r.tries - r.quiets) r.peers r.saving (Polling t) r.events = subst (λ p. AreSoFar (length r.targets) (r.tries - r.quiets) r.peers r.saving p r.events) at orderly.order in
    let left : events_left r.phase r ≡ length r.targets - t + length r.peers + 1 = ap (λ p. events_left p r) at in
    let long = length_more r.events es (StartPoll t) more in
    record {
      order = (next, more ∙ ap (λ l. l ++ StartPoll t ∷ []) so_far.1 ∙ sym (polls_more t));
      few = few_more r.events es (StartPoll t) r.datagrams more refl orderly.few;
      quiets = orderly.quiets;
      space = omega (arith, orderly.space, left, long, same, next);
      whole = omega (arith, orderly.whole, same);
    }

-- the last target is polled
pub after_last_poll : (room now : ℕ) (r : RoundState) (t : ℕ) (w : Wait) (es : List RoundEvent) → IsOrderly room r → r.phase ≡ Polling t → length r.targets ≤ t + 1
    → es ≡ r.events ++ StartPoll t ∷ [] → now ≡ room → IsOrderly now (record r { phase = AwaitResponses; wait = w; events = es })
after_last_poll room now r t w es orderly at next more same =
    let so_far : AreSoFar (length r.targets) (r.tries - r.quiets) r.peers r.saving (Polling t) r.events = subst (λ p. AreSoFar (length r.targets) (r.tries - r.quiets) r.peers r.saving p r.events) at orderly.order in
    let left : events_left r.phase r ≡ length r.targets - t + length r.peers + 1 = ap (λ p. events_left p r) at in
    let long = length_more r.events es (StartPoll t) more in
    let lt = so_far.0 in
    let all : length r.targets ≡ t + 1 = omega (arith, lt, next) in
    record {
      order = polled_all (length r.targets) (r.tries - r.quiets) t es all (more ∙ ap (λ l. l ++ StartPoll t ∷ []) so_far.1);
      few = few_more r.events es (StartPoll t) r.datagrams more refl orderly.few;
      quiets = orderly.quiets;
      space = omega (arith, orderly.space, left, long, same, lt);
      whole = omega (arith, orderly.whole, same);
    }

-- polls are timed out, or may be
timing_left : (r : RoundState) (phase : Phase) → IsTiming phase → events_left phase r ≡ length r.peers + 1
timing_left r AwaitResponses at = refl
timing_left r (TimingOut last) at = refl
timing_left r (Polling t) at = elim at [ ]
timing_left r (Sharing slot) at = elim at [ ]
timing_left r AwaitConfirmations at = elim at [ ]
timing_left r Over at = elim at [ ]
timing_left r BetweenRounds at = elim at [ ]
timing_left r Rested at = elim at [ ]

-- an idle wait is used up, and there was one
timed_so_far : (r : RoundState) (phase : Phase) (id : ℕ) (es : List RoundEvent) → IsTiming phase → timed_out phase < id → may_time_out phase r ≡ true → r.quiets ≤ r.tries
    → AreSoFar (length r.targets) (r.tries - r.quiets) r.peers r.saving phase r.events → es ≡ r.events ++ Timeout id ∷ []
    → HasTimedOut (length r.targets) (r.tries - quiets_left phase r.quiets) id es × (quiets_left phase r.quiets ≤ r.tries)
timed_so_far r AwaitResponses id es at lt may le so_far more =
    let both : (0 < r.timeouts) × (0 < r.quiets) = search rules in
    let some = both.1 in
    (timed_first (length r.targets) (r.tries - r.quiets) (r.tries - (r.quiets - 1)) id r.events es so_far (omega (arith, le, some)) lt more, omega (arith, le))
timed_so_far r (TimingOut last) id es at lt may le so_far more = (timed_more (length r.targets) (r.tries - r.quiets) last id r.events es so_far lt more, le)
timed_so_far r (Polling t) id es at lt may le so_far more = elim at [ ]
timed_so_far r (Sharing slot) id es at lt may le so_far more = elim at [ ]
timed_so_far r AwaitConfirmations id es at lt may le so_far more = elim at [ ]
timed_so_far r Over id es at lt may le so_far more = elim at [ ]
timed_so_far r BetweenRounds id es at lt may le so_far more = elim at [ ]
timed_so_far r Rested id es at lt may le so_far more = elim at [ ]

pub some_timeouts : (r : RoundState) (phase : Phase) → IsTiming phase → may_time_out phase r ≡ true → 0 < r.timeouts
some_timeouts r AwaitResponses at may = search rules
some_timeouts r (TimingOut last) at may = search rules
some_timeouts r (Polling t) at may = elim at [ ]
some_timeouts r (Sharing slot) at may = elim at [ ]
some_timeouts r AwaitConfirmations at may = elim at [ ]
some_timeouts r Over at may = elim at [ ]
some_timeouts r BetweenRounds at may = elim at [ ]
some_timeouts r Rested at may = elim at [ ]

-- a poll is timed out
pub after_timeout : (room now : ℕ) (r : RoundState) (id quiets : ℕ) (w : Wait) (es : List RoundEvent) → IsOrderly room r → IsTiming r.phase → timed_out r.phase < id → may_time_out r.phase r ≡ true
    → quiets ≡ quiets_left r.phase r.quiets → es ≡ r.events ++ Timeout id ∷ [] → now ≡ room
    → IsOrderly now (record r { phase = TimingOut id; wait = w; quiets = quiets; timeouts = r.timeouts - 1; events = es })
after_timeout room now r id quiets w es orderly at lt may used more same =
    let so_far = timed_so_far r r.phase id es at lt may orderly.quiets orderly.order more in
    let some = some_timeouts r r.phase at may in
    let long = length_more r.events es (Timeout id) more in
    let left = timing_left r r.phase at in
    record {
      order = subst (λ q. HasTimedOut (length r.targets) (r.tries - q) id es) (sym used) so_far.0;
      quiets = subst (λ q. q ≤ r.tries) (sym used) so_far.1;
      few = few_more r.events es (Timeout id) r.datagrams more refl orderly.few;
      space = omega (arith, orderly.space, left, long, same, some);
      whole = omega (arith, orderly.whole, same);
    }

-- where no further poll is timed out, the next wait follows
settles : (room : ℕ) (r : RoundState) (more : Bool) → IsOrderly room r → IsOrderly room (record r { phase = settled_phase r.phase more })
settles room r more orderly = record {
  order = ordered r.phase more orderly.order;
  quiets = orderly.quiets;
  few = orderly.few;
  space = subst (λ n. length r.events + (n + (r.datagrams + r.timeouts)) ≤ room) (sym (left_alike r.phase more)) orderly.space;
  whole = orderly.whole;
}
  where
    ordered : (phase : Phase) (more : Bool) → AreSoFar (length r.targets) (r.tries - r.quiets) r.peers r.saving phase r.events
        → AreSoFar (length r.targets) (r.tries - r.quiets) r.peers r.saving (settled_phase phase more) r.events
    ordered (TimingOut last) true so_far = so_far
    ordered (TimingOut last) false so_far = timed_all (length r.targets) (r.tries - r.quiets) last r.events so_far
    ordered (Polling t) more so_far = so_far
    ordered AwaitResponses more so_far = so_far
    ordered (Sharing slot) more so_far = so_far
    ordered AwaitConfirmations more so_far = so_far
    ordered Over more so_far = so_far
    ordered BetweenRounds more so_far = so_far
    ordered Rested more so_far = so_far

    left_alike : (phase : Phase) (more : Bool) → events_left (settled_phase phase more) (record r { phase = settled_phase r.phase more }) ≡ events_left phase r
    left_alike (TimingOut last) true = refl
    left_alike (TimingOut last) false = refl
    left_alike (Polling t) more = refl
    left_alike AwaitResponses more = refl
    left_alike (Sharing slot) more = refl
    left_alike AwaitConfirmations more = refl
    left_alike Over more = refl
    left_alike BetweenRounds more = refl
    left_alike Rested more = refl

-- a settled round is orderly, if its phase is equal to the settled one
pub settles_as : (room : ℕ) (r : RoundState) (next : Phase) (more : Bool) → next ≡ settled_phase r.phase more → IsOrderly room r → IsOrderly room (record r { phase = next })
settles_as room r next more is orderly = subst (λ p. IsOrderly room (record r { phase = p })) (sym is) (settles room r more orderly)

-- how much is left while peers are offered something
pub sharing_left : (r : RoundState) (phase : Phase) (slot : ℕ) → IsSharing phase slot → events_left phase r ≡ length r.peers - slot + 1
sharing_left r AwaitResponses slot at = omega (arith, at)
sharing_left r (TimingOut last) slot at = omega (arith, at)
sharing_left r (Sharing next) slot at = omega (arith, at)
sharing_left r (Polling t) slot at = elim at [ ]
sharing_left r AwaitConfirmations slot at = elim at [ ]
sharing_left r Over slot at = elim at [ ]
sharing_left r BetweenRounds slot at = elim at [ ]
sharing_left r Rested slot at = elim at [ ]

-- a peer but the last is offered something
pub after_share : (room now : ℕ) (r : RoundState) (slot p : ℕ) (w : Wait) (es : List RoundEvent) → IsOrderly room r → IsSharing r.phase slot → slice_get r.peers slot ≡ Some p
    → slot + 1 < length r.peers → es ≡ r.events ++ Share p ∷ [] → now ≡ room → IsOrderly now (record r { phase = Sharing (slot + 1); wait = w; events = es })
after_share room now r slot p w es orderly at found next more same =
    let shared = shared_so_far (length r.targets) (r.tries - r.quiets) slot r.peers r.saving r.phase r.events at orderly.order in
    let left = sharing_left r r.phase slot at in
    let long = length_more r.events es (Share p) more in
    record {
      order = (next, shared_more (length r.targets) (r.tries - r.quiets) slot r.peers p r.events es shared found more);
      few = few_more r.events es (Share p) r.datagrams more refl orderly.few;
      quiets = orderly.quiets;
      space = omega (arith, orderly.space, left, long, same, next);
      whole = omega (arith, orderly.whole, same);
    }

-- the last peer is offered something
pub after_last_share : (room now : ℕ) (r : RoundState) (slot p : ℕ) (w : Wait) (es : List RoundEvent) → IsOrderly room r → IsSharing r.phase slot → slice_get r.peers slot ≡ Some p
    → length r.peers ≤ slot + 1 → es ≡ r.events ++ Share p ∷ [] → now ≡ room → IsOrderly now (record r { phase = AwaitConfirmations; wait = w; events = es })
after_last_share room now r slot p w es orderly at found last more same =
    let shared = shared_so_far (length r.targets) (r.tries - r.quiets) slot r.peers r.saving r.phase r.events at orderly.order in
    let left = sharing_left r r.phase slot at in
    let long = length_more r.events es (Share p) more in
    let within = slice_get_within r.peers slot p found in
    let all = shared_more (length r.targets) (r.tries - r.quiets) slot r.peers p r.events es shared found more in
    record {
      order = listened_none (length r.targets) (r.tries - r.quiets) r.peers es (subst (λ ps. HasShared (length r.targets) (r.tries - r.quiets) ps es) (take_all (slot + 1) r.peers last) all);
      few = few_more r.events es (Share p) r.datagrams more refl orderly.few;
      quiets = orderly.quiets;
      space = omega (arith, orderly.space, left, long, same, within);
      whole = omega (arith, orderly.whole, same);
    }

-- something is left before a save
pub saving_left : (r : RoundState) (phase : Phase) → IsSaving phase r.peers → 1 ≤ events_left phase r
saving_left r AwaitResponses none = omega arith
saving_left r (TimingOut last) none = omega arith
saving_left r AwaitConfirmations at = omega arith
saving_left r (Polling t) at = elim at [ ]
saving_left r (Sharing slot) at = elim at [ ]
saving_left r Over at = elim at [ ]
saving_left r BetweenRounds at = elim at [ ]
saving_left r Rested at = elim at [ ]

-- all is saved
pub after_save : (room now : ℕ) (r : RoundState) (w : Wait) (es : List RoundEvent) → IsOrderly room r → IsSaving r.phase r.peers → r.saving ≡ true
    → es ≡ r.events ++ Save ∷ [] → now ≡ room → IsOrderly now (record r { phase = Over; wait = w; events = es })
after_save room now r w es orderly at saves more same =
    let left = saving_left r r.phase at in
    let long = length_more r.events es Save more in
    let few = few_more r.events es Save r.datagrams more refl orderly.few in
    record {
      order = record {
        before = r.events;
        listened = listened_so_far (length r.targets) (r.tries - r.quiets) r.peers r.saving r.phase r.events at orderly.order;
        are = more ∙ ap (λ b. r.events ++ saved_by b) (sym saves);
        few = omega (arith, few);
      };
      few = few;
      quiets = orderly.quiets;
      space = omega (arith, orderly.space, left, long, same);
      whole = omega (arith, orderly.whole, same);
    }

-- ---- the end where nothing is given
-- what gives nothing next is done, and does not save
saves_not : (saves : Bool) → save_if saves ≡ None → saves ≡ false
saves_not true none = absurd (let s : Some Save ≡ None = none in cc)
saves_not false none = refl

is_done : (saves : Bool) (peers : List ℕ) → share_at saves peers 0 ≡ None → (peers ≡ []) × (saves ≡ false)
is_done saves [] none = (refl, saves_not saves none)
is_done saves (p ∷ peers) none = absurd (let s : Some (Share p) ≡ None = none in cc)

share_there : (saves : Bool) (peers : List ℕ) (slot : ℕ) → slot < length peers → share_at saves peers slot ≡ None → ⊥
share_there saves [] slot lt none = absurd (omega (arith, lt))
share_there saves (p ∷ peers) zero lt none = absurd (let s : Some (Share p) ≡ None = none in cc)
share_there saves (p ∷ peers) (suc slot) lt none = share_there saves peers slot (omega (arith, lt)) none

unsaved : (n m : ℕ) (peers : List ℕ) (saves : Bool) (events : List RoundEvent) → HasListened n m peers events → datagrams_in events ≤ 4096 → saves ≡ false → IsRound n m peers saves events
unsaved n m peers saves events listened few off = record {
  before = events;
  listened = listened;
  are = sym (append-nil events) ∙ ap (λ b. events ++ saved_by b) (sym off);
  few = few;
}

ended_so_far : (r : RoundState) (phase : Phase) → datagrams_in r.events ≤ 4096 → event_in_phase phase r None ≡ None
    → AreSoFar (length r.targets) (r.tries - r.quiets) r.peers r.saving phase r.events → AreSoFar (length r.targets) (r.tries - r.quiets) r.peers r.saving (phase_ended phase) r.events
ended_so_far r AwaitResponses few none so_far =
    let done = is_done r.saving r.peers none in
    unsaved (length r.targets) (r.tries - r.quiets) r.peers r.saving r.events (listened_so_far (length r.targets) (r.tries - r.quiets) r.peers r.saving AwaitResponses r.events done.0 so_far) few done.1
ended_so_far r (TimingOut last) few none so_far =
    let done = is_done r.saving r.peers none in
    unsaved (length r.targets) (r.tries - r.quiets) r.peers r.saving r.events (listened_so_far (length r.targets) (r.tries - r.quiets) r.peers r.saving (TimingOut last) r.events done.0 so_far) few done.1
ended_so_far r AwaitConfirmations few none so_far = unsaved (length r.targets) (r.tries - r.quiets) r.peers r.saving r.events so_far few (saves_not r.saving none)
ended_so_far r (Polling t) few none so_far = absurd (let s : Some (StartPoll t) ≡ None = none in cc)
ended_so_far r (Sharing slot) few none so_far = absurd (share_there r.saving r.peers slot so_far.0 none)
ended_so_far r Over few none so_far = so_far
ended_so_far r BetweenRounds few none so_far = so_far
ended_so_far r Rested few none so_far = so_far

nothing_left : (phase : Phase) (r : RoundState) → events_left (phase_ended phase) r ≡ 0
nothing_left AwaitResponses r = refl
nothing_left (TimingOut last) r = refl
nothing_left AwaitConfirmations r = refl
nothing_left (Polling t) r = refl
nothing_left (Sharing slot) r = refl
nothing_left Over r = refl
nothing_left BetweenRounds r = refl
nothing_left Rested r = refl

-- the round, or the time between two, is over without a further event
pub after_end : (room : ℕ) (r : RoundState) (next : Phase) (w : Wait) → IsOrderly room r → event_in_phase r.phase r None ≡ None → next ≡ phase_ended r.phase
    → IsOrderly room (record r { phase = next; wait = w })
after_end room r next w orderly none is = subst (λ p. IsOrderly room (record r { phase = p; wait = w })) (sym is) ended
  where
    ended : IsOrderly room (record r { phase = phase_ended r.phase; wait = w })
    ended =
        let left = nothing_left r.phase (record r { phase = phase_ended r.phase; wait = w }) in
        record {
          order = ended_so_far r r.phase (let few = orderly.few in omega (arith, few)) none orderly.order;
          quiets = orderly.quiets;
          few = orderly.few;
          space = (let space = orderly.space in omega (arith, space, left));
          whole = orderly.whole;
        }

-- a datagram came
pub after_arrival : (room now : ℕ) (r : RoundState) (e : RoundEvent) (w : Wait) (es : List RoundEvent) → IsOrderly room r → is_hearing r.phase ≡ true → 0 < r.datagrams → IsDatagram e
    → es ≡ r.events ++ e ∷ [] → now ≡ room → IsOrderly now (record r { wait = w; datagrams = r.datagrams - 1; events = es })
after_arrival room now r e w es orderly at some is more same =
    let new : RoundState = record r { wait = w; datagrams = r.datagrams - 1; events = es } in
    let long = length_more r.events es e more in
    let still : events_left r.phase new ≡ events_left r.phase r = left_alike r.phase in
    let count : datagrams_in es ≡ datagrams_in r.events + datagrams_of e = ap datagrams_in more ∙ datagrams_more r.events e in
    record {
      order = heard_more (length r.targets) (r.tries - r.quiets) r.peers r.saving r.phase r.events es e at is orderly.order more;
      few = omega (arith, count, is, orderly.few, some);
      quiets = orderly.quiets;
      space = omega (arith, orderly.space, still, long, same, some);
      whole = omega (arith, orderly.whole, same);
    }
  where
    left_alike : (phase : Phase) → events_left phase (record r { wait = w; datagrams = r.datagrams - 1; events = es }) ≡ events_left phase r
    left_alike (Polling t) = refl
    left_alike AwaitResponses = refl
    left_alike (TimingOut last) = refl
    left_alike (Sharing slot) = refl
    left_alike AwaitConfirmations = refl
    left_alike Over = refl
    left_alike BetweenRounds = refl
    left_alike Rested = refl

-- ---- what is shared next
pub share_found : (saves : Bool) (peers : List ℕ) (slot p : ℕ) → slice_get peers slot ≡ Some p → share_at saves peers slot ≡ Some (Share p)
share_found saves [] slot p found = absurd cc
share_found saves (q ∷ peers) zero p found = ap (λ n. Some (Share n)) (same_Some q p found)
share_found saves (q ∷ peers) (suc slot) p found = share_found saves peers slot p found

pub share_past : (saves : Bool) (peers : List ℕ) (slot : ℕ) → slice_get peers slot ≡ None → share_at saves peers slot ≡ save_if saves
share_past saves [] slot past = refl
share_past saves (q ∷ peers) zero past = absurd cc
share_past saves (q ∷ peers) (suc slot) past = share_past saves peers slot past

pub slot_next : (phase : Phase) (slot : ℕ) → IsSharing phase slot → slot_after phase ≡ slot + 1
slot_next AwaitResponses slot at = omega (arith, at)
slot_next (TimingOut last) slot at = omega (arith, at)
slot_next (Sharing next) slot at = omega (arith, at)
slot_next (Polling t) slot at = elim at [ ]
slot_next AwaitConfirmations slot at = elim at [ ]
slot_next Over slot at = elim at [ ]
slot_next BetweenRounds slot at = elim at [ ]
slot_next Rested slot at = elim at [ ]

-- ---- events after which the phase is equal to one that was chosen
pub polled_then : (room now : ℕ) (r : RoundState) (t : ℕ) (w : Wait) (es : List RoundEvent) (next : Phase) → IsOrderly room r → r.phase ≡ Polling t → next ≡ Polling (t + 1)
    → t + 1 < length r.targets → es ≡ r.events ++ StartPoll t ∷ [] → now ≡ room → IsOrderly now (record r { phase = next; wait = w; events = es })
polled_then room now r t w es next orderly at is lt more same =
    subst (λ p. IsOrderly now (record r { phase = p; wait = w; events = es })) (sym is) (after_poll room now r t w es orderly at lt more same)

pub polled_last : (room now : ℕ) (r : RoundState) (t : ℕ) (w : Wait) (es : List RoundEvent) (next : Phase) → IsOrderly room r → r.phase ≡ Polling t → next ≡ AwaitResponses
    → length r.targets ≤ t + 1 → es ≡ r.events ++ StartPoll t ∷ [] → now ≡ room → IsOrderly now (record r { phase = next; wait = w; events = es })
polled_last room now r t w es next orderly at is last more same =
    subst (λ p. IsOrderly now (record r { phase = p; wait = w; events = es })) (sym is) (after_last_poll room now r t w es orderly at last more same)

pub shared_then : (room now : ℕ) (r : RoundState) (slot p : ℕ) (w : Wait) (es : List RoundEvent) (next : Phase) → IsOrderly room r → IsSharing r.phase slot → slice_get r.peers slot ≡ Some p
    → next ≡ Sharing (slot + 1) → slot + 1 < length r.peers → es ≡ r.events ++ Share p ∷ [] → now ≡ room → IsOrderly now (record r { phase = next; wait = w; events = es })
shared_then room now r slot p w es next orderly at found is lt more same =
    subst (λ q. IsOrderly now (record r { phase = q; wait = w; events = es })) (sym is) (after_share room now r slot p w es orderly at found lt more same)

pub shared_last : (room now : ℕ) (r : RoundState) (slot p : ℕ) (w : Wait) (es : List RoundEvent) (next : Phase) → IsOrderly room r → IsSharing r.phase slot → slice_get r.peers slot ≡ Some p
    → next ≡ AwaitConfirmations → length r.peers ≤ slot + 1 → es ≡ r.events ++ Share p ∷ [] → now ≡ room → IsOrderly now (record r { phase = next; wait = w; events = es })
shared_last room now r slot p w es next orderly at found is last more same =
    subst (λ q. IsOrderly now (record r { phase = q; wait = w; events = es })) (sym is) (after_last_share room now r slot p w es orderly at found last more same)
