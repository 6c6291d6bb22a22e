-- Which events of a round are saves.
use Rattle.std.proofs.Common.{◌≡◌, ◌+◌, ℕ, suc, true, false, List, [], ◌∷◌, ◌++◌, All, refl, ap, ◌∙◌, arith}
use Rattle.std.specs.Prelude.{zero}
use Rattle.std.proofs.lemmas.List.Elements.{All-head, All-tail}
use Rattle.std.proofs.lemmas.List.Sums.{sum_by-append, sum_by-cons}
use Rattle.mon_rounds.specs.Order.{RoundEvent, AreHeardIn, AreTimedOut, HasListened, IsDatagram, IsRound, SavesAtTheEnd, polls_of, saves_in, saves_of, shares_with, timeouts_of}
use Rattle.mon_station.specs.declared.event.Event.TheVariants.{StartPoll, Timeout, FromAgent, FromPeer, Share, Save}

none_both : (before after : List RoundEvent) → saves_in before ≡ 0 → saves_in after ≡ 0 → saves_in (before ++ after) ≡ 0
none_both before after one other =
    let both : saves_in (before ++ after) ≡ saves_in before + saves_in after = sum_by-append saves_of before after in
    omega (arith, both, one, other)

none_more : (e : RoundEvent) (events : List RoundEvent) → saves_of e ≡ 0 → saves_in events ≡ 0 → saves_in (e ∷ events) ≡ 0
none_more e events one others =
    let both : saves_in (e ∷ events) ≡ saves_of e + saves_in events = sum_by-cons saves_of e events in
    omega (arith, both, one, others)

none_polled : (n : ℕ) → saves_in (polls_of n) ≡ 0
none_polled zero = refl
none_polled (suc n) = none_both (polls_of n) (StartPoll n ∷ []) (none_polled n) refl

none_shared : (peers : List ℕ) → saves_in (shares_with peers) ≡ 0
none_shared [] = refl
none_shared (p ∷ peers) = none_more (Share p) (shares_with peers) refl (none_shared peers)

none_timed : (ids : List ℕ) → saves_in (timeouts_of ids) ≡ 0
none_timed [] = refl
none_timed (id ∷ ids) = none_more (Timeout id) (timeouts_of ids) refl (none_timed ids)

no_save : (e : RoundEvent) → IsDatagram e → saves_of e ≡ 0
no_save (FromAgent from none) is = refl
no_save (FromPeer from) is = refl
no_save (StartPoll target) is = refl
no_save (Timeout id) is = refl
no_save (Share peer) is = refl
no_save Save is = absurd (omega (arith, is))

none_heard : (events : List RoundEvent) → All IsDatagram events → saves_in events ≡ 0
none_heard [] each = refl
none_heard (e ∷ events) each = none_more e events (no_save e (All-head IsDatagram e events each)) (none_heard events (All-tail IsDatagram e events each))

none_timed_out : (Earlier : List RoundEvent → Type 0) (last : ℕ) (events : List RoundEvent) → ((es : List RoundEvent) → Earlier es → saves_in es ≡ 0) → AreTimedOut Earlier last events → saves_in events ≡ 0
none_timed_out Earlier last events none timed = ap saves_in timed.are ∙ none_both timed.before (timeouts_of timed.ids) (none timed.before timed.earlier) (none_timed timed.ids)

none_while_open : (quiet : ℕ) (events : List RoundEvent) → AreHeardIn quiet events → saves_in events ≡ 0
none_while_open zero events each = none_heard events each
none_while_open (suc quiet) events each =
    let before = none_timed_out (AreHeardIn quiet) each.last each.before (λ es are. none_while_open quiet es are) each.timed_out in
    ap saves_in each.are ∙ none_both each.before each.heard before (none_heard each.heard each.each)

-- nothing is saved before the end of a round
none_listened : (n m : ℕ) (peers : List ℕ) (events : List RoundEvent) → HasListened n m peers events → saves_in events ≡ 0
none_listened n m peers events listened =
    let shared = listened.shared in
    let polled = shared.polled in
    let open_polls = ap saves_in polled.are ∙ none_both (polls_of n) polled.heard (none_polled n) (none_while_open polled.quiet polled.heard polled.each) in
    let offers = ap saves_in shared.are ∙ none_both shared.before (shares_with peers) open_polls (none_shared peers) in
    ap saves_in listened.are ∙ none_both listened.before listened.heard offers (none_heard listened.heard listened.each)

pub saved_once : (n m : ℕ) (peers : List ℕ) (events : List RoundEvent) → IsRound n m peers true events → SavesAtTheEnd events
saved_once n m peers events round = record { before = round.before; are = round.are; none = none_listened n m peers round.before round.listened }

pub saved_never : (n m : ℕ) (peers : List ℕ) (events : List RoundEvent) → IsRound n m peers false events → saves_in events ≡ 0
saved_never n m peers events round = ap saves_in round.are ∙ none_both round.before [] (none_listened n m peers round.before round.listened) refl
