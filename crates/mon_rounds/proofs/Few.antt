-- Datagrams of which each address has at most as many as targets are at it.
use Rattle.std.proofs.Common.{◌≡◌, ℕ, zero, suc, ◌+◌, ◌-◌, ◌<◌, ◌≤◌, ◌⊎◌, inl, inr, Bool, true, false, List, [], ◌∷◌, length, take, Option, Some, None, Result, Ok, Err, refl, sym, ap, subst, ◌∙◌, arith}
use Rattle.std.specs.Prelude.{◌&&◌, ◌==◌, cond, filter, if◌then◌else◌, OnErr, OnOk, option_map}
use Rattle.std.specs.List.{count_by}
use Rattle.std.specs.Str.{bytes_eq}
use Rattle.std.proofs.lemmas.Bool.Decides.{Decides-and, Decides-eqb}
use Rattle.std.proofs.lemmas.Slice.Eq.{bytes_eq-Decides}
use Rattle.std.proofs.lemmas.List.{length-take}
use Rattle.std.proofs.lemmas.List.Sums.{sum_by-cons}
use Rattle.mon_reasons.specs.NewestDatagrams.{datagrams_of, if_any, newest_of}
use Rattle.mon_reasons.specs.declared.newest_datagrams.Datagram.{Datagram}
use Rattle.mon_reasons.specs.declared.newest_datagrams.NewestDatagrams.{NewestDatagrams}
use Rattle.mon_station.specs.ReadEvent.{OwnedEvent}
use Rattle.mon_station.specs.declared.event.Event.TheVariants.{FromAgent, FromPeer}
use Rattle.mon_station.specs.declared.running.SourceFault.{SourceFault}
use Rattle.mon_udp.specs.Addr.{same_addr}
use Rattle.mon_udp.specs.Counts.{failed_after}
use Rattle.mon_udp.specs.declared.addr.Addr.{Addr}
use Rattle.mon_rounds.specs.Given.{with_octets}
use Rattle.mon_rounds.specs.Kept.{AreFew, Kept, KeepsGiven, KeepsNewest, count_at, kept_in, most_kept}
use Rattle.mon_rounds.specs.Next.{RoundState, after_polls, event_from, event_in_phase, may_time_out, next_event, save_if, share_at, stands_in}
use Rattle.mon_rounds.specs.Order.{RoundEvent}
use Rattle.mon_rounds.specs.declared.round.Phase.{Phase}
use Rattle.mon_rounds.specs.declared.round.Phase.TheVariants.{Polling, AwaitResponses, TimingOut, Sharing, AwaitConfirmations, Over, BetweenRounds, Rested}
use Rattle.mon_station.specs.declared.event.Event.TheVariants.{Timeout}

-- ---- equal addresses
one_addr : (a b : Addr) → same_addr a b ≡ true → a ≡ b
one_addr a b is =
    let both = (Decides-and (bytes_eq a.octets b.octets) (a.port == b.port) (bytes_eq-Decides a.octets b.octets) (Decides-eqb a.port b.port)).0 is in
    λ i. record { octets = both.0 i; port = both.1 i }

itself : (a : Addr) → same_addr a a ≡ true
itself a = (Decides-and (bytes_eq a.octets a.octets) (a.port == a.port) (bytes_eq-Decides a.octets a.octets) (Decides-eqb a.port a.port)).1 (refl, refl)

-- ---- how many there are
abbrev tally : Bool → ℕ
tally true = 1
tally false = 0

-- how many datagrams an address has
abbrev many : Addr → List Datagram → ℕ
many a ds = length (datagrams_of a ds)

many_more : (a : Addr) (d : Datagram) (ds : List Datagram) → many a (d ∷ ds) ≡ tally (same_addr d.from a) + many a ds
many_more a d ds = elim (same_addr d.from a) as (λ b. length (cond b (d ∷ datagrams_of a ds) (datagrams_of a ds)) ≡ tally b + many a ds) [ true ↦ omega arith | false ↦ omega arith ]

count_more : (a t : Addr) (ts : List Addr) → count_at (t ∷ ts) a ≡ tally (same_addr t a) + count_at ts a
count_more a t ts =
    sum_by-cons (λ x. cond (same_addr x a) 1 0) t ts
    ∙ (elim (same_addr t a) as (λ b. cond b 1 0 + count_at ts a ≡ tally b + count_at ts a) [ true ↦ refl | false ↦ refl ])

-- ---- after one more
any_within : (a : Addr) (n : ℕ) (d : Datagram) (ds : List Datagram) → many a (if_any n d ds) ≤ many a (d ∷ ds)
any_within a zero d ds = let more = many_more a d ds in omega (arith, more)
any_within a (suc n) d ds = omega arith

no_more : (a from : Addr) (n : ℕ) (ds : List Datagram) → many a (newest_of from n ds) ≤ many a ds
no_more a from n [] = omega arith
no_more a from n (d ∷ ds) =
    let own = no_more a from (n - 1) ds in
    let other = no_more a from n ds in
    let of_all = many_more a d ds in
    let of_own = many_more a d (newest_of from (n - 1) ds) in
    let of_other = many_more a d (newest_of from n ds) in
    let any = any_within a n d (newest_of from (n - 1) ds) in
    elim (same_addr d.from from) as (λ b. many a (cond b (if_any n d (newest_of from (n - 1) ds)) (d ∷ newest_of from n ds)) ≤ many a (d ∷ ds))
    [ true ↦ omega (arith, own, of_all, of_own, any) | false ↦ omega (arith, other, of_all, of_other) ]

module _ (own : (from : Addr) (most : ℕ) (all : List Datagram) → datagrams_of from (newest_of from most all) ≡ take most (datagrams_of from all)) where
  at_most : (from : Addr) (n : ℕ) (ds : List Datagram) → many from (newest_of from n ds) ≤ n
  at_most from n ds =
      let is : many from (newest_of from n ds) ≡ length (take n (datagrams_of from ds)) = ap length (own from n ds) in
      let long = length-take n (datagrams_of from ds) in
      grind (arith, is, long)

  still_few : (targets : List Addr) (n : ℕ) (d : Datagram) (ds : List Datagram) → n ≤ count_at targets d.from → AreFew ds targets → AreFew (newest_of d.from n (d ∷ ds)) targets
  still_few targets n d ds le few a = by (same_addr d.from a) refl
    where
      by : (b : Bool) → same_addr d.from a ≡ b → many a (newest_of d.from n (d ∷ ds)) ≤ count_at targets a
      by true is =
          let most = at_most d.from n (d ∷ ds) in
          let here : many d.from (newest_of d.from n (d ∷ ds)) ≤ count_at targets d.from = omega (arith, most, le) in
          subst (λ x. many x (newest_of d.from n (d ∷ ds)) ≤ count_at targets x) (one_addr d.from a is) here
      by false is =
          let less = no_more a d.from n (d ∷ ds) in
          let more : many a (d ∷ ds) ≡ 0 + many a ds = many_more a d ds ∙ ap (λ b. tally b + many a ds) is in
          let before = few a in
          omega (arith, less, more, before)

  pub keeps_few : (targets : List Addr) (most : ℕ) (d : Datagram) (old new : Kept) → most ≤ count_at targets d.from → KeepsNewest most d old new → AreFew old.datagrams targets → AreFew new.datagrams targets
  keeps_few targets zero d old new le keeps few = subst (λ (k : Kept). AreFew k.datagrams targets) (sym keeps) few
  keeps_few targets (suc n) d old new le (inl keeps) few = subst (λ (k : Kept). AreFew k.datagrams targets) (sym keeps) (still_few targets (suc n) d old.datagrams le few)
  keeps_few targets (suc n) d old new le (inr keeps) few = subst (λ (k : Kept). AreFew k.datagrams targets) (sym keeps) few

pub most_within : (r : RoundState) (from : Addr) → most_kept r from ≤ count_at r.targets from
most_within r from = elim (stands_in r.peer_addresses from) as (λ b. cond b 0 (count_at r.targets from) ≤ count_at r.targets from) [ true ↦ omega arith | false ↦ omega arith ]

-- ---- in all
-- addresses without the first one that is equal to this
abbrev without : Addr → List Addr → List Addr
without x [] = []
without x (t ∷ ts) = if same_addr t x then ts else t ∷ without x ts

record IsWithout (x : Addr) (ts : List Addr) : Type 0 where
  long : length ts ≡ length (without x ts) + 1
  each : (a : Addr) → count_at ts a ≡ tally (same_addr x a) + count_at (without x ts) a

without_step : (x t : Addr) (ts : List Addr) (b : Bool) → same_addr t x ≡ b → 0 < count_at (t ∷ ts) x → (0 < count_at ts x → IsWithout x ts) → IsWithout x (t ∷ ts)
without_step x t ts true is some before =
    let rest : without x (t ∷ ts) ≡ ts = ap (λ b. if b then ts else t ∷ without x ts) is in
    record {
      long = (let n : length (without x (t ∷ ts)) ≡ length ts = ap length rest in omega (arith, n));
      each = λ a. count_more a t ts ∙ ap (λ s. tally (same_addr s a) + count_at ts a) (one_addr t x is) ∙ ap (λ l. tally (same_addr x a) + count_at l a) (sym rest);
    }
without_step x t ts false is some before =
    let rest : without x (t ∷ ts) ≡ t ∷ without x ts = ap (λ b. if b then ts else t ∷ without x ts) is in
    let here : count_at (t ∷ ts) x ≡ 0 + count_at ts x = count_more x t ts ∙ ap (λ b. tally b + count_at ts x) is in
    let left = before (omega (arith, here, some)) in
    record {
      long = (let n : length (without x (t ∷ ts)) ≡ length (t ∷ without x ts) = ap length rest in let m = left.long in omega (arith, n, m));
      each = λ a.
          (let more = count_more a t (without x ts) in let all = left.each a in
          let now : tally (same_addr t a) + count_at ts a ≡ tally (same_addr x a) + count_at (t ∷ without x ts) a = omega (arith, more, all) in
          count_more a t ts ∙ now ∙ ap (λ l. tally (same_addr x a) + count_at l a) (sym rest));
    }

is_without : (x : Addr) (ts : List Addr) → 0 < count_at ts x → IsWithout x ts
is_without x [] some = absurd (omega (arith, some))
is_without x (t ∷ ts) some = without_step x t ts (same_addr t x) refl some (is_without x ts)

pub few_in_all : (ds : List Datagram) (targets : List Addr) → AreFew ds targets → length ds ≤ length targets
few_in_all [] targets few = omega arith
few_in_all (d ∷ ds) targets few =
    let one : many d.from (d ∷ ds) ≡ 1 + many d.from ds = many_more d.from d ds ∙ ap (λ b. tally b + many d.from ds) (itself d.from) in
    let here = few d.from in
    let out = is_without d.from targets (omega (arith, one, here)) in
    let rest = few_in_all ds (without d.from targets) (λ a. let more = many_more a d ds in let all = out.each a in let le = few a in omega (arith, more, all, le)) in
    let long = out.long in
    omega (arith, rest, long)

-- ---- what a call keeps
pub kept_or_refused : {E : Type 0} (result : Result (Unit {0}) E) (most : ℕ) (d : Datagram) (old new : NewestDatagrams) → 0 < most
    → OnOk result (new.datagrams.items ≡ newest_of d.from most (d ∷ old.datagrams.items)) → OnErr result (new.datagrams.items ≡ old.datagrams.items)
    → new.unkept ≡ failed_after result old.unkept → KeepsNewest most d (kept_in old) (kept_in new)
kept_or_refused result zero d old new some kept refused counted = absurd (omega (arith, some))
kept_or_refused (Ok done) (suc n) d old new some kept refused counted = inl (λ i. record { datagrams = kept i; unkept = counted i })
kept_or_refused (Err fault) (suc n) d old new some kept refused counted = inr (λ i. record { datagrams = refused i; unkept = counted i })

-- a datagram that came
pub came : (r : RoundState) (from : Addr) (octets : List ℕ) (event : OwnedEvent) (old new : Kept)
    → KeepsNewest (most_kept r from) (record { from = from; octets = octets }) old new → event ≡ with_octets (event_from r from) octets → KeepsGiven r (Ok (Some event)) old new
came r from octets event old new keeps is = subst (λ (e : OwnedEvent). KeepsGiven r (Ok (Some e)) old new) (sym is) (by (stands_in r.peer_addresses from) refl)
  where
    by : (b : Bool) → stands_in r.peer_addresses from ≡ b → KeepsGiven r (Ok (Some (with_octets (cond (stands_in r.peer_addresses from) (FromPeer from) (FromAgent from tt)) octets))) old new
    by true peer =
        let none : most_kept r from ≡ 0 = ap (λ b. cond b 0 (count_at r.targets from)) peer in
        let same : new ≡ old = subst (λ n. KeepsNewest n (record { from = from; octets = octets }) old new) none keeps in
        subst (λ b. KeepsGiven r (Ok (Some (with_octets (cond b (FromPeer from) (FromAgent from tt)) octets))) old new) (sym peer) same
    by false peer = subst (λ b. KeepsGiven r (Ok (Some (with_octets (cond b (FromPeer from) (FromAgent from tt)) octets))) old new) (sym peer) keeps

-- nothing was received: all stays
abbrev gives_none : RoundState → Option RoundEvent → Type 0
gives_none r e = (k : Kept) → KeepsGiven r (Ok (option_map (λ e. with_octets e []) e)) k k

save_none : (r : RoundState) (saves : Bool) → gives_none r (save_if saves)
save_none r true k = refl
save_none r false k = refl

share_none : (r : RoundState) (saves : Bool) (peers : List ℕ) (slot : ℕ) → gives_none r (share_at saves peers slot)
share_none r saves [] slot k = save_none r saves k
share_none r saves (p ∷ peers) zero k = refl
share_none r saves (p ∷ peers) (suc slot) k = share_none r saves peers slot k

polls_none : (r : RoundState) (oldest : Option ℕ) → gives_none r (after_polls r oldest)
polls_none r None k = share_none r r.saving r.peers 0 k
polls_none r (Some id) k =
    elim (may_time_out r.phase r) as (λ b. KeepsGiven r (Ok (option_map (λ e. with_octets e []) (cond b (Some (Timeout id)) (share_at r.saving r.peers 0)))) k k) [ true ↦ refl | false ↦ share_none r r.saving r.peers 0 k ]

phase_none : (r : RoundState) (phase : Phase) (oldest : Option ℕ) → gives_none r (event_in_phase phase r oldest)
phase_none r (Polling target) oldest k = refl
phase_none r AwaitResponses oldest k = polls_none r oldest k
phase_none r (TimingOut last) oldest k = polls_none r oldest k
phase_none r (Sharing slot) oldest k = share_none r r.saving r.peers slot k
phase_none r AwaitConfirmations oldest k = save_none r r.saving k
phase_none r Over oldest k = refl
phase_none r BetweenRounds oldest k = refl
phase_none r Rested oldest k = refl

pub nothing_came : (r : RoundState) (oldest : Option ℕ) (event : Option OwnedEvent) (old new : Kept) → event ≡ option_map (λ e. with_octets e []) (next_event r oldest) → new ≡ old → KeepsGiven r (Ok event) old new
nothing_came r oldest event old new is same =
    subst (λ (k : Kept). KeepsGiven r (Ok event) old k) (sym same)
    (subst (λ (e : Option OwnedEvent). KeepsGiven r (Ok e) old old) (sym is) (phase_none r r.phase oldest old))
