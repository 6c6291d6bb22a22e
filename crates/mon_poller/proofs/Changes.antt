-- What starts, timeouts and responses make of the open polls.
use Rattle.std.proofs.Common.{◌≡◌, ◌≢◌, ℕ, ◌+◌, ◌<◌, ◌≤◌, true, false, cond, List, length, Some, None, Ok, Err, refl, sym, ap, ◌∙◌, subst, arith, inl, inr}
use Rattle.std.specs.FinMap as map
use Rattle.std.specs.FinMap.{len-insert}
use Rattle.std.specs.Cmp.{nat_cmp_total}
use Rattle.std.specs.Prelude.{IsTrue, ◌↔◌, is_some, nat_le, nat_lt, ◌==◌}
use Rattle.std.proofs.lemmas.Bool.{cases_eq, cases_lt, true≢false}
use Rattle.std.proofs.lemmas.Bool.Decides.{nat_tests}
use Rattle.std.proofs.lemmas.List.Elements.{All-get_or}
use Rattle.slab.specs.Slab.{Slab, get, slab_len, with_value, Updates}
use Rattle.slab.proofs.SlabLemmas.{Updates-with_value}
use Rattle.mon_poller.specs.declared.fault.PollFault.TheVariants as faults
use Rattle.mon_poller.specs.declared.poller.OpenPoll.{OpenPoll}
use Rattle.mon_poller.specs.declared.poller.TimedOut.TheVariants.{Again, GivenUp, NotOpen}
use Rattle.mon_poller.specs.declared.target.Target.{Target}
use Rattle.mon_poller.specs.Poller.{open_of, poll_in, IsOpenPoll, ArePolls}
use Rattle.mon_poller.specs.Polls.{Poll, Polls, closed, timed, timed_at}
use Rattle.mon_poller.specs.Target.{IsTarget, AreTargets, no_target, target_at, poll_octets}
use Rattle.mon_poller.specs.Verdict.{IsSentAgain, start_verdict, timeout_verdict, timeout_at, tries_of}
use Rattle.mon_poller.proofs.Slots.{AreDistinct, no_Some, in_slot, slab_count, put_distinct, put_open, removed_distinct, removed_open}

pub same_poll : (x y : OpenPoll) → Some x ≡ Some y → x ≡ y
same_poll x y e = cc

-- each target is tried
pub tried : (targets : List Target) (t : ℕ) → AreTargets targets → t < length targets → 1 ≤ (target_at targets t).tries
tried targets t are there = (All-get_or IsTarget targets t no_target there are.each).tries.0

-- ---- a poll that starts
module _ (targets : List Target) (n : ℕ) (old new : Slab OpenPoll) (are : ArePolls targets n old) (key : ℕ) (p : OpenPoll)
    (vacant : get old key ≡ None) (u : Updates old new key (Some p)) (id : p.id ≡ n + 1) where
  here : (x : OpenPoll) → get old key ≡ Some x → x.id ≡ p.id
  here x at = absurd (no_Some x (sym vacant ∙ at))

  elsewhere : (k : ℕ) (x : OpenPoll) → k ≢ key → get old k ≡ Some x → x.id ≢ p.id
  elsewhere k x ne at e = let le : x.id ≤ n = (are.each k x at).id in absurd (omega (arith, le, e, id))

  pub started_open : open_of new.slots ≡ map.insert (open_of old.slots) p.id (poll_in p)
  started_open = put_open old new key p are.slots.distinct here elsewhere u

  pub are_started : slab_len new ≡ slab_len old + 1 → new.capacity ≡ old.capacity → slab_len old < 64 → n < 2147483647 → p.target < length targets → p.sends ≤ (target_at targets p.target).tries
      → ArePolls targets (n + 1) new
  are_started count capacity few below there sends = record {
    limited = are.limited;
    ids = omega arith;
    slots = record {
      there = λ k x at. elim (cases_eq k key) [
        | inl e ↦ subst (λ (y : OpenPoll). y.target < length targets) (same_poll p x (sym u.changed ∙ ap (get new) (sym e) ∙ at)) there
        | inr ne ↦ are.slots.there k x (sym (u.others k ne) ∙ at)
      ];
      distinct = put_distinct old new key p are.slots.distinct here elsewhere u;
    };
    each = λ k x at. elim (cases_eq k key) [
      | inl e ↦ subst (λ (y : OpenPoll). IsOpenPoll targets (n + 1) y) (same_poll p x (sym u.changed ∙ ap (get new) (sym e) ∙ at)) (record { id = omega arith; counted = omega arith; sends = sends })
      | inr ne ↦ let r = are.each k x (sym (u.others k ne) ∙ at) in record { id = omega arith; counted = r.counted; sends = r.sends }
    ];
    few = omega arith;
    room = omega (arith, are.room);
  }

-- ---- a poll that ends
module _ (targets : List Target) (n : ℕ) (old new : Slab OpenPoll) (are : ArePolls targets n old) (key : ℕ) (p : OpenPoll)
    (was : get old key ≡ Some p) (u : Updates old new key None) where
  pub ended_open : open_of new.slots ≡ map.remove (open_of old.slots) p.id
  ended_open = removed_open old new key p are.slots.distinct was u

  old_at : (k : ℕ) (x : OpenPoll) → get new k ≡ Some x → get old k ≡ Some x
  old_at k x at = elim (cases_eq k key) [
    | inl e ↦ absurd (no_Some x (sym u.changed ∙ ap (get new) (sym e) ∙ at))
    | inr ne ↦ sym (u.others k ne) ∙ at
  ]

  pub are_ended : slab_len new + 1 ≡ slab_len old → new.capacity ≡ old.capacity → ArePolls targets n new
  are_ended count capacity = record {
    limited = are.limited;
    ids = are.ids;
    slots = record {
      there = λ k x at. are.slots.there k x (old_at k x at);
      distinct = removed_distinct old new key p are.slots.distinct was u;
    };
    each = λ k x at. are.each k x (old_at k x at);
    few = omega (arith, are.few);
    room = omega (arith, are.room);
  }

-- ---- a poll that is sent again
module _ (targets : List Target) (n : ℕ) (old : Slab OpenPoll) (are : ArePolls targets n old) (key : ℕ) (p q : OpenPoll)
    (was : get old key ≡ Some p) (id : q.id ≡ p.id) (target : q.target ≡ p.target) where
  updated : Updates old (with_value old key q) key (Some q)
  updated = Updates-with_value old key q (ap is_some was)

  here_again : (x : OpenPoll) → get old key ≡ Some x → x.id ≡ q.id
  here_again x at = ap (λ (y : OpenPoll). y.id) (same_poll x p (sym at ∙ was)) ∙ sym id

  elsewhere_again : (k : ℕ) (x : OpenPoll) → k ≢ key → get old k ≡ Some x → x.id ≢ q.id
  elsewhere_again k x ne at e = ne (are.slots.distinct k key x p at was (e ∙ id))

  pub resent_open : open_of (with_value old key q).slots ≡ map.insert (open_of old.slots) q.id (poll_in q)
  resent_open = put_open old (with_value old key q) key q are.slots.distinct here_again elsewhere_again updated

  distinct_again : AreDistinct (with_value old key q).slots
  distinct_again = put_distinct old (with_value old key q) key q are.slots.distinct here_again elsewhere_again updated

  same_count : slab_len (with_value old key q) ≡ slab_len old
  same_count =
      let there : map.get (open_of old.slots) q.id ≡ Some (poll_in p) = ap (map.get (open_of old.slots)) id ∙ in_slot old.slots key p are.slots.distinct was in
      sym (slab_count (with_value old key q) distinct_again) ∙ ap map.len resent_open ∙ len-insert nat_cmp_total (open_of old.slots) q.id (poll_in q)
      ∙ ap (λ o. cond (is_some o) (map.len (open_of old.slots)) (map.len (open_of old.slots) + 1)) there ∙ slab_count old are.slots.distinct

  pub are_resent : q.sends ≤ (target_at targets p.target).tries → ArePolls targets n (with_value old key q)
  are_resent sends = record {
    limited = are.limited;
    ids = are.ids;
    slots = record {
      there = λ k x at. elim (cases_eq k key) [
        | inl e ↦ subst (λ (y : OpenPoll). y.target < length targets) (same_poll q x (sym updated.changed ∙ ap (get (with_value old key q)) (sym e) ∙ at)) (subst (λ (t : ℕ). t < length targets) (sym target) (are.slots.there key p was))
        | inr ne ↦ are.slots.there k x (sym (updated.others k ne) ∙ at)
      ];
      distinct = distinct_again;
    };
    each = λ k x at. elim (cases_eq k key) [
      | inl e ↦
          let first = are.each key p was in
          subst (λ (y : OpenPoll). IsOpenPoll targets n y) (same_poll q x (sym updated.changed ∙ ap (get (with_value old key q)) (sym e) ∙ at))
          (record { id = subst (λ (m : ℕ). m ≤ n) (sym id) first.id; counted = subst (λ (m : ℕ). 0 < m) (sym id) first.counted; sends = subst (λ (t : ℕ). q.sends ≤ (target_at targets t).tries) (sym target) sends })
      | inr ne ↦ are.each k x (sym (updated.others k ne) ∙ at)
    ];
    few = omega (arith, same_count, are.few);
    room = are.room;
  }

-- ---- what a start is answered
module _ (targets : List Target) (p : Polls) (t : ℕ) (there : t < length targets) where
  known : nat_le (length targets) t ≡ false
  known = grind (arith, nat_tests)

  pub too_many : 64 ≤ map.len p.open_polls → start_verdict targets p t ≡ Err faults.TooManyOpen
  too_many many = let full : nat_le 64 (map.len p.open_polls) ≡ true = grind (arith, nat_tests) in rw (known, full) refl

  module _ (few : map.len p.open_polls < 64) where
    has_room : nat_le 64 (map.len p.open_polls) ≡ false
    has_room = grind (arith, nat_tests)

    pub no_more : p.started ≡ 2147483647 → start_verdict targets p t ≡ Err faults.NoMoreIds
    no_more last = let is : (p.started == 2147483647) ≡ true = grind (arith, nat_tests) in rw (known, has_room, is) refl

    pub may_start : (p.started ≡ 2147483647 → ⊥) → start_verdict targets p t ≡ Ok (p.started + 1)
    may_start more = let is : (p.started == 2147483647) ≡ false = grind (arith, nat_tests) in rw (known, has_room, is) refl

-- ---- what a timeout is answered, and what it changes
module _ (targets : List Target) (p : Polls) (id : ℕ) where
  pub not_open : map.get p.open_polls id ≡ None → (timeout_verdict targets p id ≡ NotOpen) × (timed (tries_of targets) id p ≡ p)
  not_open none = (ap (timeout_at targets id) none, ap (λ o. timed_at (tries_of targets) id o p) none)

  module _ (poll : Poll) (has : map.get p.open_polls id ≡ Some poll) where
    pub given_up : (target_at targets poll.target).tries ≤ poll.sends → (timeout_verdict targets p id ≡ GivenUp poll.target) × (timed (tries_of targets) id p ≡ closed id p)
    given_up last =
        let test : nat_lt poll.sends (target_at targets poll.target).tries ≡ false = grind (arith, nat_tests) in
        (ap (timeout_at targets id) has ∙ rw test refl, ap (λ o. timed_at (tries_of targets) id o p) has ∙ rw test refl)

    pub again : poll.sends < (target_at targets poll.target).tries → (timeout_verdict targets p id ≡ Again poll.target (poll_octets (target_at targets poll.target) id))
        × (timed (tries_of targets) id p ≡ record { open_polls = map.insert p.open_polls id (record { target = poll.target; sends = poll.sends + 1 }); started = p.started })
    again more =
        let test : nat_lt poll.sends (target_at targets poll.target).tries ≡ true = grind (arith, nat_tests) in
        (ap (timeout_at targets id) has ∙ rw test refl, ap (λ o. timed_at (tries_of targets) id o p) has ∙ rw test refl)

  -- what is not open does not go again
  pub not_again : map.get p.open_polls id ≡ None → IsTrue false ↔ IsSentAgain (timeout_verdict targets p id)
  not_again none = (λ t. absurd (true≢false (sym t)), λ s. absurd (subst IsSentAgain (not_open none).0 s))

  -- an open poll goes again while it has tries
  pub goes_again : (poll : Poll) → map.get p.open_polls id ≡ Some poll → IsTrue (nat_lt poll.sends (target_at targets poll.target).tries) ↔ IsSentAgain (timeout_verdict targets p id)
  goes_again poll has = elim (cases_lt poll.sends (target_at targets poll.target).tries) [
    | inl lt ↦ (λ t. subst IsSentAgain (sym (again poll has lt).0) tt, λ s. grind (arith, nat_tests))
    | inr ge ↦ (
      λ t. absurd (true≢false (sym t ∙ stays ge)),
      λ s. absurd (subst IsSentAgain (given_up poll has ge).0 s),
    )
  ]
    where
      stays : (target_at targets poll.target).tries ≤ poll.sends → nat_lt poll.sends (target_at targets poll.target).tries ≡ false
      stays le = grind (arith, nat_tests)
