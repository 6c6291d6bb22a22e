-- What a poller holds.
use Rattle.std.specs.Prelude.{◌≡◌, ℕ, ◌≤◌, ◌<◌, List, [], ◌∷◌, length, Option, Some, None, refl}
use Rattle.std.specs.Coded.{Coded, code_by, coded×, coded_ℕ, coded_list}
use Rattle.std.specs.FinMap as map
use Rattle.slab.specs.Slab.{Slab, get, slab_len}
use Rattle.mon_poller.specs.contracts.target.Target as target
use Rattle.mon_poller.specs.declared.poller.OpenPoll.{OpenPoll}
use Rattle.mon_poller.specs.declared.target.Target.{Target}
use Rattle.mon_poller.specs.Polls.{Poll, Open, Polls}
use Rattle.mon_poller.specs.Target.{AreTargets, target_at}

-- the targets, and the open polls
pub record Poller : Type 0 where
  pub targets : List Target
  pub polls : Polls

-- polls are stored as the tuple of their fields
abbrev pub poll_code : Coded Poll
poll_code = code_by (ℕ × ℕ) (coded× coded_ℕ coded_ℕ) (λ p. (p.target, p.sends))
    (λ p. record { target = p.0; sends = p.1 }) (λ _. refl)

-- a poller is stored as the pair of its targets and its polls
abbrev pub poller_code : Coded Poller
poller_code =
    code_by (List Target × (Open × ℕ)) (coded× (coded_list (target.the_row).coded)
    (coded× (map.code coded_ℕ poll_code) coded_ℕ))
    (λ p. (p.targets, (p.polls.open_polls, p.polls.started)))
    (λ p. record { targets = p.0; polls = record { open_polls = p.1.0; started = p.1.1 } })
    (λ _. refl)

-- an open poll without its request-id
abbrev pub poll_in : OpenPoll → Poll
poll_in p = record { target = p.target; sends = p.sends }

-- the open polls of these slots, by request-id
abbrev pub open_of : List (Option OpenPoll) → Open
open_of [] = map.empty
open_of (None ∷ slots) = open_of slots
open_of (Some p ∷ slots) = map.insert (open_of slots) p.id (poll_in p)

-- the slots hold polls of targets, no two of one request-id
pub record AreSlots (targets : List Target) (s : Slab OpenPoll) : Type 0 where
  pub there : (key : ℕ) (p : OpenPoll) → get s key ≡ Some p → p.target < length targets
  pub distinct : (k j : ℕ) (p q : OpenPoll) → get s k ≡ Some p → get s j ≡ Some q → p.id ≡ q.id
      → k ≡ j

-- an open poll was given its request-id, which is not 0, and was sent no more often than its target
-- is tried
pub record IsOpenPoll (targets : List Target) (started : ℕ) (p : OpenPoll) : Type 0 where
  pub id : p.id ≤ started
  pub counted : 0 < p.id
  pub sends : p.sends ≤ (target_at targets p.target).tries

-- targets within their limits, and at most 64 open polls of them, for which there is capacity
pub record ArePolls (targets : List Target) (started : ℕ) (s : Slab OpenPoll) : Type 0 where
  pub limited : AreTargets targets
  pub ids : started ≤ 2147483647
  pub slots : AreSlots targets s
  pub each : (key : ℕ) (p : OpenPoll) → get s key ≡ Some p → IsOpenPoll targets started p
  pub few : slab_len s ≤ 64
  pub room : 64 ≤ s.capacity
