-- What is wrong with targets, peers and instances, and what changed in that: each change is said
-- once.
use Rattle.std.specs.Prelude.{ℕ, zero, suc, ◌+◌, ◌==◌, Bool, true, false, ◌||◌, nat_le, nat_lt}
use Rattle.std.specs.Prelude.{if◌then◌else◌, List, [], ◌∷◌, ◌++◌, Option, Some, None, get_or, map}
use Rattle.std.specs.Prelude.{slice_get}
use Rattle.std.specs.Global.{Vec}
use Rattle.std.specs.Str.{bytes_eq}
use Rattle.mon_poller.specs.declared.fault.ResponseFault.TheVariants as response
use Rattle.mon_reasons.specs.NewestDatagrams.{other_engine}
use Rattle.mon_reasons.specs.declared.newest_datagrams.Datagram.{Datagram}
use Rattle.mon_station.specs.declared.fault.StationFault.{StationFault}
use Rattle.mon_station.specs.declared.fault.StationFault.TheVariants as fault
use Rattle.mon_rounds.specs.Freshness.{is_late}
use Rattle.mon_rounds.specs.declared.changes.Change.{Change}
use Rattle.mon_rounds.specs.declared.changes.Trouble.{Trouble}
use Rattle.mon_rounds.specs.declared.changes.Trouble.TheVariants.{SilentTarget, OtherEngine}
use Rattle.mon_rounds.specs.declared.changes.Trouble.TheVariants.{LateTarget, SilentPeer}
use Rattle.mon_rounds.specs.declared.changes.Trouble.TheVariants.{OffersOften, StaleInstance}
use Rattle.mon_rounds.specs.declared.changes.Troubles.{Troubles}
use Rattle.mon_rounds.specs.declared.freshness.Freshness.{Freshness}
use Rattle.mon_rounds.specs.declared.freshness.InstanceAge.{InstanceAge}
use Rattle.mon_rounds.specs.declared.freshness.PeerAge.{PeerAge}
use Rattle.mon_rounds.specs.declared.freshness.TargetAge.{TargetAge}

-- of each target, peer and instance, by their numbers, whether something is wrong with it; of each
-- target also the engine that answers in its place
pub record Told : Type 0 where
  pub silent_targets : List Bool
  pub other_engines : List (Option (List ℕ))
  pub late_targets : List Bool
  pub silent_peers : List Bool
  pub often_peers : List Bool
  pub stale_instances : List Bool

-- nothing is wrong
abbrev pub no_troubles : Told
no_troubles = record {
  silent_targets = [];
  other_engines = [];
  late_targets = [];
  silent_peers =
      [];
  often_peers = [];
  stale_instances = [];
}

-- what was said
abbrev pub told_by : Troubles → Told
told_by t = record {
  silent_targets = t.silent_targets.items;
  other_engines = t.other_engines.items;
  late_targets = t.late_targets.items;
  silent_peers = t.silent_peers.items;
  often_peers = t.often_peers.items;
  stale_instances = t.stale_instances.items;
}

-- ---- what is wrong
-- whether a target is silent: it did not answer in the last round
abbrev pub is_silent : TargetAge → Bool
is_silent t = nat_lt 0 t.rounds

-- whether a refusal is that of a response of another engine
abbrev pub is_of_another : Option StationFault → Bool
is_of_another (Some (fault.Response response.OtherEngine)) = true
is_of_another _ = false

-- whether a target's last response was of another engine
abbrev pub is_other : TargetAge → Bool
is_other t = is_of_another t.refusal

-- the engine that answers in place of a target's: that of its newest message with another one, if
-- its last response was of another one
abbrev pub other_if : List Datagram → TargetAge → (engine : List ℕ) → Option (List ℕ)
other_if latest t engine = if is_other t then other_engine t.address engine latest else None

-- the engine that answers in place of that of a target, if the target and its own engine are there
abbrev pub other_at : List Datagram → Option TargetAge → Option (Vec ℕ) → Option (List ℕ)
other_at latest (Some t) (Some engine) = other_if latest t engine.items
other_at latest _ _ = None

-- the engines that answer in place of those of the first n targets
abbrev pub others_of : List Datagram → List TargetAge → List (Vec ℕ) → ℕ → List (Option (List ℕ))
others_of latest targets engines zero = []
others_of latest targets engines (suc n) =
    others_of latest targets engines n ++ (other_at latest (slice_get targets n)
    (slice_get engines n) ∷ [])

-- whether a peer is silent: nothing came from it in the last rounds, as many as the limit
abbrev pub is_lost : ℕ → PeerAge → Bool
is_lost limit p = nat_le limit p.rounds

-- whether a peer offers more often than once an interval: it did in the last three, one after
-- another
abbrev pub offers_often : PeerAge → Bool
offers_often p = nat_le 3 p.often

-- whether a target answered in the last round
abbrev pub is_up : Option TargetAge → Bool
is_up None = false
is_up (Some t) = t.rounds == 0

-- whether the target of this number, if there is one, answered in the last round
abbrev pub answers : List TargetAge → Option ℕ → Bool
answers targets None = false
answers targets (Some number) = is_up (slice_get targets number)

-- Whether an instance is stale, where this was said of instances before: not if it had a new sample
-- in the last rounds, as many as the limit; else from when the target that is polled for it
-- answers.
abbrev pub is_stale : ℕ → List Bool → List TargetAge → InstanceAge → Bool
is_stale limit said targets i = if nat_lt i.rounds limit then false
    else get_or said i.number false || answers targets i.target

-- what is wrong now, where this was said before and these engines answer in place of others
abbrev pub troubles_after : ℕ → Told → (others : List (Option (List ℕ))) → Freshness → Told
troubles_after limit told others f = record {
  silent_targets = map is_silent f.targets.items;
  other_engines = others;
  late_targets = map is_late f.targets.items;
  silent_peers = map (is_lost limit) f.peers.items;
  often_peers = map offers_often f.peers.items;
  stale_instances = map (is_stale limit told.stale_instances f.targets.items) f.instances.items;
}

-- ---- what changed
-- the change of the trouble of this number between what was and what is: none where they are equal
abbrev pub change_at : Trouble → ℕ → Bool → Bool → List Change
change_at trouble number true true = []
change_at trouble number false false = []
change_at trouble number false true = record { trouble = trouble; number = number; begins = true }
    ∷ []
change_at trouble number true false = record { trouble = trouble; number = number; begins = false }
    ∷ []

-- of another engine that answers: none where it is the one before, and else it begins, or ends if
-- there is none any more
abbrev pub engine_change : ℕ → Option (List ℕ) → Option (List ℕ) → List Change
engine_change number None None = []
engine_change number None (Some is) = record {
  trouble = OtherEngine;
  number = number;
  begins = true;
} ∷ []
engine_change number (Some was) None = record {
  trouble = OtherEngine;
  number = number;
  begins =
      false;
} ∷ []
engine_change number (Some was) (Some is) = if bytes_eq was is then []
    else (record { trouble = OtherEngine; number = number; begins = true } ∷ [])

-- the changes between what was said and what is, by numbers from this one on; of one of which
-- nothing was said this was so before
abbrev pub changes_by : {A : Type 0} → (ℕ → A → A → List Change) → A → ℕ → List A → List A
    → List Change
changes_by change nothing n said [] = []
changes_by change nothing n said (is ∷ now) =
    change n (get_or said n nothing) is ++ changes_by change nothing (n + 1) said now

-- the changes of a trouble, by numbers from this one on
abbrev pub changes_from : Trouble → ℕ → List Bool → List Bool → List Change
changes_from trouble n said now = changes_by (change_at trouble) false n said now

-- the changes of engines that answer in place of others
abbrev pub engine_changes : ℕ → List (Option (List ℕ)) → List (Option (List ℕ)) → List Change
engine_changes n said now = changes_by engine_change None n said now

-- all changes
abbrev pub changes_between : Told → Told → List Change
changes_between was is =
    changes_from SilentTarget 0 was.silent_targets is.silent_targets
    ++ engine_changes 0 was.other_engines is.other_engines
    ++ changes_from LateTarget 0 was.late_targets is.late_targets
    ++ changes_from SilentPeer 0 was.silent_peers is.silent_peers
    ++ changes_from OffersOften 0 was.often_peers is.often_peers
    ++ changes_from StaleInstance 0 was.stale_instances is.stale_instances
