-- What a station's tables give is a core.
use Rattle.std.proofs.Common.{◌≡◌, ℕ, zero, suc, ◌<◌, ◌≤◌, List, [], ◌∷◌, length, get_or, map, All, Option, Some, option_map, Ok, refl, sym, ap, ◌∙◌, subst, arith, length-append}
use Rattle.std.specs.Prelude.{slice_get}
use Rattle.std.specs.List.{AllZip, Contains}
use Rattle.std.specs.List.Sorted.{IsStrictlySortedBy}
use Rattle.std.specs.List.{AllByRecursion}
use Rattle.std.specs.declared.cmp.Ordering.TheVariants.{Less}
use Rattle.std.proofs.lemmas.List.{get_or-map, get_or_default, length-map}
use Rattle.std.proofs.lemmas.List.Elements.{All-append, All-cons, All-map, All-nil, All-tail, Contains-append_left, Contains-append_right}
use Rattle.std.proofs.lemmas.List.Sorted.{All-permutation, Contains-permutation, length_permutation}
use Rattle.std.proofs.lemmas.Option.{slice_get-get_or, slice_get-map, slice_get_within}
use Rattle.std.proofs.lemmas.Slice.Zip.{AllZip-long}
use Rattle.mon_alarms.specs.Rule.{Rule}
use Rattle.mon_board.specs.Instance.{IsEngine, instance_cmp, instances_of, named}
use Rattle.mon_board.specs.Watch.{IsWatch}
use Rattle.mon_board.specs.declared.instance.Watched.{Watched}
use Rattle.mon_window.specs.Window.{AreSizes}
use Rattle.mon_poller.specs.Target.{AreTargets, IsTarget}
use Rattle.toml.specs.Data.{Members}
use Rattle.mon_settings.specs.declared.key.Key.TheVariants as key
use Rattle.mon_settings.specs.declared.station_tables.AlarmRow.{AlarmRow}
use Rattle.mon_settings.specs.declared.station_tables.ObjectRow.{ObjectRow}
use Rattle.mon_settings.specs.declared.station_tables.PeerRow.{PeerRow}
use Rattle.mon_settings.specs.declared.station_tables.TargetRow.{TargetRow}
use Rattle.mon_settings.specs.StationAccepted.{Scalars, core_from}
use Rattle.mon_settings.specs.Lists.{rows_between, rows_up_to}
use Rattle.mon_settings.specs.Placing.{instances_of_rows, with_alarms}
use Rattle.mon_settings.specs.Station.{rules_at, scalars_of}
use Rattle.mon_config.specs.StationCore.{AreInstancesOf, ArePeersOf, ArePolledAs, IsCore, IsPolledAs}
use Rattle.mon_settings.specs.StationTables.{alarm_of, target_of}
use Rattle.mon_settings.specs.Watching.{all_watched, watched_at, AreInstancesOfRows, AreRulesOf, IsRuleOf, number_of_instance, object_from, or_zero, target_from, watched_cmp, watched_of}
use Rattle.mon_settings.proofs.ForWatches.{instances_are, number_to, rules_are}
use Rattle.mon_settings.proofs.Limits.{IsWithin, between_limits, scalars_limits, target_limits, up_to_limit}
use Rattle.mon_settings.proofs.Steps.{bind_from}

-- what holds of each object of each target, at its engine
each_watched : (P : Watched → Type 0) (ts : List TargetRow) → All (λ t. All (λ o. P (watched_of t.engine o)) t.objects) ts → All P (all_watched ts)
each_watched P [] all = All-nil P
each_watched P (t ∷ ts) all =
    All-append P (watched_at t) (all_watched ts) (All-map P (watched_of t.engine) t.objects (all 0 t (omega arith)))
    (each_watched P ts (All-tail (λ u. All (λ o. P (watched_of u.engine o)) u.objects) t ts all))

some_watched : (ts : List TargetRow) → 1 ≤ length ts → All IsWithin ts → 1 ≤ length (all_watched ts)
some_watched [] some all = absurd (omega arith)
some_watched (t ∷ ts) some all =
    let within = all 0 t (omega arith) in
    let objects = within.objects.0 in
    omega (arith, objects, length-append (watched_at t) (all_watched ts), length-map t.objects (watched_of t.engine))

in_map : {A B : Type 0} (f : A → B) (xs : List A) (k : ℕ) (x : A) → k < length xs → get_or xs k x ≡ x → Contains (map f xs) (f x)
in_map f xs k x lt is = (k, omega (arith, lt, length-map xs f), get_or-map f xs k x (f x) lt ∙ ap f is)

in_all : (ts : List TargetRow) (i : ℕ) (t : TargetRow) (w : Watched) → i < length ts → get_or ts i t ≡ t → Contains (watched_at t) w → Contains (all_watched ts) w
in_all [] i t w lt is there = absurd (omega arith)
in_all (u ∷ ts) zero t w lt is there = Contains-append_left (watched_at u) (all_watched ts) w (subst (λ (v : TargetRow). Contains (watched_at v) w) (sym is) there)
in_all (u ∷ ts) (suc i) t w lt is there = Contains-append_right (watched_at u) (all_watched ts) w (in_all ts i t w (omega arith) is there)

-- the order of what is watched is that of its instances
sorted_instances : (ws : List Watched) → IsStrictlySortedBy watched_cmp ws → IsStrictlySortedBy instance_cmp (instances_of ws)
unfolding IsStrictlySortedBy
sorted_instances [] rises = tt
sorted_instances (w ∷ ws) rises = (below ws rises.0, sorted_instances ws rises.1)
  where
    below : (vs : List Watched) → AllByRecursion (λ v. watched_cmp w v ≡ Less) vs → AllByRecursion (λ i. instance_cmp w.instance i ≡ Less) (instances_of vs)
    below [] all = tt
    below (v ∷ vs) all = (all.0, below vs all.1)

-- rules on instances
rules_below : (instances : List Watched) (alarms : List AlarmRow) (listed : List Rule) → AllZip (IsRuleOf instances) alarms listed → All (λ r. r.instance < length instances) listed
rules_below instances [] [] each = All-nil (λ r. r.instance < length instances)
rules_below instances [] (r ∷ listed) each = absurd each
rules_below instances (a ∷ alarms) [] each = absurd each
rules_below instances (a ∷ alarms) (r ∷ listed) each =
    let watched = each.0.watched in
    let within : r.instance < length instances = omega (arith, slice_get_within (instances_of instances) r.instance _ watched, length-map instances (λ (w : Watched). w.instance)) in
    All-cons (λ x. x.instance < length instances) r listed within (rules_below instances alarms listed each.1)

module _ (targets : List TargetRow) (instances : List Watched) (rules : List Rule) (are : AreInstancesOfRows targets instances) where
  object_polled : (i j : ℕ) (t : TargetRow) (o : ObjectRow) → i < length targets → get_or targets i t ≡ t → j < length t.objects → get_or t.objects j o ≡ o
      → IsPolledAs (record { instances = instances; rules = rules }) t.engine (object_from instances t.engine o)
  unfolding IsPolledAs
  object_polled i j t o lt is within there =
      let w : Watched = watched_of t.engine o in
      let all = in_all targets i t w lt is (in_map (watched_of t.engine) t.objects j o within there) in
      let (k, low, at) = Contains-permutation (all_watched targets) instances w are.same all in
      let found : slice_get instances k ≡ Some w = slice_get-get_or instances k w low ∙ ap Some at in
      let its : slice_get (instances_of instances) k ≡ Some (named t.engine o.name) = slice_get-map (λ (v : Watched). v.instance) instances k ∙ ap (option_map (λ (v : Watched). v.instance)) found in
      let number : or_zero (number_of_instance (named t.engine o.name) instances) ≡ k = ap or_zero (number_to (named t.engine o.name) instances k are.rising its) in
      (w, ap (slice_get instances) number ∙ found, refl, refl)

  target_polled : (i : ℕ) (t : TargetRow) → i < length targets → get_or targets i t ≡ t → ArePolledAs (record { instances = instances; rules = rules }) (target_from instances t)
  unfolding ArePolledAs
  target_polled i t lt is =
      All-map (IsPolledAs (record { instances = instances; rules = rules }) t.engine) (object_from instances t.engine) t.objects
      (λ j o within. object_polled i j t (get_or t.objects j o) lt is within (get_or_default t.objects j (get_or t.objects j o) o within))

  all_polled : AreInstancesOf (record { instances = instances; rules = rules }) (map (target_from instances) targets)
  all_polled =
      All-map (ArePolledAs (record { instances = instances; rules = rules })) (target_from instances) targets
      (λ i t lt. target_polled i (get_or targets i t) lt (get_or_default targets i (get_or targets i t) t lt))

pub watch_made : (targets : List TargetRow) (instances : List Watched) (alarms : List AlarmRow) (rules : List Rule)
    → 1 ≤ length targets → All IsWithin targets → AreInstancesOfRows targets instances → length alarms ≤ 256 → AreRulesOf instances alarms rules
    → IsWatch (record { instances = instances; rules = rules })
watch_made targets instances alarms rules some all are few on = record {
  sized = All-permutation (λ w. AreSizes w.window w.epoch) (all_watched targets) instances are.same (each_watched (λ w. AreSizes w.window w.epoch) targets (λ i t lt. (all i t lt).sizes));
  listed = record {
    some = omega (arith, some_watched targets some all, length_permutation (all_watched targets) instances are.same);
    few = are.few;
    engines = All-permutation (λ w. IsEngine w.instance.engine) (all_watched targets) instances are.same (each_watched (λ w. IsEngine w.instance.engine) targets (λ i t lt j o within. (all i t lt).engine));
    rising = sorted_instances instances are.rising;
  };
  ruled = record {
    few = omega (arith, few, AllZip-long (IsRuleOf instances) alarms on.listed on.each, length_permutation on.listed rules on.same);
    known = All-permutation (λ r. r.instance < length instances) on.listed rules on.same (rules_below instances alarms on.listed on.each);
    rising = on.rising;
  };
}

targets_made : (instances : List Watched) (targets : List TargetRow) → 1 ≤ length targets → length targets ≤ 64 → All IsWithin targets → AreTargets (map (target_from instances) targets)
targets_made instances targets some few all = record {
  some = omega (arith, some, length-map targets (target_from instances));
  few = omega (arith, few, length-map targets (target_from instances));
  each = All-map IsTarget (target_from instances) targets (λ i t lt.
      let within = all i t lt in
      let row = get_or targets i t in
      let long = length-map row.objects (object_from instances row.engine) in
      record {
        community = within.community;
        engine = within.engine;
        tries = within.tries;
        objects = (omega (arith, within.objects.0, long), omega (arith, within.objects.1, long));
      });
}

pub core_made : (station : ℕ) (targets : List TargetRow) (peers : List PeerRow) (instances : List Watched) (alarms : List AlarmRow) (rules : List Rule)
    → 1 ≤ station → (1 ≤ length targets) × (length targets ≤ 64) × All IsWithin targets → AreInstancesOfRows targets instances
    → ArePeersOf station (map (λ p. p.station) peers) → length alarms ≤ 256 → AreRulesOf instances alarms rules → IsCore (core_from station targets peers instances rules)
core_made station targets peers instances alarms rules positive (some, most, all) are others few on = record {
  station = positive;
  watch = watch_made targets instances alarms rules some all are few on;
  targets = targets_made instances targets some most all;
  objects = all_polled targets instances rules are;
  peers = others;
}

-- what was read of a tree is one
pub core_read : (find : List ℕ → Option (List ℕ)) (t : Members) (scalars : Scalars) (targets : List TargetRow) (instances : List Watched) (peers : List PeerRow) (rules : List Rule)
    → 1 ≤ scalars.station → scalars_of t ≡ Ok scalars → rows_between key.Target 1 64 (target_of find scalars.sizes) t ≡ Ok targets → instances_of_rows targets ≡ Ok instances
    → ArePeersOf scalars.station (map (λ p. p.station) peers) → rules_at find scalars.sizes instances t ≡ Ok rules → IsCore (core_from scalars.station targets peers instances rules)
unfolding rules_at
core_read find t scalars targets instances peers rules positive plain read placed others ruled =
    let fit = scalars_limits t scalars plain in
    let within = between_limits key.Target 1 64 (target_of find scalars.sizes) t targets IsWithin (target_limits find scalars.sizes fit) read in
    let are = (instances_are targets instances).0 placed in
    let (alarms, listed, put) = bind_from (rows_up_to key.Alarm 256 (alarm_of find scalars.sizes) t) (λ l. with_alarms instances 1 l []) rules ruled in
    core_made scalars.station targets peers instances alarms rules positive within are others
    (up_to_limit key.Alarm 256 (alarm_of find scalars.sizes) t alarms listed) ((rules_are instances are.rising alarms rules).0 put)
