-- A tree is refused as a station's settings for a key, a value or a name in it, and for nothing
-- else.
use Rattle.std.proofs.Common.{◌≡◌, refl, ℕ, ◌+◌, ◌&&◌, nat_le, List, [], ◌∷◌, length, map, Option, Some, None, option_map, Result, Ok, Err, ap, sym, subst}
use Rattle.std.specs.Prelude.{int_lt, min}
use Rattle.mon_alarms.specs.Rule.{Rule}
use Rattle.mon_board.specs.Instance.{named}
use Rattle.mon_board.specs.RuleOrder.{rule_cmp}
use Rattle.mon_board.specs.declared.instance.Watched.{Watched}
use Rattle.mon_oid.specs.Steps.{◌>>=◌}
use Rattle.toml.specs.Data.{Data, Items, no_items, item, Members, get_member, as_integer, as_str, as_table}
use Rattle.mon_settings.specs.declared.key.Key.{Key}
use Rattle.mon_settings.specs.declared.key.Key.TheVariants as key
use Rattle.mon_settings.specs.declared.fault.SettingsFault.{SettingsFault}
use Rattle.mon_settings.specs.declared.fault.SettingsFault.TheVariants as fault
use Rattle.mon_settings.specs.declared.place.Place.TheVariants as place
use Rattle.mon_settings.specs.declared.place.PathPart.{PathPart}
use Rattle.mon_settings.specs.declared.place.PathPart.TheVariants as step
use Rattle.mon_settings.specs.declared.sizes.Sizes.{Sizes}
use Rattle.mon_settings.specs.declared.station_tables.AlarmRow.{AlarmRow}
use Rattle.mon_settings.specs.declared.station_tables.PeerRow.{PeerRow}
use Rattle.mon_settings.specs.declared.station_tables.TargetRow.{TargetRow}
use Rattle.mon_settings.specs.Key.{key_name}
use Rattle.mon_settings.specs.Grammar.{station_keys, table_keys}
use Rattle.mon_settings.specs.Keys.{or_bad, or_bad_at, only, needed_at, default_at, optional_at, within}
use Rattle.mon_settings.specs.Leaf.{number_in, text_in, hex_in, addr_in, list_between, texts_in}
use Rattle.mon_settings.specs.Lists.{row, rows, rows_between, rows_up_to}
use Rattle.mon_settings.specs.Place.{at}
use Rattle.mon_settings.specs.Placing.{few_instances, instances_of_rows, placed, rule_from, rule_of_alarm, with_alarm, with_alarms}
use Rattle.mon_settings.specs.Resolving.{or_unknown, name_in, name_at, name_in_some, name_or_none}
use Rattle.mon_settings.specs.SettingsFault.{IsOfStationTree, IsOfTree, bad_value, fault_within}
use Rattle.mon_settings.specs.Station.{are_apart, are_peer_numbers, checked_peers, modules_at, peers_at, rules_at, scalars_of, station_of}
use Rattle.mon_settings.specs.StationTables.{object_of, target_of, peer_of, alarm_of}
use Rattle.mon_settings.specs.Watching.{all_watched, number_of_instance, watched_cmp}
use Rattle.mon_settings.proofs.ForWatches.{targets_are}
use Rattle.mon_settings.proofs.Insertions.{place_all}
use Rattle.mon_settings.proofs.Named.{Own, bad_at_own, bad_own, bind_own, default_own, either_own, err_own, needed_own, ok_own, only_own, within_own}

-- refused for something in the tree
abbrev pub Told : {A : Type 0} → Result A SettingsFault → Type 0
Told r = (e : SettingsFault) → r ≡ Err e → IsOfStationTree e

of_any : (e : SettingsFault) → IsOfTree e → IsOfStationTree e
of_any fault.OutOfMemory h = absurd h
of_any (fault.NotToml from) h = absurd h
of_any (fault.Missing k) h = tt
of_any (fault.BadValue k) h = tt
of_any (fault.UnknownKey p) h = tt
of_any (fault.UnknownObject p) h = absurd h

told : {A : Type 0} (r : Result A SettingsFault) → Own r → Told r
told r own = λ e h. of_any e (own e h)

bind_told : {A B : Type 0} (r : Result A SettingsFault) (f : A → Result B SettingsFault) → Told r → ((a : A) → Told (f a)) → Told (r >>= f)
bind_told (Err x) f p q = λ e h. p e (let same : x ≡ e = cc in ap Err same)
bind_told (Ok a) f p q = q a

ok_told : {A : Type 0} (a : A) → Told (Ok a)
ok_told a = λ e h. absurd cc

unknown_told : (k : Key) (o : Option (List ℕ)) → Told (let r : Result (List ℕ) SettingsFault = or_unknown k o in r)
unknown_told k None = λ e h. let same : fault.UnknownObject (at k) ≡ e = cc in subst IsOfStationTree same tt
unknown_told k (Some q) = ok_told q

of_within : (s : PathPart) (e : SettingsFault) → IsOfStationTree e → IsOfStationTree (fault_within s e)
of_within s fault.OutOfMemory h = h
of_within s (fault.NotToml from) h = h
of_within s (fault.Missing p) h = tt
of_within s (fault.BadValue p) h = tt
of_within s (fault.UnknownKey p) h = tt
of_within s (fault.UnknownObject p) h = tt

within_told : {A : Type 0} (s : PathPart) (r : Result A SettingsFault) → Told r → Told (within s r)
within_told s (Ok a) p = ok_told a
within_told s (Err x) p = λ e h. let same : fault_within s x ≡ e = cc in subst IsOfStationTree same (of_within s x (p x refl))

module _ {A : Type 0} (k : Key) (f : Members → Result A SettingsFault) (each : (t : Members) → Told (f t)) where
  row_told : (s : PathPart) (d : Data) → Told (row s f d)
  unfolding row
  row_told s d = bind_told (or_bad_at (place.At s) (as_table d)) _ (told _ (bad_at_own (place.At s) (as_table d))) (λ t. within_told s (f t) (each t))

  rows_told : (n : ℕ) (ds : Items) → Told (rows k f n ds)
  unfolding rows
  rows_told n no_items = ok_told []
  rows_told n (item d ds) =
      bind_told (row (step.Entry k n) f d) _ (row_told (step.Entry k n) d) (λ a. bind_told (rows k f (n + 1) ds) _ (rows_told (n + 1) ds) (λ more. ok_told (a ∷ more)))

  between_told : (least most : ℕ) (t : Members) → Told (rows_between k least most f t)
  unfolding rows_between
  between_told least most t = bind_told (needed_at k (list_between least most) t) (rows k f 1) (told _ (needed_own k (list_between least most) t)) (rows_told 1)

  up_to_told : (most : ℕ) (t : Members) → Told (rows_up_to k most f t)
  unfolding rows_up_to
  up_to_told most t = bind_told (default_at k no_items (list_between 0 most) t) (rows k f 1) (told _ (default_own k (list_between 0 most) no_items t)) (rows_told 1)

peer_of-own : (t : Members) → Own (peer_of t)
unfolding peer_of
peer_of-own t =
    bind_own (only (table_keys key.Peer) t) _ (only_own (table_keys key.Peer) t) (λ v0.
    bind_own (needed_at key.Station (number_in 1 4294967295) t) _ (needed_own key.Station (number_in 1 4294967295) t) (λ v1.
    bind_own (needed_at key.Address addr_in t) _ (needed_own key.Address addr_in t) (λ v2.
    λ e h. absurd cc)))

scalars_of-own : (t : Members) → Own (scalars_of t)
unfolding scalars_of
scalars_of-own t =
    bind_own (needed_at key.Station (number_in 1 4294967295) t) _ (needed_own key.Station (number_in 1 4294967295) t) (λ v0.
    bind_own (needed_at key.Listen addr_in t) _ (needed_own key.Listen addr_in t) (λ v1.
    bind_own (needed_at key.File (text_in 0 4095) t) _ (needed_own key.File (text_in 0 4095) t) (λ v2.
    bind_own (needed_at key.Window (number_in 1 64) t) _ (needed_own key.Window (number_in 1 64) t) (λ v3.
    bind_own (default_at key.Epoch v3 (number_in 1 v3) t) _ (default_own key.Epoch (number_in 1 v3) v3 t) (λ v4.
    bind_own (needed_at key.WaitMs (number_in 1 60000) t) _ (needed_own key.WaitMs (number_in 1 60000) t) (λ v5.
    bind_own (optional_at key.Label (text_in 1 64) t) _ (default_own key.Label (λ d. option_map Some (text_in 1 64 d)) None t) (λ v6.
    λ e h. absurd cc)))))))

instances-own : (targets : List TargetRow) → Own (instances_of_rows targets)
unfolding instances_of_rows
instances-own targets =
    subst (λ (r : Result (List Watched) SettingsFault). Own (r >>= few_instances)) (sym (targets_are targets []))
    (bind_own (or_bad key.Target (place_all watched_cmp (all_watched targets) [])) few_instances (bad_own key.Target (place_all watched_cmp (all_watched targets) []))
    (λ v. either_own (nat_le (length v) 256) (Ok v) (Err (bad_value key.Target)) (ok_own v) (err_own (bad_value key.Target) tt)))

rule-own : (a : AlarmRow) (n : ℕ) → Own (rule_from a n)
rule-own a n = either_own (int_lt a.falling a.rising) (Ok _) (Err (bad_value key.Falling)) (ok_own _) (err_own (bad_value key.Falling) tt)

alarm-own : (instances : List Watched) (a : AlarmRow) (done : List Rule) → Own (with_alarm instances a done)
alarm-own instances a done =
    bind_own (rule_of_alarm instances a) (λ rule. or_bad_at place.Whole (placed rule_cmp rule done))
    (bind_own (or_bad_at place.Whole (number_of_instance (named a.engine a.name) instances)) (rule_from a) (bad_at_own place.Whole (number_of_instance (named a.engine a.name) instances)) (rule-own a))
    (λ rule. bad_at_own place.Whole (placed rule_cmp rule done))

alarms-own : (instances : List Watched) (n : ℕ) (alarms : List AlarmRow) (done : List Rule) → Own (with_alarms instances n alarms done)
unfolding with_alarms
alarms-own instances n [] done = ok_own done
alarms-own instances n (a ∷ alarms) done =
    bind_own (within (step.Entry key.Alarm n) (with_alarm instances a done)) (with_alarms instances (n + 1) alarms)
    (within_own (step.Entry key.Alarm n) (with_alarm instances a done) (alarm-own instances a done)) (λ next. alarms-own instances (n + 1) alarms next)

checked-own : (own : ℕ) (targets : List TargetRow) (peers : List PeerRow) → Own (checked_peers own targets peers)
checked-own own targets peers =
    either_own (are_peer_numbers own (map (λ (p : PeerRow). p.station) peers) && are_apart targets peers) (Ok peers) (Err (bad_value key.Peer)) (ok_own peers) (err_own (bad_value key.Peer) tt)

peers-told : (own : ℕ) (targets : List TargetRow) (t : Members) → Told (peers_at own targets t)
unfolding peers_at
peers-told own targets t =
    bind_told (rows_up_to key.Peer 15 peer_of t) (checked_peers own targets) (up_to_told key.Peer peer_of (λ u. told (peer_of u) (peer_of-own u)) 15 t)
    (λ peers. told (checked_peers own targets peers) (checked-own own targets peers))

module _ (find : List ℕ → Option (List ℕ)) where
  name_at-told : (k : Key) (t : Members) → Told (name_at find k t)
  unfolding name_at
  name_at-told k t = bind_told (needed_at k as_str t) _ (told _ (needed_own k as_str t)) (λ text. unknown_told k (find text))

  name_in-told : (k : Key) (d : Data) → Told (name_in find k d)
  unfolding name_in
  name_in-told k d = bind_told (or_bad k (as_str d)) _ (told _ (bad_own k (as_str d))) (λ text. unknown_told k (find text))

  name_some-told : (k : Key) (o : Option Data) → Told (name_in_some find k o)
  unfolding name_in_some
  name_some-told k None = ok_told None
  name_some-told k (Some d) = bind_told (name_in find k d) _ (name_in-told k d) (λ q. ok_told (Some q))

  object_of-told : (sizes : Sizes) (t : Members) → Told (object_of find sizes t)
  unfolding object_of
  object_of-told sizes t =
      bind_told (only (table_keys key.Objects) t) _ (told _ (only_own (table_keys key.Objects) t)) (λ v0.
      bind_told (name_at find key.Name t) _ (name_at-told key.Name t) (λ v1.
      bind_told (name_or_none find key.Mark t) _ (name_some-told key.Mark (get_member (key_name key.Mark) t)) (λ v2.
      bind_told (default_at key.Window sizes.window (number_in 1 64) t) _ (told _ (default_own key.Window (number_in 1 64) sizes.window t)) (λ v3.
      bind_told (default_at key.Epoch (min sizes.epoch v3) (number_in 1 v3) t) _ (told _ (default_own key.Epoch (number_in 1 v3) (min sizes.epoch v3) t)) (λ v4.
      λ e h. absurd cc)))))

  target_of-told : (sizes : Sizes) (t : Members) → Told (target_of find sizes t)
  unfolding target_of
  target_of-told sizes t =
      bind_told (only (table_keys key.Target) t) _ (told _ (only_own (table_keys key.Target) t)) (λ v0.
      bind_told (needed_at key.Address addr_in t) _ (told _ (needed_own key.Address addr_in t)) (λ v1.
      bind_told (needed_at key.Community (text_in 1 512) t) _ (told _ (needed_own key.Community (text_in 1 512) t)) (λ v2.
      bind_told (needed_at key.Engine (hex_in 5 32) t) _ (told _ (needed_own key.Engine (hex_in 5 32) t)) (λ v3.
      bind_told (needed_at key.Tries (number_in 1 8) t) _ (told _ (needed_own key.Tries (number_in 1 8) t)) (λ v4.
      bind_told (optional_at key.Label (text_in 1 64) t) _ (told _ (default_own key.Label (λ d. option_map Some (text_in 1 64 d)) None t)) (λ v6.
      bind_told (rows_between key.Objects 1 16 (object_of find sizes) t) _ (between_told key.Objects (object_of find sizes) (object_of-told sizes) 1 16 t) (λ v5.
      λ e h. absurd cc)))))))

  alarm_of-told : (sizes : Sizes) (t : Members) → Told (alarm_of find sizes t)
  unfolding alarm_of
  alarm_of-told sizes t =
      bind_told (only (table_keys key.Alarm) t) _ (told _ (only_own (table_keys key.Alarm) t)) (λ v0.
      bind_told (needed_at key.Engine (hex_in 5 32) t) _ (told _ (needed_own key.Engine (hex_in 5 32) t)) (λ v1.
      bind_told (name_at find key.Name t) _ (name_at-told key.Name t) (λ v2.
      bind_told (needed_at key.Rising as_integer t) _ (told _ (needed_own key.Rising as_integer t)) (λ v3.
      bind_told (needed_at key.Falling as_integer t) _ (told _ (needed_own key.Falling as_integer t)) (λ v4.
      λ e h. absurd cc)))))

  rules-told : (sizes : Sizes) (instances : List Watched) (t : Members) → Told (rules_at find sizes instances t)
  unfolding rules_at
  rules-told sizes instances t =
      bind_told (rows_up_to key.Alarm 256 (alarm_of find sizes) t) _ (up_to_told key.Alarm (alarm_of find sizes) (alarm_of-told sizes) 256 t)
      (λ alarms. told (with_alarms instances 1 alarms []) (alarms-own instances 1 alarms []))

  pub station_of-told : (t : Members) → Told (station_of find t)
  unfolding station_of
  station_of-told t =
      bind_told (only station_keys t) _ (told _ (only_own station_keys t)) (λ v0.
      bind_told (scalars_of t) _ (told _ (scalars_of-own t)) (λ v1.
      bind_told (modules_at t) _ (told _ (default_own key.Modules texts_in [] t)) (λ v2.
      bind_told (rows_between key.Target 1 64 (target_of find v1.sizes) t) _ (between_told key.Target (target_of find v1.sizes) (target_of-told v1.sizes) 1 64 t) (λ v3.
      bind_told (instances_of_rows v3) _ (told _ (instances-own v3)) (λ v4.
      bind_told (peers_at v1.station v3 t) _ (peers-told v1.station v3 t) (λ v5.
      bind_told (rules_at find v1.sizes v4 t) _ (rules-told v1.sizes v4 t) (λ v6.
      λ e h. absurd cc)))))))

pub modules-told : (t : Members) → Told (modules_at t)
modules-told t = told (modules_at t) (default_own key.Modules texts_in [] t)
