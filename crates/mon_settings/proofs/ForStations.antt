-- The reading of each table of a station returns what the table is, and nothing else.
use Rattle.std.proofs.Common.{◌≡◌, ◌↔◌, ℕ, Bool, true, false, ◌&&◌, if◌then◌else◌, List, [], map, Option, Some, None, option_map, Result, Ok, Err, refl, sym, ap, ◌∙◌, subst}
use Rattle.std.specs.Prelude.{min}
use Rattle.mon_alarms.specs.Rule.{Rule}
use Rattle.mon_board.specs.declared.instance.Watched.{Watched}
use Rattle.mon_oid.specs.Oid.{IsOid}
use Rattle.mon_smi.specs.Names.{MeansNumbers}
use Rattle.mon_smi.specs.declared.definition.Definition.{Definition}
use Rattle.toml.specs.Data.{Data, no_items, Members, get_member, as_str, as_integer}
use Rattle.mon_settings.specs.declared.key.Key.{Key}
use Rattle.mon_settings.specs.declared.key.Key.TheVariants as key
use Rattle.mon_settings.specs.declared.fault.SettingsFault.{SettingsFault}
use Rattle.mon_settings.specs.SettingsFault.{bad_value}
use Rattle.mon_settings.specs.declared.sizes.Sizes.{Sizes}
use Rattle.mon_settings.specs.declared.station_tables.AlarmRow.{AlarmRow}
use Rattle.mon_settings.specs.declared.station_tables.ObjectRow.{ObjectRow}
use Rattle.mon_settings.specs.declared.station_tables.PeerRow.{PeerRow}
use Rattle.mon_settings.specs.declared.station_tables.TargetRow.{TargetRow}
use Rattle.mon_settings.specs.Key.{key_name}
use Rattle.mon_settings.specs.Grammar.{station_keys, table_keys}
use Rattle.mon_settings.specs.Keys.{or_bad, only, needed_at, default_at, optional_at}
use Rattle.mon_settings.specs.Leaf.{number_in, text_in, hex_in, addr_in, list_between, texts_in}
use Rattle.mon_settings.specs.Lists.{rows, rows_between, rows_up_to}
use Rattle.mon_settings.specs.Placing.{instances_of_rows, with_alarms}
use Rattle.mon_settings.specs.Resolving.{or_unknown, name_in, name_at, name_in_some, name_or_none}
use Rattle.mon_settings.specs.Station.{are_apart, are_peer_numbers, checked_peers, modules_at, peers_at, rules_at, scalars_of, station_of}
use Rattle.mon_settings.specs.StationAccepted.{Names, MayName, HoldsBetween, MayHoldUpTo, IsObject, IsPolled, IsPeer, IsAlarm, IsScalars, IsStation, Resolves, Station, Scalars, core_from}
use Rattle.mon_settings.specs.StationTables.{object_of, target_of, peer_of, alarm_of}
use Rattle.mon_settings.proofs.ForWatches.{instances_are, others_from, others_to, rules_are}
use Rattle.mon_settings.proofs.Steps.{bind_from, bind_to, bad_from, ok_same, needed_from, needed_to, default_from, default_to, only_from, only_to, rows_from, rows_to}

known_from : (k : Key) (o : Option (List ℕ)) (q : List ℕ) → (let r : Result (List ℕ) SettingsFault = or_unknown k o in r) ≡ Ok q → o ≡ Some q
known_from k None q h = absurd cc
known_from k (Some p) q h = cc

-- a list with limits
module _ {A : Type 0} (k : Key) (f : Members → Result A SettingsFault) (P : Members → A → Type 0) (same : (t : Members) (a : A) → (f t ≡ Ok a) ↔ P t a) (t : Members) (xs : List A) where
  between_from : (least most : ℕ) → rows_between k least most f t ≡ Ok xs → HoldsBetween k least most P t xs
  unfolding rows_between
  between_from least most h =
      let (ds, is, all) = bind_from (needed_at k (list_between least most) t) (rows k f 1) xs h in
      (ds, needed_from k (list_between least most) t ds is, rows_from k f P same 1 ds xs all)

  between_to : (least most : ℕ) → HoldsBetween k least most P t xs → rows_between k least most f t ≡ Ok xs
  unfolding rows_between
  between_to least most (ds, is, all) = bind_to (needed_at k (list_between least most) t) (rows k f 1) ds xs (needed_to k (list_between least most) t ds is) (rows_to k f P same 1 ds xs all)

  up_to_from : (most : ℕ) → rows_up_to k most f t ≡ Ok xs → MayHoldUpTo k most P t xs
  unfolding rows_up_to
  up_to_from most h =
      let (ds, is, all) = bind_from (default_at k no_items (list_between 0 most) t) (rows k f 1) xs h in
      (ds, default_from k (list_between 0 most) t ds no_items is, rows_from k f P same 1 ds xs all)

  up_to_to : (most : ℕ) → MayHoldUpTo k most P t xs → rows_up_to k most f t ≡ Ok xs
  unfolding rows_up_to
  up_to_to most (ds, is, all) = bind_to (default_at k no_items (list_between 0 most) t) (rows k f 1) ds xs (default_to k (list_between 0 most) t ds no_items is) (rows_to k f P same 1 ds xs all)

peer_of-from : (t : Members) (x : PeerRow) → peer_of t ≡ Ok x → IsPeer t x
unfolding peer_of
peer_of-from t x h =
    let (v0, p0, h1) = bind_from (only (table_keys key.Peer) t) _ x h in
    let (v1, p1, h2) = bind_from (needed_at key.Station (number_in 1 4294967295) t) _ x h1 in
    let (v2, p2, h3) = bind_from (needed_at key.Address addr_in t) _ x h2 in
    let made : PeerRow = record { station = v1; address = v2 } in
    let is : made ≡ x = ok_same made x h3 in
    subst (λ (y : PeerRow). IsPeer t y) is (record {
      known = only_from (table_keys key.Peer) t _ p0;
      station = needed_from key.Station (number_in 1 4294967295) t _ p1;
      address = needed_from key.Address addr_in t _ p2;
    })

peer_of-to : (t : Members) (x : PeerRow) → IsPeer t x → peer_of t ≡ Ok x
unfolding peer_of
peer_of-to t x h =
    bind_to (only (table_keys key.Peer) t) _ tt x (only_to (table_keys key.Peer) t h.known)
    (bind_to (needed_at key.Station (number_in 1 4294967295) t) _ x.station x (needed_to key.Station (number_in 1 4294967295) t _ h.station)
    (bind_to (needed_at key.Address addr_in t) _ x.address x (needed_to key.Address addr_in t _ h.address)
    refl))

pub peer_of-is : (t : Members) (x : PeerRow) → (peer_of t ≡ Ok x) ↔ IsPeer t x
peer_of-is t x = (peer_of-from t x, peer_of-to t x)

scalars_of-from : (t : Members) (x : Scalars) → scalars_of t ≡ Ok x → IsScalars t x
unfolding scalars_of
scalars_of-from t x h =
    let (v0, p0, h1) = bind_from (needed_at key.Station (number_in 1 4294967295) t) _ x h in
    let (v1, p1, h2) = bind_from (needed_at key.Listen addr_in t) _ x h1 in
    let (v2, p2, h3) = bind_from (needed_at key.File (text_in 0 4095) t) _ x h2 in
    let (v3, p3, h4) = bind_from (needed_at key.Window (number_in 1 64) t) _ x h3 in
    let (v4, p4, h5) = bind_from (default_at key.Epoch v3 (number_in 1 v3) t) _ x h4 in
    let (v5, p5, h6) = bind_from (needed_at key.WaitMs (number_in 1 60000) t) _ x h5 in
    let (v6, p6, h7) = bind_from (optional_at key.Label (text_in 1 64) t) _ x h6 in
    let made : Scalars = record { station = v0; listen = v1; file = v2; sizes = record { window = v3; epoch = v4 }; wait_ms = v5; label = v6 } in
    let is : made ≡ x = ok_same made x h7 in
    subst (λ (y : Scalars). IsScalars t y) is (record {
      station = needed_from key.Station (number_in 1 4294967295) t _ p0;
      listen = needed_from key.Listen addr_in t _ p1;
      file = needed_from key.File (text_in 0 4095) t _ p2;
      window = needed_from key.Window (number_in 1 64) t _ p3;
      epoch = default_from key.Epoch (number_in 1 v3) t _ v3 p4;
      wait_ms = needed_from key.WaitMs (number_in 1 60000) t _ p5;
      label = default_from key.Label (λ d. option_map Some (text_in 1 64 d)) t _ None p6;
    })

scalars_of-to : (t : Members) (x : Scalars) → IsScalars t x → scalars_of t ≡ Ok x
unfolding scalars_of
scalars_of-to t x h =
    bind_to (needed_at key.Station (number_in 1 4294967295) t) _ x.station x (needed_to key.Station (number_in 1 4294967295) t _ h.station)
    (bind_to (needed_at key.Listen addr_in t) _ x.listen x (needed_to key.Listen addr_in t _ h.listen)
    (bind_to (needed_at key.File (text_in 0 4095) t) _ x.file x (needed_to key.File (text_in 0 4095) t _ h.file)
    (bind_to (needed_at key.Window (number_in 1 64) t) _ x.sizes.window x (needed_to key.Window (number_in 1 64) t _ h.window)
    (bind_to (default_at key.Epoch x.sizes.window (number_in 1 x.sizes.window) t) _ x.sizes.epoch x (default_to key.Epoch (number_in 1 x.sizes.window) t _ x.sizes.window h.epoch)
    (bind_to (needed_at key.WaitMs (number_in 1 60000) t) _ x.wait_ms x (needed_to key.WaitMs (number_in 1 60000) t _ h.wait_ms)
    (bind_to (optional_at key.Label (text_in 1 64) t) _ x.label x (default_to key.Label (λ d. option_map Some (text_in 1 64 d)) t _ None h.label)
    refl))))))

pub scalars_of-is : (t : Members) (x : Scalars) → (scalars_of t ≡ Ok x) ↔ IsScalars t x
scalars_of-is t x = (scalars_of-from t x, scalars_of-to t x)

-- what is accepted of peers is what was read
chosen_same : (b : Bool) (xs ys : List PeerRow) → (let r : Result (List PeerRow) SettingsFault = if b then Ok xs else Err (bad_value key.Peer) in r) ≡ Ok ys → xs ≡ ys
chosen_same true xs ys h = ok_same xs ys h
chosen_same false xs ys h = absurd cc

peers_same : (own : ℕ) (targets : List TargetRow) (xs ys : List PeerRow) → checked_peers own targets xs ≡ Ok ys → xs ≡ ys
peers_same own targets xs ys h = chosen_same (are_peer_numbers own (map (λ (p : PeerRow). p.station) xs) && are_apart targets xs) xs ys h

module _ (defs : List Definition) (find : List ℕ → Option (List ℕ)) (means : Resolves defs find) where
  text_from : (k : Key) (text q : List ℕ) → (let r : Result (List ℕ) SettingsFault = or_unknown k (find text) in r) ≡ Ok q → IsOid q × MeansNumbers defs text q
  text_from k text q h = (means text q).0 (known_from k (find text) q h)

  text_to : (k : Key) (text q : List ℕ) → IsOid q × MeansNumbers defs text q → (let r : Result (List ℕ) SettingsFault = or_unknown k (find text) in r) ≡ Ok q
  text_to k text q h = ap (or_unknown k) ((means text q).1 h)

  named_from : (k : Key) (t : Members) (q : List ℕ) → name_at find k t ≡ Ok q → Names defs k t q
  unfolding name_at
  named_from k t q h =
      let (text, is, found) = bind_from (needed_at k as_str t) (λ s. or_unknown k (find s)) q h in
      (text, needed_from k as_str t text is, text_from k text q found)

  named_to : (k : Key) (t : Members) (q : List ℕ) → Names defs k t q → name_at find k t ≡ Ok q
  unfolding name_at
  named_to k t q (text, is, found) = bind_to (needed_at k as_str t) (λ s. or_unknown k (find s)) text q (needed_to k as_str t text is) (text_to k text q found)

  value_from : (k : Key) (d : Data) (q : List ℕ) → name_in find k d ≡ Ok q → (text : List ℕ) × (as_str d ≡ Some text) × (IsOid q × MeansNumbers defs text q)
  unfolding name_in
  value_from k d q h =
      let (text, is, found) = bind_from (or_bad k (as_str d)) (λ s. or_unknown k (find s)) q h in
      (text, bad_from k (as_str d) text is, text_from k text q found)

  value_to : (k : Key) (d : Data) (q text : List ℕ) → as_str d ≡ Some text → IsOid q × MeansNumbers defs text q → name_in find k d ≡ Ok q
  unfolding name_in
  value_to k d q text is found = bind_to (or_bad k (as_str d)) (λ s. or_unknown k (find s)) text q (ap (or_bad k) is) (text_to k text q found)

  at_from : (k : Key) (t : Members) (o : Option Data) (q : Option (List ℕ)) → get_member (key_name k) t ≡ o → name_in_some find k o ≡ Ok q → MayName defs k t q
  unfolding name_in_some
  at_from k t None None is h = is
  at_from k t None (Some q) is h = absurd cc
  at_from k t (Some d) None is h =
      let (found, p, same) = bind_from (name_in find k d) (λ q. Ok (Some q)) None h in
      absurd cc
  at_from k t (Some d) (Some q) is h =
      let (found, p, same) = bind_from (name_in find k d) (λ q. Ok (Some q)) (Some q) h in
      let one : found ≡ q = cc in
      let (text, value, means_it) = value_from k d q (p ∙ ap Ok one) in
      (text, (d, is, value), means_it)

  maybe_from : (k : Key) (t : Members) (q : Option (List ℕ)) → name_or_none find k t ≡ Ok q → MayName defs k t q
  maybe_from k t q h = at_from k t (get_member (key_name k) t) q refl h

  maybe_to : (k : Key) (t : Members) (q : Option (List ℕ)) → MayName defs k t q → name_or_none find k t ≡ Ok q
  unfolding name_in_some
  maybe_to k t None h = ap (name_in_some find k) h
  maybe_to k t (Some q) (text, holds, means_it) =
      ap (name_in_some find k) holds.1 ∙ bind_to (name_in find k holds.0) (λ p. Ok (Some p)) q (Some q) (value_to k holds.0 q text holds.2 means_it) refl

  module _ (sizes : Sizes) where
    object_of-from : (t : Members) (x : ObjectRow) → object_of find sizes t ≡ Ok x → IsObject defs sizes t x
    unfolding object_of
    object_of-from t x h =
        let (v0, p0, h1) = bind_from (only (table_keys key.Objects) t) _ x h in
        let (v1, p1, h2) = bind_from (name_at find key.Name t) _ x h1 in
        let (v2, p2, h3) = bind_from (name_or_none find key.Mark t) _ x h2 in
        let (v3, p3, h4) = bind_from (default_at key.Window sizes.window (number_in 1 64) t) _ x h3 in
        let (v4, p4, h5) = bind_from (default_at key.Epoch (min sizes.epoch v3) (number_in 1 v3) t) _ x h4 in
        let made : ObjectRow = record { name = v1; discontinuity = v2; window = v3; epoch = v4 } in
        let is : made ≡ x = ok_same made x h5 in
        subst (λ (y : ObjectRow). IsObject defs sizes t y) is (record {
          known = only_from (table_keys key.Objects) t _ p0;
          name = named_from key.Name t _ p1;
          discontinuity = maybe_from key.Mark t _ p2;
          window = default_from key.Window (number_in 1 64) t _ sizes.window p3;
          epoch = default_from key.Epoch (number_in 1 v3) t _ (min sizes.epoch v3) p4;
        })

    object_of-to : (t : Members) (x : ObjectRow) → IsObject defs sizes t x → object_of find sizes t ≡ Ok x
    unfolding object_of
    object_of-to t x h =
        bind_to (only (table_keys key.Objects) t) _ tt x (only_to (table_keys key.Objects) t h.known)
        (bind_to (name_at find key.Name t) _ x.name x (named_to key.Name t _ h.name)
        (bind_to (name_or_none find key.Mark t) _ x.discontinuity x (maybe_to key.Mark t _ h.discontinuity)
        (bind_to (default_at key.Window sizes.window (number_in 1 64) t) _ x.window x (default_to key.Window (number_in 1 64) t _ sizes.window h.window)
        (bind_to (default_at key.Epoch (min sizes.epoch x.window) (number_in 1 x.window) t) _ x.epoch x (default_to key.Epoch (number_in 1 x.window) t _ (min sizes.epoch x.window) h.epoch)
        refl))))

    pub object_of-is : (t : Members) (x : ObjectRow) → (object_of find sizes t ≡ Ok x) ↔ IsObject defs sizes t x
    object_of-is t x = (object_of-from t x, object_of-to t x)

    target_of-from : (t : Members) (x : TargetRow) → target_of find sizes t ≡ Ok x → IsPolled defs sizes t x
    unfolding target_of
    target_of-from t x h =
        let (v0, p0, h1) = bind_from (only (table_keys key.Target) t) _ x h in
        let (v1, p1, h2) = bind_from (needed_at key.Address addr_in t) _ x h1 in
        let (v2, p2, h3) = bind_from (needed_at key.Community (text_in 1 512) t) _ x h2 in
        let (v3, p3, h4) = bind_from (needed_at key.Engine (hex_in 5 32) t) _ x h3 in
        let (v4, p4, h5) = bind_from (needed_at key.Tries (number_in 1 8) t) _ x h4 in
        let (v6, p6, h7) = bind_from (optional_at key.Label (text_in 1 64) t) _ x h5 in
        let (v5, p5, h6) = bind_from (rows_between key.Objects 1 16 (object_of find sizes) t) _ x h7 in
        let made : TargetRow = record { address = v1; community = v2; engine = v3; tries = v4; label = v6; objects = v5 } in
        let is : made ≡ x = ok_same made x h6 in
        subst (λ (y : TargetRow). IsPolled defs sizes t y) is (record {
          known = only_from (table_keys key.Target) t _ p0;
          address = needed_from key.Address addr_in t _ p1;
          community = needed_from key.Community (text_in 1 512) t _ p2;
          engine = needed_from key.Engine (hex_in 5 32) t _ p3;
          tries = needed_from key.Tries (number_in 1 8) t _ p4;
          label = default_from key.Label (λ d. option_map Some (text_in 1 64 d)) t _ None p6;
          objects = between_from key.Objects (object_of find sizes) (IsObject defs sizes) object_of-is t _ 1 16 p5;
        })

    target_of-to : (t : Members) (x : TargetRow) → IsPolled defs sizes t x → target_of find sizes t ≡ Ok x
    unfolding target_of
    target_of-to t x h =
        bind_to (only (table_keys key.Target) t) _ tt x (only_to (table_keys key.Target) t h.known)
        (bind_to (needed_at key.Address addr_in t) _ x.address x (needed_to key.Address addr_in t _ h.address)
        (bind_to (needed_at key.Community (text_in 1 512) t) _ x.community x (needed_to key.Community (text_in 1 512) t _ h.community)
        (bind_to (needed_at key.Engine (hex_in 5 32) t) _ x.engine x (needed_to key.Engine (hex_in 5 32) t _ h.engine)
        (bind_to (needed_at key.Tries (number_in 1 8) t) _ x.tries x (needed_to key.Tries (number_in 1 8) t _ h.tries)
        (bind_to (optional_at key.Label (text_in 1 64) t) _ x.label x (default_to key.Label (λ d. option_map Some (text_in 1 64 d)) t _ None h.label)
        (bind_to (rows_between key.Objects 1 16 (object_of find sizes) t) _ x.objects x (between_to key.Objects (object_of find sizes) (IsObject defs sizes) object_of-is t _ 1 16 h.objects)
        refl))))))

    pub target_of-is : (t : Members) (x : TargetRow) → (target_of find sizes t ≡ Ok x) ↔ IsPolled defs sizes t x
    target_of-is t x = (target_of-from t x, target_of-to t x)

    alarm_of-from : (t : Members) (x : AlarmRow) → alarm_of find sizes t ≡ Ok x → IsAlarm defs t x
    unfolding alarm_of
    alarm_of-from t x h =
        let (v0, p0, h1) = bind_from (only (table_keys key.Alarm) t) _ x h in
        let (v1, p1, h2) = bind_from (needed_at key.Engine (hex_in 5 32) t) _ x h1 in
        let (v2, p2, h3) = bind_from (name_at find key.Name t) _ x h2 in
        let (v3, p3, h4) = bind_from (needed_at key.Rising as_integer t) _ x h3 in
        let (v4, p4, h5) = bind_from (needed_at key.Falling as_integer t) _ x h4 in
        let made : AlarmRow = record { engine = v1; name = v2; rising = v3; falling = v4 } in
        let is : made ≡ x = ok_same made x h5 in
        subst (λ (y : AlarmRow). IsAlarm defs t y) is (record {
          known = only_from (table_keys key.Alarm) t _ p0;
          engine = needed_from key.Engine (hex_in 5 32) t _ p1;
          name = named_from key.Name t _ p2;
          rising = needed_from key.Rising as_integer t _ p3;
          falling = needed_from key.Falling as_integer t _ p4;
        })

    alarm_of-to : (t : Members) (x : AlarmRow) → IsAlarm defs t x → alarm_of find sizes t ≡ Ok x
    unfolding alarm_of
    alarm_of-to t x h =
        bind_to (only (table_keys key.Alarm) t) _ tt x (only_to (table_keys key.Alarm) t h.known)
        (bind_to (needed_at key.Engine (hex_in 5 32) t) _ x.engine x (needed_to key.Engine (hex_in 5 32) t _ h.engine)
        (bind_to (name_at find key.Name t) _ x.name x (named_to key.Name t _ h.name)
        (bind_to (needed_at key.Rising as_integer t) _ x.rising x (needed_to key.Rising as_integer t _ h.rising)
        (bind_to (needed_at key.Falling as_integer t) _ x.falling x (needed_to key.Falling as_integer t _ h.falling)
        refl))))

    pub alarm_of-is : (t : Members) (x : AlarmRow) → (alarm_of find sizes t ≡ Ok x) ↔ IsAlarm defs t x
    alarm_of-is t x = (alarm_of-from t x, alarm_of-to t x)

  peers_to : (own : ℕ) (targets : List TargetRow) (t : Members) (ps : List PeerRow) → MayHoldUpTo key.Peer 15 IsPeer t ps
      → checked_peers own targets ps ≡ Ok ps → peers_at own targets t ≡ Ok ps
  unfolding peers_at
  peers_to own targets t ps holds checked =
      bind_to (rows_up_to key.Peer 15 peer_of t) (checked_peers own targets) ps ps (up_to_to key.Peer peer_of IsPeer peer_of-is t ps 15 holds) checked

  rules_from : (sizes : Sizes) (instances : List Watched) (t : Members) (rules : List Rule) → rules_at find sizes instances t ≡ Ok rules
      → (alarms : List AlarmRow) × MayHoldUpTo key.Alarm 256 (IsAlarm defs) t alarms × (with_alarms instances 1 alarms [] ≡ Ok rules)
  unfolding rules_at
  rules_from sizes instances t rules h =
      let (alarms, p, placed) = bind_from (rows_up_to key.Alarm 256 (alarm_of find sizes) t) (λ l. with_alarms instances 1 l []) rules h in
      (alarms, up_to_from key.Alarm (alarm_of find sizes) (IsAlarm defs) (alarm_of-is sizes) t alarms 256 p, placed)

  rules_to : (sizes : Sizes) (instances : List Watched) (t : Members) (rules : List Rule) (alarms : List AlarmRow) → MayHoldUpTo key.Alarm 256 (IsAlarm defs) t alarms
      → with_alarms instances 1 alarms [] ≡ Ok rules → rules_at find sizes instances t ≡ Ok rules
  unfolding rules_at
  rules_to sizes instances t rules alarms holds placed =
      bind_to (rows_up_to key.Alarm 256 (alarm_of find sizes) t) (λ l. with_alarms instances 1 l []) alarms rules (up_to_to key.Alarm (alarm_of find sizes) (IsAlarm defs) (alarm_of-is sizes) t alarms 256 holds) placed

  peers_from : (own : ℕ) (targets : List TargetRow) (t : Members) (ps : List PeerRow) → peers_at own targets t ≡ Ok ps
      → MayHoldUpTo key.Peer 15 IsPeer t ps × (checked_peers own targets ps ≡ Ok ps)
  unfolding peers_at
  peers_from own targets t ps h =
      let (found, p, checked) = bind_from (rows_up_to key.Peer 15 peer_of t) (checked_peers own targets) ps h in
      let same : found ≡ ps = peers_same own targets found ps checked in
      subst (λ (l : List PeerRow). MayHoldUpTo key.Peer 15 IsPeer t l × (checked_peers own targets l ≡ Ok l)) same (up_to_from key.Peer peer_of IsPeer peer_of-is t found 15 p, checked ∙ ap Ok (sym same))

  station_of-from : (t : Members) (x : Station) → station_of find t ≡ Ok x → IsStation defs t x
  unfolding station_of
  station_of-from t x h =
      let (v0, p0, h1) = bind_from (only station_keys t) _ x h in
      let (v1, p1, h2) = bind_from (scalars_of t) _ x h1 in
      let (v2, p2, h3) = bind_from (modules_at t) _ x h2 in
      let (v3, p3, h4) = bind_from (rows_between key.Target 1 64 (target_of find v1.sizes) t) _ x h3 in
      let (v4, p4, h5) = bind_from (instances_of_rows v3) _ x h4 in
      let (v5, p5, h6) = bind_from (peers_at v1.station v3 t) _ x h5 in
      let (v6, p6, h7) = bind_from (rules_at find v1.sizes v4 t) _ x h6 in
      let made : Station = record {
        core = core_from v1.station v3 v5 v4 v6;
        listen = v1.listen;
        label = v1.label;
        file = v1.file;
        wait_ms = v1.wait_ms;
        modules = v2;
        peer_addresses = map (λ (p : PeerRow). p.address) v5;
        target_labels = map (λ (r : TargetRow). r.label) v3;
      } in
      let is : made ≡ x = ok_same made x h7 in
      let sharing = peers_from v1.station v3 t v5 p5 in
      let others = others_from v3 v5 v1.station sharing.1 in
      let watched = (instances_are v3 v4).0 p4 in
      let (alarms, alarmed, placed) = rules_from v1.sizes v4 t v6 p6 in
      subst (λ (y : Station). IsStation defs t y) is (record {
        scalars = v1;
        targets = v3;
        peers = v5;
        alarms = alarms;
        known = only_from station_keys t _ p0;
        plain = scalars_of-from t v1 p1;
        modules = default_from key.Modules texts_in t _ [] p2;
        polled = between_from key.Target (target_of find v1.sizes) (IsPolled defs v1.sizes) (target_of-is v1.sizes) t _ 1 64 p3;
        instances = watched;
        sharing = sharing.0;
        others = others.0;
        elsewhere = others.1;
        alarmed = alarmed;
        rules = (rules_are v4 watched.rising alarms v6).0 placed;
        core = refl;
        listen = refl;
        label = refl;
        file = refl;
        wait_ms = refl;
        addresses = refl;
        labels = refl;
      })

  station_of-to : (t : Members) (x : Station) → IsStation defs t x → station_of find t ≡ Ok x
  unfolding station_of
  station_of-to t x h =
      let made : Station = record {
        core = core_from h.scalars.station h.targets h.peers x.core.watch.instances x.core.watch.rules;
        listen = h.scalars.listen;
        label = h.scalars.label;
        file = h.scalars.file;
        wait_ms = h.scalars.wait_ms;
        modules = x.modules;
        peer_addresses = map (λ (p : PeerRow). p.address) h.peers;
        target_labels = map (λ (r : TargetRow). r.label) h.targets;
      } in
      let is : made ≡ x = λ i. record {
        core = h.core i;
        listen = h.listen i;
        label = h.label i;
        file = h.file i;
        wait_ms = h.wait_ms i;
        modules = x.modules;
        peer_addresses = h.addresses i;
        target_labels = h.labels i;
      } in
      bind_to (only station_keys t) _ tt x (only_to station_keys t h.known)
      (bind_to (scalars_of t) _ h.scalars x (scalars_of-to t h.scalars h.plain)
      (bind_to (modules_at t) _ x.modules x (default_to key.Modules texts_in t _ [] h.modules)
      (bind_to (rows_between key.Target 1 64 (target_of find h.scalars.sizes) t) _ h.targets x (between_to key.Target (target_of find h.scalars.sizes) (IsPolled defs h.scalars.sizes) (target_of-is h.scalars.sizes) t _ 1 64 h.polled)
      (bind_to (instances_of_rows h.targets) _ x.core.watch.instances x ((instances_are h.targets x.core.watch.instances).1 h.instances)
      (bind_to (peers_at h.scalars.station h.targets t) _ h.peers x (peers_to h.scalars.station h.targets t h.peers h.sharing (others_to h.targets h.peers h.scalars.station h.others h.elsewhere))
      (bind_to (rules_at find h.scalars.sizes x.core.watch.instances t) _ x.core.watch.rules x (rules_to h.scalars.sizes x.core.watch.instances t x.core.watch.rules h.alarms h.alarmed ((rules_are x.core.watch.instances h.instances.rising h.alarms x.core.watch.rules).1 h.rules))
      (ap Ok is)))))))

  pub station_of-is : (t : Members) (x : Station) → (station_of find t ≡ Ok x) ↔ IsStation defs t x
  station_of-is t x = (station_of-from t x, station_of-to t x)
