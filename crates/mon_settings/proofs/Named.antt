-- A tree is refused for a missing key, a bad value or an unknown key, and for nothing else.
use Rattle.std.proofs.Common.{◌≡◌, Bool, true, false, List, [], ◌∷◌, Option, Some, None, option_map, Result, Ok, Err, refl, ap, ℕ, ◌+◌, subst, pos, if◌then◌else◌}
use Rattle.std.specs.List.{list_all}
use Rattle.toml.specs.Data.{Data, Items, no_items, item, Members, get_member, as_table, as_bool}
use Rattle.mon_mib.specs.declared.interface.Interface.{Interface}
use Rattle.mon_vacm.specs.Tables.{PolicyTables}
use Rattle.mon_settings.specs.declared.key.Key.{Key}
use Rattle.mon_settings.specs.declared.key.Key.TheVariants as key
use Rattle.mon_settings.specs.declared.fault.SettingsFault.{SettingsFault}
use Rattle.mon_settings.specs.declared.fault.SettingsFault.TheVariants as fault
use Rattle.mon_settings.specs.declared.place.Place.{Place}
use Rattle.mon_settings.specs.declared.place.Place.TheVariants as place
use Rattle.mon_settings.specs.declared.place.PathPart.{PathPart}
use Rattle.mon_settings.specs.declared.place.PathPart.TheVariants as step
use Rattle.mon_settings.specs.Agent.{set_texts_of, system_of, agent_of}
use Rattle.mon_settings.specs.Interfaces.{counts_of, growth_of, growth_at, interface_of, rise_from, rising, interfaces_in}
use Rattle.mon_settings.specs.Key.{key_name}
use Rattle.mon_oid.specs.Steps.{◌>>=◌}
use Rattle.mon_settings.specs.Grammar.{agent_keys, growth_keys, table_keys}
use Rattle.mon_settings.specs.Keys.{or_bad, or_bad_at, needed, needed_at, or_default, default_at, first_unknown, or_unknown_key, only, within}
use Rattle.mon_settings.specs.Leaf.{number_in, int_in, text_in, hex_in, oid_in, addr_in, model_in, long_in, list_in}
use Rattle.mon_settings.specs.Lists.{row, rows, list_at}
use Rattle.mon_settings.specs.Place.{at}
use Rattle.mon_settings.specs.SettingsFault.{IsOfTree, bad_value, fault_within, missing_key}
use Rattle.mon_settings.specs.Tables.{communities_differ, knows_views, families_differ, community_of, group_of, access_entry_of, family_of, policy_of, policy_in}

abbrev pub Own : {A : Type 0} → Result A SettingsFault → Type 0
Own r = (e : SettingsFault) → r ≡ Err e → IsOfTree e

pub bind_own : {A B : Type 0} (r : Result A SettingsFault) (f : A → Result B SettingsFault) → Own r → ((a : A) → Own (f a)) → Own (r >>= f)
bind_own (Err x) f p q = λ e h. p e (let same : x ≡ e = cc in ap Err same)
bind_own (Ok a) f p q = q a

pub ok_own : {A : Type 0} (a : A) → Own (Ok a)
ok_own a = λ e h. absurd cc

pub err_own : {A : Type 0} (x : SettingsFault) → IsOfTree x → Own {A = A} (Err x)
err_own x is = λ e h. let same : x ≡ e = cc in subst IsOfTree same is

pub bad_at_own : {A : Type 0} (p : Place) (o : Option A) → Own (or_bad_at p o)
bad_at_own p None = err_own (fault.BadValue p) tt
bad_at_own p (Some a) = ok_own a

pub bad_own : {A : Type 0} (k : Key) (o : Option A) → Own (or_bad k o)
bad_own k o = bad_at_own (at k) o

of_within : (s : PathPart) (e : SettingsFault) → IsOfTree e → IsOfTree (fault_within s e)
of_within s fault.OutOfMemory h = h
of_within s (fault.NotToml from) h = h
of_within s (fault.Missing p) h = tt
of_within s (fault.BadValue p) h = tt
of_within s (fault.UnknownKey p) h = tt
of_within s (fault.UnknownObject p) h = h

pub within_own : {A : Type 0} (s : PathPart) (r : Result A SettingsFault) → Own r → Own (within s r)
within_own s (Ok a) p = ok_own a
within_own s (Err x) p = err_own (fault_within s x) (of_within s x (p x refl))

module _ {A : Type 0} (k : Key) (f : Data → Option A) where
  at_key : (o : Option Data) → Own (needed k f o)
  at_key None = err_own (missing_key k) tt
  at_key (Some d) = bad_own k (f d)

  pub needed_own : (t : Members) → Own (needed_at k f t)
  needed_own t = at_key (get_member (key_name k) t)

  or_at_key : (a : A) (o : Option Data) → Own (or_default k a f o)
  or_at_key a None = ok_own a
  or_at_key a (Some d) = bad_own k (f d)

  pub default_own : (a : A) (t : Members) → Own (default_at k a f t)
  default_own a t = or_at_key a (get_member (key_name k) t)

pub either_own : {A : Type 0} (b : Bool) (r s : Result A SettingsFault) → Own r → Own s → Own (if b then r else s)
either_own true r s p q = p
either_own false r s p q = q

known_own : (o : Option (List ℕ)) → Own (or_unknown_key o)
known_own None = ok_own tt
known_own (Some name) = err_own (fault.UnknownKey place.Whole) tt

pub only_own : (ks : List Key) (t : Members) → Own (only ks t)
unfolding only
only_own ks t = known_own (first_unknown ks t)

module _ {A : Type 0} (k : Key) (f : Members → Result A SettingsFault) (each : (t : Members) → Own (f t)) where
  row_own : (s : PathPart) (d : Data) → Own (row s f d)
  unfolding row
  row_own s d = bind_own (or_bad_at (place.At s) (as_table d)) _ (bad_at_own (place.At s) (as_table d)) (λ t. within_own s (f t) (each t))

  rows_own : (n : ℕ) (ds : Items) → Own (rows k f n ds)
  unfolding rows
  rows_own n no_items = ok_own []
  rows_own n (item d ds) =
      bind_own (row (step.Entry k n) f d) _ (row_own (step.Entry k n) d) (λ a. bind_own (rows k f (n + 1) ds) _ (rows_own (n + 1) ds) (λ more. ok_own (a ∷ more)))

  list_own : (t : Members) → Own (list_at k f t)
  unfolding list_at
  list_own t = bind_own (needed_at k list_in t) (rows k f 1) (needed_own k list_in t) (rows_own 1)

community_of-own : (t : Members) → Own (community_of t)
unfolding community_of
community_of-own t =
    bind_own (only (table_keys key.Community) t) _ (only_own (table_keys key.Community) t) (λ v0.
    bind_own (needed_at key.Community (text_in 1 512) t) _ (needed_own key.Community (text_in 1 512) t) (λ v1.
    bind_own (needed_at key.Security (text_in 1 32) t) _ (needed_own key.Security (text_in 1 32) t) (λ v2.
    λ e h. absurd cc)))

group_of-own : (t : Members) → Own (group_of t)
unfolding group_of
group_of-own t =
    bind_own (only (table_keys key.Group) t) _ (only_own (table_keys key.Group) t) (λ v0.
    bind_own (needed_at key.Security (text_in 1 32) t) _ (needed_own key.Security (text_in 1 32) t) (λ v1.
    bind_own (needed_at key.Group (text_in 1 32) t) _ (needed_own key.Group (text_in 1 32) t) (λ v2.
    λ e h. absurd cc)))

access_of-own : (t : Members) → Own (access_entry_of t)
unfolding access_entry_of
access_of-own t =
    bind_own (only (table_keys key.Access) t) _ (only_own (table_keys key.Access) t) (λ v0.
    bind_own (needed_at key.Group (text_in 1 32) t) _ (needed_own key.Group (text_in 1 32) t) (λ v1.
    bind_own (needed_at key.Model model_in t) _ (needed_own key.Model model_in t) (λ v2.
    bind_own (default_at key.Read None (λ d. option_map Some (text_in 1 32 d)) t) _ (default_own key.Read (λ d. option_map Some (text_in 1 32 d)) None t) (λ v3.
    bind_own (default_at key.Write None (λ d. option_map Some (text_in 1 32 d)) t) _ (default_own key.Write (λ d. option_map Some (text_in 1 32 d)) None t) (λ v4.
    λ e h. absurd cc)))))

family_of-own : (t : Members) → Own (family_of t)
unfolding family_of
family_of-own t =
    bind_own (only (table_keys key.View) t) _ (only_own (table_keys key.View) t) (λ v0.
    bind_own (needed_at key.View (text_in 1 32) t) _ (needed_own key.View (text_in 1 32) t) (λ v1.
    bind_own (needed_at key.Subtree oid_in t) _ (needed_own key.Subtree oid_in t) (λ v2.
    bind_own (default_at key.Mask [] (hex_in 0 16) t) _ (default_own key.Mask (hex_in 0 16) [] t) (λ v3.
    bind_own (needed_at key.Included as_bool t) _ (needed_own key.Included as_bool t) (λ v4.
    λ e h. absurd cc)))))

growth_of-own : (t : Members) → Own (growth_of t)
unfolding growth_of
growth_of-own t =
    bind_own (only growth_keys t) _ (only_own growth_keys t) (λ v0.
    bind_own (needed_at key.Start long_in t) _ (needed_own key.Start long_in t) (λ v1.
    bind_own (needed_at key.Rate long_in t) _ (needed_own key.Rate long_in t) (λ v2.
    λ e h. absurd cc)))

growth_at-own : (k : Key) (t : Members) → Own (growth_at k t)
unfolding growth_at
growth_at-own k t = bind_own (needed_at k as_table t) _ (needed_own k as_table t) (λ inner. within_own (step.Value k) (growth_of inner) (growth_of-own inner))

counts_of-own : (t : Members) → Own (counts_of t)
unfolding counts_of
counts_of-own t =
    bind_own (growth_at key.InOctets t) _ (growth_at-own key.InOctets t) (λ v0.
    bind_own (growth_at key.InPackets t) _ (growth_at-own key.InPackets t) (λ v1.
    bind_own (growth_at key.OutOctets t) _ (growth_at-own key.OutOctets t) (λ v2.
    bind_own (growth_at key.OutPackets t) _ (growth_at-own key.OutPackets t) (λ v3.
    λ e h. absurd cc))))

interface_of-own : (t : Members) → Own (interface_of t)
unfolding interface_of
interface_of-own t =
    bind_own (only (table_keys key.Interface) t) _ (only_own (table_keys key.Interface) t) (λ v0.
    bind_own (needed_at key.Index (number_in 1 2147483647) t) _ (needed_own key.Index (number_in 1 2147483647) t) (λ v1.
    bind_own (needed_at key.Descr (text_in 0 255) t) _ (needed_own key.Descr (text_in 0 255) t) (λ v2.
    bind_own (needed_at key.Type (int_in 0 2147483647) t) _ (needed_own key.Type (int_in 0 2147483647) t) (λ v3.
    bind_own (needed_at key.Mtu (int_in 0 2147483647) t) _ (needed_own key.Mtu (int_in 0 2147483647) t) (λ v4.
    bind_own (needed_at key.Speed long_in t) _ (needed_own key.Speed long_in t) (λ v5.
    bind_own (needed_at key.Phys (hex_in 0 255) t) _ (needed_own key.Phys (hex_in 0 255) t) (λ v6.
    bind_own (needed_at key.Name (text_in 0 255) t) _ (needed_own key.Name (text_in 0 255) t) (λ v7.
    bind_own (needed_at key.Alias (text_in 0 64) t) _ (needed_own key.Alias (text_in 0 64) t) (λ v8.
    bind_own (counts_of t) _ (counts_of-own t) (λ v9.
    λ e h. absurd cc))))))))))

rising-own : (ps : List Interface) → Own (rising ps)
unfolding rising
rising-own ps = either_own (rise_from 0 ps) (Ok ps) (Err (bad_value key.Interface)) (ok_own ps) (err_own (bad_value key.Interface) tt)

interfaces_in-own : (t : Members) → Own (interfaces_in t)
unfolding interfaces_in
interfaces_in-own t = bind_own (list_at key.Interface interface_of t) rising (list_own key.Interface interface_of interface_of-own t) rising-own

policy_of-own : (p : PolicyTables) → Own (policy_of p)
unfolding policy_of
policy_of-own p =
    either_own (communities_differ p.communities) _ _
    (either_own (list_all (knows_views p.families) p.accesses) _ _
    (either_own (families_differ p.families) (Ok p) (Err (bad_value key.View)) (ok_own p) (err_own (bad_value key.View) tt))
    (err_own (bad_value key.Access) tt))
    (err_own (bad_value key.Community) tt)

policy_in-own : (t : Members) → Own (policy_in t)
unfolding policy_in
policy_in-own t =
    bind_own (list_at key.Community community_of t) _ (list_own key.Community community_of community_of-own t) (λ v0.
    bind_own (list_at key.Group group_of t) _ (list_own key.Group group_of group_of-own t) (λ v1.
    bind_own (list_at key.Access access_entry_of t) _ (list_own key.Access access_entry_of access_of-own t) (λ v2.
    bind_own (list_at key.View family_of t) _ (list_own key.View family_of family_of-own t) (λ v3.
    policy_of-own _))))

set_texts_of-own : (t : Members) → Own (set_texts_of t)
unfolding set_texts_of
set_texts_of-own t =
    bind_own (needed_at key.Contact (text_in 0 255) t) _ (needed_own key.Contact (text_in 0 255) t) (λ v0.
    bind_own (needed_at key.Name (text_in 0 255) t) _ (needed_own key.Name (text_in 0 255) t) (λ v1.
    bind_own (needed_at key.Location (text_in 0 255) t) _ (needed_own key.Location (text_in 0 255) t) (λ v2.
    λ e h. absurd cc)))

system_of-own : (t : Members) → Own (system_of t)
unfolding system_of
system_of-own t =
    bind_own (needed_at key.Listen addr_in t) _ (needed_own key.Listen addr_in t) (λ v0.
    bind_own (needed_at key.Limit (int_in 484 8192) t) _ (needed_own key.Limit (int_in 484 8192) t) (λ v1.
    bind_own (needed_at key.Engine (hex_in 5 32) t) _ (needed_own key.Engine (hex_in 5 32) t) (λ v2.
    bind_own (default_at key.Boots (pos 1) (int_in 1 2147483647) t) _ (default_own key.Boots (int_in 1 2147483647) (pos 1) t) (λ v3.
    bind_own (needed_at key.Descr (text_in 0 255) t) _ (needed_own key.Descr (text_in 0 255) t) (λ v4.
    bind_own (needed_at key.ObjectId oid_in t) _ (needed_own key.ObjectId oid_in t) (λ v5.
    bind_own (set_texts_of t) _ (set_texts_of-own t) (λ v6.
    bind_own (needed_at key.Services (int_in 0 127) t) _ (needed_own key.Services (int_in 0 127) t) (λ v7.
    λ e h. absurd cc))))))))

pub agent_of-own : (t : Members) → Own (agent_of t)
unfolding agent_of
agent_of-own t =
    bind_own (only agent_keys t) _ (only_own agent_keys t) (λ v0.
    bind_own (system_of t) _ (system_of-own t) (λ v1.
    bind_own (policy_in t) _ (policy_in-own t) (λ v2.
    bind_own (interfaces_in t) _ (interfaces_in-own t) (λ v3.
    λ e h. absurd cc))))
