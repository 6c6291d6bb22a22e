-- Which fault of the tables of a policy comes first.
use Rattle.std.specs.Prelude.{Bool, true, false, not, ◌&&◌, ◌||◌, List, [], ◌∷◌, ℕ, Option, Some}
use Rattle.std.specs.Prelude.{None, Result, Ok, Err, if◌then◌else◌}
use Rattle.std.specs.List.{list_all}
use Rattle.std.specs.Str.{bytes_eq}
use Rattle.toml.specs.Data.{Members, as_bool}
use Rattle.mon_vacm.specs.Tables.{PolicyTables}
use Rattle.mon_vacm.specs.declared.access_entry.AccessEntry.{AccessEntry}
use Rattle.mon_vacm.specs.declared.community.Community.{Community}
use Rattle.mon_vacm.specs.declared.family.ViewTreeFamily.{ViewTreeFamily}
use Rattle.mon_vacm.specs.declared.group.Group.{Group}
use Rattle.mon_vacm.specs.declared.fault.PolicyFault.{PolicyFault}
use Rattle.mon_vacm.specs.declared.fault.PolicyFault.TheVariants.{DuplicateCommunity, UnknownView}
use Rattle.mon_vacm.specs.declared.fault.PolicyFault.TheVariants.{DuplicateFamily}
use Rattle.mon_oid.specs.Steps.{◌>>=◌}
use Rattle.mon_settings.specs.declared.key.Key.{Key}
use Rattle.mon_settings.specs.declared.key.Key.TheVariants as key
use Rattle.mon_settings.specs.declared.fault.SettingsFault.{SettingsFault}
use Rattle.mon_settings.specs.SettingsFault.{bad_value}
use Rattle.mon_settings.specs.Grammar.{table_keys}
use Rattle.mon_settings.specs.Keys.{only, needed_at, default_at, optional_at}
use Rattle.mon_settings.specs.Leaf.{text_in, hex_in, oid_in, model_in}
use Rattle.mon_settings.specs.Lists.{list_at}

-- a community and its security name
unfoldable pub community_of : Members → Result Community SettingsFault
community_of t = do
  known ← only (table_keys key.Community) t
  community ← needed_at key.Community (text_in 1 512) t
  security ← needed_at key.Security (text_in 1 32) t
  Ok (record { name = community; security_name = security })

-- a security name and its group
unfoldable pub group_of : Members → Result Group SettingsFault
group_of t = do
  known ← only (table_keys key.Group) t
  security ← needed_at key.Security (text_in 1 32) t
  group ← needed_at key.Group (text_in 1 32) t
  Ok (record { security_name = security; group_name = group })

-- the views of a group under a security model
unfoldable pub access_entry_of : Members → Result AccessEntry SettingsFault
access_entry_of t = do
  known ← only (table_keys key.Access) t
  group ← needed_at key.Group (text_in 1 32) t
  model ← needed_at key.Model model_in t
  read ← optional_at key.Read (text_in 1 32) t
  write ← optional_at key.Write (text_in 1 32) t
  Ok (record { group_name = group; security_model = model; read_view = read; write_view = write })

-- a family of a view: an empty mask, and one that is left out, is all ones
unfoldable pub family_of : Members → Result ViewTreeFamily SettingsFault
family_of t = do
  known ← only (table_keys key.View) t
  view ← needed_at key.View (text_in 1 32) t
  subtree ← needed_at key.Subtree oid_in t
  mask ← default_at key.Mask [] (hex_in 0 16) t
  included ← needed_at key.Included as_bool t
  Ok (record { view_name = view; subtree = subtree; mask = mask; included = included })

-- each two elements, in their order
abbrev pub all_pairs : {A : Type 0} → (A → A → Bool) → List A → Bool
all_pairs r [] = true
all_pairs r (x ∷ xs) = list_all (r x) xs && all_pairs r xs

-- no community is given twice
abbrev pub other_names : Community → Community → Bool
other_names a b = not (bytes_eq a.name b.name)

-- no community is given twice
abbrev pub communities_differ : List Community → Bool
communities_differ = all_pairs other_names

-- some family is of the view
abbrev pub has_view : List ℕ → List ViewTreeFamily → Bool
has_view view [] = false
has_view view (f ∷ fs) = bytes_eq f.view_name view || has_view view fs

-- a view that is named has a family
abbrev pub is_known : List ViewTreeFamily → Option (List ℕ) → Bool
is_known families None = true
is_known families (Some view) = has_view view families

-- the views that an entry names have families
abbrev pub knows_views : List ViewTreeFamily → AccessEntry → Bool
knows_views families entry = is_known families entry.read_view && is_known families entry.write_view

-- no view has a subtree twice
abbrev pub other_families : ViewTreeFamily → ViewTreeFamily → Bool
other_families f g = not (bytes_eq f.view_name g.view_name && bytes_eq f.subtree g.subtree)

-- no family is given twice
abbrev pub families_differ : List ViewTreeFamily → Bool
families_differ = all_pairs other_families

-- the list that a fault of a policy is a bad value of
abbrev pub list_of : PolicyFault → Key
list_of DuplicateCommunity = key.Community
list_of UnknownView = key.Access
list_of DuplicateFamily = key.View

-- the tables, where they make a policy
unfoldable pub policy_of : PolicyTables → Result PolicyTables SettingsFault
policy_of tables =
    if communities_differ tables.communities then
    (if list_all (knows_views tables.families) tables.accesses then
    (if families_differ tables.families then Ok tables else Err
    (bad_value (list_of DuplicateFamily)))
    else Err (bad_value (list_of UnknownView)))
    else Err (bad_value (list_of DuplicateCommunity))

-- the four lists, and then the policy of them
unfoldable pub policy_in : Members → Result PolicyTables SettingsFault
policy_in t = do
  communities ← list_at key.Community community_of t
  groups ← list_at key.Group group_of t
  accesses ← list_at key.Access access_entry_of t
  families ← list_at key.View family_of t
  policy_of (record {
    communities = communities;
    groups = groups;
    accesses = accesses;
    families =
        families;
  })
