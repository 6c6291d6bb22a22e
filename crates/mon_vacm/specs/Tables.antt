-- The tables of a policy (RFC 3415 section 4).
use Rattle.std.specs.Prelude.{◌≡◌, ◌≢◌, ℕ, List, All, Any, AllPairs, IfSome}
use Rattle.mon_vacm.specs.declared.access_entry.AccessEntry.{AccessEntry}
use Rattle.mon_vacm.specs.declared.community.Community.{Community}
use Rattle.mon_vacm.specs.declared.family.ViewTreeFamily.{ViewTreeFamily}
use Rattle.mon_vacm.specs.declared.group.Group.{Group}
use Rattle.mon_vacm.specs.declared.tables.Tables.{Tables}

-- the entries of each table, in order
pub record PolicyTables : Type 0 where
  pub communities : List Community
  pub groups : List Group
  pub accesses : List AccessEntry
  pub families : List ViewTreeFamily

-- the tables as lists
abbrev pub lists_of : Tables → PolicyTables
lists_of t = record {
  communities = t.communities.items;
  groups = t.groups.items;
  accesses = t.accesses.items;
  families = t.families.items;
}

-- no community is given twice
abbrev pub AreCommunitiesDistinct : List Community → Type 0
AreCommunitiesDistinct communities = AllPairs (λ a b. a.name ≢ b.name) communities

-- some family is of the view
abbrev pub HasView : List ViewTreeFamily → List ℕ → Type 0
HasView families view = Any (λ f. f.view_name ≡ view) families

-- the views that an entry names have families
pub record NamesViews (families : List ViewTreeFamily) (entry : AccessEntry) : Type 0 where
  pub read : IfSome entry.read_view (HasView families)
  pub write : IfSome entry.write_view (HasView families)

-- no view has a subtree twice
abbrev pub AreFamiliesDistinct : List ViewTreeFamily → Type 0
AreFamiliesDistinct families = AllPairs (λ f g. ¬ ((f.view_name ≡ g.view_name)
    × (f.subtree ≡ g.subtree))) families

-- tables with none of the three faults
pub record IsPolicy (tables : PolicyTables) : Type 0 where
  pub communities : AreCommunitiesDistinct tables.communities
  pub views : All (NamesViews tables.families) tables.accesses
  pub families : AreFamiliesDistinct tables.families
