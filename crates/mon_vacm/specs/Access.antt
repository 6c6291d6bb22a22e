-- Which view a community is granted (isAccessAllowed, RFC 3415 section 3.2, in model 2 and the
-- empty context).
use Rattle.std.specs.Prelude.{ℕ, Bool, true, false, ◌&&◌, List, Option, Result, find}
use Rattle.std.specs.Option.{ok_or, option_map, option_or}
use Rattle.std.specs.Str.{bytes_eq}
use Rattle.mon_vacm.specs.declared.access_entry.AccessEntry.{AccessEntry}
use Rattle.mon_vacm.specs.declared.community.Community.{Community}
use Rattle.mon_vacm.specs.declared.denied.Denied.{Denied}
use Rattle.mon_vacm.specs.declared.denied.Denied.TheVariants.{NoCommunity, NoGroupName}
use Rattle.mon_vacm.specs.declared.denied.Denied.TheVariants.{NoAccessEntry, NoSuchView}
use Rattle.mon_vacm.specs.declared.group.Group.{Group}
use Rattle.mon_vacm.specs.declared.model.SecurityModel.{SecurityModel}
use Rattle.mon_vacm.specs.declared.model.SecurityModel.TheVariants as model
use Rattle.mon_vacm.specs.declared.view_type.ViewType.{ViewType}
use Rattle.mon_vacm.specs.declared.view_type.ViewType.TheVariants.{Read, Write}
use Rattle.mon_oid.specs.Steps.{◌>>=◌}
use Rattle.mon_vacm.specs.Tables.{PolicyTables}

-- the security name of a community (snmpCommunityTable, RFC 3584 section 5.3)
abbrev pub security_of : List Community → List ℕ → Result (List ℕ) Denied
security_of communities community =
    ok_or (option_map (λ c. c.security_name) (find (λ c. bytes_eq c.name community) communities))
    NoCommunity

-- the group of a security name: of its first entry (vacmSecurityToGroupTable)
abbrev pub group_of : List Group → List ℕ → Result (List ℕ) Denied
group_of groups security = ok_or (option_map (λ g. g.group_name)
    (find (λ g. bytes_eq g.security_name security) groups)) NoGroupName

-- whether two security models are the same
abbrev pub is_model : SecurityModel → SecurityModel → Bool
is_model model.Any model.Any = true
is_model model.Any model.V2c = false
is_model model.V2c model.Any = false
is_model model.V2c model.V2c = true

-- the first access entry of a group with a model (vacmAccessTable)
abbrev pub entry_for : List AccessEntry → List ℕ → SecurityModel → Option AccessEntry
entry_for accesses group m = find (λ a. bytes_eq a.group_name group && is_model a.security_model m)
    accesses

-- the first access entry of a group with model 2, else the first with any model
abbrev pub entry_of : List AccessEntry → List ℕ → Result AccessEntry Denied
entry_of accesses group = ok_or (option_or (entry_for accesses group model.V2c)
    (entry_for accesses group model.Any)) NoAccessEntry

-- the view that an entry names for a need
abbrev pub view_for : AccessEntry → ViewType → Result (List ℕ) Denied
view_for entry Read = ok_or entry.read_view NoSuchView
view_for entry Write = ok_or entry.write_view NoSuchView

-- the view that a community is granted for a need, or the first reason why there is none
abbrev pub access_of : PolicyTables → List ℕ → ViewType → Result (List ℕ) Denied
access_of tables community need =
    security_of tables.communities community >>= λ security.
    group_of tables.groups security >>= λ group.
    entry_of tables.accesses group >>= λ entry.
    view_for entry need
