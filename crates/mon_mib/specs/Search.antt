-- What a search is made in.
use Rattle.std.specs.Prelude.{ℕ, List}
use Rattle.mon_vacm.specs.declared.family.ViewTreeFamily.{ViewTreeFamily}
use Rattle.mon_vacm.specs.View.{IsInView}
use Rattle.mon_mib.specs.declared.mib.Mib.{Mib}
use Rattle.mon_mib.specs.Held.{Held}
use Rattle.mon_mib.specs.Known.{Known}
use Rattle.mon_mib.specs.Map.{known_by}

-- an agent's map at a time, and a view by its name and the families of views
pub record Sought (D : Type 0) : Type 0 where
  pub map : Mib D
  pub families : List ViewTreeFamily
  pub view : List ℕ
  pub moment : ℕ

-- what the agent knows then, by what its device holds
abbrev pub known_in : {D : Type 0} → (D → Held) → Sought D → Known
known_in held s = known_by held s.map s.moment

-- the name is in that view
abbrev pub IsSeenIn : {D : Type 0} → Sought D → List ℕ → Type 0
IsSeenIn s = IsInView s.families s.view
