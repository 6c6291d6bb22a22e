-- Where a view hides variables of an object.
use Rattle.std.specs.Prelude.{◌≡◌, ℕ, List, [], ◌∷◌, ◌++◌, Option, All, IfSome}
use Rattle.mon_mib.specs.declared.gaps.Gap.{Gap}
use Rattle.mon_mib.specs.declared.object.Object.{Object}
use Rattle.mon_mib.specs.declared.start.Start.{Start}
use Rattle.mon_mib.specs.Held.{Held, IsLeastOf}
use Rattle.mon_mib.specs.Known.{instances}
use Rattle.mon_mib.specs.Objects.{prefix_of}
use Rattle.mon_mib.specs.Order.{IsFrom}

-- the least instance from a start on whose variable of the object is in view, or that there is none
abbrev pub IsLeastInView : Held → (List ℕ → Type 0) → Object → Start → Option ℕ → Type 0
IsLeastInView held sees object start least =
    IsLeastOf (instances held object) (λ i. IsFrom start i × sees (prefix_of object ++ i ∷ []))
    least

-- each of these gaps has as its end the least instance in view from its start on
abbrev pub AreGaps : Held → (List ℕ → Type 0) → List Gap → Type 0
AreGaps held sees gaps = All (λ g. IsLeastInView held sees g.object g.start g.least) gaps

-- the object's instances from a start on begin in the gap: none is before its start, and its end is
-- one of them
pub record Covers (object : Object) (start : Start) (gap : Gap) : Type 0 where
  pub same : gap.object ≡ object
  pub begun : (i : ℕ) → IsFrom start i → IsFrom gap.start i
  pub ended : IfSome gap.least (IsFrom start)
