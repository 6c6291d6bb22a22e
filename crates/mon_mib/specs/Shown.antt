-- What is shown of a name.
use Rattle.std.specs.Prelude.{◌≡◌, ℕ, List, Option, Some, None, Contains}
use Rattle.mon_ber.specs.declared.value.Value.{Value}
use Rattle.mon_ber.specs.declared.value.Value.TheVariants as values
use Rattle.mon_mib.specs.declared.got.Got.{Got}
use Rattle.mon_mib.specs.declared.got.Got.TheVariants.{Found, NoObject, NoInstance}
use Rattle.mon_mib.specs.declared.object.Object.{Object}
use Rattle.mon_mib.specs.declared.shown.Shown.{Shown}
use Rattle.mon_mib.specs.declared.shown.Shown.TheVariants as shown
use Rattle.mon_mib.specs.Known.{Known, instances, variable_value}
use Rattle.mon_mib.specs.Next.{IsNext}
use Rattle.mon_mib.specs.Objects.{objects}

-- what is at the name
abbrev pub got_of : Shown → Got
got_of (shown.Octets octets) = Found (values.Octets octets.now)
got_of (shown.Other got) = got

-- what is served of an object's variable of an instance: its value, or that there is none
abbrev pub IsServed : Known → Object → ℕ → Got → Type 0
IsServed k o i (Found v) = Contains (instances k.held o) i × (v ≡ variable_value k o i)
IsServed k o i NoInstance = ¬ (Contains (instances k.held o) i)
IsServed k o i NoObject = ⊥

-- What follows a name: a variable, whose name has taken the place of that name, or none, and the
-- name has stayed.
abbrev pub IsNextShown : Known → (List ℕ → Type 0) → List ℕ → List ℕ → Option Shown → Type 0
IsNextShown k sees x now None = IsNext objects k sees x None × (now ≡ x)
IsNextShown k sees x now (Some it) = (v : Value) × (got_of it ≡ Found v)
    × IsNext objects k sees x (Some (record { name = now; value = v }))
