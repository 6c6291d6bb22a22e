-- Where definitions are, by their names.
use Rattle.std.specs.Prelude.{◌≡◌, ℕ, ◌<◌, List, Some, String}
use Rattle.std.specs.BTreeMap.{BTreeMap, get_by_text}
use Rattle.mon_smi.specs.declared.definition.Definition.{Definition}
use Rattle.mon_smi.specs.Names.{IsAt}

-- each definition's place is found by its name; of other names nothing is said
abbrev pub AreFound : {Y : Type 0} → BTreeMap (String Y) ℕ → List Definition → Type 0
AreFound places defs = (i : ℕ) (d : Definition) → IsAt defs i d → get_by_text places d.name ≡ Some i

-- this definition is at this place, and an earlier one has its name
abbrev pub IsAgain : List Definition → ℕ → Definition → Type 0
IsAgain defs i d = IsAt defs i d × ((j : ℕ) × (e : Definition) × (j < i) × IsAt defs j e
    × (e.name ≡ d.name))
