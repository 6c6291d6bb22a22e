-- The name of an identifier.
use Rattle.std.specs.Prelude.{◌⊎◌, ◌≡◌, ◌≢◌, ℕ, ◌<◌, List, ◌∷◌, ◌++◌, length, drop, decimal}
use Rattle.std.specs.List.{flat_map}
use Rattle.std.specs.Ordering.{nat_cmp}
use Rattle.std.specs.Cmp.Lexicographic.{slice_cmp}
use Rattle.std.specs.declared.cmp.Ordering.TheVariants.{Greater}
use Rattle.mon_oid.specs.Oid.{IsOid, IsPrefix, dotted}
use Rattle.mon_smi.specs.declared.definition.Definition.{Definition}
use Rattle.mon_smi.specs.Names.{StandsFor}

-- the word means an identifier of n sub-identifiers, with which the other one begins
abbrev pub Covers : List Definition → List ℕ → List ℕ → ℕ → Type 0
Covers defs oid w n = (q : List ℕ) × StandsFor defs w q × IsOid q × IsPrefix q oid × (length q ≡ n)

-- the longer identifier is nearer, and of equal ones the word that is the least by its bytes
abbrev pub IsAsNear : List ℕ → ℕ → List ℕ → ℕ → Type 0
IsAsNear w n other m = (m < n) ⊎ ((m ≡ n) × (slice_cmp nat_cmp w other ≢ Greater))

-- the nearest of the names that cover the identifier
abbrev pub IsNearest : List Definition → List ℕ → List ℕ → ℕ → Type 0
IsNearest defs oid w n = Covers defs oid w n × ((other : List ℕ) (m : ℕ) → Covers defs oid other m
    → IsAsNear w n other m)

-- no word covers the identifier
abbrev pub IsNameless : List Definition → List ℕ → Type 0
IsNameless defs oid = (w : List ℕ) (n : ℕ) → Covers defs oid w n → ⊥

-- numbers in decimal, a dot before each
abbrev pub dotted_after : List ℕ → List ℕ
dotted_after parts = flat_map (λ part. 46 ∷ decimal part) parts

-- how the identifier is written: the nearest name and the rest with dots, or all of it with dots
abbrev pub IsNameOf : List Definition → List ℕ → List ℕ → Type 0
IsNameOf defs oid text = ((w : List ℕ) × (n : ℕ) × IsNearest defs oid w n
    × (text ≡ w ++ dotted_after (drop n oid)))
    ⊎ (IsNameless defs oid × (text ≡ dotted oid))
