-- Names in their order, and from which instance on the names under a prefix exceed a name.
use Rattle.std.specs.Prelude.{ℕ, ◌<◌, Bool, true, false, List, [], ◌∷◌, nat_lt, if◌then◌else◌}
use Rattle.std.specs.declared.cmp.Ordering.{Ordering}
use Rattle.std.specs.Ordering.{nat_cmp}
use Rattle.std.specs.Cmp.Lexicographic.{slice_cmp}
use Rattle.mon_mib.specs.declared.start.Start.{Start}
use Rattle.mon_mib.specs.declared.start.Start.TheVariants.{First, Above, Nowhere}

-- by the first number that differs; a proper prefix comes first
abbrev pub name_cmp : List ℕ → List ℕ → Ordering
name_cmp x y = slice_cmp nat_cmp x y

-- from which i on the names prefix.i exceed x
abbrev pub start_of : List ℕ → List ℕ → Start
start_of [] [] = First
start_of [] (x ∷ xs) = Above x
start_of (p ∷ ps) [] = First
start_of (p ∷ ps) (x ∷ xs) = if nat_lt p x then Nowhere else
    (if nat_lt x p then First else start_of ps xs)

-- i is one of those
abbrev pub IsFrom : Start → ℕ → Type 0
IsFrom First i = Unit {0}
IsFrom (Above x) i = x < i
IsFrom Nowhere i = ⊥

-- the first number that differs is less, so that whatever follows comes before
abbrev pub is_before : List ℕ → List ℕ → Bool
is_before [] qs = false
is_before (p ∷ ps) [] = false
is_before (p ∷ ps) (q ∷ qs) = if nat_lt p q then true else (if nat_lt q p then false
    else is_before ps qs)
