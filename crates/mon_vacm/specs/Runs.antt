-- Neighbours among families that are of one view.
use Rattle.std.specs.Prelude.{◌≡◌, ℕ, ◌≤◌, List, [], ◌∷◌, length, take, drop, All}
use Rattle.mon_vacm.specs.declared.family.ViewTreeFamily.{ViewTreeFamily}

-- all of them are of one view
abbrev pub AreOfOneView : List ViewTreeFamily → Type 0
AreOfOneView families = (view : List ℕ) × All (λ f. f.view_name ≡ view) families

-- From the first on, as many families as each number says are of one view. Nothing is said of those
-- that follow.
abbrev pub AreRuns : List ℕ → List ViewTreeFamily → Type 0
AreRuns [] families = Unit {0}
AreRuns (n ∷ ns) families = (n ≤ length families) × AreOfOneView (take n families)
    × AreRuns ns (drop n families)
