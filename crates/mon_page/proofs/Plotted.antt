-- Where points of a plot are.
use Rattle.std.proofs.Common.{◌≡◌, ℕ, ◌-◌, ◌*◌, ◌/◌, ◌^◌, ◌<◌, ◌≤◌, min, max, ap, arith}
use Rattle.std.proofs.Math.Nat.{div-le_self, div-mul-le_self, min-le_left, min-le_right, le-min}
use Rattle.std.proofs.lemmas.Nat.{le-div}
use Rattle.mon_page.specs.declared.plot.Scale.{Scale}
use Rattle.mon_page.specs.Plot.{across, below_top}

over : (a b d : ℕ) → 0 < d → a ≤ b → a / d ≤ b / d
over a b d some le = le-div (a / d) b d some (omega (arith, div-mul-le_self a d, le))

some_seconds : (n : ℕ) → 0 < max n 1
some_seconds n = grind arith

least : (a b c : ℕ) → a ≤ b → min a c ≤ min b c
least a b c le = le-min (omega (arith, min-le_left a c, le)) (min-le_right a c)

pub newest : (span : ℕ) → across span span ≡ 240
newest span =
    let none : span - span ≡ 0 = omega arith in
    let behind : (span - span) * 240 / max span 1 ≡ 0 = omega (arith, div-le_self ((span - span) * 240) (max span 1), none) in
    ap (λ n. 240 - min n 240) behind

pub rising : (span earlier elapsed : ℕ) → earlier ≤ elapsed → across span earlier ≤ across span elapsed
rising span earlier elapsed le =
    let closer : (span - elapsed) * 240 ≤ (span - earlier) * 240 = omega (arith, le) in
    let behind = least _ _ 240 (over ((span - elapsed) * 240) ((span - earlier) * 240) (max span 1) (some_seconds span) closer) in
    omega (arith, behind)

pub higher : (scale : Scale) (lower level : ℕ) → lower ≤ level → below_top scale level ≤ below_top scale lower
higher scale lower level le =
    let more : lower - scale.low ≤ level - scale.low = omega (arith, le) in
    let above = least (lower - scale.low) (level - scale.low) (2 ^ 100) more in
    let units : min (lower - scale.low) (2 ^ 100) * 40 ≤ min (level - scale.low) (2 ^ 100) * 40 = omega (arith, above) in
    let places = least _ _ 40 (over _ _ (max (scale.high - scale.low) 1) (some_seconds (scale.high - scale.low)) units) in
    omega (arith, places)

pub lowest : (scale : Scale) → below_top scale scale.low ≡ 40
lowest scale =
    let none : scale.low - scale.low ≡ 0 = omega arith in
    let span = max (scale.high - scale.low) 1 in
    let above : min (scale.low - scale.low) (2 ^ 100) * 40 / span ≡ 0 =
    omega (arith, div-le_self (min (scale.low - scale.low) (2 ^ 100) * 40) span, min-le_left (scale.low - scale.low) (2 ^ 100), none) in
    ap (λ n. 40 - min n 40) above
