-- The machines of stations.
use Rattle.std.proofs.Common.{◌≡◌, ◌<◌, ◌≤◌, ◌+◌, ◌*◌, ◌/◌, ◌%◌, ◌∷◌, Bool, true, false, nat_lt, ℕ, zero, suc, List, [], length, map, ap, arith, refl, sym, subst}
use Rattle.std.proofs.Math.ListN.{get_or}
use Rattle.std.proofs.Math.Nat.{mod-lt, mul-le-mul_right}
use Rattle.std.proofs.lemmas.Bool.Decides.{nat_tests}
use Rattle.std.proofs.lemmas.Nat.{div-add-mod'}
use Rattle.mon_placing.specs.Machines.{listed}
use Rattle.mon_placing.specs.Network.{ArePlaced, IsSeat, nowhere, seat_at}
use Rattle.mon_placing.specs.Placing.{machine_of}
use Rattle.mon_placing.specs.declared.machines.Machine.{Machine}
use Rattle.mon_placing.specs.declared.network.Network.{Network}
use Rattle.mon_placing.proofs.Counting.{among}

pub inside : (stations machines group station place : ℕ) → 1 ≤ machines → place ≡ machine_of stations machines group station → place < machines
inside stations machines group station place some is = subst (λ (n : ℕ). n < machines) (sym is) (among stations machines group station (omega (arith, some)))

-- a machine at a place, as it is listed
pub listed_at : (ms : List Machine) (i : ℕ) (m : Machine) → i < length ms → m ≡ get_or ms i m → listed m ≡ get_or (map listed ms) i nowhere
listed_at [] i m inside is = absurd (let no : ⊥ = omega (arith, inside) in no)
listed_at (first ∷ ms) zero m inside is = ap listed is
listed_at (first ∷ ms) (suc i) m inside is = listed_at ms i m (omega (arith, inside)) is

-- a place among those of this many groups is in one of them
part_below : (groups k place q r : ℕ) → q * k + r ≡ place → place < groups * k → (b : Bool) → nat_lt q groups ≡ b → q < groups
part_below groups k place q r is small true below = grind (arith, nat_tests)
part_below groups k place q r is small false past =
    let above : groups ≤ q = grind (arith, nat_tests) in
    let large = mul-le-mul_right k above in
    absurd (let wrong : ⊥ = omega (arith, large, is, small) in wrong)

some_stations : (groups k place : ℕ) → place < groups * k → 0 < k
some_stations groups zero place inside = absurd (let none : groups * 0 ≡ 0 = grind arith in let wrong : ⊥ = omega (arith, none, inside) in wrong)
some_stations groups (suc k) place inside = omega arith

pub seated : (n : Network) (groups place : ℕ) → ArePlaced n groups → place < groups * n.stations → IsSeat (seat_at n place)
seated n groups place are inside =
    let some = some_stations groups n.stations place inside in
    let part = part_below groups n.stations place (place / n.stations) (place % n.stations) (div-add-mod' place n.stations) inside (nat_lt (place / n.stations) groups) refl in
    record {
      placed = record {
        machines = are.machines;
        first = are.first;
        few = are.few;
        listen = (let fits = are.listen in omega (arith, part, fits));
        serve = (let fits = are.serve in omega (arith, part, fits));
      };
      inside = mod-lt place some;
    }
