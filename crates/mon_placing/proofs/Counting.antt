-- Numbers of stations on machines.
use Rattle.std.proofs.Common.{◌≡◌, ◌≢◌, ◌≤◌, ◌<◌, ◌+◌, ◌*◌, ◌/◌, ◌%◌, ◌==◌, ℕ, zero, suc, Bool, true, false, nat_lt, arith, refl, sym, ap, ◌∙◌}
use Rattle.std.proofs.lemmas.Bool.Decides.{nat_tests}
use Rattle.std.proofs.Math.Arith.{digits_mod}
use Rattle.std.proofs.Math.Nat.{mod-lt, mul-le-mul_right}
use Rattle.std.proofs.lemmas.Nat.{div-add-mod'}
use Rattle.mon_placing.specs.Placing.{machine_of, on_machine, stations_on, tally}

-- how many of the numbers below n leave m, divided by k
abbrev run : (k m : ℕ) → ℕ → ℕ
run k m zero = 0
run k m (suc n) = run k m n + tally (n % k == m)

below_or : (m r : ℕ) (b : Bool) → nat_lt m r ≡ b → (e : Bool) → (r == m) ≡ e → tally (nat_lt m r) + tally (r == m) ≡ tally (nat_lt m (suc r))
below_or m r true below true is = absurd (let no : ⊥ = grind (arith, nat_tests) in no)
below_or m r true below false is = let then_too : nat_lt m (suc r) ≡ true = grind (arith, nat_tests) in rw (below, is, then_too) refl
below_or m r false below true is = let now : nat_lt m (suc r) ≡ true = grind (arith, nat_tests) in rw (below, is, now) refl
below_or m r false below false is = let still : nat_lt m (suc r) ≡ false = grind (arith, nat_tests) in rw (below, is, still) refl

-- one number more below which m may be
more : (m r : ℕ) → tally (nat_lt m r) + tally (r == m) ≡ tally (nat_lt m (suc r))
more m r = below_or m r (nat_lt m r) refl (r == m) refl

assoc : (a b c : ℕ) → a + b + c ≡ a + (b + c)
assoc a b c = omega arith

-- of the numbers below q * k + r
turn : (k m q r : ℕ) → run k m (q * k) ≡ q → r ≤ k → run k m (q * k + r) ≡ q + tally (nat_lt m r)
turn k m q zero whole fits =
    let none : nat_lt m 0 ≡ false = grind (arith, nat_tests) in
    let at : q * k + 0 ≡ q * k = omega arith in
    rw (at, whole, none) (omega arith)
turn k m q (suc r) whole fits =
    let inside : r < k = omega (arith, fits) in
    let at : q * k + suc r ≡ suc (q * k + r) = omega arith in
    let before = turn k m q r whole (omega (arith, fits)) in
    ap (run k m) at ∙ (ap (λ n. n + tally ((q * k + r) % k == m)) before ∙ (ap (λ n. q + tally (nat_lt m r) + tally (n == m)) (digits_mod q inside)
    ∙ (assoc q (tally (nat_lt m r)) (tally (r == m)) ∙ ap (λ n. q + n) (more m r))))

-- of the numbers below q * k
turns : (k m q : ℕ) → m < k → run k m (q * k) ≡ q
turns k m zero below = let at : 0 * k ≡ 0 = grind arith in ap (run k m) at
turns k m (suc q) below =
    let all : nat_lt m k ≡ true = grind (arith, nat_tests) in
    let at : suc q * k ≡ q * k + k = grind arith in
    let one : q + 1 ≡ suc q = omega arith in
    ap (run k m) at ∙ (turn k m q k (turns k m q below) (omega arith) ∙ (ap (λ b. q + tally b) all ∙ one))

-- of the numbers below n
counted : (k m n : ℕ) → m < k → run k m n ≡ n / k + tally (nat_lt m (n % k))
counted k m n below =
    let inside : n % k < k = mod-lt n (omega (arith, below)) in
    ap (run k m) (sym (div-add-mod' n k)) ∙ turn k m (n / k) (n % k) (turns k m (n / k) below) (omega (arith, inside))

at_most_one : (b : Bool) → tally b ≤ 1
at_most_one true = omega arith
at_most_one false = omega arith

runs_even : (k m l n : ℕ) → m < k → l < k → run k m n ≤ run k l n + 1
runs_even k m l n one other = rw (counted k m n one, counted k l n other)
    (let few = at_most_one (nat_lt m (n % k)) in omega (arith, few))

-- the stations of a group come after those of the groups before
in_group : (stations machines machine group station : ℕ) → run machines machine (group * stations + station) ≡ run machines machine (group * stations) + on_machine stations machines machine group station
unfolding machine_of
in_group stations machines machine group zero =
    let at : group * stations + 0 ≡ group * stations = omega arith in
    let none : run machines machine (group * stations) ≡ run machines machine (group * stations) + 0 = omega arith in
    ap (run machines machine) at ∙ none
in_group stations machines machine group (suc station) =
    let at : group * stations + suc station ≡ suc (group * stations + station) = omega arith in
    ap (run machines machine) at ∙ (ap (λ n. n + tally ((group * stations + station) % machines == machine)) (in_group stations machines machine group station)
    ∙ assoc (run machines machine (group * stations)) (on_machine stations machines machine group station) (tally ((group * stations + station) % machines == machine)))

in_groups : (stations machines machine groups : ℕ) → stations_on stations machines machine groups ≡ run machines machine (groups * stations)
in_groups stations machines machine zero = let at : 0 * stations ≡ 0 = grind arith in sym (ap (run machines machine) at)
in_groups stations machines machine (suc group) =
    let at : suc group * stations ≡ group * stations + stations = grind arith in
    ap (λ n. n + on_machine stations machines machine group stations) (in_groups stations machines machine group)
    ∙ (sym (in_group stations machines machine group stations) ∙ ap (run machines machine) (sym at))

pub even : (stations machines groups one other : ℕ) → one < machines → other < machines
    → stations_on stations machines one groups ≤ stations_on stations machines other groups + 1
even stations machines groups one other first second = rw (in_groups stations machines one groups, in_groups stations machines other groups)
    (runs_even machines one other (groups * stations) first second)

pub among : (stations machines group station : ℕ) → 0 < machines → machine_of stations machines group station < machines
unfolding machine_of
among stations machines group station some = mod-lt (group * stations + station) some

-- numbers that leave the same are as far from one another as what they are divided by
far : (k q p r : ℕ) → q < p → q * k + r + k ≤ p * k + r
far k q p r less =
    let step : suc q * k ≤ p * k = mul-le-mul_right k less in
    let at : suc q * k ≡ q * k + k = grind arith in
    omega (arith, step, at)

by_order : (k x y : ℕ) → x < y → y < x + k → x % k ≡ y % k → (q p : ℕ) → q * k + x % k ≡ x → p * k + y % k ≡ y → (b : Bool) → nat_lt q p ≡ b → ⊥
by_order k x y less near same q p first second true is =
    let above : q < p = grind (arith, nat_tests) in
    let gap = far k q p (x % k) above in
    omega (arith, gap, less, near, same, first, second)
by_order k x y less near same q p first second false is =
    let below : p ≤ q = grind (arith, nat_tests) in
    let no = mul-le-mul_right k below in
    omega (arith, no, less, near, same, first, second)

by_quotients : (k x y : ℕ) → x < y → y < x + k → x % k ≡ y % k → (q p : ℕ) → q * k + x % k ≡ x → p * k + y % k ≡ y → ⊥
by_quotients k x y less near same q p first second = by_order k x y less near same q p first second (nat_lt q p) refl

distance : (k x y : ℕ) → x < y → y < x + k → x % k ≡ y % k → ⊥
distance k x y less near same = by_quotients k x y less near same (x / k) (y / k) (div-add-mod' x k) (div-add-mod' y k)

pub apart : (stations machines group one other : ℕ) → stations ≤ machines → one < other → other < stations
    → machine_of stations machines group one ≢ machine_of stations machines group other
unfolding machine_of
apart stations machines group one other enough less inside same =
    distance machines (group * stations + one) (group * stations + other) (omega (arith, less)) (omega (arith, enough, less, inside)) same
