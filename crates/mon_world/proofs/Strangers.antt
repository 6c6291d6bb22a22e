-- More addresses than targets.
use Rattle.std.proofs.Common.{ℕ, zero, suc, ◌≡◌, ◌≢◌, ◌≤◌, ◌<◌, ◌+◌, ◌⊎◌, inl, inr, List, [], ◌∷◌, length, map, get_or, sym, ap, arith, ◌∙◌}
use Rattle.std.specs.Prelude.{◌==◌, true, false, if◌then◌else◌, Any}
use Rattle.std.proofs.lemmas.Bool.{cases_Bool, eq-eqb, ne_eqb}
use Rattle.std.proofs.lemmas.List.{length-map}
use Rattle.mon_udp.specs.declared.addr.Addr.{Addr}
use Rattle.mon_poller.specs.declared.target.Target.{Target}

-- the number is in the list
abbrev Stands_in : ℕ → List ℕ → Type 0
Stands_in x [] = ⊥
Stands_in x (y ∷ ys) = (y ≡ x) ⊎ Stands_in x ys

-- the list without a number
abbrev without : ℕ → List ℕ → List ℕ
without x [] = []
without x (y ∷ ys) = if y == x then without x ys else y ∷ without x ys

no_longer : (x : ℕ) (ys : List ℕ) → length (without x ys) ≤ length ys
no_longer x [] = omega arith
no_longer x (y ∷ ys) = elim (cases_Bool (y == x)) [
  | inl is ↦ rw is (omega (arith, no_longer x ys))
  | inr not ↦ rw not (omega (arith, no_longer x ys))
]

shorter : (x : ℕ) (ys : List ℕ) → Stands_in x ys → length (without x ys) + 1 ≤ length ys
shorter x [] there = absurd there
shorter x (y ∷ ys) there = elim (cases_Bool (y == x)) [
  | inl is ↦ rw is (omega (arith, no_longer x ys))
  | inr not ↦ elim there [
    | inl here ↦ absurd (let same : (y == x) ≡ true = eq-eqb y x here in cc)
    | inr later ↦ rw not (omega (arith, shorter x ys later))
  ]
]

stays : (x z : ℕ) (ys : List ℕ) → z ≢ x → Stands_in z ys → Stands_in z (without x ys)
stays x z [] other there = absurd there
stays x z (y ∷ ys) other (inl here) =
    let not : (y == x) ≡ false = ne_eqb y x (λ e. other (sym here ∙ e)) in
    rw not (inl here)
stays x z (y ∷ ys) other (inr later) = elim (cases_Bool (y == x)) [
  | inl is ↦ rw is (stays x z ys other later)
  | inr not ↦ rw not (inr (stays x z ys other later))
]

-- a list that has all numbers below n has at least n
all_numbers : (n : ℕ) (ys : List ℕ) → ((q : ℕ) → q < n → Stands_in q ys) → n ≤ length ys
all_numbers zero ys all = omega arith
all_numbers (suc n) ys all =
    let fewer = shorter n ys (all n (omega arith)) in
    omega (arith, fewer, all_numbers n (without n ys) (λ q lt. stays n q ys (λ e. omega (arith, e, lt)) (all q (omega (arith, lt)))))

at_place : (ys : List ℕ) (k x : ℕ) → k < length ys → get_or ys k x ≡ x → Stands_in x ys
at_place [] k x lt is = absurd (omega (arith, lt))
at_place (y ∷ ys) zero x lt is = inl is
at_place (y ∷ ys) (suc k) x lt is = inr (at_place ys k x (omega (arith, lt)) is)

-- the address that is tried with this port
abbrev pub stranger_at : ℕ → Addr
stranger_at port = record { octets = 0 ∷ 0 ∷ 0 ∷ 0 ∷ []; port = port }

port_of_any : (targets : List Target) (port : ℕ) → Any (λ t. t.address ≡ stranger_at port) targets → Stands_in port (map (λ (t : Target). t.address.port) targets)
port_of_any targets port (k, t, lt, is, same) =
    go targets k lt (ap (λ (u : Target). u.address.port) is ∙ ap (λ (a : Addr). a.port) same)
  where
    go : (ts : List Target) (k : ℕ) → k < length ts → (get_or ts k t).address.port ≡ port → Stands_in port (map (λ (u : Target). u.address.port) ts)
    go [] k lt e = absurd (omega (arith, lt))
    go (u ∷ ts) zero lt e = inl e
    go (u ∷ ts) (suc k) lt e = inr (go ts k (omega (arith, lt)) e)

-- 64 targets do not take 65 addresses
pub one_free : (targets : List Target) → length targets ≤ 64 → ((port : ℕ) → port < 65 → Any (λ t. t.address ≡ stranger_at port) targets) → ⊥
one_free targets few taken =
    let more = all_numbers 65 (map (λ (t : Target). t.address.port) targets) (λ port lt. port_of_any targets port (taken port lt)) in
    omega (arith, more, few, length-map targets (λ (t : Target). t.address.port))
