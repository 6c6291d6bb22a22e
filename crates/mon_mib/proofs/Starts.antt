-- From which instance on the names under a prefix exceed a name.
use Rattle.std.proofs.Common.{◌≡◌, ◌≢◌, ℕ, ◌<◌, ◌≤◌, Bool, true, false, cond, List, [], ◌∷◌, ◌++◌, length, ◌↔◌, refl, arith}
use Rattle.std.specs.Prelude.{IsTrue, nat_lt, ◌==◌}
use Rattle.std.specs.declared.cmp.Ordering.{Ordering}
use Rattle.std.specs.declared.cmp.Ordering.TheVariants.{Less, Equal, Greater}
use Rattle.std.specs.Ordering.{nat_cmp, ordering_then}
use Rattle.std.proofs.lemmas.Cmp.{ranked, by_ranked}
use Rattle.std.proofs.lemmas.Bool.{lt-ltb, false≢true}
use Rattle.std.proofs.lemmas.Bool.Decides.{nat_tests}
use Rattle.mon_mib.specs.declared.start.Start.{Start}
use Rattle.mon_mib.specs.declared.start.Start.TheVariants.{First, Nowhere}
use Rattle.mon_mib.specs.Order.{name_cmp, start_of, IsFrom, is_before}

-- each test of two numbers, where the first is less
not_less : (a b : ℕ) → b ≤ a → nat_lt a b ≡ false
not_less a b le = grind (arith, nat_tests)

at_less : (a b : ℕ) → a < b → nat_cmp a b ≡ Less
at_less a b lt = rw (lt-ltb a b lt) refl

at_equal : (a b : ℕ) → a ≡ b → nat_cmp a b ≡ Equal
at_equal a b e = grind (arith, nat_tests)

-- one number more at the front
less : (x p : ℕ) (o : Ordering) (s : Start) (i : ℕ) → x < p
    → (ordering_then (nat_cmp x p) o ≡ Less) ↔ IsFrom (cond (nat_lt p x) Nowhere (cond (nat_lt x p) First s)) i
less x p o s i lt = rw (not_less p x (omega arith), lt-ltb x p lt) (λ _. tt, λ _. refl)

equal : (x p : ℕ) (o : Ordering) (s : Start) (i : ℕ) → x ≡ p → ((o ≡ Less) ↔ IsFrom s i)
    → (ordering_then (nat_cmp x p) o ≡ Less) ↔ IsFrom (cond (nat_lt p x) Nowhere (cond (nat_lt x p) First s)) i
equal x p o s i e h = rw (not_less p x (omega arith), not_less x p (omega arith), eq_true x p e) h
  where
    eq_true : (a b : ℕ) → a ≡ b → (a == b) ≡ true
    eq_true a b e = grind (arith, nat_tests)

greater : (x p : ℕ) (o : Ordering) (s : Start) (i : ℕ) → p < x
    → (ordering_then (nat_cmp x p) o ≡ Less) ↔ IsFrom (cond (nat_lt p x) Nowhere (cond (nat_lt x p) First s)) i
greater x p o s i lt = rw (lt-ltb p x lt, not_less x p (omega arith), eq_false x p lt) ((λ h. cc), λ h. absurd h)
  where
    eq_false : (a b : ℕ) → b < a → (a == b) ≡ false
    eq_false a b lt = grind (arith, nat_tests)

step : (x p : ℕ) (o : Ordering) (s : Start) (i : ℕ) → ((o ≡ Less) ↔ IsFrom s i)
    → (ordering_then (nat_cmp x p) o ≡ Less) ↔ IsFrom (cond (nat_lt p x) Nowhere (cond (nat_lt x p) First s)) i
step x p o s i h = by_ranked (x < p) (x ≡ p) (p < x) (nat_cmp x p) (ranked x p (nat_cmp x p) refl)
    (λ _ lt. less x p o s i lt) (λ _ e. equal x p o s i e h) (λ _ lt. greater x p o s i lt)

-- the last number of the name under the prefix
last : (x i : ℕ) (o : Ordering) → (o ≢ Less) → (ordering_then (nat_cmp x i) o ≡ Less) ↔ (x < i)
last x i o other = by_ranked (x < i) (x ≡ i) (i < x) (nat_cmp x i) (ranked x i (nat_cmp x i) refl)
    (λ is lt. ((λ _. lt), λ _. at_then is)) (λ is e. ((λ h. absurd (other (same is h))), λ lt. absurd (omega arith)))
    (λ is gt. ((λ h. absurd (never is h)), λ lt. absurd (omega arith)))
  where
    at_then : {r : Ordering} → r ≡ Less → ordering_then r o ≡ Less
    at_then e = rw e refl

    same : {r : Ordering} → r ≡ Equal → ordering_then r o ≡ Less → o ≡ Less
    same e h = rw e at h

    never : {r : Ordering} → r ≡ Greater → ordering_then r o ≡ Less → ⊥
    never e h = let g = rw e at h in cc

ends : (xs : List ℕ) → name_cmp xs [] ≢ Less
ends [] h = cc
ends (x ∷ xs) h = cc

pub start_exact : (prefix name : List ℕ) (i : ℕ) → (name_cmp name (prefix ++ i ∷ []) ≡ Less) ↔ IsFrom (start_of prefix name) i
start_exact [] [] i = ((λ _. tt), λ _. refl)
start_exact [] (x ∷ xs) i = last x i (name_cmp xs []) (ends xs)
start_exact (p ∷ ps) [] i = ((λ _. tt), λ _. refl)
start_exact (p ∷ ps) (x ∷ xs) i = step x p (name_cmp xs (ps ++ i ∷ [])) (start_of ps xs) i (start_exact ps xs i)

-- one number more at the front of both
before : (p q : ℕ) (b : Bool) (o : Ordering) → (IsTrue b → o ≡ Less)
    → IsTrue (cond (nat_lt p q) true (cond (nat_lt q p) false b)) → ordering_then (nat_cmp p q) o ≡ Less
before p q b o h is = by_ranked (p < q) (p ≡ q) (q < p) (nat_cmp p q) (ranked p q (nat_cmp p q) refl)
    (λ r lt. rw (at_less p q lt) refl)
    (λ r e. rw (at_equal p q e) (h (rw (not_less p q (omega arith), not_less q p (omega arith)) at is)))
    (λ r gt. absurd (false≢true (rw (not_less p q (omega arith), lt-ltb q p gt) at is)))

pub apart : (p q rest others : List ℕ) → IsTrue (is_before p q) → name_cmp (p ++ rest) (q ++ others) ≡ Less
apart [] q rest others is = absurd (false≢true is)
apart (x ∷ ps) [] rest others is = absurd (false≢true is)
apart (x ∷ ps) (y ∷ qs) rest others is =
    before x y (is_before ps qs) (name_cmp (ps ++ rest) (qs ++ others)) (apart ps qs rest others) is

-- a name that ends within the prefix comes before all of its names
pub cut : (ps rest : List ℕ) (s : Start) → length rest < 1 → start_of ps rest ≡ s → First ≡ s
cut [] [] s lt e = e
cut (p ∷ ps) [] s lt e = e
cut ps (x ∷ xs) s lt e = absurd (omega arith)

-- what is behind the prefix decides where the name begins with it
pub behind_prefix : (p rest : List ℕ) → start_of p (p ++ rest) ≡ start_of [] rest
behind_prefix [] rest = refl
behind_prefix (n ∷ p) rest = rw (not_less n n (omega arith)) (behind_prefix p rest)
