-- The order of lists of numbers is by the first that differs, and a proper prefix comes first.
use Rattle.std.proofs.Common.{◌≡◌, ℕ, ◌<◌, List, [], ◌∷◌, ◌++◌, refl, sym, ap, ◌∙◌, inl, inr}
use Rattle.std.specs.Ordering.{MatchOrdering, nat_cmp, ordering_then}
use Rattle.std.specs.Cmp.{ranks, nat_cmp_is}
use Rattle.std.specs.Cmp.Lexicographic.{slice_cmp}
use Rattle.std.specs.declared.cmp.Ordering.TheVariants.{Less, Equal, Greater}
use Rattle.mon_oid.specs.Oid.{ComesBefore}

behind_equal : (x y : ℕ) (xs ys : List ℕ) → x ≡ y → ComesBefore xs ys → ComesBefore (x ∷ xs) (y ∷ ys)
behind_equal x y xs ys e s = (
  y ∷ s.0,
  s.1,
  s.2,
  ap (λ (t : List ℕ). y ∷ t) s.3,
  elim (s.4) [
    | inl h ↦ inl (λ i. e i ∷ h i)
    | inr h ↦ inr (h.0, h.1, (λ i. e i ∷ h.2 i), h.3)
  ],
)

pub less_before : (a b : List ℕ) → slice_cmp nat_cmp a b ≡ Less → ComesBefore a b
less_before [] [] e = absurd cc
less_before [] (y ∷ ys) e = ([], y, ys, refl, inl refl)
less_before (x ∷ xs) [] e = absurd cc
less_before (x ∷ xs) (y ∷ ys) e =
    elim (nat_cmp x y) as (λ r. MatchOrdering r (x < y) (x ≡ y) (y < x) → ordering_then r (slice_cmp nat_cmp xs ys) ≡ Less → ComesBefore (x ∷ xs) (y ∷ ys)) [
      | Less ↦ λ m e. ([], y, ys, refl, inr (x, xs, refl, m))
      | Equal ↦ λ m e. behind_equal x y xs ys m (less_before xs ys e)
      | Greater ↦ λ m e. absurd cc
    ] (ranks x y) e

same : (c : ℕ) → nat_cmp c c ≡ Equal
same c = sym (nat_cmp_is c c Equal refl)

ended : (shared : List ℕ) (y : ℕ) (ys : List ℕ) → slice_cmp nat_cmp shared (shared ++ y ∷ ys) ≡ Less
ended [] y ys = refl
ended (c ∷ cs) y ys = ap (λ r. ordering_then r (slice_cmp nat_cmp cs (cs ++ y ∷ ys))) (same c) ∙ ended cs y ys

differs : (shared : List ℕ) (x : ℕ) (xs : List ℕ) (y : ℕ) (ys : List ℕ) → x < y → slice_cmp nat_cmp (shared ++ x ∷ xs) (shared ++ y ∷ ys) ≡ Less
differs [] x xs y ys lt = ap (λ r. ordering_then r (slice_cmp nat_cmp xs ys)) (sym (nat_cmp_is x y Less lt))
differs (c ∷ cs) x xs y ys lt = ap (λ r. ordering_then r (slice_cmp nat_cmp (cs ++ x ∷ xs) (cs ++ y ∷ ys))) (same c) ∙ differs cs x xs y ys lt

pub before_less : (a b : List ℕ) → ComesBefore a b → slice_cmp nat_cmp a b ≡ Less
before_less a b h =
    elim (h.4) [
      | inl e ↦ (λ i. slice_cmp nat_cmp (e i) (h.3 i)) ∙ ended h.0 h.1 h.2
      | inr d ↦ (λ i. slice_cmp nat_cmp (d.2 i) (h.3 i)) ∙ differs h.0 d.0 d.1 h.1 h.2 d.3
    ]
