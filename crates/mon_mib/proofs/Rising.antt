-- The list of all variables rises.
use Rattle.std.proofs.Common.{zero, suc, ◌≡◌, ℕ, ◌<◌, List, [], ◌∷◌, ◌++◌, get_or, refl, sym, ◌∙◌, subst, arith}
use Rattle.std.specs.Prelude.{IsTrue, Contains, All, AllPairs, map}
use Rattle.std.specs.List.{flat_map}
use Rattle.std.specs.declared.cmp.Ordering.TheVariants.{Less}
use Rattle.std.proofs.lemmas.Bool.{lt-ltb}
use Rattle.std.proofs.lemmas.List.Kept.{AllPairs-cons}
use Rattle.std.proofs.lemmas.List.Elements.{All-append, All-contains, Contains-get_or}
use Rattle.mon_pdu.specs.declared.message.Binding.{Binding}
use Rattle.mon_mib.specs.declared.object.Object.{Object}
use Rattle.mon_mib.specs.declared.object.Object.TheVariants as served
use Rattle.mon_mib.specs.Held.{AreIndexes}
use Rattle.mon_mib.specs.Known.{Known, instances, variable, vars}
use Rattle.mon_mib.specs.Objects.{prefix_of, objects}
use Rattle.mon_mib.specs.Order.{is_before, name_cmp}
use Rattle.mon_mib.proofs.Under.{equal_then, objects_apart}
use Rattle.mon_mib.proofs.Starts.{apart}
use Rattle.mon_mib.proofs.Variables.{From, from_map, from_flat, at_head}
use Rattle.mon_mib.proofs.Simulated.{in_tail}

all_of : {X : Type 0} (P : X → Type 0) (xs : List X) → ((y : X) → Contains xs y → P y) → All P xs
all_of P xs each = λ k d lt. each (get_or xs k d) (Contains-get_or xs k d lt)

module _ {X : Type 0} (R : X → X → Type 0) where
  first_of : (x : X) (xs : List X) → AllPairs R (x ∷ xs) → All (R x) xs
  first_of x xs all = λ k d lt. all zero (suc k) d (omega arith) (omega arith)

  rest_of : (x : X) (xs : List X) → AllPairs R (x ∷ xs) → AllPairs R xs
  rest_of x xs all = λ i j d lt within. all (suc i) (suc j) d (omega arith) (omega arith)

  joined : (xs ys : List X) → AllPairs R xs → AllPairs R ys → ((a b : X) → Contains xs a → Contains ys b → R a b) → AllPairs R (xs ++ ys)
  joined [] ys p q cross = q
  joined (x ∷ xs) ys p q cross =
      AllPairs-cons R x (xs ++ ys) (All-append (R x) xs ys (first_of x xs p) (all_of (R x) ys (λ y at. cross x y (at_head x xs) at)))
      (joined xs ys (rest_of x xs p) q (λ a b at bt. cross a b (in_tail x a xs at) bt))

mapped : {X Y : Type 0} (S : X → X → Type 0) (R : Y → Y → Type 0) (f : X → Y) → ((a b : X) → S a b → R (f a) (f b))
    → (xs : List X) → AllPairs S xs → AllPairs R (map f xs)
mapped S R f keeps [] p = λ i j d lt within. absurd (omega arith)
mapped S R f keeps (x ∷ xs) p =
    AllPairs-cons R (f x) (map f xs)
    (all_of (R (f x)) (map f xs) (λ y at. let r : From xs (λ a b. b ≡ f a) y = from_map f xs y at in
    subst (R (f x)) (sym r.holds) (keeps x r.x (All-contains (S x) xs r.x (first_of S x xs p) r.member))))
    (mapped S R f keeps xs (rest_of S x xs p))

less_under : (p : List ℕ) (i j : ℕ) → i < j → name_cmp (p ++ i ∷ []) (p ++ j ∷ []) ≡ Less
less_under [] i j lt = rw (lt-ltb i j lt) refl
less_under (n ∷ p) i j lt = equal_then n _ ∙ less_under p i j lt

abbrev Before : Binding → Binding → Type 0
Before a b = name_cmp a.name b.name ≡ Less

module _ (k : Known) (are : AreIndexes k.held.indexes) where
  instances_rise : (o : Object) → AllPairs (λ i j. i < j) (instances k.held o)
  instances_rise (served.Scalar s) = λ i j d lt within. absurd (omega arith)
  instances_rise (served.Column c) = are.rising

  own : (o : Object) → AllPairs Before (map (variable k o) (instances k.held o))
  own o = mapped (λ i j. i < j) Before (variable k o) (λ i j lt. less_under (prefix_of o) i j lt) (instances k.held o) (instances_rise o)

  all_rise : (os : List Object) → AllPairs (λ o q. IsTrue (is_before (prefix_of o) (prefix_of q))) os
      → AllPairs Before (flat_map (λ o. map (variable k o) (instances k.held o)) os)
  all_rise [] p = λ i j d lt within. absurd (omega arith)
  all_rise (o ∷ os) p =
      joined Before (map (variable k o) (instances k.held o)) (flat_map (λ q. map (variable k q) (instances k.held q)) os) (own o)
      (all_rise os (rest_of (λ o q. IsTrue (is_before (prefix_of o) (prefix_of q))) o os p)) cross
    where
      cross : (a b : Binding) → Contains (map (variable k o) (instances k.held o)) a
          → Contains (flat_map (λ q. map (variable k q) (instances k.held q)) os) b → Before a b
      cross a b at bt =
          let i : From (instances k.held o) (λ i c. c ≡ variable k o i) a = from_map (variable k o) (instances k.held o) a at in
          let q : From os (λ q c. Contains (map (variable k q) (instances k.held q)) c) b = from_flat (λ q. map (variable k q) (instances k.held q)) os b bt in
          let j : From (instances k.held q.x) (λ j c. c ≡ variable k q.x j) b = from_map (variable k q.x) (instances k.held q.x) b q.holds in
          let later : IsTrue (is_before (prefix_of o) (prefix_of q.x)) =
          All-contains (λ q. IsTrue (is_before (prefix_of o) (prefix_of q))) os q.x (first_of (λ o q. IsTrue (is_before (prefix_of o) (prefix_of q))) o os p) q.member in
          subst (λ c. Before c b) (sym i.holds) (subst (Before (variable k o i.x)) (sym j.holds) (apart (prefix_of o) (prefix_of q.x) (i.x ∷ []) (j.x ∷ []) later))

  pub variables_rise : AllPairs Before (vars k)
  variables_rise = all_rise objects objects_apart
