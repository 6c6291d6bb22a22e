-- The list of all variables has those of the objects, and no others.
use Rattle.std.proofs.Common.{◌≡◌, ℕ, zero, suc, ◌<◌, List, [], ◌∷◌, ◌↔◌, get_or, sym, subst, arith, inl, inr}
use Rattle.std.specs.Prelude.{map}
use Rattle.std.specs.List.{Contains, flat_map}
use Rattle.std.proofs.lemmas.List.Elements.{Contains-append_cases, Contains-append_left, Contains-append_right, Contains-push}
use Rattle.mon_pdu.specs.declared.message.Binding.{Binding}
use Rattle.mon_mib.specs.Objects.{objects}
use Rattle.mon_mib.specs.Known.{Known, instances, variable, vars}
use Rattle.mon_mib.specs.Next.{IsVariable}

one : {X : Type 0} (x y : X) → Contains (x ∷ []) y → y ≡ x
one x y (k, lt, is) = sym (first k lt is)
  where
    first : {X : Type 0} {x y : X} (k : ℕ) → k < 1 → get_or (x ∷ []) k y ≡ y → x ≡ y
    first zero lt is = is
    first (suc k) lt is = absurd (omega arith)

nothing : {X : Type 0} (x : X) → Contains [] x → ⊥
nothing x (k, lt, is) = omega arith

pub at_head : {X : Type 0} (x : X) (xs : List X) → Contains (x ∷ xs) x
at_head x xs = Contains-append_left (x ∷ []) xs x (Contains-push [] x)

-- a member of a map, and of lists put together, with where it comes from
pub record From {X B : Type 0} (xs : List X) (P : X → B → Type 0) (b : B) : Type 0 where
  pub x : X
  pub member : Contains xs x
  pub holds : P x b

pub from_map : {X B : Type 0} (f : X → B) (xs : List X) (b : B) → Contains (map f xs) b → From xs (λ x b. b ≡ f x) b
from_map f [] b at = absurd (nothing b at)
from_map f (x ∷ xs) b at = elim (Contains-append_cases (f x ∷ []) (map f xs) b at) [
  | inl here ↦ record { x = x; member = at_head x xs; holds = one (f x) b here }
  | inr there ↦ let r = from_map f xs b there in record { x = r.x; member = Contains-append_right (x ∷ []) xs r.x r.member; holds = r.holds }
]

to_map : {X B : Type 0} (f : X → B) (xs : List X) (x : X) → Contains xs x → Contains (map f xs) (f x)
to_map f [] x at = absurd (nothing x at)
to_map f (y ∷ ys) x at = elim (Contains-append_cases (y ∷ []) ys x at) [
  | inl here ↦ subst (λ z. Contains (f y ∷ map f ys) (f z)) (sym (one y x here)) (at_head (f y) (map f ys))
  | inr there ↦ Contains-append_right (f y ∷ []) (map f ys) (f x) (to_map f ys x there)
]

pub from_flat : {X B : Type 0} (f : X → List B) (xs : List X) (b : B) → Contains (flat_map f xs) b → From xs (λ x b. Contains (f x) b) b
from_flat f [] b at = absurd (nothing b at)
from_flat f (x ∷ xs) b at = elim (Contains-append_cases (f x) (flat_map f xs) b at) [
  | inl here ↦ record { x = x; member = at_head x xs; holds = here }
  | inr there ↦ let r = from_flat f xs b there in record { x = r.x; member = Contains-append_right (x ∷ []) xs r.x r.member; holds = r.holds }
]

to_flat : {X B : Type 0} (f : X → List B) (xs : List X) (x : X) (b : B) → Contains xs x → Contains (f x) b → Contains (flat_map f xs) b
to_flat f [] x b at has = absurd (nothing x at)
to_flat f (y ∷ ys) x b at has = elim (Contains-append_cases (y ∷ []) ys x at) [
  | inl here ↦ Contains-append_left (f y) (flat_map f ys) b (subst (λ z. Contains (f z) b) (one y x here) has)
  | inr there ↦ Contains-append_right (f y) (flat_map f ys) b (to_flat f ys x b there has)
]

forth : (k : Known) (b : Binding) → Contains (vars k) b → IsVariable objects k b
forth k b at =
    let o : From objects (λ o b. Contains (map (variable k o) (instances k.held o)) b) b = from_flat (λ o. map (variable k o) (instances k.held o)) objects b at in
    let i : From (instances k.held o.x) (λ i b. b ≡ variable k o.x i) b = from_map (variable k o.x) (instances k.held o.x) b o.holds in
    record { object = o.x; instance = i.x; served = o.member; there = i.member; is = i.holds }

back : (k : Known) (b : Binding) → IsVariable objects k b → Contains (vars k) b
back k b v = to_flat (λ o. map (variable k o) (instances k.held o)) objects v.object b v.served
    (subst (Contains (map (variable k v.object) (instances k.held v.object))) (sym v.is) (to_map (variable k v.object) (instances k.held v.object) v.instance v.there))

pub variables : (k : Known) (b : Binding) → Contains (vars k) b ↔ IsVariable objects k b
variables k b = ((λ at. forth k b at), λ v. back k b v)
