-- Going over the objects in order, and over each one's instances from a start on, finds the least
-- name.
use Rattle.std.proofs.Common.{zero, suc, ◌≡◌, ◌≢◌, ℕ, ◌+◌, ◌<◌, ◌≤◌, true, List, [], ◌∷◌, ◌++◌, length, take, drop, get_or, refl, sym, ◌∙◌, ap, subst, arith, add-one, inl, inr}
use Rattle.std.specs.Prelude.{IsTrue, Option, Some, None}
use Rattle.std.specs.List.{AllPairs, Contains, list_all}
use Rattle.std.proofs.lemmas.List.Kept.{AllPairs-cons}
use Rattle.mon_mib.proofs.Both.{first_so, second_so}
use Rattle.std.specs.declared.cmp.Ordering.{Ordering}
use Rattle.std.specs.declared.cmp.Ordering.TheVariants.{Less, Equal}
use Rattle.std.specs.Ordering.{nat_cmp, ordering_then}
use Rattle.std.proofs.Math.Seq.{split_at, take-suc}
use Rattle.std.proofs.lemmas.Bool.Decides.{nat_tests}
use Rattle.std.proofs.lemmas.List.Elements.{Contains-append_cases, Contains-append_left, Contains-append_right, Contains-push, All-contains}
use Rattle.std.proofs.lemmas.List.Sums.{AllPass-from_list_all}
use Rattle.std.proofs.lemmas.Cmp.{nat_list_cmp_total}
use Rattle.mon_mib.specs.Order.{name_cmp, start_of, IsFrom, is_before}
use Rattle.mon_mib.specs.declared.start.Start.{Start}
use Rattle.mon_mib.specs.declared.start.Start.TheVariants.{First, Above, Nowhere}
use Rattle.mon_mib.proofs.Starts.{start_exact, apart}
use Rattle.mon_pdu.specs.declared.message.Binding.{Binding}
use Rattle.mon_mib.specs.declared.object.Object.{Object}
use Rattle.mon_mib.specs.Objects.{prefix_of, objects, all_before}
use Rattle.mon_mib.specs.Known.{Known, instances, variable}
use Rattle.mon_mib.specs.Next.{IsVariable, IsLater, IsLeast, IsNext}

-- ---- names under one prefix

pub equal_then : (n : ℕ) (o : Ordering) → ordering_then (nat_cmp n n) o ≡ o
equal_then n o = let e : nat_cmp n n ≡ Equal = grind (arith, nat_tests) in rw e refl

not_below : (i j : ℕ) → i ≤ j → ordering_then (nat_cmp j i) Equal ≢ Less
not_below i j le is = grind (arith, nat_tests)

pub rises : (p : List ℕ) (i j : ℕ) → i ≤ j → name_cmp (p ++ j ∷ []) (p ++ i ∷ []) ≢ Less
rises [] i j le = not_below i j le
rises (n ∷ p) i j le = λ is. rises p i j le (sym (equal_then n _) ∙ is)

pub upward : (s : Start) (i j : ℕ) → IsFrom s i → i < j → IsFrom s j
upward First i j from lt = tt
upward (Above x) i j from lt = omega arith
upward Nowhere i j from lt = from

pub one : {X : Type 0} (x y : X) → Contains (x ∷ []) y → y ≡ x
one x y (k, lt, is) = sym (first k lt is)
  where
    first : {X : Type 0} {x y : X} (k : ℕ) → k < 1 → get_or (x ∷ []) k y ≡ y → x ≡ y
    first zero lt is = is
    first (suc k) lt is = absurd (omega arith)

-- two names of what is in an option
pub same_value : {X : Type 0} (r : Option X) (v w : X) → r ≡ Some v → r ≡ Some w → v ≡ w
same_value r v w is also = cc

-- the objects are in the order of their names
objects_rise : IsTrue (all_before objects)
unfolding objects prefix_of
objects_rise = refl

-- each object comes before all later ones
in_pairs : (os : List Object) → IsTrue (all_before os) → AllPairs (λ o q. IsTrue (is_before (prefix_of o) (prefix_of q))) os
in_pairs [] all = λ i j d lt within. absurd (omega arith)
in_pairs (o ∷ os) all =
    AllPairs-cons (λ o q. IsTrue (is_before (prefix_of o) (prefix_of q))) o os
    (AllPass-from_list_all (λ q. is_before (prefix_of o) (prefix_of q)) os (first_so _ (all_before os) all))
    (in_pairs os (second_so (list_all (λ q. is_before (prefix_of o) (prefix_of q)) os) _ all))

pub objects_apart : AllPairs (λ o q. IsTrue (is_before (prefix_of o) (prefix_of q))) objects
objects_apart = in_pairs objects objects_rise

module _ (k : Known) (sees : List ℕ → Type 0) (x : List ℕ) where
  -- Of an object's variables, those that are searched for have their instances from here on, and
  -- these are beyond the name.
  pub record IsAt (o : Object) (s : Start) : Type 0 where
    pub covers : (i : ℕ) → Contains (instances k.held o) i → IsLater sees x (variable k o i) → IsFrom s i
    pub beyond : (i : ℕ) → IsFrom s i → name_cmp x (prefix_of o ++ i ∷ []) ≡ Less

  pub begins : (o : Object) → IsAt o (start_of (prefix_of o) x)
  begins o = record {
    covers = λ i there later. (start_exact (prefix_of o) x i).0 later.beyond;
    beyond = λ i from. (start_exact (prefix_of o) x i).1 from;
  }

  -- ---- one object after another

  elsewhere : (os qs : List Object) (c : Binding) (v : IsVariable os k c) → Contains qs v.object → IsVariable qs k c
  elsewhere os qs c v at = record { object = v.object; instance = v.instance; served = at; there = v.there; is = v.is }

  pub goes_on : (front : List Object) (o : Object) → IsNext front k sees x None → IsNext (o ∷ []) k sees x None
      → IsNext (front ++ o ∷ []) k sees x None
  goes_on front o before here c v later = elim (Contains-append_cases front (o ∷ []) v.object v.served) [
    | inl at ↦ before c (elsewhere (front ++ o ∷ []) front c v at) later
    | inr at ↦ here c (elsewhere (front ++ o ∷ []) (o ∷ []) c v at) later
  ]

  after_all : (front back : List Object) (o q : Object) → IsTrue (all_before (front ++ o ∷ back)) → Contains back q
      → IsTrue (is_before (prefix_of o) (prefix_of q))
  after_all [] back o q all at =
      All-contains (λ p. is_before (prefix_of o) (prefix_of p) ≡ true) back q (AllPass-from_list_all (λ p. is_before (prefix_of o) (prefix_of p)) back (first_so _ (all_before back) all)) at
  after_all (f ∷ front) back o q all at = after_all front back o q (second_so (list_all (λ p. is_before (prefix_of f) (prefix_of p)) (front ++ o ∷ back)) _ all) at

  not_after : (p q : List ℕ) → name_cmp p q ≡ Less → name_cmp q p ≢ Less
  not_after p q is back = let turned = nat_list_cmp_total.antisymm p q in cc

  pub stops : (front back : List Object) (o : Object) (b : Binding) → IsTrue (all_before (front ++ o ∷ back))
      → IsNext front k sees x None → IsNext (o ∷ []) k sees x (Some b) → IsNext (front ++ o ∷ back) k sees x (Some b)
  stops front back o b all before here = record {
    variable = elsewhere (o ∷ []) (front ++ o ∷ back) b here.variable (subst (Contains (front ++ o ∷ back)) (sym same) (Contains-append_right front (o ∷ back) o (Contains-append_left (o ∷ []) back o (Contains-push [] o))));
    later = here.later;
    least = λ c v later. elim (Contains-append_cases front (o ∷ back) v.object v.served) [
      | inl at ↦ absurd (before c (elsewhere (front ++ o ∷ back) front c v at) later)
      | inr at ↦ elim (Contains-append_cases (o ∷ []) back v.object at) [
        | inl mine ↦ here.least c (elsewhere (front ++ o ∷ back) (o ∷ []) c v mine) later
        | inr behind ↦ beyond c v behind
      ]
    ];
  }
    where
      same : here.variable.object ≡ o
      same = one o here.variable.object here.variable.served

      beyond : (c : Binding) (v : IsVariable (front ++ o ∷ back) k c) → Contains back v.object → name_cmp c.name b.name ≢ Less
      beyond c v behind =
          let lower : name_cmp (prefix_of o ++ here.variable.instance ∷ []) (prefix_of v.object ++ v.instance ∷ []) ≡ Less =
          apart (prefix_of o) (prefix_of v.object) (here.variable.instance ∷ []) (v.instance ∷ []) (after_all front back o v.object all behind) in
          let mine : b.name ≡ prefix_of o ++ here.variable.instance ∷ [] =
          ap (λ (d : Binding). d.name) here.variable.is ∙ ap (λ q. prefix_of q ++ here.variable.instance ∷ []) same in
          let other : c.name ≡ prefix_of v.object ++ v.instance ∷ [] = ap (λ (d : Binding). d.name) v.is in
          rw (mine, other) (not_after (prefix_of o ++ here.variable.instance ∷ []) (prefix_of v.object ++ v.instance ∷ []) lower)

  -- a search ends at an index of the list that the loop goes over
  pub stops_at : (os : List Object) (j : ℕ) (d : Object) (r : Option Binding) (b : Binding) → j < length os → os ≡ objects
      → IsNext (take j objects) k sees x None → r ≡ Some b → IsNext (get_or os j d ∷ []) k sees x r → IsLeast objects k sees x b
  stops_at os j d r b lt same before is here =
      let cut : objects ≡ take j objects ++ get_or objects j d ∷ drop (suc j) objects = split_at objects j d (subst (λ l. j < length l) same lt) in
      let mine : IsNext (get_or objects j d ∷ []) k sees x (Some b) =
      subst (λ q. IsNext (get_or objects j d ∷ []) k sees x q) is (subst (λ l. IsNext (get_or l j d ∷ []) k sees x r) same here) in
      subst (λ l. IsLeast l k sees x b) (sym cut)
      (stops (take j objects) (drop (suc j) objects) (get_or objects j d) b (subst (λ l. IsTrue (all_before l)) cut objects_rise) before mine)

  pub goes_on_at : (os : List Object) (j : ℕ) (d : Object) (r : Option Binding) → j < length os → os ≡ objects
      → IsNext (take j objects) k sees x None → r ≡ None → IsNext (get_or os j d ∷ []) k sees x r → IsNext (take (j + 1) objects) k sees x None
  goes_on_at os j d r lt same before is here =
      let more : take (suc j) objects ≡ take j objects ++ get_or objects j d ∷ [] = take-suc objects j d (subst (λ l. j < length l) same lt) in
      let mine : IsNext (get_or objects j d ∷ []) k sees x None =
      subst (λ q. IsNext (get_or objects j d ∷ []) k sees x q) is (subst (λ l. IsNext (get_or l j d ∷ []) k sees x r) same here) in
      rw (add-one, more) (goes_on (take j objects) (get_or objects j d) before mine)
