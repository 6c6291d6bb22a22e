-- Each watched instance has one number.
use Rattle.std.proofs.Common.{ℕ, zero, suc, ◌≡◌, ◌<◌, ◌∙◌, List, [], ◌∷◌, length, get_or, Some, refl, sym, ap, subst, arith}
use Rattle.std.specs.Prelude.{slice_get}
use Rattle.std.specs.List.{AllByRecursion}
use Rattle.std.specs.List.Sorted.{IsStrictlySortedBy}
use Rattle.std.specs.Ordering.{nat_cmp, ordering_then, is_eq}
use Rattle.std.specs.declared.cmp.Ordering.TheVariants.{Less, Equal}
use Rattle.std.specs.Cmp.Lexicographic.{slice_cmp, nat_list_cmp_total}
use Rattle.std.proofs.lemmas.Cmp.{tied_itself}
use Rattle.std.proofs.lemmas.Bool.{true≢false}
use Rattle.mon_board.specs.declared.instance.Instance.{Instance}
use Rattle.mon_board.specs.Instance.{instance_cmp, instances_of, named}
use Rattle.mon_board.specs.Watch.{Watch, IsWatch}
use Rattle.mon_exchange.specs.Peers.{IsWatchedAs}
use Rattle.mon_station.specs.Told.{instance_at}

same_list : (xs : List ℕ) → slice_cmp nat_cmp xs xs ≡ Equal
same_list xs = tied_itself nat_list_cmp_total xs

itself : (v : Instance) → instance_cmp v v ≡ Equal
unfolding instance_cmp
itself v = (λ k. ordering_then (same_list v.engine k) (same_list v.name k))

not_below : (v : Instance) → instance_cmp v v ≡ Less → ⊥
not_below v less = true≢false (ap is_eq (sym (itself v) ∙ less))

below_at : (v : Instance) (xs : List Instance) (j : ℕ) → AllByRecursion (λ y. instance_cmp v y ≡ Less) xs → slice_get xs j ≡ Some v → ⊥
below_at v [] j all is = cc
below_at v (x ∷ xs) zero all is = let same : x ≡ v = cc in not_below v (subst (λ (y : Instance). instance_cmp v y ≡ Less) same all.0)
below_at v (x ∷ xs) (suc j) all is = below_at v xs j all.1 is

one_of_list : (v : Instance) (xs : List Instance) (i j : ℕ) → IsStrictlySortedBy instance_cmp xs → slice_get xs i ≡ Some v → slice_get xs j ≡ Some v → i ≡ j
unfolding IsStrictlySortedBy
one_of_list v [] i j sorted is as_well = cc
one_of_list v (x ∷ xs) zero zero sorted is as_well = refl
one_of_list v (x ∷ xs) zero (suc j) sorted is as_well =
    let same : x ≡ v = cc in
    absurd (below_at v xs j (subst (λ (y : Instance). AllByRecursion (λ z. instance_cmp y z ≡ Less) xs) same sorted.0) as_well)
one_of_list v (x ∷ xs) (suc i) zero sorted is as_well =
    let same : x ≡ v = cc in
    absurd (below_at v xs i (subst (λ (y : Instance). AllByRecursion (λ z. instance_cmp y z ≡ Less) xs) same sorted.0) is)
one_of_list v (x ∷ xs) (suc i) (suc j) sorted is as_well = ap suc (one_of_list v xs i j sorted.1 is as_well)

pub one_number : (watch : Watch) → IsWatch watch → (engine name : List ℕ) (i j : ℕ) → IsWatchedAs watch engine name i → IsWatchedAs watch engine name j → i ≡ j
one_number watch are engine name i j is as_well = one_of_list (named engine name) (instances_of watch.instances) i j are.listed.rising is as_well

get_there : (xs : List Instance) (i : ℕ) (d : Instance) → i < length xs → slice_get xs i ≡ Some (get_or xs i d)
get_there [] i d lt = absurd (omega (arith, lt))
get_there (x ∷ xs) zero d lt = refl
get_there (x ∷ xs) (suc i) d lt = get_there xs i d (omega (arith, lt))

-- the instance of a number has that number
pub number_of : (watch : Watch) (i : ℕ) → i < length (instances_of watch.instances) → IsWatchedAs watch (instance_at watch i).engine (instance_at watch i).name i
number_of watch i lt = get_there (instances_of watch.instances) i (named [] []) lt
