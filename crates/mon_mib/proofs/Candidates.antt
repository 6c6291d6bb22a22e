-- The one object that a name can be under, found by halving the list of the objects.
use Rattle.std.proofs.Common.{suc, ◌≡◌, ◌≢◌, ℕ, ◌+◌, ◌-◌, ◌<◌, ◌≤◌, Bool, true, false, List, [], ◌∷◌, ◌++◌, length, take, drop, get_or, refl, sym, ◌∙◌, ap, subst, arith}
use Rattle.std.specs.List.{AllWithin}
use Rattle.std.specs.List.Sorted.{IsPartitionedBy, IsPartitionPoint}
use Rattle.std.specs.Prelude.{Option, Some, None, Contains}
use Rattle.std.specs.declared.cmp.Ordering.{Ordering}
use Rattle.std.specs.declared.cmp.Ordering.TheVariants.{Less, Equal, Greater}
use Rattle.std.specs.Ordering.{nat_cmp, is_le}
use Rattle.std.proofs.lemmas.Cmp.{nat_list_cmp_total, alike_right, by_ranked, ranked}
use Rattle.std.proofs.lemmas.List.{append-nil, get_or_default, get_or-take, get_or-drop, length-take, length-drop, take_all}
use Rattle.mon_oid.specs.Oid.{IsPrefix}
use Rattle.mon_pdu.specs.declared.message.Binding.{Binding}
use Rattle.mon_mib.specs.declared.object.Object.{Object}
use Rattle.mon_mib.specs.Known.{Known}
use Rattle.mon_mib.specs.Objects.{objects, prefix_of}
use Rattle.mon_mib.specs.Order.{name_cmp}
use Rattle.mon_mib.specs.Next.{IsNext, IsLeast}
use Rattle.mon_mib.proofs.Under.{objects_apart, equal_then, goes_on_at, stops_at}
use Rattle.mon_mib.proofs.Starts.{apart}
use Rattle.mon_mib.proofs.Unique.{itself}

-- ---- the order of names

-- the object's own name is at most the name
abbrev pub is_reached : List ℕ → Object → Bool
is_reached x o = is_le (name_cmp (prefix_of o) x)

below : (a b c : List ℕ) → name_cmp a b ≡ Less → is_le (name_cmp b c) ≡ true → name_cmp a c ≡ Less
below a b c lt le = by_case (name_cmp b c) refl le
  where
    by_case : (o : Ordering) → name_cmp b c ≡ o → is_le o ≡ true → name_cmp a c ≡ Less
    by_case Less e le = nat_list_cmp_total.trans a b c lt e
    by_case Equal e le = sym (alike_right nat_list_cmp_total b c a e) ∙ lt
    by_case Greater e le = cc

over : (a b : List ℕ) → is_le (name_cmp a b) ≡ false → name_cmp b a ≡ Less
over a b no_le = by_case (name_cmp a b) refl no_le
  where
    by_case : (o : Ordering) → name_cmp a b ≡ o → is_le o ≡ false → name_cmp b a ≡ Less
    by_case Less e le = cc
    by_case Equal e le = cc
    by_case Greater e le = let turned = nat_list_cmp_total.antisymm b a in rw e at turned

-- a name with numbers behind it does not come before that name
pub not_shorter : (p rest : List ℕ) → name_cmp (p ++ rest) p ≢ Less
not_shorter [] [] is = cc
not_shorter [] (x ∷ rest) is = cc
not_shorter (n ∷ p) rest is = not_shorter p rest (sym (equal_then n _) ∙ is)

-- ---- the objects before a place and those behind it

-- an object's names come before all that a later object's own name does not exceed
passed : (i j : ℕ) (d : Object) (x rest : List ℕ) → i < j → j < length objects → is_reached x (get_or objects j d) ≡ true
    → name_cmp (prefix_of (get_or objects i d) ++ rest) x ≡ Less
passed i j d x rest lt within reached =
    let q = prefix_of (get_or objects j d) in
    let ahead : name_cmp (prefix_of (get_or objects i d) ++ rest) (q ++ []) ≡ Less =
    apart (prefix_of (get_or objects i d)) q rest [] (objects_apart i j d lt within) in
    below (prefix_of (get_or objects i d) ++ rest) q x (subst (λ b. name_cmp (prefix_of (get_or objects i d) ++ rest) b ≡ Less) (append-nil q) ahead) reached

some_object : 0 < length objects
unfolding objects
some_object = omega arith

partitioned : (x : List ℕ) → IsPartitionedBy (is_reached x) objects
partitioned x i j d le within reached = by_ranked (i < j) (i ≡ j) (j < i) (nat_cmp i j) (ranked i j (nat_cmp i j) refl)
    (λ r lt. at_most (subst (λ p. name_cmp p x ≡ Less) (append-nil (prefix_of (get_or objects i d))) (passed i j d x [] lt within reached)))
    (λ r same. subst (λ n. is_reached x (get_or objects n d) ≡ true) (sym same) reached) (λ r gt. absurd (omega arith))
  where
    at_most : {o : Ordering} → o ≡ Less → is_le o ≡ true
    at_most e = rw e refl

pub parted : (x : List ℕ) (items : List Object) → items ≡ objects → IsPartitionedBy (is_reached x) items
parted x items same = subst (IsPartitionedBy (is_reached x)) (sym same) (partitioned x)

-- the place of the last object that is reached, or 0
module _ (x : List ℕ) (items : List Object) (n place : ℕ) (same : items ≡ objects) (bound : n ≤ length items) (is : place ≡ n - 1) where
  pub within : place < length objects
  within = let most = subst (λ l. n ≤ length l) same bound in omega (arith, some_object)

  pub earlier : IsPartitionPoint (λ o. is_reached x o ≡ true) (λ o. is_reached x o ≡ false) items n
      → AllWithin (λ o. (rest : List ℕ) → name_cmp (prefix_of o ++ rest) x ≡ Less) objects 0 place
  earlier point k d low lt rest =
      let most = subst (λ l. n ≤ length l) same bound in
      passed k (suc k) d x rest (omega arith) (omega arith) (subst (λ l. is_reached x (get_or l (suc k) d) ≡ true) same (point.0 (suc k) d (omega arith) (omega arith)))

  pub later : IsPartitionPoint (λ o. is_reached x o ≡ true) (λ o. is_reached x o ≡ false) items n
      → AllWithin (λ o. name_cmp x (prefix_of o) ≡ Less) objects (place + 1) (length objects)
  later point k d low lt =
      over (prefix_of (get_or objects k d)) x
      (subst (λ l. is_reached x (get_or l k d) ≡ false) same (point.1 k d (omega arith) (subst (λ l. k < length l) (sym same) lt)))

-- the place of an object that the name is under
module _ (x : List ℕ) (items : List Object) (guess : ℕ) (d : Object) (same : items ≡ objects) (room : guess < length items)
    (is : IsPrefix (prefix_of (get_or items guess d)) x) where
  within_guess : guess < length objects
  within_guess = subst (λ l. guess < length l) same room

  named : prefix_of (get_or objects guess d) ++ is.0 ≡ x
  named = ap (λ l. prefix_of (get_or l guess d) ++ is.0) (sym same) ∙ is.1

  pub earlier_at : AllWithin (λ o. (rest : List ℕ) → name_cmp (prefix_of o ++ rest) x ≡ Less) objects 0 guess
  earlier_at k e low lt rest =
      subst (λ n. name_cmp (prefix_of (get_or objects k e) ++ rest) n ≡ Less)
      (ap (λ o. prefix_of o ++ is.0) (get_or_default objects guess e d within_guess) ∙ named)
      (apart (prefix_of (get_or objects k e)) (prefix_of (get_or objects guess e)) rest is.0 (objects_apart k guess e lt within_guess))

  pub later_at : AllWithin (λ o. name_cmp x (prefix_of o) ≡ Less) objects (guess + 1) (length objects)
  later_at k e low lt =
      subst (λ n. name_cmp n (prefix_of (get_or objects k e)) ≡ Less)
      (ap (λ o. prefix_of o ++ is.0) (get_or_default objects guess e d within_guess) ∙ named)
      (subst (λ n. name_cmp (prefix_of (get_or objects guess e) ++ is.0) n ≡ Less) (append-nil (prefix_of (get_or objects k e)))
      (apart (prefix_of (get_or objects guess e)) (prefix_of (get_or objects k e)) is.0 [] (objects_apart guess k e (omega arith) lt)))

-- ---- going over the objects from a place on

abbrev pub from_place : List Object → ℕ → List Object
from_place os place = take (length os - place) (drop place os)

from_length : (os : List Object) (place : ℕ) → length (from_place os place) ≡ length os - place
from_length os place = let dropped = length-drop place os in length-take (length os - place) (drop place os) ∙ (rw dropped (omega arith))

from_at : (os : List Object) (place j : ℕ) (d : Object) → j < length os - place → get_or (from_place os place) j d ≡ get_or os (place + j) d
from_at os place j d lt = get_or-take (length os - place) (drop place os) j d lt ∙ get_or-drop place os j d

module _ (k : Known) (sees : List ℕ → Type 0) (x : List ℕ) where
  pub starts : (place : ℕ) → place < length objects → AllWithin (λ o. (rest : List ℕ) → name_cmp (prefix_of o ++ rest) x ≡ Less) objects 0 place
      → IsNext (take (place + 0) objects) k sees x None
  starts place within before c v later = by_place v.served
    where
      by_place : Contains (take (place + 0) objects) v.object → ⊥
      by_place (i, lt, at) =
          let low : i < place = omega (arith, length-take (place + 0) objects) in
          let here : get_or objects i v.object ≡ v.object = sym (get_or-take (place + 0) objects i v.object (omega arith)) ∙ at in
          let named : c.name ≡ prefix_of v.object ++ v.instance ∷ [] = ap (λ (b : Binding). b.name) v.is in
          let less : name_cmp (prefix_of v.object ++ v.instance ∷ []) x ≡ Less =
          subst (λ o. name_cmp (prefix_of o ++ v.instance ∷ []) x ≡ Less) here (before i v.object (omega arith) low (v.instance ∷ [])) in
          itself x (nat_list_cmp_total.trans x (prefix_of v.object ++ v.instance ∷ []) x (subst (λ n. name_cmp x n ≡ Less) named later.beyond) less)

  pub goes_on_from : (os : List Object) (place j : ℕ) (d : Object) (r : Option Binding) → j < length (from_place os place) → os ≡ objects
      → IsNext (take (place + j) objects) k sees x None → r ≡ None → IsNext (get_or (from_place os place) j d ∷ []) k sees x r
      → IsNext (take (place + (j + 1)) objects) k sees x None
  goes_on_from os place j d r lt same before is here =
      let room : j < length os - place = subst (λ n. j < n) (from_length os place) lt in
      let at : IsNext (get_or os (place + j) d ∷ []) k sees x r = subst (λ o. IsNext (o ∷ []) k sees x r) (from_at os place j d room) here in
      let further : place + j + 1 ≡ place + (j + 1) = omega arith in
      subst (λ n. IsNext (take n objects) k sees x None) further (goes_on_at k sees x os (place + j) d r (omega arith) same before is at)

  pub stops_from : (os : List Object) (place j : ℕ) (d : Object) (r : Option Binding) (b : Binding) → j < length (from_place os place) → os ≡ objects
      → IsNext (take (place + j) objects) k sees x None → r ≡ Some b → IsNext (get_or (from_place os place) j d ∷ []) k sees x r → IsLeast objects k sees x b
  stops_from os place j d r b lt same before is here =
      let room : j < length os - place = subst (λ n. j < n) (from_length os place) lt in
      let at : IsNext (get_or os (place + j) d ∷ []) k sees x r = subst (λ o. IsNext (o ∷ []) k sees x r) (from_at os place j d room) here in
      stops_at k sees x os (place + j) d r b (omega arith) same before is at

  pub ends_from : (os : List Object) (place j : ℕ) → length (from_place os place) ≤ j → os ≡ objects
      → IsNext (take (place + j) objects) k sees x None → IsNext objects k sees x None
  ends_from os place j le same before =
      let all : length os ≤ place + j = omega (arith, from_length os place) in
      subst (λ l. IsNext l k sees x None) (take_all (place + j) objects (subst (λ l. length l ≤ place + j) same all)) before
