-- A name is under one object at most, so it is the name of one variable at most.
use Rattle.std.proofs.Common.{◌≡◌, ◌≢◌, ℕ, ◌<◌, List, [], ◌∷◌, ◌++◌, length, get_or, refl, sym, ◌∙◌, ap, subst, arith}
use Rattle.std.specs.Prelude.{Contains, Option, Some, None}
use Rattle.std.specs.declared.cmp.Ordering.TheVariants.{Less, Equal}
use Rattle.std.specs.Ordering.{nat_cmp}
use Rattle.std.proofs.lemmas.Cmp.{nat_list_cmp_total, by_ranked, ranked}
use Rattle.std.proofs.lemmas.List.{append_cancel_left, get_or_default}
use Rattle.mon_ber.specs.declared.value.Value.{Value}
use Rattle.mon_pdu.specs.declared.message.Binding.{Binding}
use Rattle.mon_mib.specs.declared.got.Got.{Got}
use Rattle.mon_mib.specs.declared.got.Got.TheVariants.{Found, NoObject, NoInstance}
use Rattle.mon_mib.specs.declared.object.Object.{Object}
use Rattle.mon_mib.specs.Objects.{prefix_of, objects}
use Rattle.mon_mib.specs.Order.{name_cmp}
use Rattle.mon_mib.specs.Known.{Known, instances, variable_value, variable}
use Rattle.mon_mib.specs.Next.{IsVariable, IsNext, IsGot}
use Rattle.mon_mib.specs.Shown.{IsServed}
use Rattle.mon_mib.proofs.Under.{objects_apart}
use Rattle.mon_mib.proofs.Starts.{apart}

-- ---- the order of names

pub itself : (x : List ℕ) → name_cmp x x ≢ Less
itself x is = let turned = nat_list_cmp_total.antisymm x x in cc

-- names of which neither comes first are one
pub same_name : (a b : List ℕ) → name_cmp a b ≢ Less → name_cmp b a ≢ Less → a ≡ b
same_name [] [] x y = refl
same_name [] (b ∷ bs) x y = absurd (x refl)
same_name (a ∷ cs) [] x y = absurd (y refl)
same_name (a ∷ cs) (b ∷ bs) x y = by_ranked (a < b) (a ≡ b) (b < a) (nat_cmp a b) (ranked a b (nat_cmp a b) refl)
    (λ less lt. absurd (x (rw less refl)))
    (λ equal e. heads e (same_name cs bs (λ rest. x (rw (equal, rest) refl)) (λ rest. y (behind e rest))))
    (λ greater gt. absurd (y (first gt)))
  where
    heads : {a b : ℕ} {cs bs : List ℕ} → a ≡ b → cs ≡ bs → a ∷ cs ≡ b ∷ bs
    heads e f = cc

    back : (a b : ℕ) → nat_cmp a b ≡ Equal → nat_cmp b a ≡ Equal
    back a b e = by_ranked (b < a) (b ≡ a) (a < b) (nat_cmp b a) (ranked b a (nat_cmp b a) refl)
        (λ less lt. absurd (turned a b e lt)) (λ equal f. equal) (λ greater gt. absurd (turned_back a b e gt))
      where
        turned : (a b : ℕ) → nat_cmp a b ≡ Equal → b < a → ⊥
        turned a b e lt = by_ranked (a < b) (a ≡ b) (b < a) (nat_cmp a b) (ranked a b (nat_cmp a b) refl) (λ r l. omega arith) (λ r l. omega arith) (λ r l. cc)

        turned_back : (a b : ℕ) → nat_cmp a b ≡ Equal → a < b → ⊥
        turned_back a b e lt = by_ranked (a < b) (a ≡ b) (b < a) (nat_cmp a b) (ranked a b (nat_cmp a b) refl) (λ r l. cc) (λ r l. omega arith) (λ r l. omega arith)

    behind : a ≡ b → name_cmp bs cs ≡ Less → name_cmp (b ∷ bs) (a ∷ cs) ≡ Less
    behind e rest = by_ranked (b < a) (b ≡ a) (a < b) (nat_cmp b a) (ranked b a (nat_cmp b a) refl)
        (λ less lt. rw less refl) (λ equal f. rw (equal, rest) refl) (λ greater gt. absurd (omega arith))

    first : b < a → name_cmp (b ∷ bs) (a ∷ cs) ≡ Less
    first gt = by_ranked (b < a) (b ≡ a) (a < b) (nat_cmp b a) (ranked b a (nat_cmp b a) refl)
        (λ less lt. rw less refl) (λ equal f. absurd (omega arith)) (λ greater gt2. absurd (omega arith))

-- ---- the object that a name is under

at_places : (i j : ℕ) (o q : Object) (rest others : List ℕ) → i < j → j < length objects → get_or objects i o ≡ o → get_or objects j q ≡ q
    → prefix_of o ++ rest ≢ prefix_of q ++ others
at_places i j o q rest others lt within is_o is_q same =
    let here : get_or objects j o ≡ q = get_or_default objects j o q within ∙ is_q in
    let less : name_cmp (prefix_of (get_or objects i o) ++ rest) (prefix_of (get_or objects j o) ++ others) ≡ Less =
    apart (prefix_of (get_or objects i o)) (prefix_of (get_or objects j o)) rest others (objects_apart i j o lt within) in
    let plain : name_cmp (prefix_of o ++ rest) (prefix_of q ++ others) ≡ Less = rw (is_o, here) at less in
    itself (prefix_of q ++ others) (rw same at plain)

pub one_object : (o q : Object) → Contains objects o → Contains objects q → (rest others : List ℕ)
    → prefix_of o ++ rest ≡ prefix_of q ++ others → o ≡ q
one_object o q (i, in_i, is_o) (j, in_j, is_q) rest others same =
    by_ranked (i < j) (i ≡ j) (j < i) (nat_cmp i j) (ranked i j (nat_cmp i j) refl)
    (λ _ lt. absurd (at_places i j o q rest others lt in_j is_o is_q same))
    (λ _ e. sym is_o ∙ (get_or_default objects i o q in_i ∙ (ap (λ n. get_or objects n q) e ∙ is_q)))
    (λ _ gt. absurd (at_places j i q o others rest gt in_i is_q is_o (sym same)))

module _ (k : Known) where
  -- a variable whose name is under an object is that object's, and its instance is what follows
  pub record IsAtRest (o : Object) (rest : List ℕ) (b : Binding) : Type 0 where
    pub instance : ℕ
    pub only : rest ≡ instance ∷ []
    pub there : Contains (instances k.held o) instance
    pub is : b ≡ variable k o instance

  pub at_rest : (o : Object) (rest : List ℕ) (b : Binding) → Contains objects o → b.name ≡ prefix_of o ++ rest → IsVariable objects k b
      → IsAtRest o rest b
  at_rest o rest b served same v =
      let named : b.name ≡ prefix_of v.object ++ v.instance ∷ [] = ap (λ (d : Binding). d.name) v.is in
      let one : v.object ≡ o = one_object v.object o v.served served (v.instance ∷ []) rest (sym named ∙ same) in
      record {
        instance = v.instance;
        only = append_cancel_left (prefix_of o) rest (v.instance ∷ []) (sym same ∙ (named ∙ ap (λ q. prefix_of q ++ v.instance ∷ []) one));
        there = subst (λ q. Contains (instances k.held q) v.instance) one v.there;
        is = v.is ∙ ap (λ q. variable k q v.instance) one;
      }

  pub one_variable : (a b : Binding) → IsVariable objects k a → IsVariable objects k b → a.name ≡ b.name → a ≡ b
  one_variable a b v w same =
      let named : b.name ≡ prefix_of w.object ++ w.instance ∷ [] = ap (λ (d : Binding). d.name) w.is in
      let at : IsAtRest w.object (w.instance ∷ []) a = at_rest w.object (w.instance ∷ []) a w.served (same ∙ named) v in
      let instance : w.instance ≡ at.instance = head_is at.only in
      at.is ∙ (ap (variable k w.object) (sym instance) ∙ sym w.is)
    where
      head_is : {i j : ℕ} → i ∷ [] ≡ j ∷ [] → i ≡ j
      head_is e = cc

  -- ---- what follows a name, and what is at it, is one thing

  pub one_next : (sees : List ℕ → Type 0) (x : List ℕ) (r s : Option Binding) → IsNext objects k sees x r → IsNext objects k sees x s → r ≡ s
  one_next sees x None None p q = refl
  one_next sees x None (Some b) p q = absurd (p b q.variable q.later)
  one_next sees x (Some a) None p q = absurd (q a p.variable p.later)
  one_next sees x (Some a) (Some b) p q =
      ap Some (one_variable a b p.variable q.variable (same_name a.name b.name (q.least a p.variable p.later) (p.least b q.variable q.later)))

  -- ---- Get

  pub found : (x : List ℕ) (o : Object) (i : ℕ) (v : Value) → Contains objects o → Contains (instances k.held o) i
      → x ≡ prefix_of o ++ i ∷ [] → v ≡ variable_value k o i → IsGot k x (Found v)
  found x o i v served there named is = record { object = o; instance = i; served = served; there = there; is = both named is }
    where
      both : x ≡ prefix_of o ++ i ∷ [] → v ≡ variable_value k o i → record { name = x; value = v } ≡ variable k o i
      both named is = rw (named, is) refl

  pub no_instance : (x : List ℕ) (o : Object) (rest : List ℕ) → Contains objects o → x ≡ prefix_of o ++ rest
      → ((i : ℕ) → rest ≡ i ∷ [] → Contains (instances k.held o) i → ⊥) → IsGot k x NoInstance
  no_instance x o rest served named none =
      (record { object = o; listed = served; under = (rest, named) }, λ b v same. let at : IsAtRest o rest b = at_rest o rest b served (same ∙ named) v in none at.instance at.only at.there)

  -- what is served there is what is at the name
  pub got_there : (x : List ℕ) (o : Object) (i : ℕ) (got : Got) → Contains objects o → x ≡ prefix_of o ++ i ∷ [] → IsServed k o i got → IsGot k x got
  got_there x o i (Found v) served named is = found x o i v served is.0 named is.1
  got_there x o i NoInstance served named none =
      no_instance x o (i ∷ []) served named (λ j same there. none (subst (Contains (instances k.held o)) (sym (head_is same)) there))
    where
      head_is : {i j : ℕ} → i ∷ [] ≡ j ∷ [] → i ≡ j
      head_is e = cc
  got_there x o i NoObject served named none = absurd none

  not_both : (x : List ℕ) (v : Value) → IsGot k x (Found v) → IsGot k x NoInstance → ⊥
  not_both x v p q = q.1 (record { name = x; value = v }) p refl

  not_under : (x : List ℕ) (v : Value) → IsGot k x (Found v) → IsGot k x NoObject → ⊥
  not_under x v p q = q (record { object = p.object; listed = p.served; under = (p.instance ∷ [], ap (λ (d : Binding). d.name) p.is) })

  pub one_got : (x : List ℕ) (r s : Got) → IsGot k x r → IsGot k x s → r ≡ s
  one_got x (Found v) (Found w) p q = ap Found (ap (λ (d : Binding). d.value) (one_variable (record { name = x; value = v }) (record { name = x; value = w }) p q refl))
  one_got x (Found v) NoInstance p q = absurd (not_both x v p q)
  one_got x (Found v) NoObject p q = absurd (not_under x v p q)
  one_got x NoInstance (Found w) p q = absurd (not_both x w q p)
  one_got x NoInstance NoInstance p q = refl
  one_got x NoInstance NoObject p q = absurd (q p.0)
  one_got x NoObject (Found w) p q = absurd (not_under x w q p)
  one_got x NoObject NoInstance p q = absurd (p q.0)
  one_got x NoObject NoObject p q = refl

pub single : (rest : List ℕ) → length rest ≡ 1 → rest ≡ get_or rest 0 0 ∷ []
single [] one = absurd (omega arith)
single (x ∷ []) one = refl
single (x ∷ y ∷ rest) one = absurd (omega arith)

pub not_single : (rest : List ℕ) (i : ℕ) → (length rest ≡ 1 → ⊥) → rest ≡ i ∷ [] → ⊥
not_single rest i other is = other (ap length is)
