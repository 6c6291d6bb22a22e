-- Following a word's parents yields what the word means.
use Rattle.std.proofs.Common.{◌≡◌, ◌↔◌, ℕ, zero, suc, ◌-◌, ◌<◌, ◌≤◌, true, false, eqb, List, [], ◌∷◌, ◌++◌, length, drop, sym, refl, ap, ◌∙◌, subst, arith, length-drop, Option, Some, None, option_map, inl, inr}
use Rattle.std.specs.Prelude.{option_and_then}
use Rattle.std.specs.List.{AllByRecursion, IsDistinct, list_any}
use Rattle.std.specs.Str.{bytes_eq}
use Rattle.std.proofs.lemmas.Bool.{cases_Bool, eqb-true}
use Rattle.std.proofs.lemmas.List.{get_or_default}
use Rattle.std.proofs.lemmas.Map.Steps.{length-le_from_distinct_below}
use Rattle.std.proofs.lemmas.Slice.Eq.{bytes_eq-Decides}
use Rattle.mon_smi.specs.declared.definition.Definition.{Definition}
use Rattle.mon_smi.specs.Names.{IsAt, AreDistinct, IsOneOf, Leads, chain_numbers, StandsFor}
use Rattle.mon_smi.specs.Parents.{definition_of, numbers_up, numbers_of}
use Rattle.mon_smi.proofs.Unique.{one_definition, one_chain, from_member}

-- what a search finds is a definition of that name
after_first : (x : Definition) (xs : List Definition) (d : Definition) → IsOneOf xs d → IsOneOf (x ∷ xs) d
after_first x xs d one = let within : one.0 < length xs = one.1.0 in (suc one.0, (omega arith, one.1.1))

pub definition_found : (defs : List Definition) (w : List ℕ) (d : Definition) → definition_of defs w ≡ Some d → IsOneOf defs d × (d.name ≡ w)
definition_found [] w d h = absurd cc
definition_found (x ∷ xs) w d h =
    elim (cases_Bool (bytes_eq x.name w)) [
      | inl same_name ↦
          let found : Some x ≡ Some d = rw same_name at h in
          let same : x ≡ d = cc in
          ((0, (omega arith, sym same)), ap (λ (e : Definition). e.name) (sym same) ∙ (bytes_eq-Decides x.name w).0 same_name)
      | inr other_name ↦
          let later : definition_of xs w ≡ Some d = rw other_name at h in
          let more = definition_found xs w d later in
          (after_first x xs d more.0, more.1)
    ]

-- where there is one, one is found
some_found : (defs : List Definition) (w : List ℕ) (i : ℕ) (d : Definition) → IsAt defs i d → d.name ≡ w → (e : Definition) × (definition_of defs w ≡ Some e)
some_found [] w i d at named = let none : i < 0 = at.0 in absurd (omega arith)
some_found (x ∷ xs) w zero d at named =
    let same : d ≡ x = at.1 in
    let same_name : bytes_eq x.name w ≡ true = (bytes_eq-Decides x.name w).1 (ap (λ (e : Definition). e.name) (sym same) ∙ named) in
    (x, rw same_name)
some_found (x ∷ xs) w (suc i) d at named =
    elim (cases_Bool (bytes_eq x.name w)) [
      | inl same_name ↦ (x, rw same_name)
      | inr other_name ↦
          let within : suc i < length (x ∷ xs) = at.0 in
          let more = some_found xs w i d (omega arith, at.1) named in
          (more.0, rw other_name more.1)
    ]

pub definition_is : (defs : List Definition) (w : List ℕ) (d : Definition) → AreDistinct defs → IsOneOf defs d → d.name ≡ w → definition_of defs w ≡ Some d
definition_is defs w d distinct one named =
    let some = some_found defs w one.0 d one.1 named in
    let found = definition_found defs w some.0 some.1 in
    some.1 ∙ ap Some (one_definition defs some.0 d distinct found.0 one (found.1 ∙ sym named))

-- the numbers are those of a chain that ends
abbrev Given : List Definition → Option (List ℕ) → List ℕ → Type 0
Given defs o q = (chain : List Definition) × Leads defs o chain None × (q ≡ chain_numbers chain)

no_more : (defs : List Definition) (q : List ℕ) → (let r : Option (List ℕ) = Some [] in r) ≡ Some q → Given defs None q
no_more defs q h = ([], refl, cc)

one_up : (defs : List Definition) (w q : List ℕ) (d : Definition) (above : Option (List ℕ)) → IsOneOf defs d → d.name ≡ w
    → ((p : List ℕ) → above ≡ Some p → Given defs d.parent p) → option_map (λ p. p ++ d.numbers) above ≡ Some q → Given defs (Some w) q
one_up defs w q d None one named more h = absurd cc
one_up defs w q d (Some p) one named more h =
    let rest = more p refl in
    let is : p ++ d.numbers ≡ q = cc in
    (d ∷ rest.0, (one, named, rest.1), sym is ∙ ap (λ l. l ++ d.numbers) rest.2)

up_from : (n : ℕ) (defs : List Definition) (w q : List ℕ) (o : Option Definition) → definition_of defs w ≡ o
    → ((d : Definition) (p : List ℕ) → numbers_up n defs d.parent ≡ Some p → Given defs d.parent p)
    → option_and_then (λ d. option_map (λ above. above ++ d.numbers) (numbers_up n defs d.parent)) o ≡ Some q → Given defs (Some w) q
up_from n defs w q None is more h = absurd cc
up_from n defs w q (Some d) is more h =
    let found = definition_found defs w d is in
    one_up defs w q d (numbers_up n defs d.parent) found.0 found.1 (more d) h

up_sound : (n : ℕ) (defs : List Definition) (o : Option (List ℕ)) (q : List ℕ) → numbers_up n defs o ≡ Some q → Given defs o q
up_sound zero defs None q h = no_more defs q h
up_sound zero defs (Some w) q h = absurd cc
up_sound (suc n) defs None q h = no_more defs q h
up_sound (suc n) defs (Some w) q h = up_from n defs w q (definition_of defs w) refl (λ d p. up_sound n defs d.parent p) h

-- this many steps are enough
up_complete : (n : ℕ) (defs : List Definition) (o : Option (List ℕ)) (chain : List Definition) → AreDistinct defs → length chain ≤ n → Leads defs o chain None
    → numbers_up n defs o ≡ Some (chain_numbers chain)
up_complete zero defs None [] distinct few leads = refl
up_complete (suc n) defs None [] distinct few leads = refl
up_complete n defs None (d ∷ ds) distinct few leads = absurd leads
up_complete n defs (Some w) [] distinct few leads = absurd cc
up_complete zero defs (Some w) (d ∷ ds) distinct few leads = absurd (omega arith)
up_complete (suc n) defs (Some w) (d ∷ ds) distinct few leads =
    let found = definition_is defs w d distinct leads.0 leads.1 in
    let more = up_complete n defs d.parent ds distinct (omega arith) leads.2 in
    ap (option_and_then (λ e. option_map (λ above. above ++ e.numbers) (numbers_up n defs e.parent))) found ∙ ap (option_map (λ above. above ++ d.numbers)) more

-- the places of a chain's definitions
places : (defs : List Definition) (o : Option (List ℕ)) (chain : List Definition) → Leads defs o chain None → List ℕ
places defs o [] leads = []
places defs None (d ∷ ds) leads = absurd leads
places defs (Some w) (d ∷ ds) leads = leads.0.0 ∷ places defs d.parent ds leads.2

as_many : (defs : List Definition) (o : Option (List ℕ)) (chain : List Definition) (leads : Leads defs o chain None) → length (places defs o chain leads) ≡ length chain
unfolding places
as_many defs None [] leads = refl
as_many defs (Some w) [] leads = refl
as_many defs None (d ∷ ds) leads = absurd leads
as_many defs (Some w) (d ∷ ds) leads = ap suc (as_many defs d.parent ds leads.2)

-- at each of these places is a definition of the chain
abbrev Stands : List Definition → List Definition → ℕ → Type 0
Stands defs chain p = (k : ℕ) × (e : Definition) × IsAt chain k e × IsAt defs p e

stands : (defs : List Definition) (o : Option (List ℕ)) (chain : List Definition) (leads : Leads defs o chain None) (p : ℕ) → list_any (eqb p) (places defs o chain leads) ≡ true → Stands defs chain p
unfolding places
stands defs None [] leads p h = absurd cc
stands defs (Some w) [] leads p h = absurd cc
stands defs None (d ∷ ds) leads p h = absurd leads
stands defs (Some w) (d ∷ ds) leads p h =
    elim (cases_Bool (eqb p leads.0.0)) [
      | inl same_name ↦
          let here : p ≡ leads.0.0 = eqb-true p leads.0.0 same_name in
          (0, d, (omega arith, refl), subst (λ i. IsAt defs i d) (sym here) leads.0.1)
      | inr other_name ↦
          let later : list_any (eqb p) (places defs d.parent ds leads.2) ≡ true = rw other_name at h in
          let (k, e, there, at) = stands defs d.parent ds leads.2 p later in
          let within : k < length ds = there.0 in
          (suc k, e, (omega arith, there.1), at)
    ]

-- a definition of a chain that ends does not come again
once : (defs : List Definition) (w : List ℕ) (d : Definition) (ds : List Definition) → AreDistinct defs → (leads : Leads defs (Some w) (d ∷ ds) None) → Stands defs ds leads.0.0 → ⊥
once defs w d ds distinct leads (k, e, there, at) =
    let same : d ≡ e = leads.0.1.1 ∙ get_or_default defs leads.0.0 d e leads.0.1.0 ∙ sym at.1 in
    let within : k < length ds = there.0 in
    let all : Leads defs (Some d.name) (d ∷ ds) None = (leads.0, refl, leads.2) in
    let again : Leads defs (Some d.name) (drop (suc k) (d ∷ ds)) None =
    from_member defs (Some w) (d ∷ ds) None (suc k) d leads (omega arith, same ∙ there.1 ∙ get_or_default ds k e d within) in
    let long : length (d ∷ ds) ≡ length (drop (suc k) (d ∷ ds)) = ap length (one_chain defs (Some d.name) (d ∷ ds) (drop (suc k) (d ∷ ds)) distinct all again) in
    let left : length (drop (suc k) (d ∷ ds)) ≡ length (d ∷ ds) - suc k = length-drop (suc k) (d ∷ ds) in
    omega arith

none_alike : (p : ℕ) (xs : List ℕ) → (list_any (eqb p) xs ≡ true → ⊥) → AllByRecursion (λ y. eqb p y ≡ false) xs
none_alike p [] none = tt
none_alike p (x ∷ xs) none =
    elim (cases_Bool (eqb p x)) [
      | inl alike ↦ absurd (none (rw alike))
      | inr other ↦ (other, none_alike p xs (λ h. none (rw (other, h))))
    ]

apart : (defs : List Definition) (o : Option (List ℕ)) (chain : List Definition) → AreDistinct defs → (leads : Leads defs o chain None) → IsDistinct eqb (places defs o chain leads)
unfolding places IsDistinct
apart defs None [] distinct leads = tt
apart defs (Some w) [] distinct leads = tt
apart defs None (d ∷ ds) distinct leads = absurd leads
apart defs (Some w) (d ∷ ds) distinct leads =
    (none_alike leads.0.0 (places defs d.parent ds leads.2) (λ h. once defs w d ds distinct leads (stands defs d.parent ds leads.2 leads.0.0 h)), apart defs d.parent ds distinct leads.2)

pub few_steps : (defs : List Definition) (w : List ℕ) (chain : List Definition) → AreDistinct defs → Leads defs (Some w) chain None → length chain ≤ length defs
few_steps defs w chain distinct leads =
    let few = length-le_from_distinct_below (places defs (Some w) chain leads) (length defs) (apart defs (Some w) chain distinct leads)
    (λ p h. let (k, e, there, at) = stands defs (Some w) chain leads p h in at.0) in
    omega (arith, few, as_many defs (Some w) chain leads)

pub numbers_are : (defs : List Definition) (w q : List ℕ) → AreDistinct defs → (numbers_of defs w ≡ Some q) ↔ StandsFor defs w q
unfolding numbers_of
numbers_are defs w q distinct = (
  λ h. up_sound (length defs) defs (Some w) q h,
  λ (chain, leads, is). up_complete (length defs) defs (Some w) chain distinct (few_steps defs w chain distinct leads) leads ∙ ap Some (sym is),
)
