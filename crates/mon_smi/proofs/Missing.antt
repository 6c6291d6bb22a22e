-- Chains of parents that end at a name without a definition.
use Rattle.std.proofs.Common.{◌≡◌, ℕ, suc, ◌+◌, ◌<◌, ◌≤◌, List, [], ◌∷◌, ◌++◌, length, get_or, Option, Some, None, Bor, refl, ap, ◌∙◌, subst, arith, length-append}
use Rattle.std.specs.Prelude.{IfSome, IfNone}
use Rattle.mon_smi.specs.declared.definition.Definition.{Definition}
use Rattle.mon_smi.specs.BuiltIn.{rooted}
use Rattle.mon_smi.specs.Names.{IsAt, AreDistinct, Leads, chain_numbers, IsNamed, EndsAt, EndsUndefined}
use Rattle.mon_smi.proofs.Chains.{distinct_push, leads_on, next_chain, one_of_end, one_of_more}
use Rattle.mon_smi.proofs.Standing.{few_steps}
use Rattle.mon_smi.proofs.Unique.{not_lost, rest_of}

-- a chain is one among more definitions
leads_among : (defs : List Definition) (x : Definition) (w : Option (List ℕ)) (chain : List Definition) (end : Option (List ℕ)) → Leads defs w chain end → Leads (defs ++ x ∷ []) w chain end
leads_among defs x w [] end leads = leads
leads_among defs x None (d ∷ ds) end leads = leads
leads_among defs x (Some w) (d ∷ ds) end leads = (one_of_more defs x d leads.0, leads.1, leads_among defs x d.parent ds end leads.2)

-- a chain that has more definitions than there are does not end at a name without one
no_end : (defs : List Definition) (w n : List ℕ) (front : List Definition) → AreDistinct defs → Leads defs (Some w) front (Some n) → length defs < length front → EndsUndefined defs w → ⊥
no_end defs w n front distinct leads long (p, (chain, ends, undefined)) =
    let root : Definition = rooted p [] in
    let apart : AreDistinct (defs ++ root ∷ []) = distinct_push defs root distinct undefined in
    let whole : Leads (defs ++ root ∷ []) (Some w) (chain ++ root ∷ []) None = leads_on (defs ++ root ∷ []) (Some w) chain p root (leads_among defs root (Some w) chain (Some p) ends) (one_of_end defs root) refl in
    let few : length (chain ++ root ∷ []) ≤ length (defs ++ root ∷ []) = few_steps (defs ++ root ∷ []) w (chain ++ root ∷ []) apart whole in
    let rest = rest_of (defs ++ root ∷ []) (Some w) front (chain ++ root ∷ []) (Some n) apart (leads_among defs root (Some w) front (Some n) leads) whole in
    go (defs ++ root ∷ []) (length-append defs (root ∷ [])) (chain ++ root ∷ []) few rest.0 rest.1 rest.2
  where
    go : (all : List Definition) → length all ≡ length defs + 1 → (whole : List Definition) → length whole ≤ length all → (rest : List Definition) → Leads all (Some n) rest None → whole ≡ front ++ rest → ⊥
    go all size whole few [] more is = absurd (cc)
    go all size whole few (r ∷ rs) more is = let sum : length whole ≡ length front + suc (length rs) = ap length is ∙ length-append front (r ∷ rs) in absurd (omega arith)

-- a chain to this name, and how many definitions it leaves
abbrev pub IsOnTheWay : List Definition → List ℕ → List ℕ → ℕ → Type 0
IsOnTheWay defs w n left = (chain : List Definition) × Leads defs (Some w) chain (Some n) × (length chain + left ≡ length defs)

pub on_the_way : (defs : List Definition) (w : List ℕ) → IsOnTheWay defs w w (length defs)
on_the_way defs w = ([], refl, omega arith)

module _ (defs : List Definition) (w n : List ℕ) (left i : ℕ) (x : Definition) (way : IsOnTheWay defs w n left) (found : (d : Definition) × IsAt defs i d × (d.name ≡ n)) (is : x ≡ get_or defs i x) where
  next : Leads defs (Some w) (way.0 ++ x ∷ []) x.parent
  next = next_chain defs w way.0 n i x way.1 found is

  -- the way goes on to the parent
  pub goes_on : (m : List ℕ) (less : ℕ) → x.parent ≡ Some m → less + 1 ≡ left → IsOnTheWay defs w m less
  goes_on m less parent one = (
    way.0 ++ x ∷ [],
    subst (λ (o : Option (List ℕ)). Leads defs (Some w) (way.0 ++ x ∷ []) o) parent next,
    let sum = way.2 in omega (arith, length-append way.0 (x ∷ [])),
  )

  -- it ended at a definition with no parent
  pub ends_well : AreDistinct defs → x.parent ≡ None → EndsUndefined defs w → ⊥
  ends_well distinct parent lost =
      not_lost defs w (chain_numbers (way.0 ++ x ∷ [])) distinct (way.0 ++ x ∷ [], subst (λ (o : Option (List ℕ)). Leads defs (Some w) (way.0 ++ x ∷ []) o) parent next, refl) lost

  -- it has each definition, and goes on
  pub goes_round : (m : List ℕ) → AreDistinct defs → x.parent ≡ Some m → left ≡ 0 → EndsUndefined defs w → ⊥
  goes_round m distinct parent none lost =
      no_end defs w m (way.0 ++ x ∷ []) distinct (subst (λ (o : Option (List ℕ)). Leads defs (Some w) (way.0 ++ x ∷ []) o) parent next)
      (let sum = way.2 in omega (arith, length-append way.0 (x ∷ []))) lost

-- what is missing for the word of a text is missing for its name
pub missing_for : (r : Option (Bor (List ℕ))) (defs all : List Definition) (text word : List ℕ) → defs ≡ all → ((w rest : List ℕ) → IsNamed text w rest → word ≡ w)
    → IfSome r (λ p. EndsAt defs word p.now) → IfSome r (λ p. (w rest : List ℕ) → IsNamed text w rest → EndsAt all w p.now)
missing_for None defs all text word same names some = tt
missing_for (Some p) defs all text word same names some = λ w rest named.
    subst (λ (v : List ℕ). EndsAt all v p.now) (names w rest named) (subst (λ (ds : List Definition). EndsAt ds word p.now) same some)

-- and if nothing is missing for the one, nothing is for the other
pub none_missing : (r : Option (Bor (List ℕ))) (defs all : List Definition) (text word : List ℕ) → defs ≡ all → ((w rest : List ℕ) → IsNamed text w rest → word ≡ w)
    → IfNone r (¬ (EndsUndefined defs word)) → IfNone r ((w rest : List ℕ) → IsNamed text w rest → ¬ (EndsUndefined all w))
none_missing (Some p) defs all text word same names none = tt
none_missing None defs all text word same names none = λ w rest named.
    subst (λ (v : List ℕ). ¬ (EndsUndefined all v)) (names w rest named) (subst (λ (ds : List Definition). ¬ (EndsUndefined ds word)) same none)
