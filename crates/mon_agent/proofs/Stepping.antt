-- The answer to each name in a GetNext is found: the variables are a finite list, and of those that
-- are searched for one is least.
use Rattle.std.proofs.Common.{◌≡◌, ◌≢◌, ℕ, zero, suc, List, [], ◌∷◌, Contains, ◌⊎◌, ◌↔◌, inl, inr, refl, sym, subst, arith}
use Rattle.std.specs.declared.cmp.Ordering.{Ordering}
use Rattle.std.specs.declared.cmp.Ordering.TheVariants.{Less, Equal, Greater}
use Rattle.std.proofs.lemmas.Cmp.{nat_list_cmp_total, tied_itself}
use Rattle.mon_pdu.specs.declared.message.Binding.{Binding}
use Rattle.mon_mib.specs.Known.{Known, vars}
use Rattle.mon_mib.specs.Next.{IsVariable, IsLater}
use Rattle.mon_mib.specs.Objects.{objects}
use Rattle.mon_mib.specs.Order.{name_cmp}
use Rattle.mon_agent.specs.Bulk.{IsStepper}
use Rattle.mon_agent.specs.Step.{IsNextAnswer, at_end}

-- it holds, or it doesn't
abbrev pub OrNot : Type 0 → Type 0
OrNot P = P ⊎ (¬ P)

-- ---- the order of names

is_less : (o : Ordering) → OrNot (o ≡ Less)
is_less Less = inl refl
is_less Equal = inr (λ e. cc)
is_less Greater = inr (λ e. cc)

itself : (x : List ℕ) → name_cmp x x ≢ Less
itself x is = let tied : name_cmp x x ≡ Equal = tied_itself nat_list_cmp_total x in cc

-- ---- the least of those in a list that are searched for

head_or_rest : {X : Type 0} (x y : X) (xs : List X) → Contains (x ∷ xs) y → (x ≡ y) ⊎ Contains xs y
head_or_rest x y xs (zero, lt, is) = inl is
head_or_rest x y xs (suc k, lt, is) = inr (k, omega arith, is)

at_head : {X : Type 0} (x : X) (xs : List X) → Contains (x ∷ xs) x
at_head x xs = (0, omega arith, refl)

behind : {X : Type 0} (x y : X) (xs : List X) → Contains xs y → Contains (x ∷ xs) y
behind x y xs (k, lt, is) = (suc k, omega arith, is)

module _ (P : Binding → Type 0) where
  record IsLowest (bs : List Binding) (b : Binding) : Type 0 where
    pub listed : Contains bs b
    pub wanted : P b
    pub lowest : (c : Binding) → Contains bs c → P c → name_cmp c.name b.name ≢ Less

  abbrev AreNone : List Binding → Type 0
  AreNone bs = (c : Binding) → Contains bs c → P c → ⊥

  -- the first is not searched for
  passed : (b : Binding) (bs : List Binding) → ¬ (P b) → (a : Binding) → IsLowest bs a → IsLowest (b ∷ bs) a
  passed b bs not_it a is = record {
    listed = behind b a bs is.listed;
    wanted = is.wanted;
    lowest = λ c at wanted. elim (head_or_rest b c bs at) [
      | inl same ↦ absurd (not_it (subst P (sym same) wanted))
      | inr rest ↦ is.lowest c rest wanted
    ];
  }

  still_none : (b : Binding) (bs : List Binding) → ¬ (P b) → AreNone bs → AreNone (b ∷ bs)
  still_none b bs not_it none c at wanted = elim (head_or_rest b c bs at) [
    | inl same ↦ not_it (subst P (sym same) wanted)
    | inr rest ↦ none c rest wanted
  ]

  -- the first is searched for, and none behind it
  alone : (b : Binding) (bs : List Binding) → P b → AreNone bs → IsLowest (b ∷ bs) b
  alone b bs it none = record {
    listed = at_head b bs;
    wanted = it;
    lowest = λ c at wanted. elim (head_or_rest b c bs at) [
      | inl same ↦ subst (λ (d : Binding). name_cmp d.name b.name ≢ Less) same (itself b.name)
      | inr rest ↦ absurd (none c rest wanted)
    ];
  }

  -- the first is searched for, and is below the lowest of the others
  lower : (b : Binding) (bs : List Binding) → P b → (a : Binding) → IsLowest bs a → name_cmp b.name a.name ≡ Less → IsLowest (b ∷ bs) b
  lower b bs it a is less = record {
    listed = at_head b bs;
    wanted = it;
    lowest = λ c at wanted. elim (head_or_rest b c bs at) [
      | inl same ↦ subst (λ (d : Binding). name_cmp d.name b.name ≢ Less) same (itself b.name)
      | inr rest ↦ (λ below. is.lowest c rest wanted (nat_list_cmp_total.trans c.name b.name a.name below less))
    ];
  }

  -- the first is searched for, and is not below the lowest of the others
  stays : (b : Binding) (bs : List Binding) (a : Binding) → IsLowest bs a → name_cmp b.name a.name ≢ Less → IsLowest (b ∷ bs) a
  stays b bs a is not_less = record {
    listed = behind b a bs is.listed;
    wanted = is.wanted;
    lowest = λ c at wanted. elim (head_or_rest b c bs at) [
      | inl same ↦ subst (λ (d : Binding). name_cmp d.name a.name ≢ Less) same not_less
      | inr rest ↦ is.lowest c rest wanted
    ];
  }

  abbrev Lowest : List Binding → Type 0
  Lowest bs = ((b : Binding) × IsLowest bs b) ⊎ AreNone bs

  one_more : (b : Binding) (bs : List Binding) → OrNot (P b) → Lowest bs → Lowest (b ∷ bs)
  one_more b bs (inr not_it) (inl found) = inl (found.0, passed b bs not_it found.0 found.1)
  one_more b bs (inr not_it) (inr none) = inr (still_none b bs not_it none)
  one_more b bs (inl it) (inr none) = inl (b, alone b bs it none)
  one_more b bs (inl it) (inl (a, is)) = elim (is_less (name_cmp b.name a.name)) [
    | inl less ↦ inl (b, lower b bs it a is less)
    | inr not_less ↦ inl (a, stays b bs a is not_less)
  ]

  lowest : ((b : Binding) → OrNot (P b)) → (bs : List Binding) → Lowest bs
  lowest each [] = inr (λ c at wanted. let lt = at.1 in omega arith)
  lowest each (b ∷ bs) = one_more b bs (each b) (lowest each bs)

-- ---- the variable that follows a name

module _ (k : Known) (sees : List ℕ → Type 0) (seen : (name : List ℕ) → OrNot (sees name))
    (listed : (b : Binding) → Contains (vars k) b ↔ IsVariable objects k b) where
  later : (name : List ℕ) (b : Binding) → OrNot (IsLater sees name b)
  later name b = by (is_less (name_cmp name b.name)) (seen b.name)
    where
      by : OrNot (name_cmp name b.name ≡ Less) → OrNot (sees b.name) → OrNot (IsLater sees name b)
      by (inl less) (inl in_view) = inl (record { beyond = less; in_view = in_view })
      by (inl less) (inr hidden) = inr (λ is. hidden is.in_view)
      by (inr not_less) _ = inr (λ is. not_less is.beyond)

  step : (name : List ℕ) → (b : Binding) × IsNextAnswer k sees name b
  step name = elim (lowest (IsLater sees name) (later name) (vars k)) [
    | inl found ↦ (
      found.0,
      inl (record {
        variable = (listed found.0).0 found.1.listed;
        later = found.1.wanted;
        least = λ c v wanted. found.1.lowest c ((listed c).1 v) wanted;
      }),
    )
    | inr none ↦ (at_end name, inr ((λ c v wanted. none c ((listed c).1 v) wanted), refl))
  ]

  pub stepper : (next : List ℕ → Binding) × IsStepper k sees next
  stepper = ((λ name. (step name).0), λ name. (step name).1)
