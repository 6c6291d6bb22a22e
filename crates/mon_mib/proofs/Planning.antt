-- Going over the bindings of a Set plans the last of each name.
use Rattle.std.proofs.Common.{◌≡◌, ◌≢◌, ℕ, ◌+◌, ◌<◌, ◌≤◌, true, false, List, [], ◌∷◌, ◌++◌, length, get_or, take, drop, refl, sym, ◌∙◌, ap, subst, arith, inl, inr}
use Rattle.std.specs.Prelude.{Bool, IsTrue, ◌↔◌, ◌⊎◌, Result, Ok, Err, IfOk, Contains, All, AllPairs, Any, IsSomeAnd, nat_eq}
use Rattle.std.specs.Borrow.{Bor}
use Rattle.std.specs.BTreeMap.{BTreeMap}
use Rattle.std.proofs.lemmas.Bool.{false≢true}
use Rattle.std.proofs.lemmas.Bool.Decides.{nat_tests}
use Rattle.std.proofs.lemmas.List.{take_all, get_or_default, take_more}
use Rattle.std.proofs.lemmas.List.Elements.{All-push, Contains-push, Contains-append_left}
use Rattle.std.proofs.lemmas.List.Quantifiers.{all_pairs_push}
use Rattle.mon_ber.specs.declared.value.Value.{Value}
use Rattle.mon_pdu.specs.declared.message.Binding.{Binding}
use Rattle.mon_mib.specs.declared.change.Change.{Change}
use Rattle.mon_mib.specs.declared.change.Change.TheVariants as set
use Rattle.mon_mib.specs.declared.facts.SysText.{SysText}
use Rattle.mon_mib.specs.declared.facts.SysText.TheVariants.{Contact, SystemName, Location}
use Rattle.mon_mib.specs.declared.object.Object.{Object}
use Rattle.mon_mib.specs.declared.object.Object.TheVariants as served
use Rattle.mon_mib.specs.declared.planned_change.PlannedChange.{PlannedChange}
use Rattle.mon_mib.specs.Assignment.{IsChange, IsAskedChange, IsLast, IsNumberedAssignment, IsSetPlan, AreApart, scalar_of}
use Rattle.mon_mib.specs.Change.{same_target, same_text}
use Rattle.mon_mib.specs.Known.{Known, instances}
use Rattle.mon_mib.specs.LastPlaces.{AreLastPlaces, place_of}
use Rattle.mon_mib.specs.Objects.{prefix_of}
use Rattle.mon_mib.specs.Refusal.{IsAccepted}
use Rattle.mon_mib.specs.Tried.{IsPlannedTo}
use Rattle.mon_mib.proofs.Lasting.{later}
use Rattle.mon_mib.proofs.Under.{one}

-- ---- two names, two targets

differs : {a : SysText} {b : SysText} → same_text a b ≡ true → a ≡ b
differs {a = Contact} {b = Contact} e = refl
differs {a = Contact} {b = SystemName} e = cc
differs {a = Contact} {b = Location} e = cc
differs {a = SystemName} {b = Contact} e = cc
differs {a = SystemName} {b = SystemName} e = refl
differs {a = SystemName} {b = Location} e = cc
differs {a = Location} {b = Contact} e = cc
differs {a = Location} {b = SystemName} e = cc
differs {a = Location} {b = Location} e = refl

same_index : (i j : ℕ) → nat_eq i j ≡ true → i ≡ j
same_index i j e = grind (arith, nat_tests)

module _ (k : Known) where
  zero_instance : (which : SysText) (o : Object) (i : ℕ) → o ≡ served.Scalar (scalar_of which) → Contains (instances k.held o) i → i ≡ 0
  zero_instance which o i e at = one 0 i (subst (λ q. Contains (instances k.held q) i) e at)

  one_target : (o q : Object) (i j : ℕ) (v w : Value) (c d : Change) → Contains (instances k.held o) i → Contains (instances k.held q) j
      → IsChange k o i v c → IsChange k q j w d → same_target c d ≡ true → (o ≡ q) × (i ≡ j)
  one_target o q i j v w (set.SysText a text) (set.SysText b other) at also is was e =
      (is.0 ∙ (ap (λ t. served.Scalar (scalar_of t)) (differs e) ∙ sym was.0), zero_instance a o i is.0 at ∙ sym (zero_instance b q j was.0 also))
  one_target o q i j v w (set.SysText a text) (set.Admin n t m) at also is was e = cc
  one_target o q i j v w (set.SysText a text) (set.Alias n other) at also is was e = cc
  one_target o q i j v w (set.Admin n s l) (set.SysText b other) at also is was e = cc
  one_target o q i j v w (set.Admin n s l) (set.Admin m t r) at also is was e = (is.0 ∙ sym was.0, sym is.1 ∙ (same_index n m e ∙ was.1))
  one_target o q i j v w (set.Admin n s l) (set.Alias m other) at also is was e = cc
  one_target o q i j v w (set.Alias n text) (set.SysText b other) at also is was e = cc
  one_target o q i j v w (set.Alias n text) (set.Admin m t r) at also is was e = cc
  one_target o q i j v w (set.Alias n text) (set.Alias m other) at also is was e = (is.0 ∙ sym was.0, sym is.1 ∙ (same_index n m e ∙ was.1))

  two_targets : (a b : Binding) (c d : Change) → IsAskedChange k a c → IsAskedChange k b d → b.name ≢ a.name → same_target c d ≡ false
  two_targets a b c d is was other = by_test (same_target c d) refl
    where
      by_test : (t : Bool) → same_target c d ≡ t → t ≡ false
      by_test true e =
          let at : (is.object ≡ was.object) × (is.instance ≡ was.instance) =
          one_target is.object was.object is.instance was.instance a.value b.value c d is.there was.there is.is was.is e in
          absurd (other (was.named ∙ (sym (ap (λ q. prefix_of q ++ was.instance ∷ []) at.0) ∙ (sym (ap (λ n. prefix_of is.object ++ n ∷ []) at.1) ∙ sym is.named))))
      by_test false e = refl

  pub apart : (bs : List Binding) (steps : List PlannedChange) → AllPairs (λ s t. s.index < t.index) steps → All (IsNumberedAssignment k bs) steps → AreApart steps
  apart bs steps rising each i j d lt within =
      let s : IsNumberedAssignment k bs (get_or steps i d) = each i d (omega arith) in
      let t : IsNumberedAssignment k bs (get_or steps j d) = each j d within in
      let up : (get_or steps i d).index < (get_or steps j d).index = rising i j d lt within in
      two_targets s.binding t.binding (get_or steps i d).change (get_or steps j d).change s.assigns t.assigns
      (λ same. s.last.last (later bs s.place t.place t.binding (λ c. c.name ≡ s.binding.name) (before s.place t.place (get_or steps i d).index (get_or steps j d).index s.number t.number up) t.last.within t.last.is same))
    where
      before : (p q n m : ℕ) → n ≡ p + 1 → m ≡ q + 1 → n < m → p < q
      before p q n m e f lt = omega arith

  -- ---- one binding more

  module _ (sees : List ℕ → Type 0) (bs : List Binding) (n : ℕ) (steps : List PlannedChange) (b : Binding) (c : Change) (to : IsPlannedTo k sees bs n steps)
      (within : n < length bs) (is : get_or bs n b ≡ b) (judged : IsAccepted k sees b × IsAskedChange k b c) where
    more_accepted : All (IsAccepted k sees) (take (n + 1) bs)
    more_accepted = rw (take_more bs n b within) (All-push (IsAccepted k sees) (take n bs) (get_or bs n b) to.accepted (subst (IsAccepted k sees) (sym is) judged.0))

    weaker : All (λ (s : PlannedChange). s.index ≤ n + 1) steps
    weaker i d lt = let le : (get_or steps i d).index ≤ n = to.below i d lt in omega arith

    pub planned : ¬ (Any (λ c. c.name ≡ b.name) (drop (n + 1) bs)) → IsPlannedTo k sees bs (n + 1) (steps ++ record { index = n + 1; change = c } ∷ [])
    planned last =
        let step : PlannedChange = record { index = n + 1; change = c } in
        let is_last : IsLast bs n b = record { within = within; is = is; last = last } in
        record {
          accepted = more_accepted;
          below = All-push (λ (s : PlannedChange). s.index ≤ n + 1) steps step weaker (omega arith);
          rising = all_pairs_push (λ (s t : PlannedChange). s.index < t.index) steps step to.rising (λ i d lt. let le : (get_or steps i d).index ≤ n = to.below i d lt in omega arith);
          each = All-push (IsNumberedAssignment k bs) steps step to.each (record { place = n; binding = b; last = is_last; number = refl; assigns = judged.1 });
          all = all step;
        }
      where
        all : (step : PlannedChange) (j : ℕ) (a : Binding) → j < n + 1 → IsLast bs j a → (s : PlannedChange) × Contains (steps ++ record { index = n + 1; change = c } ∷ []) s × (s.index ≡ j + 1)
        all step j a lt last = elim (split j lt) [
          | inl less ↦ let r : (s : PlannedChange) × Contains steps s × (s.index ≡ j + 1) = to.all j a less last in
              (r.0, Contains-append_left steps (record { index = n + 1; change = c } ∷ []) r.0 r.1, r.2)
          | inr same ↦ (record { index = n + 1; change = c }, Contains-push steps (record { index = n + 1; change = c }), ap (λ m. m + 1) (sym same))
        ]
          where
            split : (j : ℕ) → j < n + 1 → (j < n) ⊎ (j ≡ n)
            split j lt = grind arith

    pub passed : Any (λ c. c.name ≡ b.name) (drop (n + 1) bs) → IsPlannedTo k sees bs (n + 1) steps
    passed again = record {
      accepted = more_accepted;
      below = weaker;
      rising = to.rising;
      each = to.each;
      all = λ j a lt last. elim (split j lt) [
        | inl less ↦ to.all j a less last
        | inr same ↦ absurd (last.last (subst (λ (m : ℕ). Any (λ (c : Binding). c.name ≡ a.name) (drop (m + 1) bs)) (sym same) (subst (λ (e : Binding). Any (λ (c : Binding). c.name ≡ e.name) (drop (n + 1) bs)) (same_binding a j same last.is) again)))
      ];
    }
      where
        split : (j : ℕ) → j < n + 1 → (j < n) ⊎ (j ≡ n)
        split j lt = grind arith

        same_binding : (a : Binding) (j : ℕ) → j ≡ n → get_or bs j a ≡ a → b ≡ a
        same_binding a j same at = sym is ∙ (get_or_default bs n b a within ∙ (ap (λ m. get_or bs m a) (sym same) ∙ at))

    -- what the last place of its name says of a binding
    module _ (places : BTreeMap (Bor (List ℕ)) ℕ) (last : AreLastPlaces bs places) (r : Bool) (items : List PlannedChange)
        (exact : IsTrue r ↔ IsSomeAnd (place_of places b.name) (λ p. n < p)) where
      pub planned_when : r ≡ false → items ≡ steps ++ record { index = n + 1; change = c } ∷ [] → IsPlannedTo k sees bs (n + 1) items
      planned_when no_later e = subst (IsPlannedTo k sees bs (n + 1)) (sym e)
          (planned (λ again. false≢true (sym no_later ∙ exact.1 ((last b.name n).1 again))))

      pub passed_when : r ≡ true → items ≡ steps → IsPlannedTo k sees bs (n + 1) items
      passed_when some e = subst (IsPlannedTo k sees bs (n + 1)) (sym e) (passed ((last b.name n).0 (exact.0 some)))

  pub finished : (sees : List ℕ → Type 0) (bs : List Binding) (n : ℕ) (steps : List PlannedChange) → length bs ≤ n → IsPlannedTo k sees bs n steps → IsSetPlan k bs steps
  finished sees bs n steps le to = record { rising = to.rising; each = to.each; all = λ j b last. to.all j b (omega (arith, last.within)) last }

  pub all_accepted : (sees : List ℕ → Type 0) (bs : List Binding) (n : ℕ) (steps : List PlannedChange) → length bs ≤ n → IsPlannedTo k sees bs n steps → All (IsAccepted k sees) bs
  all_accepted sees bs n steps le to = subst (All (IsAccepted k sees)) (take_all n bs le) to.accepted

pub plan_made : {E : Type 0} (k : Known) (bs : List Binding) (steps : List PlannedChange) (r : Result (List PlannedChange) E) → IfOk r (λ plan. plan ≡ steps) → IsSetPlan k bs steps
    → IfOk r (λ plan. IsSetPlan k bs plan)
plan_made k bs steps (Ok plan) is made = subst (IsSetPlan k bs) (sym is) made
plan_made k bs steps (Err e) is made = tt

pub on_ok : {A E : Type 0} {P : Type 0} (r : Result A E) → P → IfOk r (λ _. P)
on_ok (Ok a) p = p
on_ok (Err e) p = tt
