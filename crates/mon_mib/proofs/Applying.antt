-- One interface of a list is replaced by another of its index.
use Rattle.std.proofs.Common.{zero, suc, ◌≡◌, ℕ, ◌<◌, Bool, true, false, cond, List, [], ◌∷◌, length, get_or, refl, sym, ◌∙◌, ap, subst, arith}
use Rattle.std.proofs.Math.ListN.{set}
use Rattle.std.proofs.Math.Path.{fun_ext}
use Rattle.std.specs.Prelude.{Option, Some, Result, Ok, Err, OnErr, Contains, AllPairs, nat_eq}
use Rattle.std.proofs.lemmas.Bool.{eqb-true}
use Rattle.std.proofs.lemmas.Bool.Decides.{nat_tests}
use Rattle.std.proofs.lemmas.List.{get_or-map, length-map}
use Rattle.mon_mib.specs.declared.interface.Interface.{Interface}
use Rattle.mon_mib.specs.declared.status.Status.{Status}
use Rattle.mon_mib.specs.declared.facts.Facts.{Facts}
use Rattle.mon_mib.specs.declared.facts.SysText.{SysText}
use Rattle.mon_mib.specs.declared.facts.IfText.{IfText}
use Rattle.mon_mib.specs.declared.facts.IfText.TheVariants.{Descr, Phys, ShortName, Alias}
use Rattle.mon_mib.specs.declared.admin_status.AdminStatus.{AdminStatus}
use Rattle.mon_mib.specs.declared.sys_texts.SysTexts.{SysTexts}
use Rattle.mon_mib.specs.declared.change.Change.{Change}
use Rattle.mon_mib.specs.declared.change.Change.TheVariants as set_to
use Rattle.mon_mib.specs.Change.{changed, undoing, put, same_text}
use Rattle.mon_mib.specs.Held.{Held, AreIndexes}
use Rattle.mon_mib.specs.Sim.{IsPlaceOfIndex, Sim, indexes_of, interface_at, sim_status, text_of, fixed_of, sim_facts, held_of, sys_text_of}

-- ---- the list with the other

pub same_indexes : (ps : List Interface) (i k : ℕ) (q : Interface) → IsPlaceOfIndex ps i k → q.index ≡ i → indexes_of (set ps k q) ≡ indexes_of ps
same_indexes [] i k q at e = refl
same_indexes (p ∷ ps) i zero q at e = ap (λ n. n ∷ indexes_of ps) (e ∙ sym (at.is p))
same_indexes (p ∷ ps) i (suc k) q at e = ap (λ ns. p.index ∷ ns) (same_indexes ps i k q (record { within = omega (arith, at.within); is = at.is }) e)

tail_rises : (x : ℕ) (xs : List ℕ) → AllPairs (λ i j. i < j) (x ∷ xs) → AllPairs (λ i j. i < j) xs
tail_rises x xs all = λ i j d lt within. all (suc i) (suc j) d (omega arith) (omega arith)

over_head : (p : Interface) (ps : List Interface) (i k : ℕ) → AllPairs (λ i j. i < j) (indexes_of (p ∷ ps)) → IsPlaceOfIndex ps i k → p.index < i
over_head p ps i k rising at =
    let within : k < length (indexes_of ps) = subst (λ n. k < n) (sym (length-map ps (λ (q : Interface). q.index))) at.within in
    let over : p.index < get_or (indexes_of ps) k 0 = rising zero (suc k) 0 (omega arith) (omega arith) in
    subst (λ n. p.index < n) (get_or-map (λ (q : Interface). q.index) ps k p 0 at.within ∙ at.is p) over

twice : {X : Type 0} (b : Bool) (x y r : X) → cond b x r ≡ cond b x (cond b y r)
twice true x y r = refl
twice false x y r = refl

swapped : {X : Type 0} (a b : Bool) (x y r : X) → (a ≡ true → b ≡ true → ⊥) → cond a x (cond b y r) ≡ cond b y (cond a x r)
swapped true true x y r not_both = absurd (not_both refl refl)
swapped true false x y r not_both = refl
swapped false b x y r not_both = refl

two_indexes : (n i j : ℕ) → n < i → nat_eq n j ≡ true → nat_eq i j ≡ true → ⊥
two_indexes n i j lt a b = grind (arith, nat_tests)

pub after : (ps : List Interface) (i k : ℕ) (q : Interface) → AllPairs (λ i j. i < j) (indexes_of ps) → IsPlaceOfIndex ps i k → q.index ≡ i
    → (j : ℕ) → interface_at (set ps k q) j ≡ cond (nat_eq i j) (Some q) (interface_at ps j)
after [] i k q rising at e j = absurd (omega (arith, at.within))
after (p ∷ ps) i zero q rising at e j = same e (at.is p)
  where
    same : q.index ≡ i → p.index ≡ i
        → cond (nat_eq q.index j) (Some q) (interface_at ps j) ≡ cond (nat_eq i j) (Some q) (cond (nat_eq p.index j) (Some p) (interface_at ps j))
    same e f = ap (λ n. cond (nat_eq n j) (Some q) (interface_at ps j)) e
        ∙ (twice (nat_eq i j) (Some q) (Some p) (interface_at ps j) ∙ ap (λ n. cond (nat_eq i j) (Some q) (cond (nat_eq n j) (Some p) (interface_at ps j))) (sym f))
after (p ∷ ps) i (suc k) q rising at e j =
    let rest : IsPlaceOfIndex ps i k = record { within = omega (arith, at.within); is = at.is } in
    ap (λ r. cond (nat_eq p.index j) (Some p) r) (after ps i k q (tail_rises p.index (indexes_of ps) rising) rest e j)
    ∙ swapped (nat_eq p.index j) (nat_eq i j) (Some p) (Some q) (interface_at ps j) (two_indexes p.index i j (over_head p ps i k rising rest))

itself : (n : ℕ) → nat_eq n n ≡ true
itself n = grind (arith, nat_tests)

other_index : (n i : ℕ) → n < i → nat_eq n i ≡ false
other_index n i lt = grind (arith, nat_tests)

pub here : (ps : List Interface) (i k : ℕ) (d : Interface) → AllPairs (λ i j. i < j) (indexes_of ps) → IsPlaceOfIndex ps i k → interface_at ps i ≡ Some (get_or ps k d)
here [] i k d rising at = absurd (omega (arith, at.within))
here (p ∷ ps) i zero d rising at = ap (λ b. cond b (Some p) (interface_at ps i)) (ap (λ n. nat_eq n i) (at.is p) ∙ itself i)
here (p ∷ ps) i (suc k) d rising at =
    let rest : IsPlaceOfIndex ps i k = record { within = omega (arith, at.within); is = at.is } in
    ap (λ b. cond b (Some p) (interface_at ps i)) (other_index p.index i (over_head p ps i k rising rest)) ∙ here ps i k d (tail_rises p.index (indexes_of ps) rising) rest

pub there : (ps : List Interface) (i k : ℕ) → IsPlaceOfIndex ps i k → Contains (indexes_of ps) i
there [] i k at = absurd (omega (arith, at.within))
there (p ∷ ps) i k at = (k, subst (λ n. k < n) (sym (length-map (p ∷ ps) (λ (q : Interface). q.index))) at.within, get_or-map (λ (q : Interface). q.index) (p ∷ ps) k p i at.within ∙ at.is p)

-- ---- what the device holds then

abbrev held : List ℕ → (SysText → List ℕ) → (ℕ → Status) → (ℕ → List ℕ) → (ℕ → IfText → List ℕ) → (ℕ → ℕ → Facts) → Held
held is sys status alias fixed numbers = record { indexes = is; sys_text = sys; status = status; alias = alias; fixed_text = fixed; numbers = numbers }

same_held : {is js : List ℕ} {sys : SysText → List ℕ} {s t : ℕ → Status} {a b : ℕ → List ℕ} {f g : ℕ → IfText → List ℕ} {n m : ℕ → ℕ → Facts}
    → is ≡ js → s ≡ t → a ≡ b → f ≡ g → n ≡ m → held is sys s a f n ≡ held js sys t b g m
same_held e1 e2 e3 e4 e5 = cc

abbrev each : {X : Type 0} → (Option Interface → X) → List Interface → ℕ → X
each f ps j = f (interface_at ps j)

module _ (sim : Sim) (i k : ℕ) (p q : Interface) (are : AreIndexes (indexes_of sim.interfaces)) (at : IsPlaceOfIndex sim.interfaces i k)
    (was : p ≡ get_or sim.interfaces k p) (index : q.index ≡ p.index) where
  named : q.index ≡ i
  named = index ∙ (ap (λ (r : Interface). r.index) was ∙ at.is p)

  found : interface_at sim.interfaces i ≡ Some p
  found = here sim.interfaces i k p are.rising at ∙ ap Some (sym was)

  unchanged : {X : Type 0} (f : Option Interface → X) → f (Some q) ≡ f (Some p)
      → each f (set sim.interfaces k q) ≡ each f sim.interfaces
  unchanged f e = fun_ext (λ j. ap f (after sim.interfaces i k q are.rising at named j) ∙ by_test j (nat_eq i j) refl)
    where
      by_test : (j : ℕ) (b : Bool) → nat_eq i j ≡ b → f (cond b (Some q) (interface_at sim.interfaces j)) ≡ f (interface_at sim.interfaces j)
      by_test j true t = e ∙ ap f (sym found ∙ ap (interface_at sim.interfaces) (eqb-true i j t))
      by_test j false t = refl

  changed_at : {X : Type 0} (f : Option Interface → X)
      → each f (set sim.interfaces k q) ≡ put nat_eq i (f (Some q)) (each f sim.interfaces)
  changed_at f = fun_ext (λ j. ap f (after sim.interfaces i k q are.rising at named j) ∙ by_test j (nat_eq i j))
    where
      by_test : (j : ℕ) (b : Bool) → f (cond b (Some q) (interface_at sim.interfaces j)) ≡ cond b (f (Some q)) (f (interface_at sim.interfaces j))
      by_test j true = refl
      by_test j false = refl

  pub set_indexes : AreIndexes (indexes_of (set sim.interfaces k q))
  set_indexes = subst AreIndexes (sym (same_indexes sim.interfaces i k q at named)) are

  pub status_made : (s : Status) → q ≡ record p { status = s }
      → held_of (record sim { interfaces = set sim.interfaces k q }) ≡ changed (set_to.Admin i s.admin s.since) (held_of sim)
  status_made s is = same_held (same_indexes sim.interfaces i k q at named)
      (changed_at sim_status ∙ ap (λ v. put nat_eq i v (each sim_status sim.interfaces)) (ap (λ (r : Interface). r.status) is))
      (unchanged (λ r. text_of r Alias) (ap (λ (r : Interface). r.alias) is))
      (unchanged fixed_of (fun_ext (λ w. fixed w)))
      (unchanged sim_facts (fun_ext (λ m. ap (λ (r : Interface). sim_facts (Some r) m) is)))
    where
      fixed : (w : IfText) → fixed_of (Some q) w ≡ fixed_of (Some p) w
      fixed Descr = ap (λ (r : Interface). r.descr) is
      fixed Phys = ap (λ (r : Interface). r.phys) is
      fixed ShortName = ap (λ (r : Interface). r.name) is
      fixed Alias = refl

  pub alias_made : (text : List ℕ) → q ≡ record p { alias = text }
      → held_of (record sim { interfaces = set sim.interfaces k q }) ≡ changed (set_to.Alias i text) (held_of sim)
  alias_made text is = same_held (same_indexes sim.interfaces i k q at named)
      (unchanged sim_status (ap (λ (r : Interface). r.status) is))
      (changed_at (λ r. text_of r Alias) ∙ ap (λ v. put nat_eq i v (each (λ r. text_of r Alias) sim.interfaces)) (ap (λ (r : Interface). r.alias) is))
      (unchanged fixed_of (fun_ext (λ w. fixed w)))
      (unchanged sim_facts (fun_ext (λ m. ap (λ (r : Interface). sim_facts (Some r) m) is)))
    where
      fixed : (w : IfText) → fixed_of (Some q) w ≡ fixed_of (Some p) w
      fixed Descr = ap (λ (r : Interface). r.descr) is
      fixed Phys = ap (λ (r : Interface). r.phys) is
      fixed ShortName = ap (λ (r : Interface). r.name) is
      fixed Alias = refl

  pub was_status : sim_status (interface_at sim.interfaces i) ≡ p.status
  was_status = ap sim_status found

  pub was_alias : text_of (interface_at sim.interfaces i) Alias ≡ p.alias
  was_alias = ap (λ r. text_of r Alias) found

-- ---- the same over what the code has

abbrev sim_of : List Interface → SysTexts → ℕ → Sim
sim_of ps texts failures = record { interfaces = ps; texts = texts; failures = failures }

module _ (ps : List Interface) (texts : SysTexts) (failures : ℕ) (middle sim : Sim) (i k : ℕ) (p q : Interface) (c : Change)
    (view : sim_of ps texts failures ≡ middle) (same : middle ≡ sim) (are : AreIndexes (indexes_of ps))
    (place : IsPlaceOfIndex sim.interfaces i k) (was : p ≡ get_or ps k p) where
  at : IsPlaceOfIndex ps i k
  at = subst (λ (s : Sim). IsPlaceOfIndex s.interfaces i k) (sym (view ∙ same)) place

  pub still_indexes : q.index ≡ p.index → AreIndexes (indexes_of (set ps k q))
  still_indexes e = set_indexes (sim_of ps texts failures) i k p q are at was e

  pub admin_made : (s : Status) → q ≡ record p { status = s } → c ≡ set_to.Admin i s.admin s.since
      → held_of (sim_of (set ps k q) texts failures) ≡ changed c (held_of sim)
  admin_made s is change = status_made (sim_of ps texts failures) i k p q are at was (ap (λ (r : Interface). r.index) is) s is
      ∙ (ap (λ z. changed (set_to.Admin i s.admin s.since) (held_of z)) (view ∙ same) ∙ ap (λ d. changed d (held_of sim)) (sym change))

  pub alias_is_made : (text : List ℕ) → q ≡ record p { alias = text } → c ≡ set_to.Alias i text
      → held_of (sim_of (set ps k q) texts failures) ≡ changed c (held_of sim)
  alias_is_made text is change = alias_made (sim_of ps texts failures) i k p q are at was (ap (λ (r : Interface). r.index) is) text is
      ∙ (ap (λ z. changed (set_to.Alias i text) (held_of z)) (view ∙ same) ∙ ap (λ d. changed d (held_of sim)) (sym change))

  pub admin_undo : (s : Status) (t : AdminStatus) (n : ℕ) → s ≡ p.status → c ≡ set_to.Admin i t n → set_to.Admin i s.admin s.since ≡ undoing c (held_of sim)
  admin_undo s t n e change =
      ap (λ (z : Status). set_to.Admin i z.admin z.since) (e ∙ sym (was_status (sim_of ps texts failures) i k p p are at was refl))
      ∙ (ap (λ z. undoing (set_to.Admin i t n) (held_of z)) (view ∙ same) ∙ ap (λ d. undoing d (held_of sim)) (sym change))

  pub alias_undo : (text other : List ℕ) → text ≡ p.alias → c ≡ set_to.Alias i other → set_to.Alias i text ≡ undoing c (held_of sim)
  alias_undo text other e change =
      ap (λ z. set_to.Alias i z) (e ∙ sym (was_alias (sim_of ps texts failures) i k p p are at was refl))
      ∙ (ap (λ z. undoing (set_to.Alias i other) (held_of z)) (view ∙ same) ∙ ap (λ d. undoing d (held_of sim)) (sym change))

  pub is_there : Contains (indexes_of sim.interfaces) i
  is_there = subst (λ (s : Sim). Contains (indexes_of s.interfaces) i) (view ∙ same) (there ps i k at)

pub text_made : (ps : List Interface) (old new : SysTexts) (failures : ℕ) (sim : Sim) (c : Change) (which : SysText) (text : List ℕ)
    → sim_of ps old failures ≡ sim → sys_text_of new ≡ put same_text which text (sys_text_of old) → c ≡ set_to.SysText which text
    → held_of (sim_of ps new failures) ≡ changed c (held_of sim)
text_made ps old new failures sim c which text view is change =
    ap (λ f. held (indexes_of ps) f (each sim_status ps) (each (λ r. text_of r Alias) ps) (each fixed_of ps) (each sim_facts ps)) is
    ∙ (ap (λ z. changed (set_to.SysText which text) (held_of z)) view ∙ ap (λ d. changed d (held_of sim)) (sym change))

abbrev pub failures_of : Sim → ℕ
failures_of sim = sim.failures

pub on_err : {A E : Type 0} {P : Type 0} (r : Result A E) → P → OnErr r P
on_err (Ok a) p = tt
on_err (Err e) p = p
