-- What covers an identifier, and the order of what does.
use Rattle.std.proofs.Common.{◌⊎◌, ◌≡◌, ◌≢◌, ℕ, ◌-◌, ◌<◌, ◌≤◌, List, [], ◌∷◌, ◌++◌, length, sym, refl, ap, ◌∙◌, subst, arith, append-nil, Option, Some, None, ⊎_elim, inl, inr, length-append}
use Rattle.std.specs.Prelude.{IfSome, IfNone}
use Rattle.std.specs.Ordering.{nat_cmp}
use Rattle.std.specs.Cmp.Lexicographic.{slice_cmp}
use Rattle.std.specs.declared.cmp.Ordering.{Ordering}
use Rattle.std.specs.declared.cmp.Ordering.TheVariants.{Less, Equal, Greater}
use Rattle.std.proofs.lemmas.Cmp.{nat_list_cmp_total}
use Rattle.mon_oid.specs.Oid.{IsOid}
use Rattle.mon_smi.specs.declared.definition.Definition.{Definition}
use Rattle.mon_smi.specs.declared.fault.NamesFault.{NamesFault}
use Rattle.mon_smi.specs.declared.fault.NamesFault.TheVariants.{OutOfMemory, Duplicate, Formless, Unknown, Cycle, TooDeep, BadIdentifier}
use Rattle.mon_smi.specs.Names.{IsOneOf, AreDistinct, Leads, IsFaultOfName}
use Rattle.mon_smi.specs.Nearest.{Covers}
use Rattle.mon_smi.proofs.Chains.{at_split, only_one}
use Rattle.mon_smi.proofs.Unique.{stands_once, not_lost, not_circular}

-- what has a fault covers nothing
pub no_cover : (e : NamesFault) (defs : List Definition) (oid w : List ℕ) (m : ℕ) → AreDistinct defs → e ≢ OutOfMemory → IsFaultOfName e defs w [] → Covers defs oid w m → ⊥
no_cover OutOfMemory defs oid w m distinct other fault covers = other refl
no_cover (Duplicate clash) defs oid w m distinct other fault covers = fault
no_cover (Formless form) defs oid w m distinct other fault covers = fault
no_cover Unknown defs oid w m distinct other fault covers = not_lost defs w covers.0 distinct covers.1 fault
no_cover Cycle defs oid w m distinct other fault covers = not_circular defs w covers.0 distinct covers.1 fault
no_cover TooDeep defs oid w m distinct other fault covers =
    let same : covers.0 ≡ fault.0 ++ [] = stands_once defs w covers.0 fault.0 distinct covers.1 fault.1 ∙ sym (append-nil fault.0) in
    let few : length covers.0 ≤ 128 = covers.2.short in
    let many : 128 < length (fault.0 ++ []) = fault.2 in
    let lengths : length covers.0 ≡ length (fault.0 ++ []) = ap length same in
    absurd (omega arith)
no_cover BadIdentifier defs oid w m distinct other fault covers =
    fault.3 (subst IsOid (stands_once defs w covers.0 fault.0 distinct covers.1 fault.1 ∙ sym (append-nil fault.0)) covers.2)

pub not_after : (a b : List ℕ) → slice_cmp nat_cmp a b ≡ Greater → slice_cmp nat_cmp b a ≢ Greater
not_after a b is bad =
    let turned = nat_list_cmp_total.antisymm b a in
    absurd (cc)

-- the order of words goes on
pub at_most_trans : (a b c : List ℕ) → slice_cmp nat_cmp a b ≢ Greater → slice_cmp nat_cmp b c ≢ Greater → slice_cmp nat_cmp a c ≢ Greater
at_most_trans a b c ab bc = go (slice_cmp nat_cmp a b) (slice_cmp nat_cmp b c) refl refl
  where
    go : (x y : Ordering) → slice_cmp nat_cmp a b ≡ x → slice_cmp nat_cmp b c ≡ y → slice_cmp nat_cmp a c ≢ Greater
    go Greater y is_x is_y = absurd (ab is_x)
    go Less Greater is_x is_y = absurd (bc is_y)
    go Equal Greater is_x is_y = absurd (bc is_y)
    go Equal Less is_x is_y = λ bad. bc (sym (nat_list_cmp_total.congr a b c is_x) ∙ bad)
    go Equal Equal is_x is_y = λ bad. bc (sym (nat_list_cmp_total.congr a b c is_x) ∙ bad)
    go Less Less is_x is_y = λ bad. let less = nat_list_cmp_total.trans a b c is_x is_y in absurd (cc)
    go Less Equal is_x is_y = λ bad.
        let turned = nat_list_cmp_total.antisymm c b in
        let equal : slice_cmp nat_cmp c b ≡ Equal = cc in
        let same = nat_list_cmp_total.congr c b a equal in
        let one = nat_list_cmp_total.antisymm a c in
        let two = nat_list_cmp_total.antisymm a b in
        absurd (cc)

-- one of more is one of those before, or the last
pub one_of : (xs : List Definition) (x d : Definition) → IsOneOf (xs ++ x ∷ []) d → IsOneOf xs d ⊎ (d ≡ x)
one_of xs x d one = ⊎_elim (λ front. inl (one.0, front)) (λ back. inr (only_one x d (one.0 - length xs) back.1).1) (at_split xs (x ∷ []) one.0 d one.1)

-- a word that means numbers is defined
pub defined : (defs : List Definition) (w : List ℕ) (chain : List Definition) → Leads defs (Some w) chain None → (d : Definition) × IsOneOf defs d × (d.name ≡ w)
defined defs w [] leads = absurd (cc)
defined defs w (d ∷ ds) leads = (d, leads.0, leads.1)

-- a name's identifier is no longer than what it covers
pub covers_within : (defs : List Definition) (oid w : List ℕ) (n : ℕ) → Covers defs oid w n → n ≤ length oid
covers_within defs oid w n covers =
    let is = covers.3.1 in
    let whole : length (covers.0 ++ covers.3.0) ≡ length oid = ap length is in
    let n_is = covers.4 in
    omega (arith, whole, length-append covers.0 covers.3.0, n_is)

pub if_none : {A P : Type 0} (o : Option A) → o ≡ None → IfNone o P → P
if_none None is p = p
if_none (Some x) is p = absurd (cc)

pub if_some : {A : Type 0} (P : A → Type 0) (o : Option A) (x : A) → o ≡ Some x → IfSome o P → P x
if_some P None x is p = absurd (cc)
if_some P (Some y) x is p = let same : y ≡ x = cc in subst P same p
