-- What a text means: only a word, or a word before the first dot.
use Rattle.std.proofs.Common.{◌≡◌, ℕ, ◌<◌, List, [], ◌∷◌, ◌++◌, length, get_or, sym, refl, subst, arith, Bor, Option, Some, None, Result, Ok, Err, ⊎_elim, inr, lit<, true}
use Rattle.std.specs.Prelude.{IfOk, IfErr}
use Rattle.std.proofs.lemmas.Str.Pattern.{IsSplitOnceResult, split_after, split_parts}
use Rattle.mon_oid.specs.Oid.{IsOid, Spells}
use Rattle.mon_smi.specs.Words.{is_part, IsWord}
use Rattle.mon_smi.specs.Names.{IsNamed, MeansNumbers, StandsFor, IsFaultOfName, IsFaultOfNameText}
use Rattle.mon_smi.specs.declared.definition.Definition.{Definition}
use Rattle.mon_smi.specs.declared.fault.NamesFault.{NamesFault}
use Rattle.mon_smi.specs.declared.fault.NamesFault.TheVariants.{OutOfMemory, Duplicate, Formless, Unknown, Cycle, TooDeep, BadIdentifier}

-- a word has no dot
pub no_dot : (w : List ℕ) → IsWord w → (i : ℕ) → i < length w → get_or w i 0 ≡ 46 → ⊥
no_dot w word i lt is =
    ⊎_elim
    (λ part. let no : is_part 46 ≡ true = subst (λ (b : ℕ). is_part b ≡ true) is part in absurd (cc))
    (λ hyphen. let other : get_or w i 0 ≡ 45 = hyphen.0 in absurd (omega arith))
    (word.goes_on i lt)

-- a text with no dot that is named is its word
pub alone_named : (text : List ℕ) (r : Option (Bor (List ℕ) × Bor (List ℕ))) → IsSplitOnceResult 46 text r → r ≡ None → (w rest : List ℕ) → IsNamed text w rest → text ≡ w
alone_named text r split is w rest named =
    ⊎_elim
    (λ (alone : (text ≡ w) × (rest ≡ [])). alone.0)
    (λ (cut : (dotted : List ℕ) × (text ≡ w ++ 46 ∷ dotted) × Spells dotted rest). absurd (rw is at (split_after 46 text w cut.0 r split (lit< tt) cut.1 (no_dot w named.0))))
    named.1

-- a text with no dot is no word with numbers behind it
pub alone_formless : (text : List ℕ) (r : Option (Bor (List ℕ) × Bor (List ℕ))) → IsSplitOnceResult 46 text r → r ≡ None → (IsWord text → ⊥) → (w rest : List ℕ) → IsNamed text w rest → ⊥
alone_formless text r split is bad w rest named = bad (subst IsWord (sym (alone_named text r split is w rest named)) named.0)

-- a text with a dot is named by what comes before the first one
pub cut_named : (text : List ℕ) (r : Option (Bor (List ℕ) × Bor (List ℕ))) (x : Bor (List ℕ) × Bor (List ℕ)) → IsSplitOnceResult 46 text r → r ≡ Some x → (w rest : List ℕ) → IsNamed text w rest → (x.0.now ≡ w) × Spells x.1.now rest
cut_named text r x split is w rest named =
    ⊎_elim
    (λ (alone : (text ≡ w) × (rest ≡ [])).
    let parts = rw is at (split_parts 46 text r split (lit< tt)) in
    absurd (no_seam text x.0.now x.1.now parts.0 (subst (λ (t : List ℕ). (i : ℕ) → i < length t → get_or t i 0 ≡ 46 → ⊥) (sym alone.0) (no_dot w named.0))))
    (λ (cut : (dotted : List ℕ) × (text ≡ w ++ 46 ∷ dotted) × Spells dotted rest).
    let same = rw is at (split_after 46 text w cut.0 r split (lit< tt) cut.1 (no_dot w named.0)) in
    (same.0, subst (λ (t : List ℕ). Spells t rest) (sym same.1) cut.2))
    named.1
  where
    seam : (front back : List ℕ) → (length front < length (front ++ 46 ∷ back)) × (get_or (front ++ 46 ∷ back) (length front) 0 ≡ 46)
    seam [] back = (omega arith, refl)
    seam (b ∷ bs) back = let more = seam bs back in let lt = more.0 in (omega arith, more.1)

    no_seam : (text front back : List ℕ) → text ≡ front ++ 46 ∷ back → ((i : ℕ) → i < length text → get_or text i 0 ≡ 46 → ⊥) → ⊥
    no_seam text front back is none =
        let there = subst (λ (t : List ℕ). (length front < length t) × (get_or t (length front) 0 ≡ 46)) (sym is) (seam front back) in
        none (length front) there.0 there.1

-- a word, a dot and numbers are a name
pub is_named : (text : List ℕ) (r : Option (Bor (List ℕ) × Bor (List ℕ))) (x : Bor (List ℕ) × Bor (List ℕ)) → IsSplitOnceResult 46 text r → r ≡ Some x → IsWord x.0.now → (rest : List ℕ) → Spells x.1.now rest → IsNamed text x.0.now rest
is_named text r x split is word rest spelled =
    let parts = rw is at (split_parts 46 text r split (lit< tt)) in
    (word, inr (x.1.now, parts.0, spelled))

-- the fault of a name is that of the text
pub fault_named : (e : NamesFault) (defs : List Definition) (text w rest : List ℕ) → IsNamed text w rest → IsFaultOfName e defs w rest → IsFaultOfNameText e defs text
fault_named OutOfMemory defs text w rest named fault = tt
fault_named (Duplicate clash) defs text w rest named fault = absurd fault
fault_named (Formless form) defs text w rest named fault = absurd fault
fault_named Unknown defs text w rest named fault = (w, rest, named, fault)
fault_named Cycle defs text w rest named fault = (w, rest, named, fault)
fault_named TooDeep defs text w rest named fault = (fault.0 ++ rest, inr (w, rest, fault.0, named, fault.1, refl), fault.2)
fault_named BadIdentifier defs text w rest named fault = (fault.0 ++ rest, inr (w, rest, fault.0, named, fault.1, refl), fault.2, fault.3)

pub faults_named : {A : Type 0} (r : Result A NamesFault) (defs : List Definition) (text w rest : List ℕ) → IsNamed text w rest → IfErr r (λ e. IsFaultOfName e defs w rest) → IfErr r (λ e. IsFaultOfNameText e defs text)
faults_named (Ok x) defs text w rest named fault = tt
faults_named (Err e) defs text w rest named fault = fault_named e defs text w rest named fault

-- what a name means, its text means
pub found_named : (r : Result (List ℕ) NamesFault) (defs : List Definition) (text w rest : List ℕ) → IsNamed text w rest → IfOk r (λ oid. IsOid oid × ((known : List ℕ) × StandsFor defs w known × (oid ≡ known ++ rest))) → IfOk r (λ oid. IsOid oid × MeansNumbers defs text oid)
found_named (Ok oid) defs text w rest named found = (found.0, inr (w, rest, found.1.0, named, found.1.1, found.1.2))
found_named (Err e) defs text w rest named found = tt
