-- A text means one list of numbers at most, and what means an identifier has no fault.
use Rattle.std.proofs.Common.{◌⊎◌, ◌≡◌, ℕ, suc, ◌<◌, ◌≤◌, List, [], ◌∷◌, ◌++◌, length, get_or, true, sym, refl, ap, ◌∙◌, subst, arith, Result, Ok, Err, ⊎_elim, inl, inr}
use Rattle.std.specs.Prelude.{IfErr, IsOkUnless, decimal}
use Rattle.std.specs.Char.{is_ascii_digit, is_ascii_alphabetic}
use Rattle.std.proofs.lemmas.Bool.Decides.{nat_tests}
use Rattle.mon_oid.specs.Oid.{IsOid, Spells, AreNumbers, dotted}
use Rattle.mon_smi.specs.Words.{IsWord}
use Rattle.mon_smi.specs.Names.{AreDistinct, IsNamed, MeansNumbers, StandsFor, EndsUndefined, IsCircular, IsFaultOfNameText}
use Rattle.mon_smi.specs.declared.definition.Definition.{Definition}
use Rattle.mon_smi.specs.declared.fault.NamesFault.{NamesFault}
use Rattle.mon_smi.specs.declared.fault.NamesFault.TheVariants.{OutOfMemory, Duplicate, Formless, Unknown, Cycle, TooDeep, BadIdentifier}
use Rattle.mon_smi.proofs.Meanings.{no_dot}
use Rattle.mon_smi.proofs.Digits.{decimal_digits}
use Rattle.mon_smi.proofs.Unique.{stands_once, not_lost, not_circular}

-- a text spells one list of numbers at most
abbrev IsOneReading : Type 0
IsOneReading = (a b : List ℕ) → AreNumbers a → AreNumbers b → dotted a ≡ dotted b → a ≡ b

-- what comes before the first dot, and behind it
cut_once : (a x b y : List ℕ) → ((i : ℕ) → i < length a → get_or a i 0 ≡ 46 → ⊥) → ((i : ℕ) → i < length b → get_or b i 0 ≡ 46 → ⊥) → a ++ 46 ∷ x ≡ b ++ 46 ∷ y → (a ≡ b) × (x ≡ y)
cut_once [] x [] y no_a no_b is = let tails : x ≡ y = cc in (refl, tails)
cut_once [] x (c ∷ b) y no_a no_b is = let head : c ≡ 46 = cc in absurd (no_b 0 (omega arith) head)
cut_once (c ∷ a) x [] y no_a no_b is = let head : c ≡ 46 = cc in absurd (no_a 0 (omega arith) head)
cut_once (c ∷ a) x (d ∷ b) y no_a no_b is =
    let heads : c ≡ d = cc in
    let tails : a ++ 46 ∷ x ≡ b ++ 46 ∷ y = cc in
    let more = cut_once a x b y (λ i lt at. no_a (suc i) (omega arith) at) (λ i lt at. no_b (suc i) (omega arith) at) tails in
    ((λ i. heads i ∷ more.0 i), more.1)

-- a dot follows the front
seam : (front back : List ℕ) → (length front < length (front ++ 46 ∷ back)) × (get_or (front ++ 46 ∷ back) (length front) 0 ≡ 46)
seam [] back = (omega arith, refl)
seam (b ∷ bs) back = let more = seam bs back in let lt = more.0 in (omega arith, more.1)

-- a word is no word with a dot behind it
word_cut : (text w v dotted_text : List ℕ) → IsWord w → text ≡ w → text ≡ v ++ 46 ∷ dotted_text → ⊥
word_cut text w v dotted_text word is cut =
    let there = subst (λ (t : List ℕ). (length v < length t) × (get_or t (length v) 0 ≡ 46)) (sym cut ∙ is) (seam v dotted_text) in
    no_dot w word (length v) there.0 there.1

pub named_once : IsOneReading → (text v w p q : List ℕ) → IsNamed text v p → IsNamed text w q → (v ≡ w) × (p ≡ q)
named_once one_reading text v w p q a b =
    ⊎_elim
    (λ (a1 : (text ≡ v) × (p ≡ [])). ⊎_elim
    (λ (b1 : (text ≡ w) × (q ≡ [])). (sym a1.0 ∙ b1.0, a1.1 ∙ sym b1.1))
    (λ (b2 : (d : List ℕ) × (text ≡ w ++ 46 ∷ d) × Spells d q). absurd (word_cut text v w b2.0 a.0 a1.0 b2.1)) b.1)
    (λ (a2 : (d : List ℕ) × (text ≡ v ++ 46 ∷ d) × Spells d p). ⊎_elim
    (λ (b1 : (text ≡ w) × (q ≡ [])). absurd (word_cut text w v a2.0 b.0 b1.0 a2.1))
    (λ (b2 : (d : List ℕ) × (text ≡ w ++ 46 ∷ d) × Spells d q).
    let same = cut_once v a2.0 w b2.0 (no_dot v a.0) (no_dot w b.0) (sym a2.1 ∙ b2.1) in
    (same.0, one_reading p q a2.2.numbers b2.2.numbers (sym a2.2.is ∙ same.1 ∙ b2.2.is))) b.1)
    a.1

digit_no_letter : (c : ℕ) → is_ascii_digit c ≡ true → is_ascii_alphabetic c ≡ true → ⊥
digit_no_letter c digit letter = grind (arith, nat_tests)

head_of_more : (a b : List ℕ) → 0 < length a → get_or (a ++ b) 0 0 ≡ get_or a 0 0
head_of_more [] b some = absurd (omega arith)
head_of_more (c ∷ a) b some = refl

-- numbers begin with a digit
spelled_head : (q : List ℕ) → AreNumbers q → is_ascii_digit (get_or (dotted q) 0 0) ≡ true
spelled_head [] numbers = let no_numbers = numbers.some in absurd (omega arith)
spelled_head (y ∷ []) numbers = (decimal_digits y (numbers.small 0 y (omega arith))).1
spelled_head (y ∷ z ∷ zs) numbers =
    let digits = decimal_digits y (numbers.small 0 y (omega arith)) in
    ap is_ascii_digit (head_of_more (decimal y) (46 ∷ dotted (z ∷ zs)) digits.0) ∙ digits.1

some_bytes : (w : List ℕ) → IsWord w → 0 < length w
some_bytes [] word = let bad : is_ascii_alphabetic 0 ≡ true = word.letter in absurd (cc)
some_bytes (b ∷ bs) word = omega arith

-- a name begins with a letter
named_head : (text w rest : List ℕ) → IsNamed text w rest → is_ascii_alphabetic (get_or text 0 0) ≡ true
named_head text w rest named =
    ⊎_elim
    (λ (alone : (text ≡ w) × (rest ≡ [])). ap (λ (t : List ℕ). is_ascii_alphabetic (get_or t 0 0)) alone.0 ∙ named.0.letter)
    (λ (cut : (d : List ℕ) × (text ≡ w ++ 46 ∷ d) × Spells d rest).
    ap (λ (t : List ℕ). is_ascii_alphabetic (get_or t 0 0)) cut.1 ∙ ap is_ascii_alphabetic (head_of_more w (46 ∷ cut.0) (some_bytes w named.0)) ∙ named.0.letter)
    named.1

pub apart : (text q w rest : List ℕ) → Spells text q → IsNamed text w rest → ⊥
apart text q w rest spelled named =
    digit_no_letter (get_or text 0 0) (ap (λ (t : List ℕ). is_ascii_digit (get_or t 0 0)) spelled.is ∙ spelled_head q spelled.numbers) (named_head text w rest named)

pub means_once : IsOneReading → (defs : List Definition) (text p q : List ℕ) → AreDistinct defs → MeansNumbers defs text p → MeansNumbers defs text q → p ≡ q
means_once one_reading defs text p q distinct a b =
    ⊎_elim
    (λ (a1 : Spells text p). ⊎_elim
    (λ (b1 : Spells text q). one_reading p q a1.numbers b1.numbers (sym a1.is ∙ b1.is))
    (λ (b2 : (w rest known : List ℕ) × IsNamed text w rest × StandsFor defs w known × (q ≡ known ++ rest)). absurd (apart text p b2.0 b2.1 a1 b2.3)) b)
    (λ (a2 : (w rest known : List ℕ) × IsNamed text w rest × StandsFor defs w known × (p ≡ known ++ rest)). ⊎_elim
    (λ (b1 : Spells text q). absurd (apart text q a2.0 a2.1 b1 a2.3))
    (λ (b2 : (w rest known : List ℕ) × IsNamed text w rest × StandsFor defs w known × (q ≡ known ++ rest)).
    let same = named_once one_reading text a2.0 b2.0 a2.1 b2.1 a2.3 b2.3 in
    let known = stands_once defs b2.0 a2.2 b2.2 distinct (subst (λ (w : List ℕ). StandsFor defs w a2.2) same.0 a2.4) b2.4 in
    a2.5 ∙ (λ i. known i ++ same.1 i) ∙ sym b2.5) b)
    a

-- whose name is lost or circular means nothing
pub no_lost : IsOneReading → (defs : List Definition) (text q w rest : List ℕ) → AreDistinct defs → MeansNumbers defs text q → IsNamed text w rest → (EndsUndefined defs w ⊎ IsCircular defs w) → ⊥
no_lost one_reading defs text q w rest distinct means named wrong =
    ⊎_elim
    (λ (a1 : Spells text q). apart text q w rest a1 named)
    (λ (a2 : (v other known : List ℕ) × IsNamed text v other × StandsFor defs v known × (q ≡ known ++ other)).
    let same = named_once one_reading text a2.0 w a2.1 rest a2.3 named in
    let stands = subst (λ (v : List ℕ). StandsFor defs v a2.2) same.0 a2.4 in
    ⊎_elim (λ lost. not_lost defs w a2.2 distinct stands lost) (λ circular. not_circular defs w a2.2 distinct stands circular) wrong)
    means

pub only_memory : IsOneReading → (e : NamesFault) (defs : List Definition) (text q : List ℕ) → AreDistinct defs → MeansNumbers defs text q → IsOid q → IsFaultOfNameText e defs text → e ≡ OutOfMemory
only_memory one_reading OutOfMemory defs text q distinct means is fault = refl
only_memory one_reading (Duplicate clash) defs text q distinct means is fault = absurd fault
only_memory one_reading (Formless form) defs text q distinct means is fault =
    absurd (⊎_elim (λ (a1 : Spells text q). fault.0.0 q a1)
    (λ (a2 : (v other known : List ℕ) × IsNamed text v other × StandsFor defs v known × (q ≡ known ++ other)). fault.0.1 a2.0 a2.1 a2.3) means)
only_memory one_reading Unknown defs text q distinct means is fault = absurd (no_lost one_reading defs text q fault.0 fault.1 distinct means fault.2 (inl fault.3))
only_memory one_reading Cycle defs text q distinct means is fault = absurd (no_lost one_reading defs text q fault.0 fault.1 distinct means fault.2 (inr fault.3))
only_memory one_reading TooDeep defs text q distinct means is fault =
    let same : length q ≡ length fault.0 = ap length (means_once one_reading defs text q fault.0 distinct means fault.1) in
    let few : length q ≤ 128 = is.short in
    let many : 128 < length fault.0 = fault.2 in
    absurd (omega arith)
only_memory one_reading BadIdentifier defs text q distinct means is fault = absurd (fault.3 (subst IsOid (means_once one_reading defs text q fault.0 distinct means fault.1) is))

pub accepted : IsOneReading → (r : Result (List ℕ) NamesFault) (defs : List Definition) (text : List ℕ) → AreDistinct defs → IfErr r (λ e. IsFaultOfNameText e defs text) → (q : List ℕ) → MeansNumbers defs text q → IsOid q → IsOkUnless r OutOfMemory
accepted one_reading (Ok x) defs text distinct fault q means is = tt
accepted one_reading (Err e) defs text distinct fault q means is = only_memory one_reading e defs text q distinct means is fault
