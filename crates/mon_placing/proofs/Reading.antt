-- Lines of machines.
use Rattle.std.proofs.Common.{◌≡◌, ◌⊎◌, inl, inr, ◌<◌, ◌≤◌, ◌+◌, zero, suc, ◌∷◌, ℕ, true, false, List, [], Bor, arith, drop, length, map, refl, sym, ap, ◌∙◌, subst}
use Rattle.std.proofs.lemmas.Bool.Decides.{nat_tests}
use Rattle.std.proofs.Math.ListN.{get_or}
use Rattle.std.proofs.lemmas.List.{drop_all, drop_more, length-map}
use Rattle.std.specs.Str.Lines.{lines}
use Rattle.std.specs.List.{after_first, before_first, position_or_len}
use Rattle.std.specs.Prelude.{IfErr, IsErrAnd, Option, None, Result, Ok, Err}
use Rattle.mon_placing.specs.Machines.{Entry, and_then, enough, entry_in, has_space, is_name, is_space, machines_in, named, octets_of, read_from, read_line, trimmed}
use Rattle.mon_placing.specs.declared.fault.MachinesFault.{MachinesFault}
use Rattle.mon_placing.specs.declared.fault.MachinesFault.TheVariants.{OutOfMemory}

-- a line without a space
pub no_entry : (line : List ℕ) → position_or_len is_space line ≡ length line → None ≡ entry_in line
no_entry line is = let without : has_space line ≡ false = grind (arith, nat_tests) in rw without refl

-- a line with a space, by what is before and after it
pub entry_is : (line name rest : List ℕ) (found : Option (List ℕ)) → position_or_len is_space line < length line → name ≡ before_first is_space line → rest ≡ after_first is_space line
    → is_name name ≡ true → octets_of (trimmed rest) ≡ found → named name found ≡ entry_in line
entry_is line name rest found inside first after is gives =
    let has : has_space line ≡ true = grind (arith, nat_tests) in
    rw (has, ← first, ← after, is, gives) refl

pub unnamed_entry : (line name : List ℕ) → position_or_len is_space line < length line → name ≡ before_first is_space line → is_name name ≡ false → None ≡ entry_in line
unnamed_entry line name inside first is =
    let has : has_space line ≡ true = grind (arith, nat_tests) in
    rw (has, ← first, is) refl

-- what all lines give, once those that are left were read up to a line at fault, or to the end
pub line_read : (texts : List (List ℕ)) (i : ℕ) (line : List ℕ) (before : List Entry) (read : Result (List Entry) MachinesFault) → i < length texts → line ≡ get_or texts i line
    → read_from 1 [] texts ≡ read_from (i + 1) before (drop i texts) → read_line (i + 1) before line ≡ read
    → read_from 1 [] texts ≡ and_then read (λ more. read_from (i + 1 + 1) more (drop (i + 1) texts))
line_read texts i line before read inside is so_far gives =
    let next : drop i texts ≡ line ∷ drop (i + 1) texts = drop_more texts i line inside ∙ ap (λ (l : List ℕ). l ∷ drop (i + 1) texts) (sym is) in
    so_far ∙ (ap (read_from (i + 1) before) next ∙ ap (λ (r : Result (List Entry) MachinesFault). and_then r (λ more. read_from (i + 1 + 1) more (drop (i + 1) texts))) gives)

pub all_read : (texts : List (List ℕ)) (i : ℕ) (known : List Entry) → length texts ≤ i → read_from 1 [] texts ≡ read_from (i + 1) known (drop i texts) → read_from 1 [] texts ≡ Ok known
all_read texts i known past so_far = so_far ∙ ap (read_from (i + 1) known) (drop_all i texts past)

-- a line at fault
pub line_refused : (text : List ℕ) (stations : ℕ) (texts : List (List ℕ)) (fault : MachinesFault) → texts ≡ lines text → read_from 1 [] texts ≡ Err fault → machines_in text stations ≡ Err fault
unfolding machines_in
line_refused text stations texts fault are wrong =
    ap (λ (ls : List (List ℕ)). and_then (read_from 1 [] ls) (λ ms. enough stations ms)) (sym are) ∙ ap (λ (r : Result (List Entry) MachinesFault). and_then r (λ ms. enough stations ms)) wrong

-- all lines were read, and then they are enough or not
pub lines_gave : (text : List ℕ) (stations : ℕ) (texts : List (List ℕ)) (known : List Entry) (result : Result (List Entry) MachinesFault) → texts ≡ lines text → read_from 1 [] texts ≡ Ok known
    → enough stations known ≡ result → machines_in text stations ≡ result
unfolding machines_in
lines_gave text stations texts known result are read is =
    ap (λ (ls : List (List ℕ)). and_then (read_from 1 [] ls) (λ ms. enough stations ms)) (sym are)
    ∙ (ap (λ (r : Result (List Entry) MachinesFault). and_then r (λ ms. enough stations ms)) read ∙ is)

-- a fault that a `?` made
pub still : {A : Type 0} → (P : MachinesFault → Type 0) (fault : MachinesFault) (r : Result A MachinesFault) → IsErrAnd r (λ f. f ≡ fault) → P fault → IfErr r P
still P fault (Ok a) is holds = absurd is
still P fault (Err f) is holds = subst P (sym is) holds

-- the line at a place of lines that are lent
pub text_at : (ls : List (Bor (List ℕ))) (i : ℕ) (line : Bor (List ℕ)) → i < length ls → line ≡ get_or ls i line
    → (i < length (map (λ l. l.now) ls)) × (line.now ≡ get_or (map (λ l. l.now) ls) i line.now)
text_at [] i line inside is = absurd (let no : ⊥ = omega (arith, inside) in no)
text_at (l ∷ ls) zero line inside is = (omega arith, ap (λ b. b.now) is)
text_at (l ∷ ls) (suc i) line inside is = let rest = text_at ls i line (omega (arith, inside)) is in (omega (arith, rest.0), rest.1)

pub refused_by : (text : List ℕ) (stations : ℕ) (texts : List (List ℕ)) (i : ℕ) (line : List ℕ) (before : List Entry) (fault : MachinesFault) → texts ≡ lines text → i < length texts
    → line ≡ get_or texts i line → read_from 1 [] texts ≡ read_from (i + 1) before (drop i texts) → (fault ≡ OutOfMemory) ⊎ (read_line (i + 1) before line ≡ Err fault)
    → (fault ≡ OutOfMemory) ⊎ (machines_in text stations ≡ Err fault)
refused_by text stations texts i line before fault are inside is so_far (inl memory) = inl memory
refused_by text stations texts i line before fault are inside is so_far (inr wrong) =
    inr (line_refused text stations texts fault are (line_read texts i line before (Err fault) inside is so_far wrong))

-- past the lines that are lent
pub past_texts : (ls : List (Bor (List ℕ))) (i : ℕ) → length ls ≤ i → length (map (λ l. l.now) ls) ≤ i
past_texts ls i past = let same = length-map ls (λ (l : Bor (List ℕ)). l.now) in omega (arith, past, same)
