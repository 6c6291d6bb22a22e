-- Assignments and modules: what is read was derived, and what is derived is read.
use Rattle.std.proofs.Common.{◌≡◌, ℕ, suc, ◌+◌, ◌<◌, ◌≤◌, Bool, true, false, cond, List, [], ◌∷◌, ◌++◌, length, Option, Some, None, Ok, Err, sym, refl, ap, ◌∙◌, subst, arith, append_assoc, length-append, ◌⊎◌, ⊎_elim, inl, inr}
use Rattle.std.specs.Prelude.{IsTrue, ◌||◌, ◌&&◌, not, codes, option_to_list}
use Rattle.std.specs.List.{flat_map}
use Rattle.std.specs.Char.{is_ascii_lowercase, is_ascii_uppercase}
use Rattle.std.proofs.lemmas.Bool.Decides.{nat_tests}
use Rattle.mon_smi.specs.declared.kind.TokenKind.{TokenKind}
use Rattle.mon_smi.specs.declared.kind.TokenKind.TheVariants.{Assign, Semicolon, Quoted}
use Rattle.mon_smi.specs.declared.part.Part.TheVariants.{Text}
use Rattle.mon_smi.specs.declared.definition.Definition.{Definition}
use Rattle.mon_smi.specs.Lexemes.{Lexeme, word, number, punctuation, is_word, is_punctuation, begins_small, begins_capital}
use Rattle.mon_oid.specs.Steps.{◌>>=◌}
use Rattle.mon_smi.specs.Reading.{Read, or_left, one, word_at, punctuation_at, begins, begins_word, name_at, type_at, object_type_at, convention_at, many, value_at, is_macro, up_to, identifier_at, object_at, macro_at, head_at, definition_at, is_convention, textual_at, type_body_at, assigned, passed_over, assignment_of, assignment_at, ends_module, imported_at, imports_at, definitions_at, module_body_at, module_at}
use Rattle.mon_smi.specs.Grammar.{◌▸◌, IsThis, IsWordOf, IsFree, IsType, IsClause, IsObjectType, IsConvention, Are, IsValue, macros, IsHead, IsAssignment, AreImports, IsModule}
use Rattle.mon_smi.proofs.ForRules.{same_is, word_is, punctuation_is, punctuation_self, Takes, Again, Any, bind_ok, ok_is, wanted, chosen, seq_takes, seq_again, one_takes, word_takes, word_again, punctuation_takes, word_of_again, type_takes, type_again, goes_on_type, is_clear, BehindName, Follows, BeginsAssign, object_type_takes, object_type_again, convention_takes, convention_again, maybe_leads, other_punctuation, or_parts, and_parts, not_false, this_word}
use Rattle.mon_smi.proofs.ForValues.{TakesOne, pair_parts, some_parts, from_left, many_takes, many_again, value_takes, value_again}

-- ---- heads

up_to_takes : (kind : TokenKind) (ls rest : List Lexeme) → up_to kind ls ≡ Ok rest → (front : List Lexeme) × IsFree kind front × (ls ≡ front ++ rest) × ((more : List Lexeme) × (rest ≡ punctuation kind ∷ more))
up_to_takes kind [] rest is = absurd (cc)
up_to_takes kind (l ∷ ls) rest is =
    ⊎_elim
    (λ (here : (is_punctuation kind l ≡ true) × (Ok (l ∷ ls) ≡ Ok rest)). let same = ok_is (l ∷ ls) rest here.1 in
    ([], tt, same, (ls, sym same ∙ ap (λ (x : Lexeme). x ∷ ls) (punctuation_is kind l here.0))))
    (λ (later : (is_punctuation kind l ≡ false) × (up_to kind ls ≡ Ok rest)). let t = up_to_takes kind ls rest later.1 in
    (l ∷ t.0, ((λ same. no_punctuation later.0 same), t.1), ap (λ (k : List Lexeme). l ∷ k) t.2, t.3))
    (chosen (is_punctuation kind l) (Ok (l ∷ ls)) (up_to kind ls) rest is)
  where
    no_punctuation : is_punctuation kind l ≡ false → l ≡ punctuation kind → ⊥
    no_punctuation no_case same = let yes_case : is_punctuation kind l ≡ true = ap (is_punctuation kind) same ∙ punctuation_self kind in absurd (cc)

up_to_again : (kind : TokenKind) (front more : List Lexeme) → IsFree kind front → up_to kind (front ++ punctuation kind ∷ more) ≡ Ok (punctuation kind ∷ more)
up_to_again kind [] more free = rw (punctuation_self kind) refl
up_to_again kind (l ∷ ls) more free = rw (other_punctuation kind l free.0) (up_to_again kind ls more free.1)

among_macro : (l : Lexeme) → is_macro l ≡ true → IsWordOf macros (l ∷ [])
among_macro l is =
    ⊎_elim (λ a. inl (this_word (codes "MODULE-IDENTITY") l a)) (λ r1.
    ⊎_elim (λ a. inr (inl (this_word (codes "OBJECT-IDENTITY") l a))) (λ r2.
    ⊎_elim (λ a. inr (inr (inl (this_word (codes "NOTIFICATION-TYPE") l a)))) (λ r3.
    ⊎_elim (λ a. inr (inr (inr (inl (this_word (codes "OBJECT-GROUP") l a))))) (λ r4.
    ⊎_elim (λ a. inr (inr (inr (inr (inl (this_word (codes "NOTIFICATION-GROUP") l a)))))) (λ r5.
    ⊎_elim (λ a. inr (inr (inr (inr (inr (inl (this_word (codes "MODULE-COMPLIANCE") l a))))))) (λ a. inr (inr (inr (inr (inr (inr (inl (this_word (codes "AGENT-CAPABILITIES") l a))))))))
    (or_parts (is_word (codes "MODULE-COMPLIANCE") l) (is_word (codes "AGENT-CAPABILITIES") l) r5))
    (or_parts (is_word (codes "NOTIFICATION-GROUP") l) (is_word (codes "MODULE-COMPLIANCE") l || is_word (codes "AGENT-CAPABILITIES") l) r4))
    (or_parts (is_word (codes "OBJECT-GROUP") l) (is_word (codes "NOTIFICATION-GROUP") l || (is_word (codes "MODULE-COMPLIANCE") l || is_word (codes "AGENT-CAPABILITIES") l)) r3))
    (or_parts (is_word (codes "NOTIFICATION-TYPE") l) (is_word (codes "OBJECT-GROUP") l || (is_word (codes "NOTIFICATION-GROUP") l || (is_word (codes "MODULE-COMPLIANCE") l || is_word (codes "AGENT-CAPABILITIES") l))) r2))
    (or_parts (is_word (codes "OBJECT-IDENTITY") l) (is_word (codes "NOTIFICATION-TYPE") l || (is_word (codes "OBJECT-GROUP") l || (is_word (codes "NOTIFICATION-GROUP") l || (is_word (codes "MODULE-COMPLIANCE") l || is_word (codes "AGENT-CAPABILITIES") l)))) r1))
    (or_parts (is_word (codes "MODULE-IDENTITY") l) (is_word (codes "OBJECT-IDENTITY") l || (is_word (codes "NOTIFICATION-TYPE") l || (is_word (codes "OBJECT-GROUP") l || (is_word (codes "NOTIFICATION-GROUP") l || (is_word (codes "MODULE-COMPLIANCE") l || is_word (codes "AGENT-CAPABILITIES") l))))) is)

macro_takes : Takes (IsWordOf macros ▸ IsFree Assign) macro_at
unfolding macro_at
macro_takes = seq_takes (IsWordOf macros) (IsFree Assign) (one is_macro) (up_to Assign) (one_takes is_macro (IsWordOf macros) among_macro)
    (λ ls rest is. let t = up_to_takes Assign ls rest is in (t.0, t.1, t.2))

head_takes : Takes IsHead head_at
unfolding head_at identifier_at object_at
head_takes ls rest is =
    ⊎_elim
    (λ (identifier : (begins_word (codes "OBJECT") ls ≡ true) × (identifier_at ls ≡ Ok rest)).
    let t = seq_takes (IsThis (word (codes "OBJECT"))) (IsThis (word (codes "IDENTIFIER"))) (word_at (codes "OBJECT")) (word_at (codes "IDENTIFIER")) (word_takes (codes "OBJECT")) (word_takes (codes "IDENTIFIER")) ls rest identifier.1 in
    (t.0, inl (t.1.2 ∙ ap (λ (k : List Lexeme). k ++ t.1.1) t.1.3 ∙ ap (λ (k : List Lexeme). word (codes "OBJECT") ∷ k) t.1.4), t.2))
    (λ (other : (begins_word (codes "OBJECT") ls ≡ false) × (cond (begins_word (codes "OBJECT-TYPE") ls) (object_at ls) (macro_at ls) ≡ Ok rest)). ⊎_elim
    (λ (object : (begins_word (codes "OBJECT-TYPE") ls ≡ true) × (object_at ls ≡ Ok rest)).
    let t = seq_takes (IsThis (word (codes "OBJECT-TYPE"))) IsObjectType (word_at (codes "OBJECT-TYPE")) object_type_at (word_takes (codes "OBJECT-TYPE")) object_type_takes ls rest object.1 in
    (t.0, inr (inl t.1), t.2))
    (λ (macro : (begins_word (codes "OBJECT-TYPE") ls ≡ false) × (macro_at ls ≡ Ok rest)). let t = macro_takes ls rest macro.1 in (t.0, inr (inr t.1), t.2))
    (chosen (begins_word (codes "OBJECT-TYPE") ls) (object_at ls) (macro_at ls) rest other.1))
    (chosen (begins_word (codes "OBJECT") ls) (identifier_at ls) (cond (begins_word (codes "OBJECT-TYPE") ls) (object_at ls) (macro_at ls)) rest is)

-- a macro's name is no other word of a head
abbrev only_macro : Lexeme → Bool
only_macro l = is_macro l && (not (is_word (codes "OBJECT") l) && not (is_word (codes "OBJECT-TYPE") l))

not_true : (t : Bool) → not t ≡ true → t ≡ false
not_true true is = absurd (cc)
not_true false is = refl

head_again : Again IsHead BeginsAssign head_at
unfolding head_at identifier_at object_at macro_at
head_again text rest is follows =
    ⊎_elim
    (λ (identifier : text ≡ word (codes "OBJECT") ∷ word (codes "IDENTIFIER") ∷ []). subst (λ (t : List Lexeme). head_at (t ++ rest) ≡ Ok rest) (sym identifier) refl)
    (λ other. ⊎_elim
    (λ (object : (IsThis (word (codes "OBJECT-TYPE")) ▸ IsObjectType) text).
    let whole : text ++ rest ≡ word (codes "OBJECT-TYPE") ∷ (object.1 ++ rest) = ap (λ (k : List Lexeme). k ++ rest) (object.2 ∙ ap (λ (k : List Lexeme). k ++ object.1) object.3) in
    ap head_at whole ∙ object_type_again object.1 rest object.4 follows)
    (λ (macro : (IsWordOf macros ▸ IsFree Assign) text). at_macro macro)
    other)
    is
  where
    at_macro : (IsWordOf macros ▸ IsFree Assign) text → head_at (text ++ rest) ≡ Ok rest
    at_macro macro =
        let w = word_of_again only_macro macros macro.0 (refl, (refl, (refl, (refl, (refl, (refl, (refl, tt))))))) macro.3 in
        let p = and_parts (is_macro w.0) (not (is_word (codes "OBJECT") w.0) && not (is_word (codes "OBJECT-TYPE") w.0)) w.2 in
        let q = and_parts (not (is_word (codes "OBJECT") w.0)) (not (is_word (codes "OBJECT-TYPE") w.0)) p.1 in
        let whole : text ++ rest ≡ w.0 ∷ (macro.1 ++ (punctuation Assign ∷ follows.0)) = ap (λ (k : List Lexeme). k ++ rest) (macro.2 ∙ ap (λ (k : List Lexeme). k ++ macro.1) w.1) ∙ ap (λ (k : List Lexeme). w.0 ∷ (macro.1 ++ k)) follows.1 in
        ap head_at whole ∙ rw (not_true (is_word (codes "OBJECT") w.0) q.0, not_true (is_word (codes "OBJECT-TYPE") w.0) q.1, p.0) (up_to_again Assign macro.1 follows.0 macro.4) ∙ ap (λ (k : List Lexeme). Ok k) (sym follows.1)

-- ---- values' assignments

abbrev Defines : Definition → List Lexeme → Type 0
Defines d = IsHead ▸ (IsThis (punctuation Assign) ▸ IsValue d.parent d.numbers)

definition_takes : (name : List ℕ) (ls : List Lexeme) (d : Definition) (rest : List Lexeme) → definition_at name ls ≡ Ok (d, rest) → (text : List Lexeme) × Defines d text × (d.name ≡ name) × (ls ≡ text ++ rest)
unfolding definition_at
definition_takes name ls d rest is =
    let x = bind_ok (head_at ls) (λ h. punctuation_at Assign h >>= λ r. value_at r >>= λ v. Ok (record { name = name; parent = v.0.0; numbers = v.0.1 }, v.1)) (d, rest) is in
    let y = bind_ok (punctuation_at Assign x.0) (λ r. value_at r >>= λ v. Ok (record { name = name; parent = v.0.0; numbers = v.0.1 }, v.1)) (d, rest) x.2 in
    let z = bind_ok (value_at y.0) (λ v. Ok (record { name = name; parent = v.0.0; numbers = v.0.1 }, v.1)) (d, rest) y.2 in
    let made : Definition = record { name = name; parent = z.0.0.0; numbers = z.0.0.1 } in
    let p = pair_parts made d z.0.1 rest z.2 in
    let head = head_takes ls x.0 x.1 in
    let assign = punctuation_takes Assign x.0 y.0 y.1 in
    let value = value_takes y.0 z.0.0 z.0.1 z.1 in
    let text : List Lexeme = head.0 ++ (assign.0 ++ value.0) in
    let defines : Defines made text = (head.0, assign.0 ++ value.0, refl, head.1, (assign.0, value.0, refl, assign.1, value.1)) in (
      text,
      subst (λ (e : Definition). Defines e text) p.0 defines,
      ap (λ (e : Definition). e.name) (sym p.0),
      head.2 ∙ ap (λ (k : List Lexeme). head.0 ++ k) (assign.2 ∙ ap (λ (k : List Lexeme). assign.0 ++ k) (value.2 ∙ ap (λ (k : List Lexeme). value.0 ++ k) p.1) ∙ sym (append_assoc assign.0 value.0 rest)) ∙ sym (append_assoc head.0 (assign.0 ++ value.0) rest),
    )

definition_again : (d : Definition) (text rest : List Lexeme) → Defines d text → definition_at d.name (text ++ rest) ≡ Ok (d, rest)
unfolding definition_at
definition_again d text rest is =
    let inner = is.4 in
    let after : is.1 ++ rest ≡ punctuation Assign ∷ (inner.1 ++ rest) = ap (λ (k : List Lexeme). k ++ rest) (inner.2 ∙ ap (λ (k : List Lexeme). k ++ inner.1) inner.3) in
    let whole : text ++ rest ≡ is.0 ++ (punctuation Assign ∷ (inner.1 ++ rest)) = ap (λ (k : List Lexeme). k ++ rest) is.2 ∙ append_assoc is.0 is.1 rest ∙ ap (λ (k : List Lexeme). is.0 ++ k) after in
    let head : head_at (is.0 ++ (punctuation Assign ∷ (inner.1 ++ rest))) ≡ Ok (punctuation Assign ∷ (inner.1 ++ rest)) = head_again is.0 (punctuation Assign ∷ (inner.1 ++ rest)) is.3 (inner.1 ++ rest, refl) in
    let value : value_at (inner.1 ++ rest) ≡ Ok ((d.parent, d.numbers), rest) = value_again inner.1 (d.parent, d.numbers) rest inner.4 in
    rw (whole, head) (rw value refl)

-- ---- types' assignments

-- the clauses of a convention begin with two tokens that no assignment does
conv_begins : (text : List Lexeme) → IsConvention text → (rest : List Lexeme) → is_convention (word (codes "TEXTUAL-CONVENTION") ∷ (text ++ rest)) ≡ true
conv_begins text is rest =
    ⊎_elim
    (λ (none : is.0 ≡ []).
    let d = is.4.3 in
    let status = d.3 in
    let w : (l : Lexeme) × (status.1 ≡ l ∷ []) × (other_than_assign l ≡ true) = (word status.4.0, status.4.1, refl) in
    let shape : text ≡ word (codes "STATUS") ∷ w.0 ∷ (d.1 ++ is.4.1) =
    is.2 ∙ ap (λ (k : List Lexeme). k ++ is.1) none ∙ is.4.2 ∙ ap (λ (k : List Lexeme). k ++ is.4.1) (d.2 ∙ ap (λ (k : List Lexeme). k ++ d.1) (status.2 ∙ ap (λ (k : List Lexeme). k ++ status.1) status.3 ∙ ap (λ (k : List Lexeme). word (codes "STATUS") ∷ k) w.1)) in
    ap (λ (k : List Lexeme). is_convention (word (codes "TEXTUAL-CONVENTION") ∷ (k ++ rest))) shape ∙ w.2)
    (λ (hint : IsClause (codes "DISPLAY-HINT") Text is.0).
    let shape : text ≡ word (codes "DISPLAY-HINT") ∷ punctuation Quoted ∷ is.1 = is.2 ∙ ap (λ (k : List Lexeme). k ++ is.1) (hint.2 ∙ ap (λ (k : List Lexeme). k ++ hint.1) hint.3 ∙ ap (λ (k : List Lexeme). word (codes "DISPLAY-HINT") ∷ k) hint.4) in
    ap (λ (k : List Lexeme). is_convention (word (codes "TEXTUAL-CONVENTION") ∷ (k ++ rest))) shape)
    is.3
  where
    other_than_assign : Lexeme → Bool
    other_than_assign l = not (is_punctuation Assign l)

-- a type is no convention
no_convention : (text rest : List Lexeme) → IsType text → Follows rest → is_convention (text ++ rest) ≡ false
no_convention text rest is follows =
    let behind : BehindName (is.1 ++ rest) = maybe_leads is.1 rest is.4 follows in
    let whole : text ++ rest ≡ is.0 ++ (is.1 ++ rest) = ap (λ (k : List Lexeme). k ++ rest) is.2 ∙ append_assoc is.0 is.1 rest in
    ap is_convention whole ∙
    ⊎_elim
    (λ (octets : is.0 ≡ word (codes "OCTET") ∷ word (codes "STRING") ∷ []). ap (λ (k : List Lexeme). is_convention (k ++ (is.1 ++ rest))) octets)
    (λ other1. ⊎_elim
    (λ (object : is.0 ≡ word (codes "OBJECT") ∷ word (codes "IDENTIFIER") ∷ []). ap (λ (k : List Lexeme). is_convention (k ++ (is.1 ++ rest))) object)
    (λ other2. ⊎_elim
    (λ (sequence : (name : List ℕ) × (is.0 ≡ word (codes "SEQUENCE") ∷ word (codes "OF") ∷ word name ∷ []) × IsTrue (begins_capital name)). ap (λ (k : List Lexeme). is_convention (k ++ (is.1 ++ rest))) sequence.1)
    (λ (single : (name : List ℕ) × (is.0 ≡ word name ∷ []) × IsTrue (begins_capital name)). ap (λ (k : List Lexeme). is_convention (k ++ (is.1 ++ rest))) single.1 ∙ behind_single single.0 (is.1 ++ rest) behind.clear)
    other2)
    other1)
    is.3
  where
    and_false : (t : Bool) → (t && false) ≡ false
    and_false true = refl
    and_false false = refl

    goes : (l : Lexeme) → (is_word (codes "DISPLAY-HINT") l || is_word (codes "STATUS") l) ≡ true → goes_on_type l ≡ true
    goes l either =
        ⊎_elim (λ hint. ap goes_on_type (word_is (codes "DISPLAY-HINT") l hint)) (λ status. ap goes_on_type (word_is (codes "STATUS") l status))
        (or_parts (is_word (codes "DISPLAY-HINT") l) (is_word (codes "STATUS") l) either)

    inner : (l : Lexeme) (ls : List Lexeme) (t u : Bool) → (is_word (codes "DISPLAY-HINT") l || is_word (codes "STATUS") l) ≡ t → begins Assign ls ≡ u → is_clear (l ∷ ls) ≡ true → (t && not u) ≡ false
    inner l ls false u e f clear = refl
    inner l ls true true e f clear = refl
    inner l ls true false e f clear = let yes_case : goes_on_type l ≡ true = goes l e in let wrong : (not true || false) ≡ true = (rw (yes_case, f) at clear) in absurd (cc)

    behind_single : (name : List ℕ) (ls : List Lexeme) → is_clear ls ≡ true → is_convention (word name ∷ ls) ≡ false
    behind_single name [] clear = refl
    behind_single name (l ∷ ls) clear = rw (inner l ls (is_word (codes "DISPLAY-HINT") l || is_word (codes "STATUS") l) (begins Assign ls) refl refl clear) (and_false (is_word (codes "TEXTUAL-CONVENTION") (word name)))

abbrev IsTypeBody : List Lexeme → Type 0
IsTypeBody body = (IsThis (word (codes "TEXTUAL-CONVENTION")) ▸ IsConvention) body ⊎ IsType body

textual_takes : Takes (IsThis (word (codes "TEXTUAL-CONVENTION")) ▸ IsConvention) textual_at
unfolding textual_at
textual_takes = seq_takes (IsThis (word (codes "TEXTUAL-CONVENTION"))) IsConvention (word_at (codes "TEXTUAL-CONVENTION")) convention_at (word_takes (codes "TEXTUAL-CONVENTION")) convention_takes

textual_again : Again (IsThis (word (codes "TEXTUAL-CONVENTION")) ▸ IsConvention) Follows textual_at
unfolding textual_at
textual_again = seq_again (IsThis (word (codes "TEXTUAL-CONVENTION"))) IsConvention Any Follows (word_at (codes "TEXTUAL-CONVENTION")) convention_at (word_again (codes "TEXTUAL-CONVENTION")) convention_again (λ text rest is follows. tt)

body_takes : (ls rest : List Lexeme) → type_body_at ls ≡ Ok rest → (body : List Lexeme) × IsTypeBody body × (ls ≡ punctuation Assign ∷ (body ++ rest))
unfolding type_body_at
body_takes ls rest is =
    let x = bind_ok (punctuation_at Assign ls) (λ r. cond (is_convention r) (textual_at r) (type_at r)) rest is in
    let assign = punctuation_takes Assign ls x.0 x.1 in
    let first : ls ≡ punctuation Assign ∷ x.0 = assign.2 ∙ ap (λ (k : List Lexeme). k ++ x.0) assign.1 in
    ⊎_elim
    (λ (textual : (is_convention x.0 ≡ true) × (textual_at x.0 ≡ Ok rest)). let t = textual_takes x.0 rest textual.1 in (t.0, inl t.1, first ∙ ap (λ (k : List Lexeme). punctuation Assign ∷ k) t.2))
    (λ (plain : (is_convention x.0 ≡ false) × (type_at x.0 ≡ Ok rest)). let t = type_takes x.0 rest plain.1 in (t.0, inr t.1, first ∙ ap (λ (k : List Lexeme). punctuation Assign ∷ k) t.2))
    (chosen (is_convention x.0) (textual_at x.0) (type_at x.0) rest x.2)

body_again : (body rest : List Lexeme) → IsTypeBody body → Follows rest → type_body_at (punctuation Assign ∷ (body ++ rest)) ≡ Ok rest
unfolding type_body_at
body_again body rest is follows =
    ⊎_elim
    (λ (textual : (IsThis (word (codes "TEXTUAL-CONVENTION")) ▸ IsConvention) body).
    let shape : body ++ rest ≡ word (codes "TEXTUAL-CONVENTION") ∷ (textual.1 ++ rest) = ap (λ (k : List Lexeme). k ++ rest) (textual.2 ∙ ap (λ (k : List Lexeme). k ++ textual.1) textual.3) in
    let there : is_convention (body ++ rest) ≡ true = ap is_convention shape ∙ conv_begins textual.1 textual.4 rest in
    rw there (textual_again body rest textual follows))
    (λ (plain : IsType body). rw (no_convention body rest plain follows) (type_again body rest plain follows))
    is

-- ---- assignments

name_takes : (ls : List Lexeme) (w : List ℕ) (rest : List Lexeme) → name_at ls ≡ Some (w, rest) → ls ≡ word w ∷ rest
name_takes [] w rest is = absurd (cc)
name_takes (word v ∷ ls) w rest is = let p = some_parts v w ls rest is in ap (λ (x : List ℕ). word x ∷ ls) p.0 ∙ ap (λ (k : List Lexeme). word w ∷ k) p.1
name_takes (number d ∷ ls) w rest is = absurd (cc)
name_takes (punctuation k ∷ ls) w rest is = absurd (cc)

pub assignment_takes : TakesOne IsAssignment assignment_at
unfolding assignment_at assignment_of
assignment_takes ls a rest is =
    let x = bind_ok (or_left ls (name_at ls)) (λ n. assignment_of n.0 ls n.1) (a, rest) is in
    let name = x.0.0 in
    let more = x.0.1 in
    let first = name_takes ls name more (from_left ls (name_at ls) x.0 x.1) in
    ⊎_elim
    (λ (small : (begins_small name ≡ true) × ((definition_at name more >>= λ d. Ok (assigned d)) ≡ Ok (a, rest))).
    let y = bind_ok (definition_at name more) (λ d. Ok (assigned d)) (a, rest) small.1 in
    let p = pair_parts (Some y.0.0) a y.0.1 rest y.2 in
    let t = definition_takes name more y.0.0 y.0.1 y.1 in (
      word name ∷ t.0,
      subst (λ (o : Option Definition). IsAssignment (word name ∷ t.0) o) p.0
          (t.0, ap (λ (w : List ℕ). word w ∷ t.0) (sym t.2), subst (λ (w : List ℕ). IsTrue (begins_small w)) (sym t.2) small.0, t.1),
      first ∙ ap (λ (k : List Lexeme). word name ∷ k) (t.3 ∙ ap (λ (k : List Lexeme). t.0 ++ k) p.1),
    ))
    (λ (other : (begins_small name ≡ false) × (cond (begins_capital name) (type_body_at more >>= λ r. Ok (passed_over r)) (Err ls) ≡ Ok (a, rest))).
    let w = wanted (begins_capital name) (type_body_at more >>= λ r. Ok (passed_over r)) ls (a, rest) other.1 in
    let y = bind_ok (type_body_at more) (λ r. Ok (passed_over r)) (a, rest) w.1 in
    let p = pair_parts None a y.0 rest y.2 in
    let t = body_takes more y.0 y.1 in (
      word name ∷ punctuation Assign ∷ t.0,
      subst (λ (o : Option Definition). IsAssignment (word name ∷ punctuation Assign ∷ t.0) o) p.0 (name, t.0, refl, w.0, t.1),
      first ∙ ap (λ (k : List Lexeme). word name ∷ k) (t.2 ∙ ap (λ (k : List Lexeme). punctuation Assign ∷ (t.0 ++ k)) p.1),
    ))
    (chosen (begins_small name) (definition_at name more >>= λ d. Ok (assigned d)) (cond (begins_capital name) (type_body_at more >>= λ r. Ok (passed_over r)) (Err ls)) (a, rest) x.2)

capital_no_small : (w : List ℕ) → begins_capital w ≡ true → begins_small w ≡ false
capital_no_small [] is = absurd (cc)
capital_no_small (b ∷ bs) is = no_both b is
  where
    no_both : (c : ℕ) → is_ascii_uppercase c ≡ true → is_ascii_lowercase c ≡ false
    no_both c upper = grind (arith, nat_tests)

pub assignment_again : (text : List Lexeme) (a : Option Definition) (rest : List Lexeme) → IsAssignment text a → Follows rest → assignment_at (text ++ rest) ≡ Ok (a, rest)
unfolding assignment_at assignment_of
assignment_again text (Some d) rest is follows =
    let small : begins_small d.name ≡ true = is.2 in
    let whole : text ++ rest ≡ word d.name ∷ (is.0 ++ rest) = ap (λ (k : List Lexeme). k ++ rest) is.1 in
    rw (whole, small) (rw (definition_again d is.0 rest is.3) refl)
assignment_again text None rest is follows =
    let capital : begins_capital is.0 ≡ true = is.3 in
    let whole : text ++ rest ≡ word is.0 ∷ punctuation Assign ∷ (is.1 ++ rest) = ap (λ (k : List Lexeme). k ++ rest) is.2 in
    rw (whole, capital_no_small is.0 capital, capital) (rw (body_again is.1 rest is.4 follows) refl)

small_goes : (w : List ℕ) → begins_small w ≡ true → goes_on_type (word w) ≡ false
small_goes w small =
    not_false (goes_on_type (word w)) (λ is.
    ⊎_elim (λ a. no_case (codes "STRING") refl a) (λ r1. ⊎_elim (λ a. no_case (codes "IDENTIFIER") refl a) (λ r2. ⊎_elim (λ a. no_case (codes "OF") refl a) (λ r3. ⊎_elim (λ a. no_case (codes "DISPLAY-HINT") refl a) (λ a. no_case (codes "STATUS") refl a)
    (or_parts (is_word (codes "DISPLAY-HINT") (word w)) (is_word (codes "STATUS") (word w)) r3))
    (or_parts (is_word (codes "OF") (word w)) (is_word (codes "DISPLAY-HINT") (word w) || is_word (codes "STATUS") (word w)) r2))
    (or_parts (is_word (codes "IDENTIFIER") (word w)) (is_word (codes "OF") (word w) || (is_word (codes "DISPLAY-HINT") (word w) || is_word (codes "STATUS") (word w))) r1))
    (or_parts (is_word (codes "STRING") (word w)) (is_word (codes "IDENTIFIER") (word w) || (is_word (codes "OF") (word w) || (is_word (codes "DISPLAY-HINT") (word w) || is_word (codes "STATUS") (word w)))) is))
  where
    no_case : (v : List ℕ) → begins_small v ≡ false → is_word v (word w) ≡ true → ⊥
    no_case v large is =
        let same : w ≡ v = same_is w v is in
        let wrong : begins_small v ≡ true = subst (λ (x : List ℕ). begins_small x ≡ true) same small in
        absurd (cc)

or_true_right : (t : Bool) → (t || true) ≡ true
or_true_right true = refl
or_true_right false = refl

assignment_leads : (text : List Lexeme) (a : Option Definition) (rest : List Lexeme) → IsAssignment text a → Follows rest → Follows (text ++ rest)
assignment_leads text (Some d) rest is follows =
    subst (λ (k : List Lexeme). Follows k) (sym (ap (λ (k : List Lexeme). k ++ rest) is.1))
    (record { brace = refl; paren = refl; behind_name = record { assign = refl; clear = rw (small_goes d.name is.2) refl } })
assignment_leads text None rest is follows =
    subst (λ (k : List Lexeme). Follows k) (sym (ap (λ (k : List Lexeme). k ++ rest) is.2))
    (record { brace = refl; paren = refl; behind_name = record { assign = refl; clear = or_true_right (not (goes_on_type (word is.0))) } })

assignment_two : (text : List Lexeme) (a : Option Definition) → IsAssignment text a → 2 ≤ length text
assignment_two text (Some d) is =
    let lens : length text ≡ suc (length is.0) = ap (λ (k : List Lexeme). length k) is.1 in
    let inner = is.3 in
    let deep = inner.4 in
    let rest_len : length is.0 ≡ length inner.0 + length inner.1 = ap (λ (k : List Lexeme). length k) inner.2 ∙ length-append inner.0 inner.1 in
    let value_len : length inner.1 ≡ length deep.0 + length deep.1 = ap (λ (k : List Lexeme). length k) deep.2 ∙ length-append deep.0 deep.1 in
    let one_punctuation : length deep.0 ≡ 1 = ap (λ (k : List Lexeme). length k) deep.3 in
    omega arith
assignment_two text None is = let lens : length text ≡ suc (suc (length is.1)) = ap (λ (k : List Lexeme). length k) is.2 in omega arith

pub assignment_some : (text : List Lexeme) (a : Option Definition) → IsAssignment text a → 0 < length text
assignment_some text a is = let two : 2 ≤ length text = assignment_two text a is in omega arith

no_end : (ls : List Lexeme) → 2 ≤ length ls → ends_module ls ≡ false
no_end [] two = absurd (omega arith)
no_end (l ∷ []) two = absurd (omega arith)
no_end (l ∷ m ∷ ls) two = refl

assignment_goes : (text : List Lexeme) (a : Option Definition) (rest : List Lexeme) → IsAssignment text a → Follows rest → ends_module (text ++ rest) ≡ false
assignment_goes text a rest is follows =
    let two : 2 ≤ length text = assignment_two text a is in
    let lens : length (text ++ rest) ≡ length text + length rest = length-append text rest in
    no_end (text ++ rest) (omega arith)

-- ---- modules

end_is : (ls : List Lexeme) → ends_module ls ≡ true → ls ≡ word (codes "END") ∷ []
end_is [] is = absurd (cc)
end_is (l ∷ []) is = this_word (codes "END") l is
end_is (l ∷ m ∷ ls) is = absurd (cc)

abbrev the_end : List Lexeme
the_end = word (codes "END") ∷ []

end_follows : Follows the_end
end_follows = record { brace = refl; paren = refl; behind_name = record { assign = refl; clear = refl } }

definitions_take : (ls : List Lexeme) (defs : List Definition) → definitions_at ls ≡ Ok defs → (body : List Lexeme) × (xs : List (Option Definition)) × Are IsAssignment body xs × (defs ≡ flat_map option_to_list xs) × (ls ≡ body ++ the_end)
unfolding definitions_at
definitions_take ls defs is =
    let x = bind_ok (many assignment_at option_to_list ends_module (length ls) ls) (λ all. Ok all.0) defs is in
    let t = many_takes assignment_at option_to_list ends_module IsAssignment assignment_takes (length ls) ls x.0.0 x.0.1 x.1 in
    (t.0, t.1, t.2, sym (ok_is x.0.0 defs x.2) ∙ t.3, t.4 ∙ ap (λ (k : List Lexeme). t.0 ++ k) (end_is x.0.1 t.5))

definitions_again : (body : List Lexeme) (xs : List (Option Definition)) → Are IsAssignment body xs → definitions_at (body ++ the_end) ≡ Ok (flat_map option_to_list xs)
unfolding definitions_at
definitions_again body xs are =
    let lens : length (body ++ the_end) ≡ length body + 1 = length-append body the_end in
    ap (λ (r : Read (List Definition × List Lexeme)). r >>= λ all. Ok all.0)
    (many_again assignment_at option_to_list ends_module IsAssignment Follows assignment_again assignment_leads assignment_some assignment_goes (length (body ++ the_end)) body xs the_end are end_follows refl (omega arith))

imported_takes : (ls rest : List Lexeme) → begins_word (codes "IMPORTS") ls ≡ true → imported_at ls ≡ Ok rest → (names : List Lexeme) × IsFree Semicolon names × (ls ≡ (word (codes "IMPORTS") ∷ names ++ punctuation Semicolon ∷ []) ++ rest)
unfolding imported_at
imported_takes ls rest first is =
    let x = bind_ok (up_to Semicolon ls) (punctuation_at Semicolon) rest is in
    let t = up_to_takes Semicolon ls x.0 x.1 in
    let semi = punctuation_takes Semicolon x.0 rest x.2 in
    let after : x.0 ≡ punctuation Semicolon ∷ rest = semi.2 ∙ ap (λ (k : List Lexeme). k ++ rest) semi.1 in
    go t.0 t.1 (t.2 ∙ ap (λ (k : List Lexeme). t.0 ++ k) after)
  where
    go : (front : List Lexeme) → IsFree Semicolon front → ls ≡ front ++ punctuation Semicolon ∷ rest → (names : List Lexeme) × IsFree Semicolon names × (ls ≡ (word (codes "IMPORTS") ∷ names ++ punctuation Semicolon ∷ []) ++ rest)
    go [] free whole = let no_word : begins_word (codes "IMPORTS") ls ≡ false = ap (begins_word (codes "IMPORTS")) whole in absurd (cc)
    go (l ∷ names) free whole =
        let here : is_word (codes "IMPORTS") l ≡ true = sym (ap (begins_word (codes "IMPORTS")) whole) ∙ first in
        (names, free.1, whole ∙ ap (λ (x : Lexeme). x ∷ (names ++ punctuation Semicolon ∷ rest)) (word_is (codes "IMPORTS") l here) ∙ ap (λ (k : List Lexeme). word (codes "IMPORTS") ∷ k) (sym (append_assoc names (punctuation Semicolon ∷ []) rest)))

pub imports_take : (ls rest : List Lexeme) → imports_at ls ≡ Ok rest → (imports : List Lexeme) × AreImports imports rest × (ls ≡ imports ++ rest)
unfolding imports_at
imports_take ls rest is =
    ⊎_elim
    (λ (there : (begins_word (codes "IMPORTS") ls ≡ true) × (imported_at ls ≡ Ok rest)). let t = imported_takes ls rest there.0 there.1 in
    (word (codes "IMPORTS") ∷ t.0 ++ punctuation Semicolon ∷ [], inr (t.0, refl, t.1), t.2))
    (λ (none : (begins_word (codes "IMPORTS") ls ≡ false) × (Ok ls ≡ Ok rest)). let same = ok_is ls rest none.1 in
    ([], inl (refl, λ more is_it. no_imports more (same ∙ is_it) none.0), same))
    (chosen (begins_word (codes "IMPORTS") ls) (imported_at ls) (Ok ls) rest is)
  where
    no_imports : (more : List Lexeme) → ls ≡ word (codes "IMPORTS") ∷ more → begins_word (codes "IMPORTS") ls ≡ false → ⊥
    no_imports more is_it none = let there : begins_word (codes "IMPORTS") ls ≡ true = ap (begins_word (codes "IMPORTS")) is_it in absurd (cc)

imports_again : (imports rest : List Lexeme) → AreImports imports rest → imports_at (imports ++ rest) ≡ Ok rest
unfolding imports_at imported_at
imports_again imports rest is =
    ⊎_elim
    (λ (none : (imports ≡ []) × ((more : List Lexeme) → rest ≡ word (codes "IMPORTS") ∷ more → ⊥)).
    subst (λ (k : List Lexeme). imports_at (k ++ rest) ≡ Ok rest) (sym none.0) (rw (other rest none.1) refl))
    (λ (there : (names : List Lexeme) × (imports ≡ word (codes "IMPORTS") ∷ names ++ punctuation Semicolon ∷ []) × IsFree Semicolon names).
    let whole : imports ++ rest ≡ word (codes "IMPORTS") ∷ (there.0 ++ punctuation Semicolon ∷ rest) = ap (λ (k : List Lexeme). k ++ rest) there.1 ∙ ap (λ (k : List Lexeme). word (codes "IMPORTS") ∷ k) (append_assoc there.0 (punctuation Semicolon ∷ []) rest) in
    rw (whole, up_to_again Semicolon there.0 rest there.2) refl)
    is
  where
    other : (ls : List Lexeme) → ((more : List Lexeme) → ls ≡ word (codes "IMPORTS") ∷ more → ⊥) → begins_word (codes "IMPORTS") ls ≡ false
    other [] none = refl
    other (l ∷ ls) none = not_false (is_word (codes "IMPORTS") l) (λ is_it. none ls (ap (λ (x : Lexeme). x ∷ ls) (word_is (codes "IMPORTS") l is_it)))

pub module_takes : (ls : List Lexeme) (name : List ℕ) (defs : List Definition) → module_at ls ≡ Ok (name, defs) → IsModule ls name defs
unfolding module_at module_body_at
module_takes ls name defs is =
    let x = bind_ok (or_left ls (name_at ls)) (λ n. cond (begins_capital n.0) (module_body_at n.1 >>= λ ds. Ok (n.0, ds)) (Err ls)) (name, defs) is in
    let w = wanted (begins_capital x.0.0) (module_body_at x.0.1 >>= λ ds. Ok (x.0.0, ds)) ls (name, defs) x.2 in
    let y = bind_ok (module_body_at x.0.1) (λ ds. Ok (x.0.0, ds)) (name, defs) w.1 in
    let p = pair_parts x.0.0 name y.0 defs y.2 in
    let a = bind_ok (word_at (codes "DEFINITIONS") x.0.1) (λ k. punctuation_at Assign k >>= λ m. word_at (codes "BEGIN") m >>= λ n. imports_at n >>= definitions_at) y.0 y.1 in
    let b = bind_ok (punctuation_at Assign a.0) (λ m. word_at (codes "BEGIN") m >>= λ n. imports_at n >>= definitions_at) y.0 a.2 in
    let c = bind_ok (word_at (codes "BEGIN") b.0) (λ n. imports_at n >>= definitions_at) y.0 b.2 in
    let d = bind_ok (imports_at c.0) definitions_at y.0 c.2 in
    let first = word_takes (codes "DEFINITIONS") x.0.1 a.0 a.1 in
    let second = punctuation_takes Assign a.0 b.0 b.1 in
    let third = word_takes (codes "BEGIN") b.0 c.0 c.1 in
    let imports = imports_take c.0 d.0 d.1 in
    let body = definitions_take d.0 y.0 d.2 in
    let whole : ls ≡ word name ∷ word (codes "DEFINITIONS") ∷ punctuation Assign ∷ word (codes "BEGIN") ∷ imports.0 ++ (body.0 ++ the_end) =
    name_takes ls x.0.0 x.0.1 (from_left ls (name_at ls) x.0 x.1) ∙ ap (λ (v : List ℕ). word v ∷ x.0.1) p.0
    ∙ ap (λ (k : List Lexeme). word name ∷ k) (first.2 ∙ ap (λ (k : List Lexeme). k ++ a.0) first.1
    ∙ ap (λ (k : List Lexeme). word (codes "DEFINITIONS") ∷ k) (second.2 ∙ ap (λ (k : List Lexeme). k ++ b.0) second.1
    ∙ ap (λ (k : List Lexeme). punctuation Assign ∷ k) (third.2 ∙ ap (λ (k : List Lexeme). k ++ c.0) third.1
    ∙ ap (λ (k : List Lexeme). word (codes "BEGIN") ∷ k) (imports.2 ∙ ap (λ (k : List Lexeme). imports.0 ++ k) body.4)))) in
    record {
      imports = imports.0;
      body = body.0;
      assignments = body.1;
      whole = whole;
      is_capital = subst (λ (v : List ℕ). IsTrue (begins_capital v)) p.0 w.0;
      are_imports = subst (λ (k : List Lexeme). AreImports imports.0 k) body.4 imports.1;
      are_assignments = body.2;
      in_order = sym p.1 ∙ body.3;
    }

pub module_again : (ls : List Lexeme) (name : List ℕ) (defs : List Definition) → IsModule ls name defs → module_at ls ≡ Ok (name, defs)
unfolding module_at module_body_at
module_again ls name defs is =
    let capital : begins_capital name ≡ true = is.is_capital in
    let imports : imports_at (is.imports ++ (is.body ++ the_end)) ≡ Ok (is.body ++ the_end) = imports_again is.imports (is.body ++ the_end) is.are_imports in
    let body : definitions_at (is.body ++ the_end) ≡ Ok (flat_map option_to_list is.assignments) = definitions_again is.body is.assignments is.are_assignments in
    rw (is.whole, capital) (rw (imports, body) (ap (λ (l : List Definition). Ok (name, l)) (sym is.in_order)))

pub definitions_are : (ls : List Lexeme) (defs : List Definition) (rest : List Lexeme) → many assignment_at option_to_list ends_module (length ls) ls ≡ Ok (defs, rest) → definitions_at ls ≡ Ok defs
unfolding definitions_at
definitions_are ls defs rest is = ap (λ (r : Read (List Definition × List Lexeme)). r >>= λ all. Ok all.0) is

pub definitions_none : (ls left : List Lexeme) → many assignment_at option_to_list ends_module (length ls) ls ≡ Err left → definitions_at ls ≡ Err left
unfolding definitions_at
definitions_none ls left is = ap (λ (r : Read (List Definition × List Lexeme)). r >>= λ all. Ok all.0) is
