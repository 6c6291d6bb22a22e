-- Rules and readers: what is read was derived, and what is derived is read.
use Rattle.std.proofs.Common.{◌≡◌, ℕ, zero, suc, ◌-◌, Bool, true, false, cond, List, [], ◌∷◌, ◌++◌, drop, Result, Ok, Err, sym, refl, ap, ◌∙◌, subst, arith, append_assoc, ◌⊎◌, ⊎_elim, inl, inr}
use Rattle.std.specs.Prelude.{IsTrue, ◌||◌, ◌&&◌, ◌==◌, not, codes, if◌then◌else◌}
use Rattle.std.proofs.lemmas.Bool.{eqb-true}
use Rattle.std.proofs.lemmas.Bool.Decides.{nat_tests}
use Rattle.mon_smi.specs.declared.kind.TokenKind.{TokenKind}
use Rattle.mon_smi.specs.declared.kind.TokenKind.TheVariants.{Word, Number, Quoted, Hex, Binary, Assign, Range, LeftBrace, RightBrace, LeftParen, RightParen, LeftBracket, RightBracket, Comma, Semicolon, Dot, Bar}
use Rattle.mon_smi.specs.declared.part.Part.{Part}
use Rattle.mon_smi.specs.declared.part.Part.TheVariants.{Syntax, Text, Access, Status, Word, Group}
use Rattle.mon_smi.specs.Lexemes.{Lexeme, word, number, punctuation, code_of, same_text, is_word, is_punctuation, begins_capital, is_capital, is_any_word}
use Rattle.mon_oid.specs.Steps.{◌>>=◌}
use Rattle.mon_smi.specs.Reading.{Read, one, word_at, punctuation_at, begins, begins_word, nested_at, group_at, is_pair, is_sequence_of, type_name_at, maybe_group, type_at, is_access, is_status, part_at, clause_at, optional_at, index_at, syntax_at, described_at, object_type_at, convention_at}
use Rattle.mon_smi.specs.Grammar.{◌▸◌, IsThis, IsWordOf, IsNested, IsBalanced, IsTypeName, IsMaybeGroup, IsType, accesses, statuses, IsClausePart, IsClause, IsOptional, IsIndex, IsSyntax, IsDescribed, IsObjectType, IsConvention}

-- ---- tests

pub and_parts : (t u : Bool) → (t && u) ≡ true → (t ≡ true) × (u ≡ true)
and_parts true u is = (refl, is)
and_parts false u is = absurd (cc)

pub or_parts : (t u : Bool) → (t || u) ≡ true → (t ≡ true) ⊎ (u ≡ true)
or_parts true u is = inl refl
or_parts false u is = inr is

not_true : (t : Bool) → not t ≡ true → t ≡ false
not_true true is = absurd (cc)
not_true false is = refl

pub not_false : (t : Bool) → (t ≡ true → ⊥) → t ≡ false
not_false true is = absurd (is refl)
not_false false is = refl

pub same_is : (v w : List ℕ) → same_text v w ≡ true → v ≡ w
same_is [] [] is = refl
same_is [] (b ∷ bs) is = absurd (cc)
same_is (a ∷ xs) [] is = absurd (cc)
same_is (a ∷ xs) (b ∷ bs) is =
    let p = and_parts (a == b) (same_text xs bs) is in
    ap (λ (x : ℕ). x ∷ xs) (eqb-true a b p.0) ∙ ap (λ (l : List ℕ). b ∷ l) (same_is xs bs p.1)

same_number : (n : ℕ) → (n == n) ≡ true
same_number n = grind (arith, nat_tests)

pub same_self : (w : List ℕ) → same_text w w ≡ true
same_self [] = refl
same_self (a ∷ xs) = rw (same_number a) (same_self xs)

abbrev kind_of : ℕ → TokenKind
kind_of n =
    if n == 0 then Word else (if n == 1 then Number else (if n == 2 then Quoted else (if n == 3 then Hex else (if n == 4 then Binary else (if n == 5 then Assign else
    (if n == 6 then Range else (if n == 7 then LeftBrace else (if n == 8 then RightBrace else (if n == 9 then LeftParen else (if n == 10 then RightParen else (if n == 11 then LeftBracket else
    (if n == 12 then RightBracket else (if n == 13 then Comma else (if n == 14 then Semicolon else (if n == 15 then Dot else Bar)))))))))))))))

kind_back : (k : TokenKind) → kind_of (code_of k) ≡ k
kind_back Word = refl
kind_back Number = refl
kind_back Quoted = refl
kind_back Hex = refl
kind_back Binary = refl
kind_back Assign = refl
kind_back Range = refl
kind_back LeftBrace = refl
kind_back RightBrace = refl
kind_back LeftParen = refl
kind_back RightParen = refl
kind_back LeftBracket = refl
kind_back RightBracket = refl
kind_back Comma = refl
kind_back Semicolon = refl
kind_back Dot = refl
kind_back Bar = refl

pub word_is : (w : List ℕ) (l : Lexeme) → is_word w l ≡ true → l ≡ word w
word_is w (word v) is = ap (λ (x : List ℕ). word x) (same_is v w is)
word_is w (number d) is = absurd (cc)
word_is w (punctuation k) is = absurd (cc)

pub punctuation_is : (k : TokenKind) (l : Lexeme) → is_punctuation k l ≡ true → l ≡ punctuation k
punctuation_is k (word v) is = absurd (cc)
punctuation_is k (number d) is = absurd (cc)
punctuation_is k (punctuation j) is = ap (λ (x : TokenKind). punctuation x) (sym (kind_back j) ∙ ap kind_of (eqb-true (code_of j) (code_of k) is) ∙ kind_back k)

pub word_self : (w : List ℕ) → is_word w (word w) ≡ true
word_self w = same_self w

pub punctuation_self : (k : TokenKind) → is_punctuation k (punctuation k) ≡ true
punctuation_self k = same_number (code_of k)

-- ---- readers of what follows

abbrev pub Takes : (List Lexeme → Type 0) → (List Lexeme → Read (List Lexeme)) → Type 0
Takes Is read = (ls rest : List Lexeme) → read ls ≡ Ok rest → (text : List Lexeme) × Is text × (ls ≡ text ++ rest)

abbrev pub Again : (List Lexeme → Type 0) → (List Lexeme → Type 0) → (List Lexeme → Read (List Lexeme)) → Type 0
Again Is F read = (text rest : List Lexeme) → Is text → F rest → read (text ++ rest) ≡ Ok rest

-- whatever follows
abbrev pub Any : List Lexeme → Type 0
Any rest = Unit {0}

pub bind_ok : {A B E : Type 0} (r : Result A E) (f : A → Result B E) (y : B) → (r >>= f) ≡ Ok y → (x : A) × (r ≡ Ok x) × (f x ≡ Ok y)
bind_ok (Err e) f y is = absurd (cc)
bind_ok (Ok x) f y is = (x, refl, is)

abbrev pub ok_of : {A : Type 0} → A → Read A
ok_of x = Ok x

pub ok_is : {A : Type 0} (x y : A) → ok_of x ≡ Ok y → x ≡ y
ok_is x y is = cc

-- a test that must have been true, or chose
pub wanted : {A E : Type 0} (t : Bool) (x : Result A E) (e : E) (y : A) → cond t x (Err e) ≡ Ok y → (t ≡ true) × (x ≡ Ok y)
wanted true x e y is = (refl, is)
wanted false x e y is = absurd (cc)

pub chosen : {A E : Type 0} (t : Bool) (x z : Result A E) (y : A) → cond t x z ≡ Ok y → ((t ≡ true) × (x ≡ Ok y)) ⊎ ((t ≡ false) × (z ≡ Ok y))
chosen true x z y is = inl (refl, is)
chosen false x z y is = inr (refl, is)

pub seq_takes : (A B : List Lexeme → Type 0) (a b : List Lexeme → Read (List Lexeme)) → Takes A a → Takes B b → Takes (A ▸ B) (λ ls. a ls >>= b)
seq_takes A B a b ta tb ls rest is =
    let x = bind_ok (a ls) b rest is in
    let p = ta ls x.0 x.1 in
    let q = tb x.0 rest x.2 in
    (p.0 ++ q.0, (p.0, q.0, refl, p.1, q.1), p.2 ∙ ap (λ (l : List Lexeme). p.0 ++ l) q.2 ∙ sym (append_assoc p.0 q.0 rest))

pub seq_again : (A B F G : List Lexeme → Type 0) (a b : List Lexeme → Read (List Lexeme)) → Again A F a → Again B G b → ((text rest : List Lexeme) → B text → G rest → F (text ++ rest)) → Again (A ▸ B) G (λ ls. a ls >>= b)
seq_again A B F G a b aa ab leads text rest is follows =
    let front = is.0 in
    let back = is.1 in
    let whole : text ++ rest ≡ front ++ (back ++ rest) = ap (λ (l : List Lexeme). l ++ rest) is.2 ∙ append_assoc front back rest in
    let first : a (front ++ (back ++ rest)) ≡ Ok (back ++ rest) = aa front (back ++ rest) is.3 (leads back rest is.4 follows) in
    ap (λ (l : List Lexeme). a l >>= b) whole ∙ ap (λ (r : Read (List Lexeme)). r >>= b) first ∙ ab back rest is.4 follows

pub one_takes : (test : Lexeme → Bool) (Is : List Lexeme → Type 0) → ((l : Lexeme) → test l ≡ true → Is (l ∷ [])) → Takes Is (one test)
one_takes test Is tests [] rest is = absurd (cc)
one_takes test Is tests (l ∷ ls) rest is =
    let w = wanted (test l) (Ok ls) (l ∷ ls) rest is in
    (l ∷ [], tests l w.0, ap (λ (k : List Lexeme). l ∷ k) (ok_is ls rest w.1))

pub one_again : (test : Lexeme → Bool) (Is : List Lexeme → Type 0) → ((text : List Lexeme) → Is text → (l : Lexeme) × (text ≡ l ∷ []) × (test l ≡ true)) → Again Is Any (one test)
one_again test Is tests text rest is follows =
    let t = tests text is in
    ap (λ (k : List Lexeme). one test (k ++ rest)) t.1 ∙ passes t.0 t.2
  where
    passes : (l : Lexeme) → test l ≡ true → one test (l ∷ rest) ≡ Ok rest
    passes l yes_case = rw yes_case refl

pub word_takes : (w : List ℕ) → Takes (IsThis (word w)) (word_at w)
word_takes w = one_takes (is_word w) (IsThis (word w)) (λ l is. ap (λ (x : Lexeme). x ∷ []) (word_is w l is))

pub word_again : (w : List ℕ) → Again (IsThis (word w)) Any (word_at w)
word_again w = one_again (is_word w) (IsThis (word w)) (λ text is. (word w, is, word_self w))

pub punctuation_takes : (k : TokenKind) → Takes (IsThis (punctuation k)) (punctuation_at k)
punctuation_takes k = one_takes (is_punctuation k) (IsThis (punctuation k)) (λ l is. ap (λ (x : Lexeme). x ∷ []) (punctuation_is k l is))

pub punctuation_again : (k : TokenKind) → Again (IsThis (punctuation k)) Any (punctuation_at k)
punctuation_again k = one_again (is_punctuation k) (IsThis (punctuation k)) (λ text is. (punctuation k, is, punctuation_self k))

pub this_word : (w : List ℕ) (l : Lexeme) → is_word w l ≡ true → l ∷ [] ≡ word w ∷ []
this_word w l is = ap (λ (x : Lexeme). x ∷ []) (word_is w l is)

-- ---- groups

nested_takes : (left right : TokenKind) (depth : ℕ) (ls rest : List Lexeme) → nested_at left right depth ls ≡ Ok rest → (inner : List Lexeme) × IsNested left right depth inner × (ls ≡ inner ++ punctuation right ∷ rest)
nested_takes left right depth [] rest is = absurd (cc)
nested_takes left right depth (l ∷ ls) rest is =
    ⊎_elim
    (λ opening. let more = nested_takes left right (suc depth) ls rest opening.1 in
    (l ∷ more.0, inl (punctuation_is left l opening.0, more.1), ap (λ (k : List Lexeme). l ∷ k) more.2))
    (λ other. ⊎_elim
    (λ closing. ⊎_elim
    (λ last. ([], eqb-true depth 0 last.0, ap (λ (x : Lexeme). x ∷ ls) (punctuation_is right l closing.0) ∙ ap (λ (k : List Lexeme). punctuation right ∷ k) (ok_is ls rest last.1)))
    (λ inside. let more = nested_takes left right (depth - 1) ls rest inside.1 in
    (l ∷ more.0, inr (inl (depth - 1, punctuation_is right l closing.0, positive depth inside.0, more.1)), ap (λ (k : List Lexeme). l ∷ k) more.2))
    (chosen (depth == 0) (Ok ls) (nested_at left right (depth - 1) ls) rest closing.1))
    (λ neither. let more = nested_takes left right depth ls rest neither.1 in
    (l ∷ more.0, inr (inr ((λ same. no_punctuation left l other.0 same), (λ same. no_punctuation right l neither.0 same), more.1)), ap (λ (k : List Lexeme). l ∷ k) more.2))
    (chosen (is_punctuation right l) (cond (depth == 0) (Ok ls) (nested_at left right (depth - 1) ls)) (nested_at left right depth ls) rest other.1))
    (chosen (is_punctuation left l) (nested_at left right (suc depth) ls) (cond (is_punctuation right l) (cond (depth == 0) (Ok ls) (nested_at left right (depth - 1) ls)) (nested_at left right depth ls)) rest is)
  where
    no_punctuation : (k : TokenKind) (x : Lexeme) → is_punctuation k x ≡ false → x ≡ punctuation k → ⊥
    no_punctuation k x no_case same = let yes_case : is_punctuation k x ≡ true = ap (is_punctuation k) same ∙ punctuation_self k in absurd (cc)

    positive : (n : ℕ) → (n == 0) ≡ false → n ≡ suc (n - 1)
    positive zero some = absurd (cc)
    positive (suc n) some = omega arith

pub other_punctuation : (k : TokenKind) (l : Lexeme) → (l ≡ punctuation k → ⊥) → is_punctuation k l ≡ false
other_punctuation k l other = not_false (is_punctuation k l) (λ is. other (punctuation_is k l is))

nested_again : (left right : TokenKind) → is_punctuation left (punctuation right) ≡ false → (depth : ℕ) (inner rest : List Lexeme) → IsNested left right depth inner → nested_at left right depth (inner ++ punctuation right ∷ rest) ≡ Ok rest
nested_again left right apart depth [] rest is = rw (apart, punctuation_self right, is) refl
nested_again left right apart depth (l ∷ ls) rest is =
    ⊎_elim
    (λ (opening : (l ≡ punctuation left) × IsNested left right (suc depth) ls). let here : is_punctuation left l ≡ true = ap (is_punctuation left) opening.0 ∙ punctuation_self left in rw here (nested_again left right apart (suc depth) ls rest opening.1))
    (λ other. ⊎_elim
    (λ (closing : (before : ℕ) × (l ≡ punctuation right) × (depth ≡ suc before) × IsNested left right before ls).
    let no_left : is_punctuation left l ≡ false = ap (is_punctuation left) closing.1 ∙ apart in
    let here : is_punctuation right l ≡ true = ap (is_punctuation right) closing.1 ∙ punctuation_self right in
    let deep : (depth == 0) ≡ false = ap (λ n. n == 0) closing.2 ∙ positive closing.0 in
    let less : depth - 1 ≡ closing.0 = (let is_suc = closing.2 in omega arith) in
    rw (no_left, here, deep) (ap (λ n. nested_at left right n (ls ++ punctuation right ∷ rest)) less ∙ nested_again left right apart closing.0 ls rest closing.3))
    (λ (neither : (l ≡ punctuation left → ⊥) × (l ≡ punctuation right → ⊥) × IsNested left right depth ls). rw (other_punctuation left l neither.0, other_punctuation right l neither.1) (nested_again left right apart depth ls rest neither.2))
    other)
    is
  where
    positive : (n : ℕ) → (suc n == 0) ≡ false
    positive n = grind (arith, nat_tests)

pub group_takes : (left right : TokenKind) → Takes (IsBalanced left right) (group_at left right)
unfolding group_at
group_takes left right ls rest is =
    let x = bind_ok (punctuation_at left ls) (nested_at left right 0) rest is in
    let p = punctuation_takes left ls x.0 x.1 in
    let q = nested_takes left right 0 x.0 rest x.2 in
    (punctuation left ∷ q.0 ++ punctuation right ∷ [], (q.0, refl, q.1), p.2 ∙ ap (λ (k : List Lexeme). k ++ x.0) p.1 ∙ ap (λ (k : List Lexeme). punctuation left ∷ k) (q.2 ∙ sym (append_assoc q.0 (punctuation right ∷ []) rest)))

pub group_again : (left right : TokenKind) → is_punctuation left (punctuation right) ≡ false → Again (IsBalanced left right) Any (group_at left right)
unfolding group_at
group_again left right apart text rest is follows =
    let whole : text ++ rest ≡ punctuation left ∷ is.0 ++ punctuation right ∷ rest = ap (λ (k : List Lexeme). k ++ rest) is.1 ∙ ap (λ (k : List Lexeme). punctuation left ∷ k) (append_assoc is.0 (punctuation right ∷ []) rest) in
    rw (whole, punctuation_self left) (nested_again left right apart 0 is.0 rest is.2)

-- ---- types

-- what goes on a type's name of two or three words, or a textual convention
abbrev pub goes_on_type : Lexeme → Bool
goes_on_type l = is_word (codes "STRING") l || (is_word (codes "IDENTIFIER") l || (is_word (codes "OF") l || (is_word (codes "DISPLAY-HINT") l || is_word (codes "STATUS") l)))

abbrev pub is_clear : List Lexeme → Bool
is_clear [] = true
is_clear (l ∷ ls) = not (goes_on_type l) || begins Assign ls

-- what may follow a type's name
pub record BehindName (rest : List Lexeme) : Type 0 where
  pub assign : begins Assign rest ≡ false
  pub clear : is_clear rest ≡ true

-- what may follow a type
pub record Follows (rest : List Lexeme) : Type 0 where
  pub brace : begins LeftBrace rest ≡ false
  pub paren : begins LeftParen rest ≡ false
  pub behind_name : BehindName rest

-- it is no such word, or an assignment of it begins
pair_off : (w : List ℕ) (l : Lexeme) (ls : List Lexeme) → (is_word w l ≡ true → goes_on_type l ≡ true) → is_clear (l ∷ ls) ≡ true → (is_word w l && not (begins Assign ls)) ≡ false
pair_off w l ls goes clear = go (is_word w l) (begins Assign ls) refl refl
  where
    go : (t u : Bool) → is_word w l ≡ t → begins Assign ls ≡ u → (t && not u) ≡ false
    go false u e f = refl
    go true true e f = refl
    go true false e f = let yes_case : goes_on_type l ≡ true = goes e in let wrong : (not true || false) ≡ true = (rw (yes_case, f) at clear) in absurd (cc)

is_string : (l : Lexeme) → is_word (codes "STRING") l ≡ true → goes_on_type l ≡ true
is_string l is = rw is refl

is_identifier : (l : Lexeme) → is_word (codes "IDENTIFIER") l ≡ true → goes_on_type l ≡ true
is_identifier l is = ap goes_on_type (word_is (codes "IDENTIFIER") l is)

is_of : (l : Lexeme) → is_word (codes "OF") l ≡ true → goes_on_type l ≡ true
is_of l is = ap goes_on_type (word_is (codes "OF") l is)

and_false : (t : Bool) → (t && false) ≡ false
and_false true = refl
and_false false = refl

no_pair : (v w name : List ℕ) (rest : List Lexeme) → ((l : Lexeme) → is_word w l ≡ true → goes_on_type l ≡ true) → is_clear rest ≡ true → is_pair v w (word name ∷ rest) ≡ false
no_pair v w name [] goes clear = refl
no_pair v w name (l ∷ ls) goes clear = rw (pair_off w l ls (goes l) clear) (and_false (is_word v (word name)))

no_sequence : (name : List ℕ) (rest : List Lexeme) → is_clear rest ≡ true → is_sequence_of (word name ∷ rest) ≡ false
no_sequence name [] clear = refl
no_sequence name (l ∷ []) clear = refl
no_sequence name (l ∷ c ∷ ls) clear = rw (inner (is_word (codes "OF") l) (is_punctuation Assign c) refl refl) (and_false (is_word (codes "SEQUENCE") (word name)))
  where
    no_capital : (x : Lexeme) → is_punctuation Assign x ≡ true → is_capital x ≡ false
    no_capital x is = ap is_capital (punctuation_is Assign x is)

    inner : (t u : Bool) → is_word (codes "OF") l ≡ t → is_punctuation Assign c ≡ u → (t && is_capital c) ≡ false
    inner false u e f = refl
    inner true true e f = no_capital c f
    inner true false e f = let yes_case : goes_on_type l ≡ true = is_of l e in let wrong : (not true || false) ≡ true = (rw (yes_case, f) at clear) in absurd (cc)

type_name_again : Again IsTypeName BehindName type_name_at
unfolding type_name_at
type_name_again text rest is follows =
    ⊎_elim
    (λ octets. subst (λ (t : List Lexeme). type_name_at (t ++ rest) ≡ Ok rest) (sym octets) (rw follows.assign refl))
    (λ other1. ⊎_elim
    (λ object. subst (λ (t : List Lexeme). type_name_at (t ++ rest) ≡ Ok rest) (sym object) (rw follows.assign refl))
    (λ other2. ⊎_elim
    (λ sequence. subst (λ (t : List Lexeme). type_name_at (t ++ rest) ≡ Ok rest) (sym sequence.1) (let capital : begins_capital sequence.0 ≡ true = sequence.2 in rw capital refl))
    (λ single. subst (λ (t : List Lexeme). type_name_at (t ++ rest) ≡ Ok rest) (sym single.1)
    (let capital : begins_capital single.0 ≡ true = single.2 in
    rw (no_pair (codes "OCTET") (codes "STRING") single.0 rest is_string follows.clear, no_pair (codes "OBJECT") (codes "IDENTIFIER") single.0 rest is_identifier follows.clear, no_sequence single.0 rest follows.clear, capital) refl))
    other2)
    other1)
    is

pair_is : (v w : List ℕ) (ls : List Lexeme) → is_pair v w ls ≡ true → ls ≡ word v ∷ word w ∷ drop 2 ls
pair_is v w [] is = absurd (cc)
pair_is v w (a ∷ []) is = absurd (cc)
pair_is v w (a ∷ b ∷ ls) is =
    let p = and_parts (is_word v a) (is_word w b && not (begins Assign ls)) is in
    let q = and_parts (is_word w b) (not (begins Assign ls)) p.1 in
    ap (λ (x : Lexeme). x ∷ b ∷ ls) (word_is v a p.0) ∙ ap (λ (x : Lexeme). word v ∷ x ∷ ls) (word_is w b q.0)

capital_is : (l : Lexeme) → is_capital l ≡ true → (name : List ℕ) × (l ≡ word name) × IsTrue (begins_capital name)
capital_is (word w) is = (w, refl, is)
capital_is (number d) is = absurd (cc)
capital_is (punctuation k) is = absurd (cc)

sequence_is : (ls : List Lexeme) → is_sequence_of ls ≡ true → (name : List ℕ) × (ls ≡ word (codes "SEQUENCE") ∷ word (codes "OF") ∷ word name ∷ drop 3 ls) × IsTrue (begins_capital name)
sequence_is [] is = absurd (cc)
sequence_is (a ∷ []) is = absurd (cc)
sequence_is (a ∷ b ∷ []) is = absurd (cc)
sequence_is (a ∷ b ∷ c ∷ ls) is =
    let p = and_parts (is_word (codes "SEQUENCE") a) (is_word (codes "OF") b && is_capital c) is in
    let q = and_parts (is_word (codes "OF") b) (is_capital c) p.1 in
    let r = capital_is c q.1 in (
      r.0,
      ap (λ (x : Lexeme). x ∷ b ∷ c ∷ ls) (word_is (codes "SEQUENCE") a p.0) ∙ ap (λ (x : Lexeme). word (codes "SEQUENCE") ∷ x ∷ c ∷ ls) (word_is (codes "OF") b q.0)
          ∙ ap (λ (x : Lexeme). word (codes "SEQUENCE") ∷ word (codes "OF") ∷ x ∷ ls) r.1,
      r.2,
    )

type_name_takes : Takes IsTypeName type_name_at
unfolding type_name_at
type_name_takes ls rest is =
    ⊎_elim
    (λ octets. (word (codes "OCTET") ∷ word (codes "STRING") ∷ [], inl refl, pair_is (codes "OCTET") (codes "STRING") ls octets.0 ∙ ap (λ (k : List Lexeme). word (codes "OCTET") ∷ word (codes "STRING") ∷ k) (ok_is (drop 2 ls) rest octets.1)))
    (λ other1. ⊎_elim
    (λ object. (word (codes "OBJECT") ∷ word (codes "IDENTIFIER") ∷ [], inr (inl refl), pair_is (codes "OBJECT") (codes "IDENTIFIER") ls object.0 ∙ ap (λ (k : List Lexeme). word (codes "OBJECT") ∷ word (codes "IDENTIFIER") ∷ k) (ok_is (drop 2 ls) rest object.1)))
    (λ other2. ⊎_elim
    (λ sequence. let s = sequence_is ls sequence.0 in
    (word (codes "SEQUENCE") ∷ word (codes "OF") ∷ word s.0 ∷ [], inr (inr (inl (s.0, refl, s.2))), s.1 ∙ ap (λ (k : List Lexeme). word (codes "SEQUENCE") ∷ word (codes "OF") ∷ word s.0 ∷ k) (ok_is (drop 3 ls) rest sequence.1)))
    (λ other3. let t = one_takes is_capital (λ text. (name : List ℕ) × (text ≡ word name ∷ []) × IsTrue (begins_capital name))
    (λ l test. let r = capital_is l test in (r.0, ap (λ (x : Lexeme). x ∷ []) r.1, r.2)) ls rest other3.1 in (t.0, inr (inr (inr t.1)), t.2))
    (chosen (is_sequence_of ls) (Ok (drop 3 ls)) (one is_capital ls) rest other2.1))
    (chosen (is_pair (codes "OBJECT") (codes "IDENTIFIER") ls) (Ok (drop 2 ls)) (cond (is_sequence_of ls) (Ok (drop 3 ls)) (one is_capital ls)) rest other1.1))
    (chosen (is_pair (codes "OCTET") (codes "STRING") ls) (Ok (drop 2 ls)) (cond (is_pair (codes "OBJECT") (codes "IDENTIFIER") ls) (Ok (drop 2 ls)) (cond (is_sequence_of ls) (Ok (drop 3 ls)) (one is_capital ls))) rest is)

maybe_takes : Takes IsMaybeGroup maybe_group
unfolding maybe_group
maybe_takes ls rest is =
    ⊎_elim
    (λ braces. let t = group_takes LeftBrace RightBrace ls rest braces.1 in (t.0, inr (inl t.1), t.2))
    (λ other. ⊎_elim
    (λ parens. let t = group_takes LeftParen RightParen ls rest parens.1 in (t.0, inr (inr t.1), t.2))
    (λ none. ([], inl refl, ok_is ls rest none.1))
    (chosen (begins LeftParen ls) (group_at LeftParen RightParen ls) (Ok ls) rest other.1))
    (chosen (begins LeftBrace ls) (group_at LeftBrace RightBrace ls) (cond (begins LeftParen ls) (group_at LeftParen RightParen ls) (Ok ls)) rest is)

maybe_again : Again IsMaybeGroup Follows maybe_group
unfolding maybe_group
maybe_again text rest is follows =
    ⊎_elim
    (λ none. subst (λ (t : List Lexeme). maybe_group (t ++ rest) ≡ Ok rest) (sym none) (rw (follows.brace, follows.paren) refl))
    (λ group. ⊎_elim
    (λ braces. let first : begins LeftBrace (text ++ rest) ≡ true = ap (λ (t : List Lexeme). begins LeftBrace (t ++ rest)) braces.1 in
    rw first (group_again LeftBrace RightBrace refl text rest braces tt))
    (λ parens. let first : begins LeftParen (text ++ rest) ≡ true = ap (λ (t : List Lexeme). begins LeftParen (t ++ rest)) parens.1 in
    let no_brace : begins LeftBrace (text ++ rest) ≡ false = ap (λ (t : List Lexeme). begins LeftBrace (t ++ rest)) parens.1 in
    rw (no_brace, first) (group_again LeftParen RightParen refl text rest parens tt))
    group)
    is

pub maybe_leads : (text rest : List Lexeme) → IsMaybeGroup text → Follows rest → BehindName (text ++ rest)
maybe_leads text rest is follows =
    ⊎_elim
    (λ none. subst (λ (t : List Lexeme). BehindName (t ++ rest)) (sym none) follows.behind_name)
    (λ group. ⊎_elim
    (λ braces. subst (λ (t : List Lexeme). BehindName (t ++ rest)) (sym braces.1) (record { assign = refl; clear = refl }))
    (λ parens. subst (λ (t : List Lexeme). BehindName (t ++ rest)) (sym parens.1) (record { assign = refl; clear = refl }))
    group)
    is

pub type_takes : Takes IsType type_at
unfolding type_at
type_takes = seq_takes IsTypeName IsMaybeGroup type_name_at maybe_group type_name_takes maybe_takes

pub type_again : Again IsType Follows type_at
unfolding type_at
type_again = seq_again IsTypeName IsMaybeGroup BehindName Follows type_name_at maybe_group type_name_again maybe_again maybe_leads

-- ---- clauses

among_access : (l : Lexeme) → is_access l ≡ true → IsWordOf accesses (l ∷ [])
among_access l is =
    ⊎_elim (λ a. inl (this_word (codes "not-accessible") l a)) (λ r1.
    ⊎_elim (λ a. inr (inl (this_word (codes "accessible-for-notify") l a))) (λ r2.
    ⊎_elim (λ a. inr (inr (inl (this_word (codes "read-only") l a)))) (λ r3.
    ⊎_elim (λ a. inr (inr (inr (inl (this_word (codes "read-write") l a))))) (λ a. inr (inr (inr (inr (inl (this_word (codes "read-create") l a))))))
    (or_parts (is_word (codes "read-write") l) (is_word (codes "read-create") l) r3))
    (or_parts (is_word (codes "read-only") l) (is_word (codes "read-write") l || is_word (codes "read-create") l) r2))
    (or_parts (is_word (codes "accessible-for-notify") l) (is_word (codes "read-only") l || (is_word (codes "read-write") l || is_word (codes "read-create") l)) r1))
    (or_parts (is_word (codes "not-accessible") l) (is_word (codes "accessible-for-notify") l || (is_word (codes "read-only") l || (is_word (codes "read-write") l || is_word (codes "read-create") l))) is)

-- one of these words passes a test that each of them passes
abbrev pub AllPass : (Lexeme → Bool) → List (List ℕ) → Type 0
AllPass test [] = Unit {0}
AllPass test (w ∷ ws) = (test (word w) ≡ true) × AllPass test ws

pub word_of_again : (test : Lexeme → Bool) (ws : List (List ℕ)) (text : List Lexeme) → AllPass test ws → IsWordOf ws text → (l : Lexeme) × (text ≡ l ∷ []) × (test l ≡ true)
word_of_again test [] text all is = absurd is
word_of_again test (w ∷ ws) text all is = ⊎_elim (λ here. (word w, here, all.0)) (λ later. word_of_again test ws text all.1 later) is

among_status : (l : Lexeme) → is_status l ≡ true → IsWordOf statuses (l ∷ [])
among_status l is =
    ⊎_elim (λ a. inl (this_word (codes "current") l a)) (λ r1.
    ⊎_elim (λ a. inr (inl (this_word (codes "deprecated") l a))) (λ a. inr (inr (inl (this_word (codes "obsolete") l a))))
    (or_parts (is_word (codes "deprecated") l) (is_word (codes "obsolete") l) r1))
    (or_parts (is_word (codes "current") l) (is_word (codes "deprecated") l || is_word (codes "obsolete") l) is)

-- what may follow a part
abbrev pub BehindPart : Part → List Lexeme → Type 0
BehindPart Syntax rest = Follows rest
BehindPart Text rest = Unit {0}
BehindPart Access rest = Unit {0}
BehindPart Status rest = Unit {0}
BehindPart Word rest = Unit {0}
BehindPart Group rest = Unit {0}

any_word_is : (l : Lexeme) → is_any_word l ≡ true → IsClausePart Word (l ∷ [])
any_word_is (word w) is = (w, refl)
any_word_is (number d) is = absurd (cc)
any_word_is (punctuation k) is = absurd (cc)

part_takes : (part : Part) → Takes (IsClausePart part) (part_at part)
unfolding part_at
part_takes Syntax = type_takes
part_takes Text = punctuation_takes Quoted
part_takes Access = one_takes is_access (IsWordOf accesses) among_access
part_takes Status = one_takes is_status (IsWordOf statuses) among_status
part_takes Word = one_takes is_any_word (IsClausePart Word) any_word_is
part_takes Group = group_takes LeftBrace RightBrace

part_again : (part : Part) → Again (IsClausePart part) (BehindPart part) (part_at part)
unfolding part_at
part_again Syntax = type_again
part_again Text = punctuation_again Quoted
part_again Access = one_again is_access (IsWordOf accesses) (λ text is. word_of_again is_access accesses text (refl, (refl, (refl, (refl, (refl, tt))))) is)
part_again Status = one_again is_status (IsWordOf statuses) (λ text is. word_of_again is_status statuses text (refl, (refl, (refl, tt))) is)
part_again Word = one_again is_any_word (IsClausePart Word) (λ text is. (word is.0, is.1, refl))
part_again Group = group_again LeftBrace RightBrace refl

pub clause_takes : (w : List ℕ) (part : Part) → Takes (IsClause w part) (clause_at w part)
unfolding clause_at
clause_takes w part = seq_takes (IsThis (word w)) (IsClausePart part) (word_at w) (part_at part) (word_takes w) (part_takes part)

pub clause_again : (w : List ℕ) (part : Part) → Again (IsClause w part) (BehindPart part) (clause_at w part)
unfolding clause_at
clause_again w part = seq_again (IsThis (word w)) (IsClausePart part) Any (BehindPart part) (word_at w) (part_at part) (word_again w) (part_again part) (λ text rest is follows. tt)

-- a clause begins with its keyword
pub clause_begins : (w : List ℕ) (part : Part) (text : List Lexeme) → IsClause w part text → (more : List Lexeme) × (text ≡ word w ∷ more)
clause_begins w part text is = (is.1, is.2 ∙ ap (λ (k : List Lexeme). k ++ is.1) is.3)

-- what follows is none of these clauses, and may follow the part
abbrev pub BehindOptional : List ℕ → Part → List Lexeme → Type 0
BehindOptional w part rest = (begins_word w rest ≡ false) × BehindPart part rest

pub optional_takes : (w : List ℕ) (part : Part) → Takes (IsOptional w part) (optional_at w part)
unfolding optional_at
optional_takes w part ls rest is =
    ⊎_elim
    (λ there. let t = clause_takes w part ls rest there.1 in (t.0, inr t.1, t.2))
    (λ none. ([], inl refl, ok_is ls rest none.1))
    (chosen (begins_word w ls) (clause_at w part ls) (Ok ls) rest is)

pub optional_again : (w : List ℕ) (part : Part) → Again (IsOptional w part) (BehindOptional w part) (optional_at w part)
unfolding optional_at
optional_again w part text rest is follows =
    ⊎_elim
    (λ none. subst (λ (t : List Lexeme). optional_at w part (t ++ rest) ≡ Ok rest) (sym none) (rw follows.0 refl))
    (λ there.
    let b = clause_begins w part text there in
    let first : begins_word w (text ++ rest) ≡ true = ap (λ (t : List Lexeme). begins_word w (t ++ rest)) b.1 ∙ word_self w in
    rw first (clause_again w part text rest there follows.1))
    is

index_takes : Takes IsIndex index_at
unfolding index_at
index_takes ls rest is =
    ⊎_elim
    (λ there. let t = clause_takes (codes "AUGMENTS") Group ls rest there.1 in (t.0, inl t.1, t.2))
    (λ other. let t = optional_takes (codes "INDEX") Group ls rest other.1 in (t.0, inr t.1, t.2))
    (chosen (begins_word (codes "AUGMENTS") ls) (clause_at (codes "AUGMENTS") Group ls) (optional_at (codes "INDEX") Group ls) rest is)

abbrev BehindIndex : List Lexeme → Type 0
BehindIndex rest = (begins_word (codes "AUGMENTS") rest ≡ false) × (begins_word (codes "INDEX") rest ≡ false)

-- an optional clause and what follows it begin with no word that is neither its keyword nor follows
pub optional_leads : (w v : List ℕ) (part : Part) (text rest : List Lexeme) → is_word v (word w) ≡ false → IsOptional w part text → begins_word v rest ≡ false → begins_word v (text ++ rest) ≡ false
optional_leads w v part text rest apart is follows =
    ⊎_elim
    (λ none. subst (λ (t : List Lexeme). begins_word v (t ++ rest) ≡ false) (sym none) follows)
    (λ there. let b = clause_begins w part text there in ap (λ (t : List Lexeme). begins_word v (t ++ rest)) b.1 ∙ apart)
    is

clause_leads : (w v : List ℕ) (part : Part) (text rest : List Lexeme) → is_word v (word w) ≡ false → IsClause w part text → begins_word v (text ++ rest) ≡ false
clause_leads w v part text rest apart is = let b = clause_begins w part text is in ap (λ (t : List Lexeme). begins_word v (t ++ rest)) b.1 ∙ apart

index_again : Again IsIndex BehindIndex index_at
unfolding index_at
index_again text rest is follows =
    ⊎_elim
    (λ augments.
    let b = clause_begins (codes "AUGMENTS") Group text augments in
    let first : begins_word (codes "AUGMENTS") (text ++ rest) ≡ true = ap (λ (t : List Lexeme). begins_word (codes "AUGMENTS") (t ++ rest)) b.1 in
    rw first (clause_again (codes "AUGMENTS") Group text rest augments tt))
    (λ other.
    let first : begins_word (codes "AUGMENTS") (text ++ rest) ≡ false = optional_leads (codes "INDEX") (codes "AUGMENTS") Group text rest refl other follows.0 in
    rw first (optional_again (codes "INDEX") Group text rest other (follows.1, tt)))
    is

index_leads : (v : List ℕ) (text rest : List Lexeme) → is_word v (word (codes "AUGMENTS")) ≡ false → is_word v (word (codes "INDEX")) ≡ false → IsIndex text → begins_word v rest ≡ false → begins_word v (text ++ rest) ≡ false
index_leads v text rest one_apart other_apart is follows =
    ⊎_elim (λ augments. clause_leads (codes "AUGMENTS") v Group text rest one_apart augments) (λ other. optional_leads (codes "INDEX") v Group text rest other_apart other follows) is

-- a clause of this keyword may follow a type
word_follows : (w : List ℕ) (more rest text : List Lexeme) → text ≡ word w ∷ more → goes_on_type (word w) ≡ false → Follows (text ++ rest)
word_follows w more rest text is other = subst (λ (t : List Lexeme). Follows (t ++ rest)) (sym is) (record { brace = refl; paren = refl; behind_name = record { assign = refl; clear = rw other refl } })

units_follow : (text rest : List Lexeme) → (IsOptional (codes "UNITS") Text ▸ IsClause (codes "MAX-ACCESS") Access) text → Any rest → Follows (text ++ rest)
units_follow text rest is follows =
    ⊎_elim
    (λ none.
    let b = clause_begins (codes "MAX-ACCESS") Access is.1 is.4 in
    word_follows (codes "MAX-ACCESS") b.0 rest text (is.2 ∙ ap (λ (k : List Lexeme). k ++ is.1) none ∙ b.1) refl)
    (λ there.
    let b = clause_begins (codes "UNITS") Text is.0 there in
    word_follows (codes "UNITS") (b.0 ++ is.1) rest text (is.2 ∙ ap (λ (k : List Lexeme). k ++ is.1) b.1) refl)
    is.3

syntax_takes : Takes IsSyntax syntax_at
unfolding syntax_at
syntax_takes =
    seq_takes (IsClause (codes "SYNTAX") Syntax) (IsOptional (codes "UNITS") Text ▸ IsClause (codes "MAX-ACCESS") Access) (clause_at (codes "SYNTAX") Syntax) (λ k. optional_at (codes "UNITS") Text k >>= clause_at (codes "MAX-ACCESS") Access)
    (clause_takes (codes "SYNTAX") Syntax)
    (seq_takes (IsOptional (codes "UNITS") Text) (IsClause (codes "MAX-ACCESS") Access) (optional_at (codes "UNITS") Text) (clause_at (codes "MAX-ACCESS") Access) (optional_takes (codes "UNITS") Text) (clause_takes (codes "MAX-ACCESS") Access))

syntax_again : Again IsSyntax Any syntax_at
unfolding syntax_at
syntax_again =
    seq_again (IsClause (codes "SYNTAX") Syntax) (IsOptional (codes "UNITS") Text ▸ IsClause (codes "MAX-ACCESS") Access) Follows Any (clause_at (codes "SYNTAX") Syntax) (λ k. optional_at (codes "UNITS") Text k >>= clause_at (codes "MAX-ACCESS") Access)
    (clause_again (codes "SYNTAX") Syntax)
    (seq_again (IsOptional (codes "UNITS") Text) (IsClause (codes "MAX-ACCESS") Access) (BehindOptional (codes "UNITS") Text) Any (optional_at (codes "UNITS") Text) (clause_at (codes "MAX-ACCESS") Access) (optional_again (codes "UNITS") Text) (clause_again (codes "MAX-ACCESS") Access)
    (λ text rest is follows. (clause_leads (codes "MAX-ACCESS") (codes "UNITS") Access text rest refl is, tt)))
    units_follow

described_takes : (status : Part) → Takes (IsDescribed status) (described_at status)
unfolding described_at
described_takes status =
    seq_takes (IsClause (codes "STATUS") status) (IsClause (codes "DESCRIPTION") Text ▸ IsOptional (codes "REFERENCE") Text) (clause_at (codes "STATUS") status) (λ k. clause_at (codes "DESCRIPTION") Text k >>= optional_at (codes "REFERENCE") Text)
    (clause_takes (codes "STATUS") status)
    (seq_takes (IsClause (codes "DESCRIPTION") Text) (IsOptional (codes "REFERENCE") Text) (clause_at (codes "DESCRIPTION") Text) (optional_at (codes "REFERENCE") Text) (clause_takes (codes "DESCRIPTION") Text) (optional_takes (codes "REFERENCE") Text))

described_again : (status : Part) → ((rest : List Lexeme) → BehindPart status rest) → Again (IsDescribed status) (BehindOptional (codes "REFERENCE") Text) (described_at status)
unfolding described_at
described_again status anywhere =
    seq_again (IsClause (codes "STATUS") status) (IsClause (codes "DESCRIPTION") Text ▸ IsOptional (codes "REFERENCE") Text) (BehindPart status) (BehindOptional (codes "REFERENCE") Text) (clause_at (codes "STATUS") status) (λ k. clause_at (codes "DESCRIPTION") Text k >>= optional_at (codes "REFERENCE") Text)
    (clause_again (codes "STATUS") status)
    (seq_again (IsClause (codes "DESCRIPTION") Text) (IsOptional (codes "REFERENCE") Text) Any (BehindOptional (codes "REFERENCE") Text) (clause_at (codes "DESCRIPTION") Text) (optional_at (codes "REFERENCE") Text) (clause_again (codes "DESCRIPTION") Text) (optional_again (codes "REFERENCE") Text) (λ text rest is follows. tt))
    (λ text rest is follows. anywhere (text ++ rest))

-- ::= follows
abbrev pub BeginsAssign : List Lexeme → Type 0
BeginsAssign rest = (more : List Lexeme) × (rest ≡ punctuation Assign ∷ more)

no_word_there : (w : List ℕ) (rest : List Lexeme) → BeginsAssign rest → begins_word w rest ≡ false
no_word_there w rest is = ap (begins_word w) is.1

pub object_type_takes : Takes IsObjectType object_type_at
unfolding object_type_at
object_type_takes =
    seq_takes IsSyntax (IsDescribed Status ▸ (IsIndex ▸ IsOptional (codes "DEFVAL") Group)) syntax_at (λ k. described_at Status k >>= λ m. index_at m >>= optional_at (codes "DEFVAL") Group)
    syntax_takes
    (seq_takes (IsDescribed Status) (IsIndex ▸ IsOptional (codes "DEFVAL") Group) (described_at Status) (λ m. index_at m >>= optional_at (codes "DEFVAL") Group)
    (described_takes Status)
    (seq_takes IsIndex (IsOptional (codes "DEFVAL") Group) index_at (optional_at (codes "DEFVAL") Group) index_takes (optional_takes (codes "DEFVAL") Group)))

rows_lead : (text rest : List Lexeme) → (IsIndex ▸ IsOptional (codes "DEFVAL") Group) text → BeginsAssign rest → BehindOptional (codes "REFERENCE") Text (text ++ rest)
rows_lead text rest is follows =
    let whole : text ++ rest ≡ is.0 ++ (is.1 ++ rest) = ap (λ (k : List Lexeme). k ++ rest) is.2 ∙ append_assoc is.0 is.1 rest in
    let inner : begins_word (codes "REFERENCE") (is.1 ++ rest) ≡ false = optional_leads (codes "DEFVAL") (codes "REFERENCE") Group is.1 rest refl is.4 (no_word_there (codes "REFERENCE") rest follows) in
    (ap (begins_word (codes "REFERENCE")) whole ∙ index_leads (codes "REFERENCE") is.0 (is.1 ++ rest) refl refl is.3 inner, tt)

pub object_type_again : Again IsObjectType BeginsAssign object_type_at
unfolding object_type_at
object_type_again =
    seq_again IsSyntax (IsDescribed Status ▸ (IsIndex ▸ IsOptional (codes "DEFVAL") Group)) Any BeginsAssign syntax_at (λ k. described_at Status k >>= λ m. index_at m >>= optional_at (codes "DEFVAL") Group)
    syntax_again
    (seq_again (IsDescribed Status) (IsIndex ▸ IsOptional (codes "DEFVAL") Group) (BehindOptional (codes "REFERENCE") Text) BeginsAssign (described_at Status) (λ m. index_at m >>= optional_at (codes "DEFVAL") Group)
    (described_again Status (λ rest. tt))
    (seq_again IsIndex (IsOptional (codes "DEFVAL") Group) BehindIndex BeginsAssign index_at (optional_at (codes "DEFVAL") Group) index_again
    (λ text rest is follows. optional_again (codes "DEFVAL") Group text rest is (no_word_there (codes "DEFVAL") rest follows, tt))
    (λ text rest is follows. (optional_leads (codes "DEFVAL") (codes "AUGMENTS") Group text rest refl is (no_word_there (codes "AUGMENTS") rest follows), optional_leads (codes "DEFVAL") (codes "INDEX") Group text rest refl is (no_word_there (codes "INDEX") rest follows))))
    rows_lead)
    (λ text rest is follows. tt)

pub convention_takes : Takes IsConvention convention_at
unfolding convention_at
convention_takes =
    seq_takes (IsOptional (codes "DISPLAY-HINT") Text) (IsDescribed Word ▸ IsClause (codes "SYNTAX") Syntax) (optional_at (codes "DISPLAY-HINT") Text) (λ k. described_at Word k >>= clause_at (codes "SYNTAX") Syntax)
    (optional_takes (codes "DISPLAY-HINT") Text)
    (seq_takes (IsDescribed Word) (IsClause (codes "SYNTAX") Syntax) (described_at Word) (clause_at (codes "SYNTAX") Syntax) (described_takes Word) (clause_takes (codes "SYNTAX") Syntax))

-- its clauses begin with STATUS
pub described_begins : (text : List Lexeme) → IsDescribed Word text → (v : List ℕ) (rest : List Lexeme) → is_word v (word (codes "STATUS")) ≡ false → begins_word v (text ++ rest) ≡ false
described_begins text is v rest apart =
    ap (λ (k : List Lexeme). begins_word v (k ++ rest)) is.2 ∙ ap (begins_word v) (append_assoc is.0 is.1 rest) ∙ clause_leads (codes "STATUS") v Word is.0 (is.1 ++ rest) apart is.3

hint_leads : (text rest : List Lexeme) → (IsDescribed Word ▸ IsClause (codes "SYNTAX") Syntax) text → Follows rest → BehindOptional (codes "DISPLAY-HINT") Text (text ++ rest)
hint_leads text rest is follows =
    (ap (λ (k : List Lexeme). begins_word (codes "DISPLAY-HINT") (k ++ rest)) is.2 ∙ ap (begins_word (codes "DISPLAY-HINT")) (append_assoc is.0 is.1 rest) ∙ described_begins is.0 is.3 (codes "DISPLAY-HINT") (is.1 ++ rest) refl, tt)

pub convention_again : Again IsConvention Follows convention_at
unfolding convention_at
convention_again =
    seq_again (IsOptional (codes "DISPLAY-HINT") Text) (IsDescribed Word ▸ IsClause (codes "SYNTAX") Syntax) (BehindOptional (codes "DISPLAY-HINT") Text) Follows (optional_at (codes "DISPLAY-HINT") Text) (λ k. described_at Word k >>= clause_at (codes "SYNTAX") Syntax)
    (optional_again (codes "DISPLAY-HINT") Text)
    (seq_again (IsDescribed Word) (IsClause (codes "SYNTAX") Syntax) (BehindOptional (codes "REFERENCE") Text) Follows (described_at Word) (clause_at (codes "SYNTAX") Syntax) (described_again Word (λ rest. tt)) (clause_again (codes "SYNTAX") Syntax)
    (λ text rest is follows. (clause_leads (codes "SYNTAX") (codes "REFERENCE") Syntax text rest refl is, tt)))
    hint_leads
