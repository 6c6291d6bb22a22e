-- Reading a module's tokens from the left.
use Rattle.std.specs.Char.{is_ascii_digit}
use Rattle.std.specs.Prelude.{
  ◌≡◌,
  ℕ,
  zero,
  suc,
  ◌+◌,
  ◌-◌,
  ◌*◌,
  ◌^◌,
  List,
  [],
  ◌∷◌,
  ◌++◌,
  length,
  drop,
  option_to_list,
  Bool,
  false,
  not,
  ◌&&◌,
  ◌||◌,
  ◌==◌,
  nat_le,
  nat_lt,
  if◌then◌else◌,
  Option,
  Some,
  None,
  option_map,
  Result,
  Ok,
  Err,
  codes,
}
use Rattle.mon_oid.specs.Steps.{◌>>=◌}
use Rattle.mon_smi.specs.declared.read_fault.ReadFault.{ReadFault}
use Rattle.mon_smi.specs.declared.read_fault.ReadFault.TheVariants.{OutOfMemory, BrokenOff}
use Rattle.mon_smi.specs.declared.kind.TokenKind.{TokenKind}
use Rattle.mon_smi.specs.declared.kind.TokenKind.TheVariants.{Quoted, Assign, LeftBrace, RightBrace}
use Rattle.mon_smi.specs.declared.kind.TokenKind.TheVariants.{LeftParen, RightParen, Semicolon}
use Rattle.mon_smi.specs.declared.definition.Definition.{Definition}
use Rattle.mon_smi.specs.declared.part.Part.{Part}
use Rattle.mon_smi.specs.declared.part.Part.TheVariants.{Syntax, Text, Access, Status, Word, Group}
use Rattle.mon_smi.specs.Lexemes.{Lexeme, is_word, is_punctuation, word_of, digits_of, begins_small}
use Rattle.mon_smi.specs.Lexemes.{begins_capital, is_capital, is_any_word}

-- what reading gives: something, or the tokens that were left where it broke off
abbrev pub Read : Type 0 → Type 0
Read A = Result A (List Lexeme)

-- what is there, or these tokens are left
abbrev pub or_left : {A : Type 0} → List Lexeme → Option A → Read A
or_left ls (Some x) = Ok x
or_left ls None = Err ls

-- a call that failed broke off where reading does, unless memory ran out
abbrev pub Fails : {Y : Type 0} → ReadFault → Read Y → Type 0
Fails OutOfMemory read = Unit {0}
Fails (BrokenOff rest) read = read ≡ Err rest.now

-- what a call returned, seen by view, is what reading gives, unless memory ran out
abbrev pub Gives : {X Y : Type 0} → (X → Y) → Result X ReadFault → Read Y → Type 0
Gives view (Ok x) read = read ≡ Ok (view x)
Gives view (Err e) read = Fails e read

-- one token that passes the test, and what follows it
abbrev pub one : (Lexeme → Bool) → List Lexeme → Read (List Lexeme)
one test [] = Err []
one test (l ∷ ls) = if test l then Ok ls else Err (l ∷ ls)

-- this word
abbrev pub word_at : List ℕ → List Lexeme → Read (List Lexeme)
word_at w ls = one (is_word w) ls

-- this punctuation
abbrev pub punctuation_at : TokenKind → List Lexeme → Read (List Lexeme)
punctuation_at kind ls = one (is_punctuation kind) ls

-- this punctuation comes next
abbrev pub begins : TokenKind → List Lexeme → Bool
begins kind [] = false
begins kind (l ∷ ls) = is_punctuation kind l

-- this word comes next
abbrev pub begins_word : List ℕ → List Lexeme → Bool
begins_word w [] = false
begins_word w (l ∷ ls) = is_word w l

-- a word, and what follows it
abbrev pub name_at : List Lexeme → Option (List ℕ × List Lexeme)
name_at [] = None
name_at (l ∷ ls) = option_map (λ w. (w, ls)) (word_of l)

-- ---- types and groups

-- the rest of a group of which this many are open inside
abbrev pub nested_at : TokenKind → TokenKind → ℕ → List Lexeme → Read (List Lexeme)
nested_at left right depth [] = Err []
nested_at left right depth (l ∷ ls) =
    if is_punctuation left l then nested_at left right (suc depth) ls else
    (if is_punctuation right l then (if depth == 0 then Ok ls
    else nested_at left right (depth - 1) ls)
    else nested_at left right depth ls)

-- a balanced group, and what follows it
unfoldable pub group_at : TokenKind → TokenKind → List Lexeme → Read (List Lexeme)
group_at left right ls = do
  rest ← punctuation_at left ls
  nested_at left right 0 rest

-- two words come next that are a type's name, and no assignment of the second begins
abbrev pub is_pair : List ℕ → List ℕ → List Lexeme → Bool
is_pair v w [] = false
is_pair v w (a ∷ []) = false
is_pair v w (a ∷ b ∷ ls) = is_word v a && (is_word w b && not (begins Assign ls))

-- SEQUENCE OF a name comes next
abbrev pub is_sequence_of : List Lexeme → Bool
is_sequence_of [] = false
is_sequence_of (a ∷ []) = false
is_sequence_of (a ∷ b ∷ []) = false
is_sequence_of (a ∷ b ∷ c ∷ ls) = is_word (codes "SEQUENCE") a
    && (is_word (codes "OF") b && is_capital c)

-- a type's name, and what follows it
unfoldable pub type_name_at : List Lexeme → Read (List Lexeme)
type_name_at ls =
    if is_pair (codes "OCTET") (codes "STRING") ls then Ok (drop 2 ls) else
    (if is_pair (codes "OBJECT") (codes "IDENTIFIER") ls then Ok (drop 2 ls) else
    (if is_sequence_of ls then Ok (drop 3 ls) else one is_capital ls))

-- a group in braces or parentheses, if one comes next
unfoldable pub maybe_group : List Lexeme → Read (List Lexeme)
maybe_group ls =
    if begins LeftBrace ls then group_at LeftBrace RightBrace ls else
    (if begins LeftParen ls then group_at LeftParen RightParen ls else Ok ls)

-- a type, and what follows it
unfoldable pub type_at : List Lexeme → Read (List Lexeme)
type_at ls = do
  rest ← type_name_at ls
  maybe_group rest

-- ---- clauses

-- a word of MAX-ACCESS
abbrev pub is_access : Lexeme → Bool
is_access l = is_word (codes "not-accessible") l || (is_word (codes "accessible-for-notify") l
    || (is_word (codes "read-only") l || (is_word (codes "read-write") l
    || is_word (codes "read-create") l)))

-- a word of STATUS
abbrev pub is_status : Lexeme → Bool
is_status l = is_word (codes "current") l || (is_word (codes "deprecated") l
    || is_word (codes "obsolete") l)

-- reads what follows the keyword of a clause
unfoldable pub part_at : Part → List Lexeme → Read (List Lexeme)
part_at Syntax ls = type_at ls
part_at Text ls = punctuation_at Quoted ls
part_at Access ls = one is_access ls
part_at Status ls = one is_status ls
part_at Word ls = one is_any_word ls
part_at Group ls = group_at LeftBrace RightBrace ls

-- a keyword with what belongs to it
unfoldable pub clause_at : List ℕ → Part → List Lexeme → Read (List Lexeme)
clause_at keyword part ls = do
  rest ← word_at keyword ls
  part_at part rest

-- a clause, if its keyword comes next
unfoldable pub optional_at : List ℕ → Part → List Lexeme → Read (List Lexeme)
optional_at keyword part ls = if begins_word keyword ls then clause_at keyword part ls else Ok ls

-- AUGMENTS or INDEX with its group, if one of them comes next
unfoldable pub index_at : List Lexeme → Read (List Lexeme)
index_at ls = if begins_word (codes "AUGMENTS") ls then clause_at (codes "AUGMENTS") Group ls
    else optional_at (codes "INDEX") Group ls

-- the type, the units and the access of an object
unfoldable pub syntax_at : List Lexeme → Read (List Lexeme)
syntax_at ls = do
  syntax ← clause_at (codes "SYNTAX") Syntax ls
  units ← optional_at (codes "UNITS") Text syntax
  clause_at (codes "MAX-ACCESS") Access units

-- the status, the description and the reference
unfoldable pub described_at : Part → List Lexeme → Read (List Lexeme)
described_at part ls = do
  status ← clause_at (codes "STATUS") part ls
  description ← clause_at (codes "DESCRIPTION") Text status
  optional_at (codes "REFERENCE") Text description

-- all clauses of an OBJECT-TYPE
unfoldable pub object_type_at : List Lexeme → Read (List Lexeme)
object_type_at ls = do
  syntax ← syntax_at ls
  described ← described_at Status syntax
  index ← index_at described
  optional_at (codes "DEFVAL") Group index

-- all clauses of a TEXTUAL-CONVENTION
unfoldable pub convention_at : List Lexeme → Read (List Lexeme)
convention_at ls = do
  hint ← optional_at (codes "DISPLAY-HINT") Text ls
  described ← described_at Word hint
  clause_at (codes "SYNTAX") Syntax described

-- ---- one after the other

-- what reads one of them reads all up to where it stops, each giving what it emits
unfoldable pub many : {X A : Type 0} → (List Lexeme → Read (X × List Lexeme)) → (X → List A)
    → (List Lexeme → Bool) → ℕ → List Lexeme → Read (List A × List Lexeme)
many read emit stop zero ls = if stop ls then Ok ([], ls) else Err ls
many read emit stop (suc room) ls =
    if stop ls then Ok ([], ls) else
    (read ls >>= λ x. many read emit stop room x.1 >>= λ ys. Ok (emit x.0 ++ ys.0, ys.1))

-- what was read before, and what is still read
abbrev pub with_front : {A : Type 0} → List A → Read (List A × List Lexeme)
    → Read (List A × List Lexeme)
with_front front read = read >>= λ ys. Ok (front ++ ys.0, ys.1)

-- ---- values

-- digits after a number give this one
abbrev pub number_from : ℕ → List ℕ → Option ℕ
number_from n [] = Some n
number_from n (b ∷ bs) =
    if is_ascii_digit b then (if nat_lt (10 * n + (b - 48)) (2 ^ 32)
    then number_from (10 * n + (b - 48)) bs else None) else None

-- a number below 2^32 in decimal digits
abbrev pub number_of : List ℕ → Option ℕ
number_of [] = None
number_of (b ∷ bs) = number_from 0 (b ∷ bs)

-- a number that is a sub-identifier
unfoldable pub sub_at : List Lexeme → Read (ℕ × List Lexeme)
sub_at [] = Err []
sub_at (l ∷ ls) = do
  digits ← or_left (l ∷ ls) (digits_of l)
  n ← or_left (l ∷ ls) (number_of digits)
  Ok (n, ls)

-- a sub-identifier in parentheses
unfoldable pub in_parens_at : List Lexeme → Read (ℕ × List Lexeme)
in_parens_at ls = do
  inner ← punctuation_at LeftParen ls
  n ← sub_at inner
  rest ← punctuation_at RightParen n.1
  Ok (n.0, rest)

-- a component: a number, or a word with a number in parentheses
unfoldable pub component_at : List Lexeme → Read (ℕ × List Lexeme)
component_at ls = elim (name_at ls) [ Some x ↦ in_parens_at x.1 | None ↦ sub_at ls ]

-- a word with no number of its own
abbrev pub parent_at : List Lexeme → Option (List ℕ) × List Lexeme
parent_at ls = elim (name_at ls) [
  | Some x ↦ if begins LeftParen x.1 then (None, ls)
      else (Some x.0, x.1)
  | None ↦ (None, ls)
]

-- after a parent one number at least, and else two
abbrev pub enough : Option (List ℕ) → List ℕ → Bool
enough None numbers = nat_le 2 (length numbers)
enough (Some w) numbers = nat_le 1 (length numbers)

-- a list of one
abbrev pub single : ℕ → List ℕ
single n = n ∷ []

-- components up to the closing brace
unfoldable pub numbers_at : List Lexeme → Read (List ℕ × List Lexeme)
numbers_at ls = many component_at single (begins RightBrace) (length ls) ls

-- a value in braces: the parent, if it is a word, and the numbers
unfoldable pub value_at : List Lexeme → Read ((Option (List ℕ) × List ℕ) × List Lexeme)
value_at ls = do
  inner ← punctuation_at LeftBrace ls
  numbers ← numbers_at (parent_at inner).1
  if enough (parent_at inner).0 numbers.0 then (punctuation_at RightBrace numbers.1 >>= λ rest. Ok
      (((parent_at inner).0, numbers.0), rest)) else Err numbers.1

-- ---- assignments

-- the keyword of a macro that is read over to its value
abbrev pub is_macro : Lexeme → Bool
is_macro l = is_word (codes "MODULE-IDENTITY") l || (is_word (codes "OBJECT-IDENTITY") l
    || (is_word (codes "NOTIFICATION-TYPE") l || (is_word (codes "OBJECT-GROUP") l
    || (is_word (codes "NOTIFICATION-GROUP") l || (is_word (codes "MODULE-COMPLIANCE") l
    || is_word (codes "AGENT-CAPABILITIES") l)))))

-- all up to this punctuation
abbrev pub up_to : TokenKind → List Lexeme → Read (List Lexeme)
up_to kind [] = Err []
up_to kind (l ∷ ls) = if is_punctuation kind l then Ok (l ∷ ls) else up_to kind ls

-- OBJECT IDENTIFIER
unfoldable pub identifier_at : List Lexeme → Read (List Lexeme)
identifier_at ls = do
  rest ← word_at (codes "OBJECT") ls
  word_at (codes "IDENTIFIER") rest

-- OBJECT-TYPE with its clauses
unfoldable pub object_at : List Lexeme → Read (List Lexeme)
object_at ls = do
  rest ← word_at (codes "OBJECT-TYPE") ls
  object_type_at rest

-- the keyword of a macro, and all up to its value
unfoldable pub macro_at : List Lexeme → Read (List Lexeme)
macro_at ls = do
  rest ← one is_macro ls
  up_to Assign rest

-- reads what comes between a value's name and its value
unfoldable pub head_at : List Lexeme → Read (List Lexeme)
head_at ls = if begins_word (codes "OBJECT") ls then identifier_at ls
    else (if begins_word (codes "OBJECT-TYPE") ls then object_at ls else macro_at ls)

-- a value's assignment after its name
unfoldable pub definition_at : List ℕ → List Lexeme → Read (Definition × List Lexeme)
definition_at name ls = do
  head ← head_at ls
  rest ← punctuation_at Assign head
  value ← value_at rest
  Ok (record { name = name; parent = value.0.0; numbers = value.0.1 }, value.1)

-- a clause of a textual convention comes next, and no assignment of its keyword
abbrev pub is_convention : List Lexeme → Bool
is_convention [] = false
is_convention (a ∷ []) = false
is_convention (a ∷ b ∷ ls) = is_word (codes "TEXTUAL-CONVENTION") a
    && ((is_word (codes "DISPLAY-HINT") b || is_word (codes "STATUS") b) && not (begins Assign ls))

-- TEXTUAL-CONVENTION with its clauses
unfoldable pub textual_at : List Lexeme → Read (List Lexeme)
textual_at ls = do
  rest ← word_at (codes "TEXTUAL-CONVENTION") ls
  convention_at rest

-- a type's assignment after its name
unfoldable pub type_body_at : List Lexeme → Read (List Lexeme)
type_body_at ls = do
  rest ← punctuation_at Assign ls
  if is_convention rest then textual_at rest else type_at rest

-- an assignment that defines a value
abbrev pub assigned : Definition × List Lexeme → Option Definition × List Lexeme
assigned d = (Some d.0, d.1)

-- an assignment that defines no value
abbrev pub passed_over : List Lexeme → Option Definition × List Lexeme
passed_over rest = (None, rest)

-- what a name is assigned, with which these tokens begin: a small letter first is a value, a
-- capital one a type
unfoldable pub assignment_of : List ℕ → List Lexeme → List Lexeme
    → Read (Option Definition × List Lexeme)
assignment_of name whole ls =
    if begins_small name then (definition_at name ls >>= λ d. Ok (assigned d)) else
    (if begins_capital name then (type_body_at ls >>= λ rest. Ok (passed_over rest)) else Err whole)

-- an assignment, and what follows it
unfoldable pub assignment_at : List Lexeme → Read (Option Definition × List Lexeme)
assignment_at ls = do
  name ← or_left ls (name_at ls)
  assignment_of name.0 ls name.1

-- ---- modules

-- END is the last
abbrev pub ends_module : List Lexeme → Bool
ends_module [] = false
ends_module (l ∷ []) = is_word (codes "END") l
ends_module (l ∷ m ∷ ls) = false

-- imports up to their semicolon
unfoldable pub imported_at : List Lexeme → Read (List Lexeme)
imported_at ls = do
  rest ← up_to Semicolon ls
  punctuation_at Semicolon rest

-- the import clause, if it comes next
unfoldable pub imports_at : List Lexeme → Read (List Lexeme)
imports_at ls = if begins_word (codes "IMPORTS") ls then imported_at ls else Ok ls

-- assignments up to END
unfoldable pub definitions_at : List Lexeme → Read (List Definition)
definitions_at ls = do
  all ← many assignment_at option_to_list ends_module (length ls) ls
  Ok all.0

-- reads what follows a module's name
unfoldable pub module_body_at : List Lexeme → Read (List Definition)
module_body_at ls = do
  defined ← word_at (codes "DEFINITIONS") ls
  assigned ← punctuation_at Assign defined
  begun ← word_at (codes "BEGIN") assigned
  rest ← imports_at begun
  definitions_at rest

-- a whole module: its name and its definitions
unfoldable pub module_at : List Lexeme → Read (List ℕ × List Definition)
module_at ls = do
  name ← or_left ls (name_at ls)
  if begins_capital name.0 then (module_body_at name.1 >>= λ defs. Ok (name.0, defs)) else Err ls
