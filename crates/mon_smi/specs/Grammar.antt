-- The grammar of modules, by cases on their tokens (RFC 2578 sections 3 and 7, RFC 2579 section 3).
use Rattle.std.specs.Prelude.{◌⊎◌, ◌≡◌, ◌≢◌, ℕ, suc, ◌+◌, ◌-◌, ◌*◌, ◌<◌, ◌≤◌, ◌^◌, List, [], ◌∷◌}
use Rattle.std.specs.Prelude.{◌++◌, length, IsTrue, Option, Some, None, option_to_list, codes}
use Rattle.std.specs.List.{flat_map}
use Rattle.mon_smi.specs.declared.kind.TokenKind.{TokenKind}
use Rattle.mon_smi.specs.declared.kind.TokenKind.TheVariants.{Quoted, Assign, LeftBrace, RightBrace}
use Rattle.mon_smi.specs.declared.kind.TokenKind.TheVariants.{LeftParen, RightParen, Semicolon}
use Rattle.mon_smi.specs.declared.part.Part.{Part}
use Rattle.mon_smi.specs.declared.part.Part.TheVariants.{Syntax, Text, Access, Status, Word, Group}
use Rattle.mon_smi.specs.declared.token.Token.{Token}
use Rattle.mon_smi.specs.declared.definition.Definition.{Definition}
use Rattle.mon_smi.specs.Tokens.{AreDigits, AreTokens}
use Rattle.mon_smi.specs.Lexemes.{Lexeme, word, number, punctuation, lexemes, begins_small}
use Rattle.mon_smi.specs.Lexemes.{begins_capital}

-- one rule, and then the other
infixr 6 ◌▸◌
-- the one, then the other
abbrev pub ◌▸◌ : (List Lexeme → Type 0) → (List Lexeme → Type 0) → List Lexeme → Type 0
A ▸ B = λ ls. (front back : List Lexeme) × (ls ≡ front ++ back) × A front × B back

-- this word, or this punctuation
abbrev pub IsThis : Lexeme → List Lexeme → Type 0
IsThis l ls = ls ≡ l ∷ []

-- one of these words
abbrev pub IsWordOf : List (List ℕ) → List Lexeme → Type 0
IsWordOf [] ls = ⊥
IsWordOf (w ∷ ws) ls = IsThis (word w) ls ⊎ IsWordOf ws ls

-- no such punctuation is among them
abbrev pub IsFree : TokenKind → List Lexeme → Type 0
IsFree kind [] = Unit {0}
IsFree kind (l ∷ ls) = (l ≢ punctuation kind) × IsFree kind ls

-- between these two punctuation each opening one has its closing one, this many being open at the
-- start
abbrev pub IsNested : TokenKind → TokenKind → ℕ → List Lexeme → Type 0
IsNested left right depth [] = depth ≡ 0
IsNested left right depth (l ∷ ls) =
    ((l ≡ punctuation left) × IsNested left right (suc depth) ls)
    ⊎ (((before : ℕ) × (l ≡ punctuation right) × (depth ≡ suc before)
    × IsNested left right before ls)
    ⊎ ((l ≢ punctuation left) × (l ≢ punctuation right) × IsNested left right depth ls))

-- a balanced group between these two punctuation
abbrev pub IsBalanced : TokenKind → TokenKind → List Lexeme → Type 0
IsBalanced left right ls = (inner : List Lexeme)
    × (ls ≡ punctuation left ∷ inner ++ punctuation right ∷ [])
    × IsNested left right 0 inner

-- the name of a type: two words, SEQUENCE OF a name, or one word with a capital letter first
abbrev pub IsTypeName : List Lexeme → Type 0
IsTypeName ls = (ls ≡ word (codes "OCTET") ∷ word (codes "STRING") ∷ [])
    ⊎ ((ls ≡ word (codes "OBJECT") ∷ word (codes "IDENTIFIER") ∷ [])
    ⊎ (((name : List ℕ) × (ls ≡ word (codes "SEQUENCE") ∷ word (codes "OF") ∷ word name ∷ [])
    × IsTrue (begins_capital name))
    ⊎ ((name : List ℕ) × (ls ≡ word name ∷ []) × IsTrue (begins_capital name))))

-- nothing, or a group in braces or in parentheses
abbrev pub IsMaybeGroup : List Lexeme → Type 0
IsMaybeGroup ls = (ls ≡ []) ⊎ (IsBalanced LeftBrace RightBrace ls
    ⊎ IsBalanced LeftParen RightParen ls)

-- a type's name, and at most one group after it
abbrev pub IsType : List Lexeme → Type 0
IsType = IsTypeName ▸ IsMaybeGroup

-- the keywords of MAX-ACCESS (RFC 2578 section 7.3)
abbrev pub accesses : List (List ℕ)
accesses = codes "not-accessible" ∷ codes "accessible-for-notify" ∷ codes "read-only"
    ∷ codes "read-write" ∷ codes "read-create" ∷ []

-- the keywords of STATUS (RFC 2578 section 7.4)
abbrev pub statuses : List (List ℕ)
statuses = codes "current" ∷ codes "deprecated" ∷ codes "obsolete" ∷ []

-- what follows the keyword of a clause
abbrev pub IsClausePart : Part → List Lexeme → Type 0
IsClausePart Syntax ls = IsType ls
IsClausePart Text ls = IsThis (punctuation Quoted) ls
IsClausePart Access ls = IsWordOf accesses ls
IsClausePart Status ls = IsWordOf statuses ls
IsClausePart Word ls = (text : List ℕ) × IsThis (word text) ls
IsClausePart Group ls = IsBalanced LeftBrace RightBrace ls

-- a keyword and what follows it
abbrev pub IsClause : List ℕ → Part → List Lexeme → Type 0
IsClause keyword part = IsThis (word keyword) ▸ IsClausePart part

-- nothing, or a clause
abbrev pub IsOptional : List ℕ → Part → List Lexeme → Type 0
IsOptional keyword part ls = (ls ≡ []) ⊎ IsClause keyword part ls

-- AUGMENTS with its group, INDEX with its group, or nothing
abbrev pub IsIndex : List Lexeme → Type 0
IsIndex ls = IsClause (codes "AUGMENTS") Group ls ⊎ IsOptional (codes "INDEX") Group ls

-- the type and the access of an object
abbrev pub IsSyntax : List Lexeme → Type 0
IsSyntax = IsClause (codes "SYNTAX") Syntax ▸ (IsOptional (codes "UNITS") Text ▸ IsClause
    (codes "MAX-ACCESS") Access)

-- the status, which is of this form, and the texts of a definition
abbrev pub IsDescribed : Part → List Lexeme → Type 0
IsDescribed status = IsClause (codes "STATUS") status ▸ (IsClause (codes "DESCRIPTION") Text ▸
    IsOptional (codes "REFERENCE") Text)

-- the clauses of an OBJECT-TYPE
abbrev pub IsObjectType : List Lexeme → Type 0
IsObjectType = IsSyntax ▸ (IsDescribed Status ▸ (IsIndex ▸ IsOptional (codes "DEFVAL") Group))

-- the clauses of a TEXTUAL-CONVENTION; its status is any word
abbrev pub IsConvention : List Lexeme → Type 0
IsConvention = IsOptional (codes "DISPLAY-HINT") Text ▸ (IsDescribed Word ▸ IsClause
    (codes "SYNTAX") Syntax)

-- the number that digits after another one give
abbrev pub spelled_from : ℕ → List ℕ → ℕ
spelled_from n [] = n
spelled_from n (b ∷ bs) = spelled_from (10 * n + (b - 48)) bs

-- decimal digits, also with leading zeros, that spell a number of 32 bits
abbrev pub IsSub : List ℕ → ℕ → Type 0
IsSub digits n = AreDigits digits × (n ≡ spelled_from 0 digits) × (n < 2 ^ 32)

-- a sub-identifier: itself, or in parentheses after a word
abbrev pub IsComponent : List Lexeme → ℕ → Type 0
IsComponent ls n = (digits : List ℕ) × IsSub digits n
    × ((ls ≡ number digits ∷ [])
    ⊎ ((w : List ℕ) × (ls ≡ word w ∷ punctuation LeftParen ∷ number digits ∷ punctuation RightParen
    ∷ [])))

-- the lexemes are one of each of these after the other
abbrev pub Are : {X : Type 0} → (List Lexeme → X → Type 0) → List Lexeme → List X → Type 0
Are Is ls [] = ls ≡ []
Are Is ls (x ∷ xs) = (front back : List Lexeme) × (ls ≡ front ++ back) × Is front x × Are Is back xs

-- a first component that is a word, or none; and then the sub-identifiers, so that there are two
-- components at least
abbrev pub AreParts : Option (List ℕ) → List Lexeme → List ℕ → Type 0
AreParts None ls numbers = (2 ≤ length numbers) × Are IsComponent ls numbers
AreParts (Some w) ls numbers = (others : List Lexeme) × (ls ≡ word w ∷ others)
    × (1 ≤ length numbers) × Are IsComponent others numbers

-- an identifier's value: its components in braces
abbrev pub IsValue : Option (List ℕ) → List ℕ → List Lexeme → Type 0
IsValue parent numbers ls = (inner : List Lexeme)
    × (ls ≡ punctuation LeftBrace ∷ inner ++ punctuation RightBrace
    ∷ []) × AreParts parent inner numbers

-- macros whose clauses are passed over
abbrev pub macros : List (List ℕ)
macros = codes "MODULE-IDENTITY" ∷ codes "OBJECT-IDENTITY" ∷ codes "NOTIFICATION-TYPE"
    ∷ codes "OBJECT-GROUP" ∷ codes "NOTIFICATION-GROUP" ∷ codes "MODULE-COMPLIANCE"
    ∷ codes "AGENT-CAPABILITIES" ∷ []

-- what comes between a value's name and its ::=
abbrev pub IsHead : List Lexeme → Type 0
IsHead ls = (ls ≡ word (codes "OBJECT") ∷ word (codes "IDENTIFIER") ∷ [])
    ⊎ ((IsThis (word (codes "OBJECT-TYPE")) ▸ IsObjectType) ls
    ⊎ (IsWordOf macros ▸ IsFree Assign) ls)

-- a value's name, and its assignment
abbrev pub IsValueAssignment : List Lexeme → Definition → Type 0
IsValueAssignment ls d = (rest : List Lexeme) × (ls ≡ word d.name ∷ rest)
    × IsTrue (begins_small d.name)
    × (IsHead ▸ (IsThis (punctuation Assign) ▸ IsValue d.parent d.numbers)) rest

-- a type's name, and its assignment
abbrev pub IsTypeAssignment : List Lexeme → Type 0
IsTypeAssignment ls = (name : List ℕ) × (body : List Lexeme)
    × (ls ≡ word name ∷ punctuation Assign ∷ body)
    × IsTrue (begins_capital name)
    × ((IsThis (word (codes "TEXTUAL-CONVENTION")) ▸ IsConvention) body ⊎ IsType body)

-- an assignment, which defines a value, or a type
abbrev pub IsAssignment : List Lexeme → Option Definition → Type 0
IsAssignment ls None = IsTypeAssignment ls
IsAssignment ls (Some d) = IsValueAssignment ls d

-- IMPORTS and all tokens to the next semicolon, or nothing where another word comes next
abbrev pub AreImports : List Lexeme → List Lexeme → Type 0
AreImports ls rest = ((ls ≡ []) × ((more : List Lexeme) → rest ≢ word (codes "IMPORTS") ∷ more))
    ⊎ ((names : List Lexeme) × (ls ≡ word (codes "IMPORTS") ∷ names ++ punctuation Semicolon ∷ [])
    × IsFree Semicolon names)

-- the lexemes are a module of this name, whose value assignments are these in order
pub record IsModule (ls : List Lexeme) (name : List ℕ) (defs : List Definition) : Type 0 where
  pub imports : List Lexeme
  pub body : List Lexeme
  pub assignments : List (Option Definition)
  pub whole : ls ≡ word name ∷ word (codes "DEFINITIONS") ∷ punctuation Assign
      ∷ word (codes "BEGIN")
      ∷ imports ++ (body ++ word (codes "END") ∷ [])
  pub is_capital : IsTrue (begins_capital name)
  pub are_imports : AreImports imports (body ++ word (codes "END") ∷ [])
  pub are_assignments : Are IsAssignment body assignments
  pub in_order : defs ≡ flat_map option_to_list assignments

-- the text is a module of this name, whose value assignments are these in order
pub record Derives (text name : List ℕ) (defs : List Definition) : Type 0 where
  pub tokens : List Token
  pub cut : AreTokens text tokens
  pub is_module : IsModule (lexemes text tokens) name defs
