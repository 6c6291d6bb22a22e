-- Why a text gives no module.
use Rattle.std.specs.Prelude.{◌≡◌, ◌⊎◌, Err, ℕ, List, [], ◌∷◌, ◌++◌, length, slice_index}
use Rattle.mon_smi.specs.declared.definition.Definition.{Definition}
use Rattle.mon_smi.specs.declared.token.Span.{Span}
use Rattle.mon_smi.specs.declared.token.Token.{Token}
use Rattle.mon_smi.specs.declared.text_fault.TextFault.{TextFault}
use Rattle.mon_smi.specs.declared.text_fault.TextFault.TheVariants.{OutOfMemory, Unclosed}
use Rattle.mon_smi.specs.declared.text_fault.TextFault.TheVariants.{Unexpected, Duplicate}
use Rattle.mon_smi.specs.declared.read_fault.ReadFault.{ReadFault}
use Rattle.mon_smi.specs.declared.read_fault.ReadFault.TheVariants as read
use Rattle.mon_smi.specs.Lexemes.{Lexeme, lexemes}
use Rattle.mon_smi.specs.Tokens.{AreTokens, IsFaultOfTokens}
use Rattle.mon_smi.specs.Reading.{Fails, module_at}
use Rattle.mon_smi.specs.Places.{IsAgain}
use Rattle.mon_smi.specs.Grammar.{IsValueAssignment, Derives}

-- the text derives no module
abbrev pub IsNoModule : List ℕ → Type 0
IsNoModule text = (name : List ℕ) (defs : List Definition) → Derives text name defs → ⊥

-- the token of the text at this place begins the assignment of this definition
abbrev pub BeginsAt : List ℕ → Span → Definition → Type 0
BeginsAt text span d = (before after : List Token) × (token : Token)
    × (assignment rest : List Lexeme)
    × AreTokens text (before ++ token ∷ after) × (token.span ≡ span)
    × (lexemes text (token ∷ after) ≡ assignment ++ rest) × IsValueAssignment assignment d

-- the text derives a module, and a definition begins at this place whose name an earlier one has
abbrev pub HasTwice : List ℕ → Span → Type 0
HasTwice text span = (name : List ℕ) × (defs : List Definition) × (i : ℕ) × (d : Definition)
    × Derives text name defs × IsAgain defs i d × BeginsAt text span d

-- the token with which this many are left is at this place
abbrev pub IsLeftAt : List Token → ℕ → Span → Type 0
IsLeftAt tokens n span = (before after : List Token) × (token : Token)
    × (tokens ≡ before ++ token ∷ after) × (token.span ≡ span) × (length (token ∷ after) ≡ n)

-- the fault where reading broke off with this many of the tokens left: the text ends too early if
-- no token is there, else that token is unexpected
abbrev pub IsBrokenOff : TextFault → List Token → ℕ → Type 0
IsBrokenOff OutOfMemory tokens left = ⊥
IsBrokenOff Unclosed tokens left = (span : Span) → IsLeftAt tokens left span → ⊥
IsBrokenOff (Unexpected span) tokens left = IsLeftAt tokens left span
IsBrokenOff (Duplicate span) tokens left = ⊥

-- what the fault of a reader is to the text that was cut into these tokens
abbrev pub IsFaultOfReading : TextFault → List Token → ReadFault → Type 0
IsFaultOfReading e tokens read.OutOfMemory = e ≡ OutOfMemory
IsFaultOfReading e tokens (read.BrokenOff rest) = IsBrokenOff e tokens (length rest.now)

-- what the fault of reading a module of these tokens is to the text that was cut into them
abbrev pub IsFaultOfTokensRead : TextFault → List Token → List Lexeme → Type 0
IsFaultOfTokensRead e tokens ls = (f : ReadFault) × Fails f (module_at ls)
    × IsFaultOfReading e tokens f

-- the text is cut into tokens, and reading them as a module from the left breaks off, with this
-- fault
abbrev pub BreaksOff : TextFault → List ℕ → Type 0
BreaksOff e text = (tokens : List Token) × (rest : List Lexeme) × AreTokens text tokens
    × (module_at (lexemes text tokens) ≡ Err rest) × IsBrokenOff e tokens (length rest)

-- why a text is no module: it is not cut into tokens, or reading them breaks off at this place; or
-- a value name is in it twice
abbrev pub IsFaultOfModule : TextFault → List ℕ → Type 0
IsFaultOfModule OutOfMemory text = Unit {0}
IsFaultOfModule Unclosed text = IsNoModule text × (IsFaultOfTokens Unclosed text
    ⊎ BreaksOff Unclosed text)
IsFaultOfModule (Unexpected span) text = IsNoModule text × (IsFaultOfTokens (Unexpected span) text
    ⊎ BreaksOff (Unexpected span) text)
IsFaultOfModule (Duplicate span) text = HasTwice text span

-- ---- places as reading keeps them: how many lexemes are left

-- the assignment of this definition begins where this many lexemes are left
abbrev pub Begins : List Lexeme → ℕ → Definition → Type 0
Begins ls n d = (before assignment after : List Lexeme) × (ls ≡ before ++ (assignment ++ after))
    × IsValueAssignment assignment d × (n ≡ length (assignment ++ after))

-- so each of these definitions does
abbrev pub AllBegin : List Lexeme → List ℕ → List Definition → Type 0
AllBegin ls [] [] = Unit {0}
AllBegin ls [] (d ∷ ds) = ⊥
AllBegin ls (n ∷ ns) [] = ⊥
AllBegin ls (n ∷ ns) (d ∷ ds) = Begins ls n d × AllBegin ls ns ds

-- the fault of definitions that begin where this many of the tokens are left, where one has its
-- name again
abbrev pub IsTwice : TextFault → List Token → List ℕ → List Definition → Type 0
IsTwice OutOfMemory tokens starts defs = Unit {0}
IsTwice Unclosed tokens starts defs = ⊥
IsTwice (Unexpected span) tokens starts defs = ⊥
IsTwice (Duplicate span) tokens starts defs = (i : ℕ) × (d : Definition) × IsAgain defs i d
    × IsLeftAt tokens (slice_index starts i) span
