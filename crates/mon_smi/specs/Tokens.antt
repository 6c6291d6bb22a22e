-- What a text is cut into: words, numbers, strings and punctuation of ASN.1 (ITU-T X.208
-- section 8), as RFC 2578 section 3 uses them.
use Rattle.std.specs.Prelude.{◌⊎◌, ◌≡◌, ◌≢◌, ℕ, suc, ◌+◌, ◌<◌, ◌≤◌, List, [], ◌∷◌, ◌++◌, length}
use Rattle.std.specs.Prelude.{slice_index, take, drop, Bool, ◌||◌, ◌&&◌, ◌==◌, nat_le, nat_lt}
use Rattle.std.specs.Prelude.{IsTrue, if◌then◌else◌, Option, Some, None, codes}
use Rattle.std.specs.List.{flat_map}
use Rattle.std.specs.Char.{is_ascii_digit, is_ascii_hexdigit}
use Rattle.mon_smi.specs.Words.{IsWord}
use Rattle.mon_smi.specs.declared.kind.TokenKind.{TokenKind}
use Rattle.mon_smi.specs.declared.kind.TokenKind.TheVariants.{
  Word,
  Number,
  Quoted,
  Hex,
  Binary,
  Assign,
  Range,
  LeftBrace,
  RightBrace,
  LeftParen,
  RightParen,
  LeftBracket,
  RightBracket,
  Comma,
  Semicolon,
  Dot,
  Bar,
}
use Rattle.mon_smi.specs.declared.token.Token.{Token}
use Rattle.mon_smi.specs.declared.token.Piece.{Piece}
use Rattle.mon_smi.specs.declared.text_fault.TextFault.{TextFault}
use Rattle.mon_smi.specs.declared.text_fault.TextFault.TheVariants.{OutOfMemory, Unclosed}
use Rattle.mon_smi.specs.declared.text_fault.TextFault.TheVariants.{Unexpected, Duplicate}

-- every byte passes the test
abbrev pub AreAll : (ℕ → Bool) → List ℕ → Type 0
AreAll test [] = Unit {0}
AreAll test (b ∷ bs) = IsTrue (test b) × AreAll test bs

-- at least one digit, and nothing else
abbrev pub AreDigits : List ℕ → Type 0
AreDigits digits = (0 < length digits) × AreAll is_ascii_digit digits

-- digits, or a hyphen and digits
abbrev pub IsNumberToken : List ℕ → Type 0
IsNumberToken text = AreDigits text ⊎ ((digits : List ℕ) × (text ≡ 45 ∷ digits) × AreDigits digits)

-- a quote inside is written twice
abbrev pub doubled : ℕ → List ℕ
doubled b = if b == 34 then 34 ∷ 34 ∷ [] else b ∷ []

-- a text between quotes
abbrev pub IsQuoted : List ℕ → Type 0
IsQuoted text = (inner : List ℕ) × (text ≡ 34 ∷ flat_map doubled inner ++ 34 ∷ [])

-- digits between single quotes, and a letter in either case
abbrev pub IsBits : (ℕ → Bool) → ℕ → ℕ → List ℕ → Type 0
IsBits is_digit small capital text = (digits : List ℕ) × (letter : ℕ)
    × (text ≡ 39 ∷ digits ++ 39 ∷ letter ∷ []) × AreAll is_digit digits
    × ((letter ≡ small) ⊎ (letter ≡ capital))

-- the digit 0 or 1
abbrev pub is_bit : ℕ → Bool
is_bit b = b == 48 || b == 49

-- the text is spelled as a token of this kind
abbrev pub IsSpelled : TokenKind → List ℕ → Type 0
IsSpelled Word text = IsWord text
IsSpelled Number text = IsNumberToken text
IsSpelled Quoted text = IsQuoted text
IsSpelled Hex text = IsBits is_ascii_hexdigit 104 72 text
IsSpelled Binary text = IsBits is_bit 98 66 text
IsSpelled Assign text = text ≡ codes "::="
IsSpelled Range text = text ≡ codes ".."
IsSpelled LeftBrace text = text ≡ codes "{"
IsSpelled RightBrace text = text ≡ codes "}"
IsSpelled LeftParen text = text ≡ codes "("
IsSpelled RightParen text = text ≡ codes ")"
IsSpelled LeftBracket text = text ≡ codes "["
IsSpelled RightBracket text = text ≡ codes "]"
IsSpelled Comma text = text ≡ codes ","
IsSpelled Semicolon text = text ≡ codes ";"
IsSpelled Dot text = text ≡ codes "."
IsSpelled Bar text = text ≡ codes "|"

-- the first n bytes are a token of this kind, and no more bytes of the front are a token of any
-- kind
pub record IsLongestToken (kind : TokenKind) (n : ℕ) (text : List ℕ) : Type 0 where
  pub within : n ≤ length text
  pub spelled : IsSpelled kind (take n text)
  pub longest : (other : TokenKind) (m : ℕ) → m ≤ length text → IsSpelled other (take m text)
      → m ≤ n

-- blank, tab, LF, VT, FF or CR
abbrev pub is_space : ℕ → Bool
is_space b = b == 32 || (nat_le 9 b && nat_le b 13)

-- a hyphen
abbrev pub is_hyphen : ℕ → Bool
is_hyphen b = b == 45

-- what follows begins with no hyphen
abbrev pub BeginsOtherwise : List ℕ → Type 0
BeginsOtherwise [] = Unit {0}
BeginsOtherwise (b ∷ bs) = b ≢ 45

-- at each byte of it neither the line ends nor do two hyphens begin, with what follows it
abbrev pub IsRemark : List ℕ → List ℕ → Type 0
IsRemark [] after = Unit {0}
IsRemark (b ∷ bs) after = (b ≢ 10) × ((b ≡ 45) → BeginsOtherwise (bs ++ after)) × IsRemark bs after

-- two hyphens or more
abbrev pub AreHyphens : List ℕ → Type 0
AreHyphens bytes = (2 ≤ length bytes) × AreAll is_hyphen bytes

-- what follows is a line end, or nothing
abbrev pub EndsLine : List ℕ → Type 0
EndsLine [] = Unit {0}
EndsLine (b ∷ bs) = b ≡ 10

-- a comment, and what follows it: it opens at two hyphens with all hyphens directly after them, and
-- closes at the next two with theirs, or at the end of the line
pub record IsComment (comment rest : List ℕ) : Type 0 where
  pub opening : List ℕ
  pub remark : List ℕ
  pub closing : List ℕ
  pub whole : comment ≡ opening ++ (remark ++ closing)
  pub opens : AreHyphens opening
  pub says : IsRemark remark (closing ++ rest)
  pub follows : BeginsOtherwise (remark ++ (closing ++ rest))
  pub closes : (AreHyphens closing × BeginsOtherwise rest) ⊎ ((closing ≡ []) × EndsLine rest)

-- one space, or a whole comment
abbrev pub IsPassed : ℕ → List ℕ → Type 0
IsPassed n text = (n ≤ length text)
    × (((b : ℕ) × (take n text ≡ b ∷ []) × IsTrue (is_space b))
    ⊎ IsComment (take n text) (drop n text))

-- the longest token of this kind, or with no kind space or a comment, has this many bytes
abbrev pub IsPieceOf : Option TokenKind → ℕ → List ℕ → Type 0
IsPieceOf None n text = IsPassed n text
IsPieceOf (Some kind) n text = IsLongestToken kind n text

-- at the front of the text is this token, or with no kind this space or comment
abbrev pub IsPiece : Piece → List ℕ → Type 0
IsPiece piece text = IsPieceOf piece.kind piece.len text

-- read from the left the text has these pieces, and then the rest
abbrev pub IsTokenized : List Piece → List ℕ → List ℕ → Type 0
IsTokenized [] text rest = text ≡ rest
IsTokenized (p ∷ ps) text rest = IsPiece p text × IsTokenized ps (drop p.len text) rest

-- something is left, and neither a token nor space nor a comment is there
abbrev pub NothingStands : List ℕ → Type 0
NothingStands text = (0 < length text) × ((piece : Piece) → IsPiece piece text → ⊥)

-- how many bytes pieces have
abbrev pub bytes_of : List Piece → ℕ
bytes_of [] = 0
bytes_of (p ∷ ps) = p.len + bytes_of ps

-- a piece that begins at this place is a token, or none
abbrev pub token_of : ℕ → ℕ → Option TokenKind → List Token
token_of start len None = []
token_of start len (Some kind) = record {
  kind = kind;
  span = record
      { start = start; end = start + len };
} ∷ []

-- the tokens among pieces that begin at this place
abbrev pub tokens_of : ℕ → List Piece → List Token
tokens_of start [] = []
tokens_of start (p ∷ ps) = token_of start p.len p.kind ++ tokens_of (start + p.len) ps

-- these are the tokens of the text, read from the left to its end
abbrev pub AreTokens : List ℕ → List Token → Type 0
AreTokens text tokens = (pieces : List Piece) × IsTokenized pieces text []
    × (tokens ≡ tokens_of 0 pieces)

-- tokens have a byte at least, and each one begins where the one before it ends, or later
abbrev pub RisesFrom : ℕ → List Token → Type 0
RisesFrom at [] = Unit {0}
RisesFrom at (t ∷ ts) = (at ≤ t.span.start) × (t.span.start < t.span.end) × RisesFrom t.span.end ts

-- read from the left the text comes to this place, and no piece is there
abbrev pub IsStuck : List ℕ → ℕ → List ℕ → Type 0
IsStuck text at rest = (pieces : List Piece) × IsTokenized pieces text rest × (bytes_of pieces ≡ at)
    × NothingStands rest

-- how many bytes at the front go on with a character (RFC 3629 section 3)
abbrev pub continued : List ℕ → ℕ
continued [] = 0
continued (b ∷ bs) = if nat_le 128 b && nat_lt b 192 then suc (continued bs) else 0

-- how many bytes the character at the front has
abbrev pub char_len : List ℕ → ℕ
char_len [] = 1
char_len (b ∷ bs) = suc (continued bs)

-- the fault at a place where no piece is: it is in a string that isn't closed, or the character
-- there is unexpected
abbrev pub IsFaultAt : TextFault → ℕ → List ℕ → Type 0
IsFaultAt OutOfMemory at rest = ⊥
IsFaultAt Unclosed at rest = slice_index rest 0 ≡ 34
IsFaultAt (Unexpected span) at rest = (span.start ≡ at) × (span.end ≡ at + char_len rest)
    × (slice_index rest 0 ≢ 34)
IsFaultAt (Duplicate span) at rest = ⊥

-- why a text has no tokens: it comes to a place where no piece is, which is in a string that isn't
-- closed, or another one
abbrev pub IsFaultOfTokens : TextFault → List ℕ → Type 0
IsFaultOfTokens OutOfMemory text = Unit {0}
IsFaultOfTokens Unclosed text = (at : ℕ) × (rest : List ℕ) × IsStuck text at rest
    × (slice_index rest 0 ≡ 34)
IsFaultOfTokens (Unexpected span) text = (rest : List ℕ) × IsStuck text span.start rest
    × (span.end ≡ span.start + char_len rest) × (slice_index rest 0 ≢ 34)
IsFaultOfTokens (Duplicate span) text = ⊥
