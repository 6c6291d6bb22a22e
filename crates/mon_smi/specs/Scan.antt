-- What is at the front of a text, as a function of the text.
use Rattle.std.specs.Prelude.{ℕ, suc, ◌+◌, List, [], ◌∷◌, slice_index, drop, Bool, ◌||◌, ◌&&◌, ◌==◌}
use Rattle.std.specs.Prelude.{if◌then◌else◌, Option, Some, None}
use Rattle.std.specs.Char.{is_ascii_alphabetic, is_ascii_digit, is_ascii_hexdigit}
use Rattle.mon_smi.specs.Words.{is_part}
use Rattle.mon_smi.specs.Tokens.{is_space, is_hyphen, is_bit}
use Rattle.mon_smi.specs.declared.kind.TokenKind.{TokenKind}
use Rattle.mon_smi.specs.declared.kind.TokenKind.TheVariants.{
  Word,
  Number,
  Quoted,
  Hex,
  Binary,
  Assign,
  Range,
  LeftBrace,
  RightBrace,
  LeftParen,
  RightParen,
  LeftBracket,
  RightBracket,
  Comma,
  Semicolon,
  Dot,
  Bar,
}
use Rattle.mon_smi.specs.declared.scan.Run.{Run}
use Rattle.mon_smi.specs.declared.scan.Run.TheVariants as run
use Rattle.mon_smi.specs.declared.token.Piece.{Piece}

-- the bytes of a run
abbrev pub is_of : Run → ℕ → Bool
is_of run.Digits = is_ascii_digit
is_of run.HexDigits = is_ascii_hexdigit
is_of run.Bits = is_bit
is_of run.Hyphens = is_hyphen

-- how many bytes at the front pass the test
abbrev pub run_at : (ℕ → Bool) → List ℕ → ℕ
run_at test [] = 0
run_at test (b ∷ bs) = if test b then suc (run_at test bs) else 0

-- a word goes on with the first byte
abbrev pub goes_on : List ℕ → Bool
goes_on text = is_part (slice_index text 0) || (slice_index text 0 == 45
    && is_part (slice_index text 1))

-- how many bytes at the front a word goes on
abbrev pub word_at : List ℕ → ℕ
word_at [] = 0
word_at (b ∷ bs) = if goes_on (b ∷ bs) then suc (word_at bs) else 0

-- the length of the longest string whose opening quote is passed, with its closing one
abbrev pub closes_at : List ℕ → Option ℕ
closes_at [] = None
closes_at (b ∷ []) = if b == 34 then Some 1 else None
closes_at (b ∷ c ∷ bs) =
    if b == 34 then (if c == 34 then Some (elim (closes_at bs) [ Some n ↦ suc (suc n) | None ↦ 1 ])
    else Some 1) else
    (elim (closes_at (c ∷ bs)) [ Some n ↦ Some (suc n) | None ↦ None ])

-- how many bytes a comment has up to its closing hyphens or the end of the line
abbrev pub remark_at : List ℕ → ℕ
remark_at [] = 0
remark_at (b ∷ bs) = if b == 10 || (b == 45 && slice_index bs 0 == 45) then 0
    else suc (remark_at bs)

-- a token of this kind and length
abbrev pub token : TokenKind → ℕ → Option Piece
token kind n = Some (record { kind = Some kind; len = n })

-- this many bytes of space or comment
abbrev pub passed : ℕ → Option Piece
passed n = Some (record { kind = None; len = n })

-- how many bytes a comment has after its opening hyphens
abbrev pub ending_at : List ℕ → ℕ
ending_at text = remark_at text + run_at is_hyphen (drop (remark_at text) text)

-- how many bytes a comment has after its first hyphen
abbrev pub comment_at : List ℕ → ℕ
comment_at text = run_at is_hyphen text + ending_at (drop (run_at is_hyphen text) text)

-- a hyphen and this many digits
abbrev pub signed : ℕ → Option Piece
signed n = if n == 0 then None else token Number (suc n)

-- after a hyphen a comment or a number goes on
abbrev pub hyphen_at : List ℕ → Option Piece
hyphen_at text =
    if slice_index text 0 == 45 then passed (suc (comment_at text))
    else signed (run_at is_ascii_digit text)

-- a quoted string, if it is closed
abbrev pub quoted_at : List ℕ → Option Piece
quoted_at text = elim (closes_at text) [ Some n ↦ token Quoted (suc n) | None ↦ None ]

-- after the digits between single quotes comes what closes them
abbrev pub closed_bits : ℕ → ℕ → List ℕ → Option Piece
closed_bits digits bits [] = None
closed_bits digits bits (b ∷ []) = None
closed_bits digits bits (b ∷ letter ∷ rest) =
    if b == 39 then
    (if letter == 104 || letter == 72 then token Hex (suc (suc (suc digits))) else
    (if (letter == 98 || letter == 66) && bits == digits then token Binary (suc (suc (suc digits)))
    else None))
    else None

-- hex or binary digits between single quotes
abbrev pub quoted_bits_at : List ℕ → Option Piece
quoted_bits_at text = closed_bits (run_at is_ascii_hexdigit text) (run_at is_bit text)
    (drop (run_at is_ascii_hexdigit text) text)

-- the punctuation of an assignment
abbrev pub assign_at : List ℕ → Option Piece
assign_at text = if slice_index text 0 == 58 && slice_index text 1 == 61 then token Assign 3
    else None

-- a range, or one dot
abbrev pub dot_at : List ℕ → Option Piece
dot_at text = if slice_index text 0 == 46 then token Range 2 else token Dot 1

-- a punctuation of one byte
abbrev pub punctuation_at : ℕ → Option Piece
punctuation_at b =
    if b == 123 then token LeftBrace 1 else
    (if b == 125 then token RightBrace 1 else
    (if b == 40 then token LeftParen 1 else
    (if b == 41 then token RightParen 1 else
    (if b == 91 then token LeftBracket 1 else
    (if b == 93 then token RightBracket 1 else
    (if b == 44 then token Comma 1 else
    (if b == 59 then token Semicolon 1 else
    (if b == 124 then token Bar 1 else None))))))))

-- after the first byte, which is none of a word, a number or a space
abbrev pub behind_at : ℕ → List ℕ → Option Piece
behind_at b bs =
    if b == 45 then hyphen_at bs else
    (if b == 34 then quoted_at bs else
    (if b == 39 then quoted_bits_at bs else
    (if b == 58 then assign_at bs else
    (if b == 46 then dot_at bs else punctuation_at b))))

-- the piece at the front
unfoldable pub piece_at : List ℕ → Option Piece
piece_at [] = None
piece_at (b ∷ bs) =
    if is_space b then passed 1 else
    (if is_ascii_alphabetic b then token Word (word_at (b ∷ bs)) else
    (if is_ascii_digit b then token Number (run_at is_ascii_digit (b ∷ bs)) else behind_at b bs))
