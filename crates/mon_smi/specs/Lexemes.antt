-- What the grammar of modules sees of a token.
use Rattle.std.specs.Prelude.{ℕ, ◌-◌, ◌≤◌, List, [], ◌∷◌, length, take, drop, map, Bool, true}
use Rattle.std.specs.Prelude.{false, ◌&&◌, ◌==◌, Option, Some, None, slice_index}
use Rattle.std.specs.Char.{is_ascii_lowercase, is_ascii_uppercase}
use Rattle.mon_smi.specs.declared.kind.TokenKind.{TokenKind}
use Rattle.mon_smi.specs.declared.kind.TokenKind.TheVariants.{
  Word,
  Number,
  Quoted,
  Hex,
  Binary,
  Assign,
  Range,
  LeftBrace,
  RightBrace,
  LeftParen,
  RightParen,
  LeftBracket,
  RightBracket,
  Comma,
  Semicolon,
  Dot,
  Bar,
}
use Rattle.mon_smi.specs.declared.token.Token.{Token}
use Rattle.mon_smi.specs.Tokens.{IsSpelled}

-- a word or a number with its text, or another token by its kind
pub data Lexeme : Type 0 where
  word : List ℕ → Lexeme
  number : List ℕ → Lexeme
  punctuation : TokenKind → Lexeme

-- a token of this kind and text
abbrev pub lexeme_of : TokenKind → List ℕ → Lexeme
lexeme_of Word text = word text
lexeme_of Number text = number text
lexeme_of Quoted text = punctuation Quoted
lexeme_of Hex text = punctuation Hex
lexeme_of Binary text = punctuation Binary
lexeme_of Assign text = punctuation Assign
lexeme_of Range text = punctuation Range
lexeme_of LeftBrace text = punctuation LeftBrace
lexeme_of RightBrace text = punctuation RightBrace
lexeme_of LeftParen text = punctuation LeftParen
lexeme_of RightParen text = punctuation RightParen
lexeme_of LeftBracket text = punctuation LeftBracket
lexeme_of RightBracket text = punctuation RightBracket
lexeme_of Comma text = punctuation Comma
lexeme_of Semicolon text = punctuation Semicolon
lexeme_of Dot text = punctuation Dot
lexeme_of Bar text = punctuation Bar

-- a token of this text
abbrev pub lexeme_at : List ℕ → Token → Lexeme
lexeme_at text t = lexeme_of t.kind (take (t.span.end - t.span.start) (drop t.span.start text))

-- these tokens of this text
abbrev pub lexemes : List ℕ → List Token → List Lexeme
lexemes text tokens = map (lexeme_at text) tokens

-- the token is in the text and is spelled as its kind is
pub record IsTokenOf (text : List ℕ) (t : Token) : Type 0 where
  pub begun : t.span.start ≤ t.span.end
  pub within : t.span.end ≤ length text
  pub spelled : IsSpelled t.kind (take (t.span.end - t.span.start) (drop t.span.start text))

-- all of these are tokens of the text
abbrev pub AreTokensOf : List ℕ → List Token → Type 0
AreTokensOf text [] = Unit {0}
AreTokensOf text (t ∷ ts) = IsTokenOf text t × AreTokensOf text ts

-- kinds by number
abbrev pub code_of : TokenKind → ℕ
code_of Word = 0
code_of Number = 1
code_of Quoted = 2
code_of Hex = 3
code_of Binary = 4
code_of Assign = 5
code_of Range = 6
code_of LeftBrace = 7
code_of RightBrace = 8
code_of LeftParen = 9
code_of RightParen = 10
code_of LeftBracket = 11
code_of RightBracket = 12
code_of Comma = 13
code_of Semicolon = 14
code_of Dot = 15
code_of Bar = 16

-- whether two texts are the same
abbrev pub same_text : List ℕ → List ℕ → Bool
same_text [] [] = true
same_text [] (b ∷ bs) = false
same_text (a ∷ xs) [] = false
same_text (a ∷ xs) (b ∷ bs) = a == b && same_text xs bs

-- whether a token is this word
abbrev pub is_word : List ℕ → Lexeme → Bool
is_word w (word v) = same_text v w
is_word w (number v) = false
is_word w (punctuation k) = false

-- whether a token is this punctuation
abbrev pub is_punctuation : TokenKind → Lexeme → Bool
is_punctuation k (word v) = false
is_punctuation k (number v) = false
is_punctuation k (punctuation j) = code_of j == code_of k

-- the text of a word
abbrev pub word_of : Lexeme → Option (List ℕ)
word_of (word w) = Some w
word_of (number d) = None
word_of (punctuation k) = None

-- the text of a number
abbrev pub digits_of : Lexeme → Option (List ℕ)
digits_of (word w) = None
digits_of (number d) = Some d
digits_of (punctuation k) = None

-- a value's name begins with a small letter, a type's and a module's with a capital (RFC 2578
-- section 3.1)
abbrev pub begins_small : List ℕ → Bool
begins_small w = is_ascii_lowercase (slice_index w 0)

-- whether a word begins with a capital letter
abbrev pub begins_capital : List ℕ → Bool
begins_capital w = is_ascii_uppercase (slice_index w 0)

-- whether a token is a word
abbrev pub is_any_word : Lexeme → Bool
is_any_word (word w) = true
is_any_word (number d) = false
is_any_word (punctuation k) = false

-- whether a token is a word with a capital letter first
abbrev pub is_capital : Lexeme → Bool
is_capital (word w) = begins_capital w
is_capital (number d) = false
is_capital (punctuation k) = false
