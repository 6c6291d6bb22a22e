-- How a text from outside is written to a terminal and a log: a control character could move the
-- cursor or begin a line.
use Rattle.std.specs.Prelude.{ℕ, ◌==◌, ◌||◌, List, [], ◌∷◌, ◌++◌, codes, if◌then◌else◌}
use Rattle.std.specs.Char.{encode_utf8, is_control}
use Rattle.std.specs.List.{flat_map}
use Rattle.std.specs.Str.{chars}

-- a character: a control character is a question mark, and a backslash is before `"` and `\`
abbrev pub visible_char : ℕ → List ℕ
visible_char c = if is_control c then codes "?" else if (c == 34) || (c == 92) then 92 ∷ c ∷ []
    else encode_utf8 c

-- a text
abbrev pub visible : List ℕ → List ℕ
visible text = flat_map visible_char (chars text)

-- a text in quotes
abbrev pub quoted : List ℕ → List ℕ
quoted text = codes "\"" ++ visible text ++ codes "\""
