-- Lines and columns of a text, by its characters.
use Rattle.std.specs.Prelude.{Bool, ◌||◌, ◌==◌, ℕ, ◌+◌, nat_le, nat_lt, List, [], ◌∷◌, count_by}
use Rattle.std.specs.Prelude.{if◌then◌else◌}
use Rattle.mon_faults.specs.declared.line_column.LineColumn.{LineColumn}

-- the line that is last: what follows the last line feed, or this line if there is none
abbrev pub line_from : List ℕ → List ℕ → List ℕ
line_from line [] = line
line_from line (b ∷ bs) = if b == 10 then line_from bs bs else line_from line bs

-- what follows the last line feed
abbrev pub last_line : List ℕ → List ℕ
last_line text = line_from text text

-- an octet with which a character of UTF-8 begins
abbrev pub begins_char : ℕ → Bool
begins_char b = nat_lt b 128 || nat_le 192 b

-- the place after some octets: its line and its column, both from 1
abbrev pub line_column_after : List ℕ → LineColumn
line_column_after before = record {
  line = count_by (λ b. b == 10) before
      + 1;
  column = count_by begins_char (last_line before) + 1;
}
