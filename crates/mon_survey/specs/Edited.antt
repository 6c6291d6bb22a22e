-- A text whose blocks of an agent name its interfaces as they are now. A block is a table of a list
-- with the lines up to the next.
use Rattle.std.specs.Prelude.{ℕ, ◌+◌, ◌-◌, ◌==◌, zero, suc, nat_eq, Bool, false, not, ◌&&◌, ◌||◌}
use Rattle.std.specs.Prelude.{List, [], ◌∷◌, ◌++◌, length, Option, Some, None, codes, decimal}
use Rattle.std.specs.Prelude.{if◌then◌else◌}
use Rattle.std.specs.List.{concat, find, flat_map, starts_with}
use Rattle.mon_board.specs.declared.instance.Watched.{Watched}
use Rattle.mon_oid.specs.Oid.{dotted}
use Rattle.mon_survey.specs.declared.column.Spot.{Spot}
use Rattle.mon_survey.specs.declared.column.Spot.TheVariants as spot
use Rattle.mon_survey.specs.declared.editing.Spelled.{Spelled}
use Rattle.mon_survey.specs.Column.{spot_of}
use Rattle.mon_survey.specs.Meant.{is_own}
use Rattle.mon_survey.specs.Moved.{At, index_now}
use Rattle.mon_survey.specs.Plan.{has_part}

-- ---- pieces of a text

-- an octet before the first of some pieces
abbrev pub put_first : ℕ → List (List ℕ) → List (List ℕ)
put_first b [] = (b ∷ []) ∷ []
put_first b (x ∷ xs) = (b ∷ x) ∷ xs

-- the pieces of a text, of which one ends where the test says so of an octet, that before it and
-- what follows
abbrev pub pieces : (ℕ → ℕ → List ℕ → Bool) → ℕ → List ℕ → List (List ℕ)
pieces ends before [] = []
pieces ends before (b ∷ bs) = if ends before b bs then (b ∷ []) ∷ pieces ends b bs
    else put_first b (pieces ends b bs)

-- how many octets the first piece has
abbrev pub first_piece : (ℕ → ℕ → List ℕ → Bool) → ℕ → List ℕ → ℕ
first_piece ends before [] = 0
first_piece ends before (b ∷ bs) = if ends before b bs then 1 else 1 + first_piece ends b bs

-- how many octets the first line has, with its line feed
abbrev pub line_length : List ℕ → ℕ
line_length [] = 0
line_length (b ∷ bs) = if b == 10 then 1 else 1 + line_length bs

-- a line ends with its line feed
abbrev pub ends_line : ℕ → ℕ → List ℕ → Bool
ends_line before b rest = b == 10

-- a block ends at the end of a line if a table follows, or an empty line and then a table; that
-- empty line is in the next block
abbrev pub ends_block : ℕ → ℕ → List ℕ → Bool
ends_block before b rest = b == 10 && (starts_with nat_eq rest (codes "\n[")
    || (starts_with nat_eq rest (codes "[") && not (before == 10)))

-- the lines of a text, with their line feeds
abbrev pub lines_of : List ℕ → List (List ℕ)
lines_of text = pieces ends_line 10 text

-- the blocks of a text
abbrev pub blocks_of : List ℕ → List (List ℕ)
blocks_of text = pieces ends_block 10 text

-- ---- names in lines

-- a text in quotes
abbrev pub quoted : List ℕ → List ℕ
quoted text = concat (codes "\"" ∷ text ∷ codes "\"" ∷ [])

-- how a name at this place may be written, and where its interface is now
abbrev pub spelled_at : (List ℕ → List ℕ) → At → List ℕ → Spot → List Spelled
spelled_at shown a q (spot.Cell column index) =
    (record { text = quoted (dotted q); index = index; place = index_now a index })
    ∷ (record { text = quoted (shown q); index = index; place = index_now a index }) ∷ []
spelled_at shown a q spot.Ragged = []
spelled_at shown a q spot.Elsewhere = []

-- how the names of the agent's interfaces may be written: in numbers, or as the settings show names
abbrev pub spelled_by : (List ℕ → List ℕ) → At → Watched → List Spelled
spelled_by shown a w = if is_own a.engine w then spelled_at shown a w.instance.name
    (spot_of w.instance.name) else []

-- those of all that is watched
abbrev pub spellings : (List ℕ → List ℕ) → At → List Watched → List Spelled
spellings shown a ws = flat_map (spelled_by shown a) ws

-- what is put in place of the first octet of a text: the other part where it begins with the one,
-- else the octet
abbrev pub step_text : (from to : List ℕ) → ℕ → List ℕ → List ℕ
step_text from to first rest = if starts_with nat_eq rest from then to else first ∷ []

-- how many octets are passed over after it
abbrev pub step_skip : (from rest : List ℕ) → ℕ
step_skip from rest = if starts_with nat_eq rest from then length from - 1 else 0

-- a text with another part in place of each that is this one; of an earlier one this many octets
-- are still to be passed over
abbrev pub replaced : (from to : List ℕ) → ℕ → List ℕ → List ℕ
replaced from to n [] = []
replaced from to (suc n) (b ∷ bs) = replaced from to n bs
replaced from to zero (b ∷ bs) = step_text from to b (b ∷ bs)
    ++ replaced from to (step_skip from (b ∷ bs)) bs

-- the end of a name with this index, before this octet
abbrev pub index_text : ℕ → List ℕ → List ℕ
index_text index after = concat (codes "." ∷ decimal index ∷ after ∷ [])

-- a line with another index, at the end of names in quotes and of the name in the comment
abbrev pub renumbered : (from to : ℕ) → List ℕ → List ℕ
renumbered from to line =
    replaced (index_text from (codes ":")) (index_text to (codes ":")) 0
    (replaced (index_text from (codes "\"")) (index_text to (codes "\"")) 0 line)

-- a line of an interface that is now at this index, or is gone
abbrev pub line_at : List ℕ → ℕ → Option ℕ → List ℕ
line_at line index None = []
line_at line index (Some now) = if index == now then line else renumbered index now line

-- a line of one of the interfaces, or another
abbrev pub line_by : List ℕ → Option Spelled → List ℕ
line_by line None = line
line_by line (Some s) = line_at line s.index s.place

-- whether a line is only a comment, after spaces and tabs
abbrev pub is_comment : List ℕ → Bool
is_comment [] = false
is_comment (b ∷ bs) = if b == 32 || b == 9 then is_comment bs else b == 35

-- a line of the agent's blocks; a comment stays as it is
abbrev pub edited_line : List Spelled → List ℕ → List ℕ
edited_line names line = if is_comment line then line else line_by line
    (find (λ s. has_part s.text line) names)

-- a line if it is only a comment
abbrev pub only_comment : List ℕ → List ℕ
only_comment line = if is_comment line then line else []

-- ---- the text

-- whether names were in a block, and none is left
abbrev pub is_emptied : (old new : List ℕ) → Bool
is_emptied old new = has_part (codes "name = \"") old && not (has_part (codes "name = \"") new)

-- a block that became another one: of one that was emptied only the comments stay
abbrev pub block_by : (old new : List ℕ) → List ℕ
block_by old new = if is_emptied old new then flat_map only_comment (lines_of old) else new

-- a block: one with this part is the agent's, and its lines change; others stay as they are
abbrev pub edited_block : List Spelled → List ℕ → List ℕ → List ℕ
edited_block names own block = if has_part own block then block_by block
    (flat_map (edited_line names) (lines_of block)) else block

-- the whole text
abbrev pub edited_text : List Spelled → List ℕ → List ℕ → List ℕ
edited_text names own text = flat_map (edited_block names own) (blocks_of text)

-- a block, or its comments if it has this part
abbrev pub block_without : (own block : List ℕ) → List ℕ
block_without own block = if has_part own block then flat_map only_comment (lines_of block)
    else block

-- a text without the blocks that have this part, but with the comments in them
abbrev pub text_without : (own text : List ℕ) → List ℕ
text_without own text = flat_map (block_without own) (blocks_of text)
