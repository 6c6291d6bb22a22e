-- A file of the texts and speeds of interfaces, in TOML, which series, lines, table and page get as
-- labels.
use Rattle.std.specs.Prelude.{◌≡◌, ◌<◌, ◌≤◌, ℕ, ◌+◌, ◌==◌, nat_le, ℤ, pos, Bool, false, IsTrue}
use Rattle.std.specs.Prelude.{◌||◌, List, [], ◌∷◌, ◌++◌, length, codes, decimal, Option, Some, None}
use Rattle.std.specs.Prelude.{option_and_then, if◌then◌else◌}
use Rattle.std.specs.List.{concat, flat_map}
use Rattle.std.specs.Str.{IsUtf8, bytes_eq}
use Rattle.std.specs.Str.Lossy.{utf8_lossy}
use Rattle.hex.specs.Hex.{encode_lower}
use Rattle.toml.specs.Data.{Data, Items, as_array, as_integer, as_str, get, get_member, item}
use Rattle.toml.specs.Data.{no_items}
use Rattle.toml.specs.Parse.{parse_document}
use Rattle.mon_survey.specs.declared.answers.Cell.{Cell}
use Rattle.mon_survey.specs.declared.choice.Choice.{Choice}
use Rattle.mon_survey.specs.declared.column.Column.TheVariants.{IfX}
use Rattle.mon_survey.specs.declared.counter.Planned.{Planned}
use Rattle.mon_survey.specs.declared.fault.SurveyFault.{SurveyFault}
use Rattle.mon_survey.specs.declared.fault.SurveyFault.TheVariants as fault
use Rattle.mon_survey.specs.Answers.{octets_of, speed_in, value_at}
use Rattle.mon_survey.specs.Plan.{counters_of}

-- ---- which interfaces, and their texts

-- whether a number is the one before
abbrev pub is_before : Option ℕ → ℕ → Bool
is_before None n = false
is_before (Some m) n = m == n

-- the indexes of some counters' interfaces, each once, where this one was before
abbrev pub indexes_after : Option ℕ → List Planned → List ℕ
indexes_after before [] = []
indexes_after before (p ∷ ps) = (if is_before before p.index then [] else (p.index ∷ []))
    ++ indexes_after (Some p.index) ps

-- the indexes of all interfaces of which a counter is chosen
abbrev pub indexes_of : Choice → List Cell → List ℕ
indexes_of choice cells = indexes_after None (counters_of choice cells)

-- octets as a text, with U+FFFD in place of what is not UTF-8; none if there are no octets
abbrev pub text_of : List ℕ → Option (List ℕ)
text_of [] = None
text_of (b ∷ bs) = Some (utf8_lossy (b ∷ bs))

-- an interface's ifName
abbrev pub if_name : List Cell → ℕ → Option (List ℕ)
if_name cells index = text_of (octets_of (value_at cells (IfX 1) index))

-- an interface's ifAlias
abbrev pub if_alias : List Cell → ℕ → Option (List ℕ)
if_alias cells index = text_of (octets_of (value_at cells (IfX 18) index))

-- ---- the text

-- an octet in quotes: a quote and a backslash after a backslash, a control character by its number
abbrev pub escaped : ℕ → List ℕ
escaped b = if b == 34 || b == 92 then 92 ∷ b ∷ [] else (if nat_le b 31 || b == 127
    then codes "\\u00" ++ encode_lower (b ∷ []) else b ∷ [])

-- the line of a key, where it has a text
abbrev pub line_of : List ℕ → Option (List ℕ) → List ℕ
line_of key None = []
line_of key (Some text) = key ++ codes " = \"" ++ flat_map escaped text ++ codes "\"\n"

-- the line of a speed in bits a second, unless it is 0, which means that it is not known
abbrev pub speed_line : ℕ → List ℕ
speed_line speed = if speed == 0 then [] else codes "speed = " ++ decimal speed ++ codes "\n"

-- that speed as a number of a table
abbrev pub known_speed : ℕ → Option ℤ
known_speed speed = if speed == 0 then None else Some (pos speed)

-- the table of an interface of an engine, whose id is given in hex
unfoldable pub interface_text : List ℕ → List Cell → ℕ → List ℕ
interface_text engine cells index =
    concat (codes "\n[[interface]]\nengine = \"" ∷ engine ∷ codes "\"\nindex = " ∷ decimal index
    ∷ codes "\n" ∷ [])
    ++ line_of (codes "ifName") (if_name cells index) ++ line_of (codes "ifAlias")
    (if_alias cells index) ++ speed_line (speed_in cells index)

-- the old text, or the first line of a new one
abbrev pub begun : List ℕ → List ℕ
begun [] = codes "# Labels of interfaces.\n"
begun (b ∷ bs) = b ∷ bs

-- the whole text
abbrev pub labels_text : List ℕ → List ℕ → List Cell → List ℕ → List ℕ
labels_text old engine cells indexes = begun old ++ flat_map (interface_text engine cells) indexes

-- ---- what it is read as

-- the text at a key of a table, and its number there
abbrev pub text_at : List ℕ → Data → Option (List ℕ)
text_at key d = option_and_then as_str (get key d)

-- the tables of a tree; none where the key is left out
abbrev pub items_at : Option Data → Option Items
items_at None = Some no_items
items_at (Some d) = as_array d

-- the number at a key of a table
abbrev pub number_at : List ℕ → Data → Option ℤ
number_at key d = option_and_then as_integer (get key d)

-- the tables of a text
abbrev pub interfaces_in : List ℕ → Option Items
interfaces_in text = option_and_then (λ t. items_at (get_member (codes "interface") t))
    (parse_document text)

-- a table is that of an interface
pub record IsInterface (engine : List ℕ) (cells : List Cell) (index : ℕ) (d : Data) : Type 0 where
  pub engine_id : text_at (codes "engine") d ≡ Some engine
  pub index_is : number_at (codes "index") d ≡ Some (pos index)
  pub name : text_at (codes "ifName") d ≡ if_name cells index
  pub alias : text_at (codes "ifAlias") d ≡ if_alias cells index
  pub speed : number_at (codes "speed") d ≡ known_speed (speed_in cells index)

-- the tables are those of the interfaces of these indexes, in their order
abbrev pub AreInterfaces : List ℕ → List Cell → List ℕ → Items → Type 0
AreInterfaces engine cells [] no_items = Unit {0}
AreInterfaces engine cells (i ∷ is) (item d ds) = IsInterface engine cells i d
    × AreInterfaces engine cells is ds
AreInterfaces engine cells _ _ = ⊥

-- a table says the same as another one
pub record IsSameInterface (a b : Data) : Type 0 where
  pub engine_id : text_at (codes "engine") a ≡ text_at (codes "engine") b
  pub index_is : number_at (codes "index") a ≡ number_at (codes "index") b
  pub name : text_at (codes "ifName") a ≡ text_at (codes "ifName") b
  pub alias : text_at (codes "ifAlias") a ≡ text_at (codes "ifAlias") b
  pub speed : number_at (codes "speed") a ≡ number_at (codes "speed") b

-- the tables are the old ones, and then those of the interfaces
abbrev pub Continue : List ℕ → List Cell → List ℕ → Items → Items → Type 0
Continue engine cells indexes no_items ds = AreInterfaces engine cells indexes ds
Continue engine cells indexes (item a olds) (item b ds) = IsSameInterface a b
    × Continue engine cells indexes olds ds
Continue engine cells indexes (item a olds) no_items = ⊥

-- there are new tables, which are the old ones, and then those of the interfaces
abbrev pub ContinueIn : List ℕ → List Cell → List ℕ → Items → Option Items → Type 0
ContinueIn engine cells indexes olds None = ⊥
ContinueIn engine cells indexes olds (Some ds) = Continue engine cells indexes olds ds

-- a text is read as these tables, and then those of the interfaces
abbrev pub ReadsOn : List ℕ → List Cell → List ℕ → Items → List ℕ → Type 0
ReadsOn engine cells indexes before text = (after : Items) × (interfaces_in text ≡ Some after)
    × Continue engine cells indexes before after

-- ---- what may go on

-- whether a text is this engine id
abbrev pub is_of : List ℕ → Option (List ℕ) → Bool
is_of engine None = false
is_of engine (Some text) = bytes_eq text engine

-- whether one of the tables is of this engine
abbrev pub has_engine : List ℕ → Items → Bool
has_engine engine no_items = false
has_engine engine (item d ds) = is_of engine (text_at (codes "engine") d) || has_engine engine ds

-- how many tables there are
abbrev pub count_items : Items → ℕ
count_items no_items = 0
count_items (item d ds) = 1 + count_items ds

-- The text of labels of an engine, by its id in hex: the old text octet by octet, and then the
-- tables of the interfaces, which is read as the old tables and these. None of the old tables is of
-- the engine, and there are at most 4,096 in all.
pub record IsLabels (old engine : List ℕ) (cells : List Cell) (indexes text : List ℕ) : Type 0 where
  pub is : text ≡ labels_text old engine cells indexes
  pub before : Items
  pub old_read : interfaces_in old ≡ Some before
  pub other : has_engine engine before ≡ false
  pub few : count_items before + length indexes ≤ 4096
  pub read : ReadsOn engine cells indexes before text

-- ---- why there is none

-- why there is no such text: memory, an old text that is no file of labels, one that has this
-- engine, more than 4,096 interfaces in all, or a text that is read otherwise
abbrev pub IsNoLabels : List ℕ → List ℕ → List Cell → List ℕ → SurveyFault → Type 0
IsNoLabels old engine cells indexes fault.OutOfMemory = Unit {0}
IsNoLabels old engine cells indexes fault.BadLabels = interfaces_in old ≡ None
IsNoLabels old engine cells indexes fault.SameEngine = (before : Items)
    × (interfaces_in old ≡ Some before) × IsTrue (has_engine engine before)
IsNoLabels old engine cells indexes (fault.TooManyInterfaces n) =
    (before : Items) × (interfaces_in old ≡ Some before) × (n ≡ count_items before + length indexes)
    × (4096 < n)
IsNoLabels old engine cells indexes fault.Misread =
    (before : Items) × (interfaces_in old ≡ Some before)
    × ¬ (IsUtf8 (labels_text old engine cells indexes) × ReadsOn engine cells indexes before
    (labels_text old engine cells indexes))
IsNoLabels old engine cells indexes _ = ⊥
