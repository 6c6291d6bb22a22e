-- What a text of labels says: an interface after another, the first fault deciding.
use Rattle.std.specs.Prelude.{◌≡◌, ◌⊎◌, ◌≤◌, ℕ, ◌+◌, nat_le, List, [], ◌∷◌, ◌++◌, length, Option}
use Rattle.std.specs.Prelude.{Some, None, Result, Ok, Err, if◌then◌else◌}
use Rattle.std.specs.List.{list_any}
use Rattle.toml.specs.Data.{Data, Items, no_items, item, Members, get_member, as_array, as_str}
use Rattle.toml.specs.Data.{as_table}
use Rattle.toml.specs.Parse.{parse_document}
use Rattle.mon_oid.specs.Steps.{◌>>=◌}
use Rattle.mon_labels.specs.declared.key.Key.TheVariants as key
use Rattle.mon_labels.specs.declared.fault.Place.{Place}
use Rattle.mon_labels.specs.declared.fault.Place.TheVariants as place
use Rattle.mon_labels.specs.declared.fault.LabelsFault.{LabelsFault}
use Rattle.mon_labels.specs.declared.fault.LabelsFault.TheVariants as fault
use Rattle.mon_labels.specs.Described.{Described, is_of}
use Rattle.mon_labels.specs.Key.{key_name}
use Rattle.mon_labels.specs.Table.{engine_in, index_in, needed_at, only, optional_at, or_bad}
use Rattle.mon_labels.specs.Table.{speed_in}

-- the interface of a table
unfoldable pub interface_of : Place → Members → Result Described LabelsFault
interface_of p t = do
  known ← only p (key.Engine ∷ key.Index ∷ key.IfName ∷ key.IfAlias ∷ key.Speed ∷ []) t
  engine ← needed_at p key.Engine engine_in t
  index ← needed_at p key.Index index_in t
  name ← optional_at p key.IfName as_str t
  alias ← optional_at p key.IfAlias as_str t
  speed ← optional_at p key.Speed speed_in t
  Ok (record { engine = engine; index = index; name = name; alias = alias; speed = speed })

-- the interface of this number in the list, which must be a table
unfoldable pub entry : ℕ → Data → Result Described LabelsFault
entry n d = or_bad (place.Interface n) key.Interface (as_table d) >>= interface_of
    (place.Interface n)

-- the interface of this number, unless one before it has its index at its engine
abbrev pub unless_twice : ℕ → List Described → Described → Result Described LabelsFault
unless_twice n before d = if list_any (is_of d.engine d.index) before then Err (fault.Twice n)
    else Ok d

-- the interface of this number after those before it
unfoldable pub entry_after : ℕ → List Described → Data → Result Described LabelsFault
entry_after n before d = entry n d >>= unless_twice n before

-- the interfaces from this number on, after those before them
unfoldable pub entries : ℕ → List Described → Items → Result (List Described) LabelsFault
entries n before no_items = Ok before
entries n before (item d ds) = entry_after n before d >>= (λ i. entries (n + 1) (before ++ i ∷ [])
    ds)

-- how many items there are
abbrev pub count : Items → ℕ
count no_items = 0
count (item d ds) = 1 + count ds

-- at most 4,096 items
abbrev pub few : Items → Result Items LabelsFault
few ds = if nat_le (count ds) 4096 then Ok ds else Err fault.TooMany

-- a list of at most 4,096 items, empty where it is left out
abbrev pub listed : Option Data → Result Items LabelsFault
listed None = Ok no_items
listed (Some d) = or_bad place.Top key.Interface (as_array d) >>= few

-- the list of interfaces, which may be left out
unfoldable pub list_of : Members → Result Items LabelsFault
list_of t = listed (get_member (key_name key.Interface) t)

-- the interfaces of a text's tree
unfoldable pub labels_of : Members → Result (List Described) LabelsFault
labels_of t = do
  known ← only place.Top (key.Interface ∷ []) t
  ds ← list_of t
  entries 1 [] ds

-- the text is TOML, and its tree has these interfaces
abbrev pub Says : List ℕ → List Described → Type 0
Says text all = (t : Members) × (parse_document text ≡ Some t) × (labels_of t ≡ Ok all)

-- the text is TOML, and this is the first fault of its tree
abbrev pub HasFault : List ℕ → LabelsFault → Type 0
HasFault text e = (t : Members) × (parse_document text ≡ Some t) × (labels_of t ≡ Err e)

-- why a text has no tree: memory ran out, or it is not TOML, from some octet in it on
abbrev pub IsUnread : List ℕ → LabelsFault → Type 0
IsUnread text fault.OutOfMemory = Unit {0}
IsUnread text (fault.NotToml at) = (parse_document text ≡ None) × (at ≤ length text)
IsUnread text _ = ⊥

-- why a text is refused: it has no tree, or this is the first fault of its tree
abbrev pub IsRefusal : List ℕ → LabelsFault → Type 0
IsRefusal text e = IsUnread text e ⊎ HasFault text e
