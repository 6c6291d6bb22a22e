-- The listing of the names that a module defines.
use Rattle.std.specs.Prelude.{◌≡◌, ◌≢◌, ℕ, List, ◌++◌, codes, map}
use Rattle.std.specs.Borrow.{Bor}
use Rattle.std.specs.Ordering.{nat_cmp, ordering_then}
use Rattle.std.specs.Cmp.Lexicographic.{slice_cmp}
use Rattle.std.specs.declared.cmp.Ordering.{Ordering}
use Rattle.std.specs.declared.cmp.Ordering.TheVariants.{Less}
use Rattle.std.specs.List.{All, Contains, flat_map}
use Rattle.std.specs.List.Sorted.{IsPermutation, IsSorted}
use Rattle.mon_oid.specs.Oid.{IsOid, dotted}
use Rattle.mon_smi.specs.declared.definition.Definition.{Definition}
use Rattle.mon_smi.specs.declared.fault.NamesFault.{NamesFault}
use Rattle.mon_smi.specs.declared.fault.NamesFault.TheVariants as reason
use Rattle.mon_smi.specs.Names.{IsFaultOfNameText, MeansNumbers}
use Rattle.mon_smi.specs.declared.listing.ListFault.{ListFault}
use Rattle.mon_smi.specs.declared.listing.ListFault.TheVariants.{OutOfMemory, Unnamed}

-- an identifier with a name that means it
abbrev pub Row : Type 0
Row = List ℕ × List ℕ

-- rows come by identifier, and those of one identifier by name
abbrev pub row_cmp : Row → Row → Ordering
row_cmp a b = ordering_then (slice_cmp nat_cmp a.0 b.0) (slice_cmp nat_cmp a.1 b.1)

-- the name means the identifier
abbrev pub IsMeant : List Definition → Row → Type 0
IsMeant known r = IsOid r.0 × MeansNumbers known r.1 r.0

-- the line of a row: the name and the identifier
unfoldable pub row_line : Row → List ℕ
row_line r = r.1 ++ codes " " ++ dotted r.0 ++ codes "\n"

-- the lines of rows
abbrev pub row_lines : List Row → List ℕ
row_lines rows = flat_map row_line rows

-- the names of definitions
abbrev pub names_in : List Definition → List (List ℕ)
names_in definitions = map (λ d. d.name) definitions

-- The listing of names: a line for each, with the identifier that it means, by identifier and then
-- by name.
pub record IsListing (known : List Definition) (names : List (List ℕ)) (text : List ℕ) : Type 0
  where
    pub rows : List Row
    pub same : IsPermutation names (map (λ r. r.1) rows)
    pub meant : All (IsMeant known) rows
    pub order : IsSorted row_cmp rows
    pub is : text ≡ row_lines rows

-- a name of these that means no identifier, for this reason, where each of them that comes before
-- it by bytes means one; that memory was refused is no such reason
pub record IsFirstUnnamed (known : List Definition) (names : List (List ℕ)) (name : List ℕ)
    (fault : NamesFault) : Type 0 where
  pub listed : Contains names name
  pub unmeant : IsFaultOfNameText fault known name
  pub own : fault ≢ reason.OutOfMemory
  pub lesser : (other : List ℕ) → Contains names other → slice_cmp nat_cmp other name ≡ Less
      → (q : List ℕ) × IsMeant known (q, other)

-- why names are not listed
abbrev pub IsListFault : List Definition → List (List ℕ) → ListFault → Type 0
IsListFault known names OutOfMemory = Unit {0}
IsListFault known names (Unnamed name fault) = IsFirstUnnamed known names name.now fault

-- why names are not listed where one of them is not found: memory was refused, or the reason is the
-- name's
abbrev pub IsFaultAt : List ℕ → NamesFault → ListFault → Type 0
IsFaultAt name why OutOfMemory = why ≡ reason.OutOfMemory
IsFaultAt name why (Unnamed lent fault) = (lent.now ≡ name) × (fault ≡ why)
    × (why ≢ reason.OutOfMemory)

-- a row with its name as it is lent
abbrev pub seen : List ℕ × Bor (List ℕ) → Row
seen r = (r.0, r.1.now)

-- lent names by their bytes
abbrev pub text_cmp : Bor (List ℕ) → Bor (List ℕ) → Ordering
text_cmp a b = slice_cmp nat_cmp a.now b.now

-- the order of lent rows, that of rows
abbrev pub shown_cmp : List ℕ × Bor (List ℕ) → List ℕ × Bor (List ℕ) → Ordering
shown_cmp a b = row_cmp (seen a) (seen b)
