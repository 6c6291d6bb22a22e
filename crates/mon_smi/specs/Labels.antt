-- The name of an identifier, as a function: there is one text that `IsNameOf` allows.
use Rattle.std.specs.Prelude.{◌≡◌, ◌<◌, ℕ, zero, suc, List, ◌++◌, length, drop, take, Bool, false}
use Rattle.std.specs.Prelude.{Option, Some, None, if◌then◌else◌}
use Rattle.std.specs.Option.{option_map, option_map_or}
use Rattle.std.specs.List.{fold}
use Rattle.std.specs.Ordering.{nat_cmp, is_le}
use Rattle.std.specs.Str.{bytes_eq}
use Rattle.std.specs.Borrow.{Bor}
use Rattle.std.specs.BTreeMap.{BTreeMap, get_by}
use Rattle.std.specs.Global.{Vec}
use Rattle.std.specs.Cmp.Lexicographic.{slice_cmp}
use Rattle.mon_oid.specs.Oid.{IsOid, dotted}
use Rattle.mon_smi.specs.declared.definition.Definition.{Definition}
use Rattle.mon_smi.specs.Parents.{numbers_of}
use Rattle.mon_smi.specs.Nearest.{dotted_after}

-- the name means these numbers
abbrev pub is_meant : List Definition → List ℕ → List ℕ → Bool
is_meant defs q w = option_map_or (λ p. bytes_eq p q) (numbers_of defs w) false

-- the definition's name means these numbers
abbrev pub is_name_for : List Definition → List ℕ → Definition → Bool
is_name_for defs q d = is_meant defs q d.name

-- a name is known that is no greater by its bytes
abbrev pub is_known : Option (List ℕ) → List ℕ → Bool
is_known None w = false
is_known (Some v) w = is_le (slice_cmp nat_cmp v w)

-- the lesser of two names by their bytes
abbrev pub lesser : Option (List ℕ) → List ℕ → Option (List ℕ)
lesser best w = if is_known best w then best else Some w

-- the least of these definitions' names that mean the numbers
abbrev pub label_among : List Definition → List Definition → List ℕ → Option (List ℕ)
label_among defs seen q = fold (λ best d. if is_name_for defs q d then lesser best d.name else best)
    None seen

-- the least of the names that mean the numbers
abbrev pub label_of : List Definition → List ℕ → Option (List ℕ)
label_of defs q = label_among defs defs q

-- the longest beginning of an identifier that has a label, of 2 to n numbers; its label and its
-- length
abbrev pub longest : (List ℕ → Option (List ℕ)) → List ℕ → ℕ → Option (List ℕ × ℕ)
longest label oid zero = None
longest label oid (suc zero) = None
longest label oid (suc (suc n)) = option_map_or (λ w. Some (w, suc (suc n)))
    (label (take (suc (suc n)) oid)) (longest label oid (suc n))

-- an identifier whose nearest name this is, or that has none
abbrev pub named_by : List ℕ → Option (List ℕ × ℕ) → List ℕ
named_by oid None = dotted oid
named_by oid (Some b) = b.0 ++ dotted_after (drop b.1 oid)

-- how an identifier is written
unfoldable pub name_text : List Definition → List ℕ → List ℕ
name_text defs oid = named_by oid (longest (label_of defs) oid (length oid))

-- what a map has for these numbers
abbrev pub found_at : BTreeMap (Vec ℕ) (Bor (List ℕ)) → List ℕ → Option (List ℕ)
found_at labels q = option_map (λ w. w.now) (get_by (λ k. slice_cmp nat_cmp q k.items) labels)

-- the map has the labels among these definitions
abbrev pub AreLabels : List Definition → List Definition → BTreeMap (Vec ℕ) (Bor (List ℕ)) → Type 0
AreLabels defs seen labels = (q : List ℕ) → IsOid q → found_at labels q ≡ label_among defs seen q

-- the map has no label of more than n numbers
abbrev pub AreWithin : ℕ → BTreeMap (Vec ℕ) (Bor (List ℕ)) → Type 0
AreWithin n labels = (q : List ℕ) → n < length q → found_at labels q ≡ None

-- the map has the lesser of its label and the name for these numbers, and for others what it had
abbrev pub IsPut : List ℕ → List ℕ → BTreeMap (Vec ℕ) (Bor (List ℕ))
    → BTreeMap (Vec ℕ) (Bor (List ℕ)) → Type 0
IsPut p w old new = (q : List ℕ) → found_at new q ≡ (if bytes_eq p q then lesser (found_at old q) w
    else found_at old q)

-- the map has the lesser of its label and the name for the identifier that the name means, and for
-- others what it had
abbrev pub IsAdded : List Definition → List ℕ → BTreeMap (Vec ℕ) (Bor (List ℕ))
    → BTreeMap (Vec ℕ) (Bor (List ℕ)) → Type 0
IsAdded defs w old new = (q : List ℕ) → IsOid q → found_at new q
    ≡ (if is_meant defs q w then lesser (found_at old q) w else found_at old q)
