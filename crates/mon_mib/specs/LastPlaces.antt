-- The last places of names in a Set's variable bindings.
use Rattle.std.specs.Prelude.{◌≡◌, ℕ, ◌+◌, ◌<◌, ◌↔◌, List, drop, Any, Option, IsSomeAnd}
use Rattle.std.specs.Borrow.{Bor}
use Rattle.std.specs.BTreeMap.{BTreeMap, get_by}
use Rattle.std.specs.Cmp.Lexicographic.{slice_cmp}
use Rattle.std.specs.Ordering.{nat_cmp}
use Rattle.mon_pdu.specs.declared.message.Binding.{Binding}

-- the place that a map holds for a name
abbrev pub place_of : BTreeMap (Bor (List ℕ)) ℕ → List ℕ → Option ℕ
place_of places name = get_by (λ k. slice_cmp nat_cmp name k.now) places

-- for each name and place: the map holds a later place for the name exactly if a binding after the
-- place has it
abbrev pub AreLastPlaces : List Binding → BTreeMap (Bor (List ℕ)) ℕ → Type 0
AreLastPlaces bindings places = (name : List ℕ) (place : ℕ)
    → IsSomeAnd (place_of places name) (λ last. place < last)
    ↔ Any (λ b. b.name ≡ name) (drop (place + 1) bindings)
