-- The names of a table's keys, in its map and in its tree.
use Rattle.std.proofs.Common.{◌≡◌, not, List, [], ◌∷◌, Option, Some, None, option_map, String, Global, Bor, string_bytes, refl, inl, inr}
use Rattle.std.specs.List.{find}
use Rattle.std.specs.Option.{option_copied}
use Rattle.std.specs.Map.{keys_of}
use Rattle.std.proofs.lemmas.Bool.{cases_Bool}
use Rattle.toml.specs.View.{members_view}
use Rattle.toml.specs.declared.value.Value.{Value}
use Rattle.mon_labels.specs.declared.key.Key.{Key}
use Rattle.mon_labels.specs.Table.{first_unknown, is_one_of}

-- the first unknown name of the map is that of the tree
pub first_is : (ks : List Key) (es : List (String Global × Value)) → option_map string_bytes (find (λ n. not (is_one_of ks (string_bytes n))) (keys_of es)) ≡ first_unknown ks (members_view es)
first_is ks [] = refl
first_is ks (e ∷ es) =
    elim (cases_Bool (is_one_of ks (string_bytes e.0))) [
      | inl known ↦ rw known (first_is ks es)
      | inr other ↦ rw other
    ]

-- the name that a reference leads to
pub copied_now : (o : Option (Bor (String Global))) → option_map (λ n. string_bytes n.now) o ≡ option_map string_bytes (option_copied o)
copied_now None = refl
copied_now (Some n) = refl
