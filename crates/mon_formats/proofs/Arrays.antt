-- Arrays that a loop has made.
use Rattle.std.proofs.Common.{◌≡◌, ℕ, List, ◌≤◌, length, map, take, ap, ◌∙◌}
use Rattle.std.proofs.lemmas.List.{take_all}
use Rattle.std.proofs.Common.{Vec, Global}
use Rattle.serde_json.specs.declared.value.Value.{Value}
use Rattle.serde_json.specs.declared.value.Value.TheVariants.{Array}
use Rattle.serde_json.specs.Data.{Data, array}
use Rattle.serde_json.specs.View.{view, items_of}
use Rattle.serde_json.proofs.Views.{view-Array}

-- once all are made
pub all_made : {X : Type 0} (f : X → Data) (xs : List X) (values : Vec Value Global) (i : ℕ) → length xs ≤ i → map view values.items ≡ map f (take i xs) → view (Array values) ≡ array (items_of (map f xs))
all_made f xs values i end made = view-Array values ∙ ap (λ ds. array (items_of ds)) (made ∙ ap (map f) (take_all i xs end))
