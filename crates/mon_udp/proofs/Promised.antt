-- Laws of what is reported, of facts in any order and elements of any type, which no clause can
-- range over.
use Rattle.std.proofs.Common.{◌≡◌, List, [], ◌++◌, refl, ap, ◌∙◌, append_assoc}
use Rattle.std.specs.Prelude.{Option, Some, None}
use Rattle.std.proofs.lemmas.List.{append-nil}
use Rattle.mon_udp.specs.Told.{extended}

-- nothing more leaves it as it is
pub extended_by_none : {A : Type 0} → (told : Option (List A)) → extended told [] ≡ told
extended_by_none None = refl
extended_by_none (Some all) = ap Some (append-nil all)

-- more, and more again, is both at once
pub extended_twice : {A : Type 0} → (told : Option (List A)) (more others : List A) → extended (extended told more) others ≡ extended told (more ++ others)
extended_twice None more others = refl
extended_twice (Some all) more others = ap Some (append_assoc all more others)

-- more and more again, where each time comes by itself
pub extended_on : {A : Type 0} → (before between after : Option (List A)) (more others : List A) → between ≡ extended before more → after ≡ extended between others
    → after ≡ extended before (more ++ others)
extended_on before between after more others first then = then ∙ (ap (λ t. extended t others) first ∙ extended_twice before more others)
