-- How the log of a program's surroundings goes on.
use Rattle.std.specs.Prelude.{◌≡◌, ◌⊎◌, List, Option, None}
use Rattle.mon_udp.specs.Told.{extended}

-- More was done: the log goes on by it, or is lost from here on, as where memory ran out for it.
abbrev pub GoesOn : {A : Type 0} → List A → Option (List A) → Option (List A) → Type 0
GoesOn more before after = (after ≡ extended before more) ⊎ (after ≡ None)

-- More was done, of which this holds.
pub record GoesOnBy {A : Type 0} (Holds : List A → Type 0) (before after : Option (List A))
    : Type 0 where
  pub more : List A
  pub holds : Holds more
  pub on : GoesOn more before after
