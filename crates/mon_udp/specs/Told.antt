-- What something at the program's edge reports of what it gave and was passed: in memory all of it,
-- over a socket nothing.
use Rattle.std.specs.Prelude.{◌≡◌, List, ◌++◌, Option, Some, None}

-- what was reported before, if anything is reported, and more
abbrev pub extended : {A : Type 0} → Option (List A) → List A → Option (List A)
extended None more = None
extended (Some all) more = Some (all ++ more)

-- More is reported, of which this holds.
pub record GoesOnBy {A : Type 0} (Holds : List A → Type 0) (before after : Option (List A)) : Type 0
  where
    pub more : List A
    pub holds : Holds more
    pub told : after ≡ extended before more
