-- Places in the settings.
use Rattle.std.specs.Prelude.{ℕ, List, ◌++◌, codes, decimal}
use Rattle.mon_settings.specs.declared.key.Key.{Key}
use Rattle.mon_settings.specs.declared.place.Place.{Place}
use Rattle.mon_settings.specs.declared.place.Place.TheVariants as place
use Rattle.mon_settings.specs.declared.place.PathPart.{PathPart}
use Rattle.mon_settings.specs.declared.place.PathPart.TheVariants as step
use Rattle.mon_settings.specs.Key.{key_name}

-- the place of a key of the table that is read
abbrev pub at : Key → Place
at k = place.At (step.Value k)

-- a place in a table, as it is called from around the table, from where this step leads to it;
-- there is none below three steps
abbrev pub place_within : PathPart → Place → Place
place_within s place.Whole = place.At s
place_within s (place.At last) = place.In s last
place_within s (place.In table last) = place.Inside s table last
place_within s (place.Inside table last below) = place.Inside s table last

-- a key, and for an entry its number in square brackets
abbrev pub step_text : PathPart → List ℕ
step_text (step.Value k) = key_name k
step_text (step.Entry k number) = key_name k ++ codes "[" ++ decimal number ++ codes "]"

-- the steps, with dots between them
abbrev pub place_text : Place → List ℕ
place_text place.Whole = codes "the settings"
place_text (place.At last) = step_text last
place_text (place.In table last) = step_text table ++ codes "." ++ step_text last
place_text (place.Inside first table last) = step_text first ++ codes "." ++ step_text table
    ++ codes "." ++ step_text last
