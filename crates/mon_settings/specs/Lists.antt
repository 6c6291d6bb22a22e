-- Which fault of a list of tables comes first.
use Rattle.std.specs.Prelude.{ℕ, ◌+◌, List, [], ◌∷◌, Result, Ok}
use Rattle.toml.specs.Data.{Data, Items, no_items, item, Members, as_table}
use Rattle.mon_oid.specs.Steps.{◌>>=◌}
use Rattle.mon_settings.specs.Leaf.{list_between, list_in}
use Rattle.mon_settings.specs.declared.key.Key.{Key}
use Rattle.mon_settings.specs.declared.fault.SettingsFault.{SettingsFault}
use Rattle.mon_settings.specs.declared.place.Place.TheVariants as place
use Rattle.mon_settings.specs.declared.place.PathPart.{PathPart}
use Rattle.mon_settings.specs.declared.place.PathPart.TheVariants as step
use Rattle.mon_settings.specs.Keys.{or_bad_at, needed_at, default_at, within}

-- one entry, to which this step leads, and which must be a table
unfoldable pub row : {A : Type 0} → PathPart → (Members → Result A SettingsFault) → Data
    → Result A SettingsFault
row s f d = or_bad_at (place.At s) (as_table d) >>= (λ t. within s (f t))

-- each entry, one after another, the first fault deciding; the first one has this number in the
-- list at the key
unfoldable pub rows : {A : Type 0} → Key → (Members → Result A SettingsFault) → ℕ → Items
    → Result (List A) SettingsFault
rows k f number no_items = Ok []
rows k f number (item d ds) = row (step.Entry k number) f d >>=
    (λ a. rows k f (number + 1) ds >>= (λ more. Ok (a ∷ more)))

-- the tables of the list at a key, least to most of them
unfoldable pub rows_between : {A : Type 0} → Key → ℕ → ℕ → (Members → Result A SettingsFault)
    → Members → Result (List A) SettingsFault
rows_between k least most f t = needed_at k (list_between least most) t >>= rows k f 1

-- the tables of the list at a key, at most this many, and none where the key is left out
unfoldable pub rows_up_to : {A : Type 0} → Key → ℕ → (Members → Result A SettingsFault) → Members
    → Result (List A) SettingsFault
rows_up_to k most f t = default_at k no_items (list_between 0 most) t >>= rows k f 1

-- the tables of the list at a key, at most 256 of them
unfoldable pub list_at : {A : Type 0} → Key → (Members → Result A SettingsFault) → Members
    → Result (List A) SettingsFault
list_at k f t = needed_at k list_in t >>= rows k f 1
