-- Images of given instances, and how each version spells them.
use Rattle.std.specs.Prelude.{ℕ, ◌≡◌, ◌≤◌, ◌<◌, ◌^◌, List, [], ◌∷◌, ◌++◌, length, nat_eq}
use Rattle.std.specs.List.{AllByRecursion, filter}
use Rattle.std.specs.Int.{w16, w32, to_be_bytes}
use Rattle.mon_sample.specs.Key.{boots_of}
use Rattle.mon_board.specs.declared.instance.Instance.{Instance}
use Rattle.mon_fields.specs.Layout.{instance_octets, samples_octets, AreSamples}
use Rattle.mon_saved.specs.declared.image.Entry.{Entry}
use Rattle.mon_saved.specs.declared.image.Image.{Image}

-- version 1 has one window for all instances, version 2 a window and an epoch for each
pub data ImageVersion : Type 0 where
  One : (window : ℕ) → ImageVersion
  Two : ImageVersion

-- the octet that says which version it is
abbrev pub version_octet : ImageVersion → ℕ
version_octet (One window) = 1
version_octet Two = 2

-- what is before the count of instances: in version 1 the window
abbrev pub before_count : ImageVersion → List ℕ
before_count (One window) = window ∷ []
before_count Two = []

-- what is before an instance: in version 2 its window and its epoch
abbrev pub before_entry : ImageVersion → Entry → List ℕ
before_entry (One window) e = []
before_entry Two e = e.window ∷ e.epoch ∷ []

-- the entry of an instance: its sizes, the instance, how many samples there are, these
unfoldable pub entry_octets : ImageVersion → Instance → Entry → List ℕ
entry_octets v i e = before_entry v e ++ (instance_octets i.engine i.name
    ++ (length e.samples ∷ samples_octets e.samples))

-- an entry for each instance
abbrev pub entries_octets : ImageVersion → List Instance → List Entry → List ℕ
entries_octets v [] entries = []
entries_octets v (i ∷ instances) [] = []
entries_octets v (i ∷ instances) (e ∷ entries) = entry_octets v i e
    ++ entries_octets v instances entries

-- an image: MI, the version, the incarnation of four octets, the count of instances of two, the
-- entries
unfoldable pub image_octets : ImageVersion → List Instance → Image → List ℕ
image_octets v instances image = 77 ∷ 73 ∷ version_octet v ∷ (to_be_bytes w32 image.incarnation
    ++ (before_count v ++ (to_be_bytes w16 (length instances)
    ++ entries_octets v instances image.entries)))

-- how many of the samples have this boots number
abbrev pub of_boots : ℕ → List ℕ → ℕ
of_boots boots samples = length (filter (λ s. nat_eq (boots_of s) boots) samples)

-- the sizes are in range, the samples rise, and neither all of them nor those of one boots number
-- are too many
pub record IsEntry (e : Entry) : Type 0 where
  pub small : e.window ≤ 64
  pub part : e.epoch ≤ e.window
  pub some : 1 ≤ e.epoch
  pub samples : AreSamples e.samples
  pub few : length e.samples ≤ e.window
  pub epochs : (boots : ℕ) → of_boots boots e.samples ≤ e.epoch

-- the one window of version 1 is in range
abbrev pub IsVersion : ImageVersion → Type 0
IsVersion (One window) = (1 ≤ window) × (window ≤ 64)
IsVersion Two = Unit {0}

-- in version 1 all sizes are the one window
abbrev pub HasSizes : ImageVersion → Entry → Type 0
HasSizes (One window) e = (e.window ≡ window) × (e.epoch ≡ window)
HasSizes Two e = Unit {0}

-- an image that this version can spell, of this many instances
pub record IsImage (v : ImageVersion) (many : ℕ) (image : Image) : Type 0 where
  pub version : IsVersion v
  pub positive : 1 ≤ image.incarnation
  pub fits : image.incarnation < 2 ^ 32
  pub number : length image.entries ≡ many
  pub entries : AllByRecursion IsEntry image.entries
  pub sizes : AllByRecursion (HasSizes v) image.entries

-- these octets, all of them, spell the image of these instances, in one of the versions
pub record SpellsImage (octets : List ℕ) (instances : List Instance) (image : Image) : Type 0 where
  pub version : ImageVersion
  pub spelled : octets ≡ image_octets version instances image
  pub valid : IsImage version (length instances) image
