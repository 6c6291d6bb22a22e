-- An image that is kept from save to save.
use Rattle.std.specs.Prelude.{ℕ, ◌≡◌, ◌≢◌, ◌+◌, ◌<◌, ◌≤◌, List, ◌++◌, drop, length, get_or}
use Rattle.mon_sample.specs.Key.{IsSample}
use Rattle.mon_window.specs.Inserted.{IsInsertion}
use Rattle.mon_window.specs.Top.{rising}
use Rattle.mon_window.specs.Window.{Samples}
use Rattle.mon_window.specs.declared.window.Inserted.{Inserted}
use Rattle.mon_board.specs.Board.{Board, window_of}
use Rattle.mon_board.specs.Instance.{instances_of}
use Rattle.mon_board.specs.Windows.{kept_by}
use Rattle.mon_board.specs.declared.instance.Watched.{Watched}
use Rattle.mon_fields.specs.Layout.{samples_octets}
use Rattle.mon_saved.specs.Image.{Two, entries_octets, image_octets}
use Rattle.mon_saved.specs.Written.{entries_from}
use Rattle.mon_saved.specs.declared.kept.KeptImage.{KeptImage}

-- the octets of the image of these windows and this incarnation
abbrev pub image_with : List Watched → (ℕ → Samples) → ℕ → List ℕ
image_with watched windows incarnation = image_octets Two (instances_of watched)
    (record { incarnation = incarnation; entries = entries_from windows 0 watched })

-- the entries from the instance of this number on
abbrev pub entries_on : List Watched → (ℕ → Samples) → ℕ → List ℕ
entries_on watched windows i = entries_octets Two (instances_of (drop i watched))
    (entries_from windows i (drop i watched))

-- the end of an image, from the records of the instance of this number on
abbrev pub records_on : List Watched → (ℕ → Samples) → ℕ → List ℕ
records_on watched windows i = samples_octets (rising (windows i))
    ++ entries_on watched windows (i + 1)

-- behind 16 octets the image of these windows and this incarnation, at most 484633 octets in all,
-- and the places in these octets where the records of each instance begin
pub record HoldsImage (octets begins : List ℕ) (watched : List Watched) (windows : ℕ → Samples)
    (incarnation : ℕ) : Type 0 where
  pub image : drop 16 octets ≡ image_with watched windows incarnation
  pub few : length octets ≤ 484633
  pub number : length begins ≡ length watched
  pub places : (i : ℕ) → i < length watched → get_or begins i 0
      + length (records_on watched windows i) ≡ length octets
  pub samples : (i k : ℕ) → i < length watched → k < length (rising (windows i))
      → IsSample (get_or (rising (windows i)) k 0)

-- it is the image of the board's windows, unless it names no incarnation
abbrev pub IsKept : KeptImage → Board → Type 0
IsKept image board = 1 ≤ image.incarnation → HoldsImage image.octets.items image.places.items
    board.watch.instances (window_of board) image.incarnation

-- it was the image of the windows before an insertion into that of this instance
pub record WasKept (image : KeptImage) (board : Board) (i : ℕ) (how : Inserted) : Type 0 where
  pub old : Board
  pub sample : ℕ
  pub kept : IsKept image old
  pub watch : board.watch ≡ old.watch
  pub inserted : IsInsertion (kept_by old.watch i) (window_of old i) (window_of board i) sample how
  pub others : (j : ℕ) → j ≢ i → window_of board j ≡ window_of old j
