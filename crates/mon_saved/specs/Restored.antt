-- What is restored from an image.
use Rattle.std.specs.Prelude.{ℕ, ◌≡◌, ◌+◌, false, List, [], ◌++◌, ◌∷◌}
use Rattle.mon_board.specs.Board.{Board, window_of, is_marked}
use Rattle.mon_board.specs.Instance.{instances_of}
use Rattle.mon_board.specs.Watch.{Watch}
use Rattle.mon_saved.specs.declared.image.Entry.{Entry}
use Rattle.mon_saved.specs.declared.image.Image.{Image}
use Rattle.mon_saved.specs.Image.{SpellsImage}
use Rattle.mon_board.specs.Windows.{paired, window}

-- the samples of entries with the numbers of their instances, the first of which has this number
abbrev pub pairs_from : ℕ → List Entry → List (ℕ × ℕ)
pairs_from i [] = []
pairs_from i (e ∷ entries) = paired i e.samples ++ pairs_from (i + 1) entries

-- the samples of an image with the numbers of their instances
abbrev pub saved_pairs : Image → List (ℕ × ℕ)
saved_pairs image = pairs_from 0 image.entries

-- no sample is marked
abbrev pub IsUnmarked : Board → Type 0
IsUnmarked board = (slot i s : ℕ) → is_marked board slot i s ≡ false

-- the octets spell an image of the watch's instances with this incarnation, and the board has of
-- each instance what the watch keeps of the image's samples, none of them marked
pub record IsRestored (watch : Watch) (octets : List ℕ) (board : Board) (incarnation : ℕ) : Type 0
  where
    pub image : Image
    pub spelled : SpellsImage octets (instances_of watch.instances) image
    pub incarnation_is : incarnation ≡ image.incarnation
    pub watch_is : board.watch ≡ watch
    pub windows : (i : ℕ) → window_of board i ≡ window watch (saved_pairs image) i
    pub unmarked : IsUnmarked board
