-- What is written of a board.
use Rattle.std.specs.Prelude.{ℕ, ◌+◌, List, [], ◌∷◌}
use Rattle.mon_window.specs.Top.{rising}
use Rattle.mon_window.specs.Window.{Samples}
use Rattle.mon_board.specs.Board.{Board, window_of}
use Rattle.mon_board.specs.Instance.{instances_of}
use Rattle.mon_board.specs.declared.instance.Watched.{Watched}
use Rattle.mon_saved.specs.declared.image.Entry.{Entry}
use Rattle.mon_saved.specs.declared.image.Image.{Image}
use Rattle.mon_saved.specs.Image.{Two, image_octets}

-- the entry of a watched instance: the sizes of its window, and the samples in it
abbrev pub entry_of : Watched → List ℕ → Entry
entry_of watched samples = record {
  window = watched.window;
  epoch = watched.epoch;
  samples =
      samples;
}

-- the entries of watched instances, the first of which has this number
abbrev pub entries_from : (ℕ → Samples) → ℕ → List Watched → List Entry
entries_from windows i [] = []
entries_from windows i (w ∷ watched) = entry_of w (rising (windows i))
    ∷ entries_from windows (i + 1) watched

-- the image of a board and an incarnation
abbrev pub image_of : Board → ℕ → Image
image_of board incarnation = record {
  incarnation = incarnation;
  entries = entries_from
      (window_of board) 0 board.watch.instances;
}

-- the octets that are written for it, in version 2
abbrev pub written_image : Board → ℕ → List ℕ
written_image board incarnation = image_octets Two (instances_of board.watch.instances)
    (image_of board incarnation)
