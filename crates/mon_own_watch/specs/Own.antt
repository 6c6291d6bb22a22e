-- The watch that an image names itself.
use Rattle.std.specs.Prelude.{◌≡◌, ℕ, List, [], ◌∷◌, None, map}
use Rattle.std.specs.List.{AllByRecursion}
use Rattle.mon_oid.specs.Oid.{IsOid}
use Rattle.mon_board.specs.Board.{Board, window_of}
use Rattle.mon_board.specs.declared.instance.Instance.{Instance}
use Rattle.mon_board.specs.declared.instance.Watched.{Watched}
use Rattle.mon_board.specs.Instance.{AreInstances, instances_of}
use Rattle.mon_board.specs.Watch.{Watch}
use Rattle.mon_board.specs.Windows.{set_of}
use Rattle.mon_saved.specs.declared.image.Entry.{Entry}
use Rattle.mon_saved.specs.declared.image.Image.{Image}
use Rattle.mon_saved.specs.Image.{SpellsImage}
use Rattle.mon_saved.specs.Restored.{IsUnmarked, saved_pairs}

-- an instance as its entry says it is watched: of these sizes, and by no discontinuity, which an
-- image does not hold
abbrev pub watched_by : Instance → Entry → Watched
watched_by i e = record { instance = i; discontinuity = None; window = e.window; epoch = e.epoch }

-- instances as their entries say, in order
abbrev pub all_by : List Instance → List Entry → List Watched
all_by [] entries = []
all_by (i ∷ instances) [] = []
all_by (i ∷ instances) (e ∷ entries) = watched_by i e ∷ all_by instances entries

-- a watched instance has an object identifier for a name
abbrev pub HasName : Watched → Type 0
HasName w = IsOid w.instance.name

-- All of the octets spell an image of the watch's instances, each of which is watched as its entry
-- says. The watch has no rules.
pub record NamesWatch (octets : List ℕ) (watch : Watch) : Type 0 where
  pub image : Image
  pub spelled : SpellsImage octets (instances_of watch.instances) image
  pub watched : watch.instances ≡ all_by (instances_of watch.instances) image.entries
  pub names : AllByRecursion HasName watch.instances
  pub listed : AreInstances watch.instances
  pub unruled : watch.rules ≡ []

-- A board has the watch that the octets of an image name, and in each window all of the image's
-- samples, none of them marked.
pub record IsOwnBoard (octets : List ℕ) (board : Board) : Type 0 where
  pub watch : NamesWatch octets board.watch
  pub image : Image
  pub spelled : SpellsImage octets (instances_of board.watch.instances) image
  pub windows : (i : ℕ) → window_of board i ≡ set_of i (saved_pairs image)
  pub unmarked : IsUnmarked board

-- a watched instance without its discontinuity
abbrev pub bare : Watched → Watched
bare w = record { instance = w.instance; discontinuity = None; window = w.window; epoch = w.epoch }

-- what a file keeps of a watch: its instances with their sizes
abbrev pub bare_watch : Watch → Watch
bare_watch watch = record { instances = map bare watch.instances; rules = [] }
