-- What is read of the old file, and what is left in the new one.
use Rattle.std.specs.Prelude.{ℕ, ◌≡◌, ◌⊎◌, true, List, Option, Some, None}
use Rattle.std.specs.FinSet as set
use Rattle.mon_board.specs.Board.{Board, window_of}
use Rattle.mon_board.specs.Instance.{instances_of}
use Rattle.mon_board.specs.Watch.{Watch}
use Rattle.mon_disk.specs.Keeper.{FindsAs, FindsBody, found_body, is_undamaged}
use Rattle.mon_saved.specs.Image.{SpellsImage}
use Rattle.mon_saved.specs.Restored.{IsRestored, IsUnmarked}
use Rattle.mon_saved.specs.Written.{image_of, written_image}

-- a board of the watch with empty windows, and no incarnation
pub record IsNothing (watch : Watch) (board : Board) (incarnation : ℕ) : Type 0 where
  pub watch_is : board.watch ≡ watch
  pub empty : (i : ℕ) → window_of board i ≡ set.empty
  pub unmarked : IsUnmarked board
  pub none : incarnation ≡ 0

-- the windows and the incarnation that a body holds; without a body there is nothing
abbrev pub IsBoardIn : Watch → Option (List ℕ) → Board → ℕ → Type 0
IsBoardIn watch None board incarnation = IsNothing watch board incarnation
IsBoardIn watch (Some octets) board incarnation = IsRestored watch octets board incarnation

-- the windows and the incarnation that an opening finds in a file, which is not damaged
pub record IsFoundIn (watch : Watch) (file : List ℕ) (board : Board)
    (incarnation : ℕ) : Type 0 where
  pub undamaged : is_undamaged file ≡ true
  pub held : IsBoardIn watch (found_body file) board incarnation

-- an opening of this file finds the image of the board and the incarnation
pub record FindsImage (board : Board) (incarnation : ℕ) (file : List ℕ) : Type 0 where
  pub body : FindsBody (Some (written_image board incarnation)) file
  pub spells : SpellsImage (written_image board incarnation) (instances_of board.watch.instances)
      (image_of board incarnation)

-- an opening of this file meets what an opening of one of these would, or finds that image
abbrev pub FindsFirst : (List ℕ → Type 0) → Board → ℕ → List ℕ → Type 0
FindsFirst outcomes board incarnation file = FindsAs outcomes file
    ⊎ FindsImage board incarnation file

-- an opening of this file finds nothing, or that image
abbrev pub FindsNothingOr : Board → ℕ → List ℕ → Type 0
FindsNothingOr board incarnation file = FindsBody None file ⊎ FindsImage board incarnation file
