-- What a station took, over all its lives.
use Rattle.std.specs.Prelude.{ℕ, zero, suc, Bool, List, [], ◌∷◌, ◌==◌, ◌&&◌, if◌then◌else◌, Option}
use Rattle.std.specs.Prelude.{Some, None}
use Rattle.std.specs.FinSet as set
use Rattle.mon_window.specs.Window.{Samples}
use Rattle.mon_board.specs.Watch.{Watch, size_of, epoch_of}
use Rattle.mon_board.specs.Windows.{set_of, kept_by}
use Rattle.mon_poller.specs.Polls.{Polls, no_polls}
use Rattle.mon_saved.specs.declared.image.Image.{Image}
use Rattle.mon_saved.specs.Restored.{saved_pairs}
use Rattle.mon_station.specs.declared.fault.StationFault.{StationFault}
use Rattle.mon_station.specs.ReadEvent.{ReadEvent}
use Rattle.mon_station.specs.ReadEvent.{Save}
use Rattle.mon_station.specs.Verdict.{Setting, added, polls_after}

-- what a life begins from: nothing, the save that has this many later ones, or an image that none
-- of the saves wrote, as one of version 1
pub data Origin : Type 0 where
  Nothing : Origin
  Saved : (later : ℕ) → Origin
  Other : Image → Origin

-- what happens to a station: a life of this setting begins, or an event is answered
pub data Entry : Type 0 where
  Restart : Origin → Setting → Entry
  Answered : ReadEvent → Option StationFault → Entry

-- what was in a save: the watch, and of each instance what was taken
pub record SavedTaken : Type 0 where
  pub watch : Watch
  pub taken : ℕ → Samples

-- what a list of entries leaves: the setting, the polls, of each instance what was taken, and what
-- was in each save, the last one first
pub record Past : Type 0 where
  pub setting : Setting
  pub polls : Polls
  pub taken : ℕ → Samples
  pub saves : List SavedTaken

-- before the first life
abbrev pub no_past : Past
no_past = record {
  setting = record {
    watch = record { instances = []; rules = [] };
    targets = [];
    own = 0;
    peers =
        [];
  };
  polls = no_polls;
  taken = λ i. set.empty;
  saves = [];
}

-- the element that has this many before it
abbrev pub at_place : {A : Type 0} → ℕ → List A → Option A
at_place n [] = None
at_place zero (x ∷ xs) = Some x
at_place (suc n) (x ∷ xs) = at_place n xs

-- whether two watches have one window and one epoch for an instance
abbrev pub has_sizes : Watch → Watch → ℕ → Bool
has_sizes a b i = (size_of a i == size_of b i) && (epoch_of a i == epoch_of b i)

-- what a life of this watch has from a save: of an instance whose sizes are the same all that was
-- taken, else what was in its window
abbrev pub from_save : Watch → Option SavedTaken → ℕ → Samples
from_save watch None i = set.empty
from_save watch (Some save) i = if has_sizes watch save.watch i then save.taken i
    else kept_by save.watch i (save.taken i)

-- what a life of this watch begins with
abbrev pub begun_with : Watch → List SavedTaken → Origin → ℕ → Samples
begun_with watch saves Nothing i = set.empty
begun_with watch saves (Saved later) i = from_save watch (at_place later saves) i
begun_with watch saves (Other image) i = set_of i (saved_pairs image)

-- the saves after an event, however it was answered
abbrev pub saves_after : ReadEvent → Past → List SavedTaken
saves_after Save p = record { watch = p.setting.watch; taken = p.taken } ∷ p.saves
saves_after e p = p.saves

-- what one entry more leaves: a beginning is saved, and an event that is answered without a fault
-- adds what it offers
abbrev pub past_after : Entry → Past → Past
past_after (Restart origin w) p = record {
  setting = w;
  polls = no_polls;
  taken = begun_with w.watch p.saves origin;
  saves = record { watch = w.watch; taken = begun_with w.watch p.saves origin } ∷ p.saves;
}
past_after (Answered e answer) p = record {
  setting = p.setting;
  polls = polls_after p.setting e answer p.polls;
  taken = λ i. set.union (p.taken i) (set_of i (added p.setting p.polls e answer));
  saves = saves_after e p;
}

-- what entries leave, the newest first
abbrev pub past_of : List Entry → Past
past_of [] = no_past
past_of (entry ∷ entries) = past_after entry (past_of entries)

-- of each instance, every sample that was taken and still counts as taken
abbrev pub taken : List Entry → ℕ → Samples
taken entries = (past_of entries).taken
