-- What each life of a station begins with.
use Rattle.std.specs.Prelude.{ℕ, ◌≡◌, ◌+◌, List, [], ◌∷◌, Some}
use Rattle.std.specs.FinSet as set
use Rattle.mon_board.specs.Board.{window_of}
use Rattle.mon_station.specs.Lived.{last_state, saved_states}
use Rattle.mon_station.specs.State.{State}
use Rattle.mon_station.specs.Taken.{Entry, Restart, Answered, at_place}
use Rattle.mon_world.specs.Moves.{MayFind}

-- A life goes on after these lives: it has the windows of a save that an opening may find, the last
-- one that was answered without a fault or one after it that was stopped or met the disk's fault,
-- and the incarnation after that of every life before.
pub record GoesOn (lives : List (Entry × State)) (s : State) : Type 0 where
  pub later : ℕ
  pub save : State
  pub may : MayFind lives later
  pub there : at_place later (saved_states lives) ≡ Some save
  pub windows : (i : ℕ) → window_of s.board i ≡ window_of save.board i
  pub incarnation : s.incarnation ≡ save.incarnation + 1
  pub next : (last : State) → last_state lives ≡ Some last → s.incarnation ≡ last.incarnation + 1

-- the first life begins with empty windows and incarnation 1, and each other goes on
abbrev pub IsBegunAfter : List (Entry × State) → State → Type 0
IsBegunAfter [] s = ((i : ℕ) → window_of s.board i ≡ set.empty) × (s.incarnation ≡ 1)
IsBegunAfter (x ∷ past) s = GoesOn (x ∷ past) s

-- how each life started
abbrev pub AreBegun : List (Entry × State) → Type 0
AreBegun [] = Unit {0}
AreBegun ((Restart origin w, s) ∷ past) = IsBegunAfter past s × AreBegun past
AreBegun ((Answered e answer, s) ∷ past) = AreBegun past
