-- What `carry` does.
use Rattle.std.specs.Prelude.{ℕ, Bool, true, false, List, Result, string_bytes}
use Rattle.mon_board.specs.Watch.{Watch}
use Rattle.mon_cli.specs.declared.meaning.CarryArgs.{CarryArgs}
use Rattle.mon_console.specs.declared.failure.Failure.{Failure}
use Rattle.mon_host.specs.AtHost.{AtHost}
use Rattle.mon_host.specs.Then.{Quietly, Then}
use Rattle.mon_carry_commands.specs.Engines.{AreEngines}
use Rattle.mon_carry_commands.specs.Line.{IsCountsPrint}
use Rattle.mon_carry_commands.specs.Load.{IsLoaded}
use Rattle.mon_carry_commands.specs.Previous.{IsPrevious}
use Rattle.mon_carry_commands.specs.Saving.{IsSavingUnless, Saved}
use Rattle.mon_carry_commands.specs.Side.{AreApart, IsSide}

-- What is carried is found in the file at the one path, and saved in that at the other, unless
-- nothing may be written. Then it is printed how much it is.
abbrev pub IsBetween : Saved → (skips : Bool) (to from : List ℕ) (old new : Watch)
    (dropped : List (List ℕ)) → List AtHost → Result Unit Failure → Type 0
IsBetween saved skips to from old new dropped = Then (IsLoaded from old new dropped) (λ load.
    Then (Quietly (IsSavingUnless saved skips to load)) (λ (done : Unit {0}).
    IsCountsPrint load.carried))

-- windows are carried to the file of new settings
abbrev pub IsNew : Saved → CarryArgs → (dropped : List (List ℕ)) → List AtHost
    → Result Unit Failure → Type 0
IsNew saved words dropped = Then (IsSide words.old.now) (λ old. Then (IsSide words.new.now) (λ new.
    Then (Quietly (AreApart (string_bytes old.file) (string_bytes new.file))) (λ (done : Unit {0}).
    IsBetween saved words.dry_run (string_bytes new.file) (string_bytes old.file) old.watch
    new.watch dropped)))

-- the station's file is replaced, or a new one is made
abbrev pub IsCarry : Saved → (previous : Bool) → CarryArgs → (dropped : List (List ℕ))
    → List AtHost → Result Unit Failure → Type 0
IsCarry saved true words dropped = IsPrevious saved words dropped
IsCarry saved false words dropped = IsNew saved words dropped

-- the command `carry`: the engines of which nothing is carried are read first
abbrev pub IsCarryCommand : Saved → CarryArgs → List AtHost → Result Unit Failure → Type 0
IsCarryCommand saved words = Then (Quietly (AreEngines words.dropped.now)) (λ engines.
    IsCarry saved words.previous words engines.items)
