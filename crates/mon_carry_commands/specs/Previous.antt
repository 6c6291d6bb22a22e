-- What `carry --previous` does.
use Rattle.std.specs.Prelude.{◌≡◌, ◌⊎◌, ◌++◌, ℕ, Bool, true}
use Rattle.std.specs.Prelude.{false, List, [], Result, Ok, codes, string_bytes}
use Rattle.mon_board.specs.Watch.{Watch}
use Rattle.mon_cli.specs.declared.meaning.CarryArgs.{CarryArgs}
use Rattle.mon_console.specs.Files.{IsPrint, IsWrite}
use Rattle.mon_console.specs.declared.failure.Failure.{Failure}
use Rattle.mon_host.specs.AtHost.{AtHost}
use Rattle.mon_host.specs.Then.{Quietly, Then}
use Rattle.mon_carry_commands.specs.Alike.{AreAlike}
use Rattle.mon_carry_commands.specs.Line.{IsCountsPrint, IsTextPrint, absent_line, finished_line}
use Rattle.mon_carry_commands.specs.Load.{IsLoaded}
use Rattle.mon_carry_commands.specs.Paths.{IsFinding, IsFinish, IsMade, IsStanding, IsSwap}
use Rattle.mon_carry_commands.specs.Saving.{IsSaving, Saved}
use Rattle.mon_carry_commands.specs.Side.{IsSide}
use Rattle.mon_carry_commands.specs.declared.load.Load.{Load}
use Rattle.mon_carry_commands.specs.declared.paths.Standing.{Standing}
use Rattle.mon_carry_commands.specs.declared.paths.Standing.TheVariants.{Absent, Between, There}

-- the new file is put at its place, unless nothing must be done, and that is printed
abbrev pub IsFinished : (skips : Bool) (path : List ℕ) → List AtHost → Result Unit Failure → Type 0
IsFinished true path = IsTextPrint (finished_line path)
IsFinished false path =
    Then (IsFinish path) (λ (done : Unit {0}). IsTextPrint (finished_line path))

-- a file is emptied, or made, and saved in
abbrev pub IsWritingNew : Saved → List ℕ → Load → List AtHost → Result Unit Failure → Type 0
IsWritingNew saved path load =
    Then (IsWrite path []) (λ (done : Unit {0}). Quietly (IsSaving saved path load))

-- a new file is written, and put in the place of the station's file
abbrev pub IsReplacingBy : Saved → (path new : List ℕ) → Load → List AtHost → Result Unit Failure
    → Type 0
IsReplacingBy saved path new load =
    Then (IsWritingNew saved new load) (λ (done : Unit {0}). IsSwap path new)

-- a new file is written next to a station's file, and put in its place
abbrev pub IsReplacing : Saved → (path : List ℕ) → Load → List AtHost → Result Unit Failure
    → Type 0
IsReplacing saved path load =
    Then (IsMade (path ++ codes ".new")) (λ new. IsReplacingBy saved path (string_bytes new) load)

-- a new file is written next to a station's file and put in its place, unless nothing may be
-- written
abbrev pub IsReplacingUnless : Saved → (skips : Bool) (path : List ℕ) → Load → List AtHost
    → Result Unit Failure → Type 0
IsReplacingUnless saved true path load = Quietly (λ result. result ≡ Ok tt)
IsReplacingUnless saved false path load = IsReplacing saved path load

-- a station's file is replaced by what is carried from it, and it is printed how much that is
abbrev pub IsReplacedBy : Saved → (skips : Bool) (path : List ℕ) (old new : Watch)
    (dropped : List (List ℕ)) → List AtHost → Result Unit Failure → Type 0
IsReplacedBy saved skips path old new dropped = Then (IsLoaded path old new dropped) (λ load.
    Then (IsReplacingUnless saved skips path load) (λ (done : Unit {0}).
    IsCountsPrint load.carried))

-- It is replaced if other instances are watched than before, or windows of other sizes. Else it is
-- printed that nothing is carried.
abbrev pub IsReplacedOther : Saved → (skips : Bool) (path : List ℕ) (old new : Watch)
    (dropped : List (List ℕ)) → List AtHost → Result Unit Failure → Type 0
IsReplacedOther saved skips path old new dropped log result =
    (AreAlike old.instances new.instances
    × IsPrint (codes "nothing is carried: both settings watch the same\n") log result)
    ⊎ (¬ (AreAlike old.instances new.instances)
    × IsReplacedBy saved skips path old new dropped log result)

-- what is done by what is there
abbrev pub IsReplacedAt : Saved → Standing → (skips : Bool) (path : List ℕ) (old new : Watch)
    (dropped : List (List ℕ)) → List AtHost → Result Unit Failure → Type 0
IsReplacedAt saved There skips path old new dropped =
    IsReplacedOther saved skips path old new dropped
IsReplacedAt saved Between skips path old new dropped = IsFinished skips path
IsReplacedAt saved Absent skips path old new dropped = IsTextPrint (absent_line path)

-- a station's file is looked for, with those next to it, and is replaced
abbrev pub IsReplaced : Saved → (skips : Bool) (path : List ℕ) (old new : Watch)
    (dropped : List (List ℕ)) → List AtHost → Result Unit Failure → Type 0
IsReplaced saved skips path old new dropped =
    Then (IsStanding path) (λ at. IsReplacedAt saved at skips path old new dropped)

-- both settings are read, and the file of the new ones, to which the old ones belong, is replaced
abbrev pub IsPreviousOf : Saved → CarryArgs → (dropped : List (List ℕ)) → List AtHost
    → Result Unit Failure → Type 0
IsPreviousOf saved words dropped =
    Then (IsSide words.old.now) (λ old. Then (IsSide words.new.now) (λ new.
    IsReplaced saved words.dry_run (string_bytes new.file) old.watch new.watch dropped))

-- after the old settings were looked for
abbrev pub IsPreviousIf : Saved → Bool → CarryArgs → (dropped : List (List ℕ)) → List AtHost
    → Result Unit Failure → Type 0
IsPreviousIf saved true words dropped = IsPreviousOf saved words dropped
IsPreviousIf saved false words dropped = IsTextPrint (absent_line words.old.now)

-- the old settings are looked for: if they are not there nothing is carried
abbrev pub IsPrevious : Saved → CarryArgs → (dropped : List (List ℕ)) → List AtHost
    → Result Unit Failure → Type 0
IsPrevious saved words dropped =
    Then (IsFinding words.old.now) (λ there. IsPreviousIf saved there words dropped)
