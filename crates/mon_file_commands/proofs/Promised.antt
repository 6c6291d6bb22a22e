-- What crates above may cite: steps after a value is made.
use Rattle.std.proofs.Common.{◌≡◌, List, ℕ, subst}
use Rattle.std.specs.Prelude.{IsErrAnd, Option, Result, Ok, Err}
use Rattle.mon_console.specs.Failure.{IsMemory}
use Rattle.mon_console.specs.Files.{IsPrint}
use Rattle.mon_console.specs.declared.failure.Failure.{Failure}
use Rattle.mon_file_commands.specs.Steps.{OrMemory}
use Rattle.mon_host.specs.AtHost.{AtHost}
use Rattle.mon_host.specs.Log.{GoesOnBy}
use Rattle.mon_host.specs.Then.{Quietly, Then}
use Rattle.mon_host.proofs.Promised.{quietly, then_fails, then_follows}

-- there was no memory for a value
pub no_memory : {A B : Type 0} → (Holds : A → Type 0) (Second : A → List AtHost → Result B Failure → Type 0) (r : Result B Failure) (told : Option (List AtHost))
    → IsErrAnd r IsMemory → GoesOnBy (λ log. Then (Quietly (OrMemory Holds)) Second log r) told told
no_memory Holds Second (Ok b) told is = absurd is
no_memory Holds Second (Err failure) told is = then_fails (Quietly (OrMemory Holds)) Second failure told told (quietly (OrMemory Holds) (Err failure) told is)

-- a value was made, and a step followed
pub made : {A B : Type 0} → (Holds : A → Type 0) (Second : A → List AtHost → Result B Failure → Type 0) (value : A) (r : Result B Failure) (told after : Option (List AtHost))
    → Holds value → GoesOnBy (λ log. Second value log r) told after → GoesOnBy (λ log. Then (Quietly (OrMemory Holds)) Second log r) told after
made Holds Second value r told after holds second = then_follows (Quietly (OrMemory Holds)) Second (Ok value) r told told after (quietly (OrMemory Holds) (Ok value) told holds) second

-- a text was made, and printed
pub printed : (Holds : List ℕ → Type 0) (text octets : List ℕ) (r : Result Unit Failure) (told after : Option (List AtHost)) → Holds text → octets ≡ text
    → GoesOnBy (λ log. IsPrint octets log r) told after → GoesOnBy (λ log. Then (Quietly (OrMemory Holds)) IsPrint log r) told after
printed Holds text octets r told after holds same done = made Holds IsPrint text r told after holds (subst (λ (o : List ℕ). GoesOnBy (λ log. IsPrint o log r) told after) same done)
