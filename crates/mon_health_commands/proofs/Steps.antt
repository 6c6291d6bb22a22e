-- Steps that are done one after another.
use Rattle.std.proofs.Common.{◌≡◌, List, ap, subst, sym}
use Rattle.std.specs.Prelude.{IsErrAnd, Option, Result, Ok, Err}
use Rattle.mon_console.specs.declared.failure.Failure.{Failure}
use Rattle.mon_host.proofs.Promised.{quietly, then_fails, then_follows}
use Rattle.mon_host.specs.AtHost.{AtHost}
use Rattle.mon_host.specs.Log.{GoesOnBy}
use Rattle.mon_host.specs.Then.{Quietly, Then}

-- a failure that a `?` made
failure_is : {A : Type 0} → (r : Result A Failure) (failure : Failure)
    → IsErrAnd r (λ f. f ≡ failure) → r ≡ Err failure
failure_is (Ok a) failure is = absurd is
failure_is (Err f) failure is = ap Err is

-- a silent step that gave a value, and one that follows
pub silent_then : {A B : Type 0} → (Gives : Result A Failure → Type 0)
    (Second : A → List AtHost → Result B Failure → Type 0) (value : A) (result : Result B Failure)
    (before after : Option (List AtHost)) → Gives (Ok value)
    → GoesOnBy (λ log. Second value log result) before after
    → GoesOnBy (λ log. Then (Quietly Gives) Second log result) before after
silent_then Gives Second value result before after gives second =
    then_follows (Quietly Gives) Second (Ok value) result before before after
    (quietly Gives (Ok value) before gives) second

-- a silent step that failed
pub silent_stopped : {A B : Type 0} → (Gives : Result A Failure → Type 0)
    (Second : A → List AtHost → Result B Failure → Type 0) (failure : Failure) (r : Result B Failure)
    (told : Option (List AtHost)) → IsErrAnd r (λ f. f ≡ failure) → Gives (Err failure)
    → GoesOnBy (λ log. Then (Quietly Gives) Second log r) told told
silent_stopped {B = B} Gives Second failure r told is gives =
    subst (λ (r : Result B Failure). GoesOnBy (λ log. Then (Quietly Gives) Second log r) told told)
    (sym (failure_is r failure is))
    (then_fails (Quietly Gives) Second failure told told (quietly Gives (Err failure) told gives))
