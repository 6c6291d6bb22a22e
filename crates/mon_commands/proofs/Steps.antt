-- Steps that are done one after another.
use Rattle.std.proofs.Common.{◌≡◌, List, refl, sym, ap, subst}
use Rattle.std.specs.Prelude.{IsErrAnd, Option, Result, Ok, Err}
use Rattle.mon_host.specs.Log.{GoesOnBy}
use Rattle.mon_host.specs.Then.{Follows, Quietly, Then}
use Rattle.mon_host.proofs.Promised.{quietly, then_fails, then_follows}

-- a failure that a `?` made
pub failure_is : {A F : Type 0} → (r : Result A F) (failure : F)
    → IsErrAnd r (λ f. f ≡ failure) → r ≡ Err failure
failure_is (Ok a) failure is = absurd is
failure_is (Err f) failure is = ap Err is

-- a step that gave a value, and one that follows
pub follows : {A B F C : Type 0} → (First : List C → Result A F → Type 0)
    (Second : A → List C → Result B F → Type 0) (value : A) (result : Result B F)
    (before between after : Option (List C)) → GoesOnBy (λ log. First log (Ok value)) before between
    → GoesOnBy (λ log. Second value log result) between after
    → GoesOnBy (λ log. Then First Second log result) before after
follows First Second value result before between after first second =
    then_follows First Second (Ok value) result before between after first second

-- a silent step that gave a value, and one that follows
pub silent_then : {A B F C : Type 0} → (Gives : Result A F → Type 0)
    (Second : A → List C → Result B F → Type 0) (value : A) (result : Result B F)
    (before after : Option (List C)) → Gives (Ok value)
    → GoesOnBy (λ log. Second value log result) before after
    → GoesOnBy (λ log. Then (Quietly Gives) Second log result) before after
silent_then Gives Second value result before after gives second =
    then_follows (Quietly Gives) Second (Ok value) result before before after
    (quietly Gives (Ok value) before gives) second

-- a silent step that failed, and nothing after it
pub silent_fails : {A B F C : Type 0} → (Gives : Result A F → Type 0)
    (Second : A → List C → Result B F → Type 0) (failure : F) (before : Option (List C))
    → Gives (Err failure) → GoesOnBy (λ log. Then (Quietly Gives) Second log (Err failure)) before before
silent_fails Gives Second failure before gives =
    then_fails (Quietly Gives) Second failure before before (quietly Gives (Err failure) before gives)

-- what was done, of an equal result
pub as_result : {A C : Type 0} → (P : List C → A → Type 0) (a b : A) (before after : Option (List C))
    → b ≡ a → GoesOnBy (λ log. P log a) before after → GoesOnBy (λ log. P log b) before after
as_result P a b before after is done = subst (λ r. GoesOnBy (λ log. P log r) before after) (sym is) done

-- what was done before a failure that a `?` made
pub failed : {B F C : Type 0} → (P : List C → Result B F → Type 0) (r : Result B F) (failure : F)
    (before after : Option (List C)) → IsErrAnd r (λ f. f ≡ failure)
    → GoesOnBy (λ log. P log (Err failure)) before after → GoesOnBy (λ log. P log r) before after
failed P r failure before after is done =
    as_result P (Err failure) r before after (failure_is r failure is) done
