-- Steps that are done one after another.
use Rattle.std.proofs.Common.{◌≡◌, Bool, List, ℕ, Some, inl, inr, sym, ap, subst, ◌∙◌}
use Rattle.std.specs.Global.{Global}
use Rattle.std.specs.declared.alloc.AllocError.{AllocError}
use Rattle.std.specs.Prelude.{IfOk, IsErrAnd, option_map, Option, Result, Ok, Err, String, string_bytes}
use Rattle.std.specs.Result.{result_ok}
use Rattle.mon_console.specs.Failure.{HasLine}
use Rattle.mon_console.specs.declared.failure.Failure.{Failure}
use Rattle.mon_host.specs.AtHost.{AtHost}
use Rattle.mon_host.specs.Log.{GoesOnBy}
use Rattle.mon_host.specs.Then.{Quietly, Then}
use Rattle.mon_carry_commands.specs.Paths.{IsFinding}
use Rattle.mon_host.proofs.Promised.{quietly, then_fails, then_follows}

-- a failure that a `?` made
pub failure_is : {A : Type 0} → (r : Result A Failure) (failure : Failure) → IsErrAnd r (λ f. f ≡ failure) → r ≡ Err failure
failure_is (Ok a) failure is = absurd is
failure_is (Err f) failure is = ap Err is

-- a step that gave a value, and one that follows
pub follows : {A B : Type 0} → (First : List AtHost → Result A Failure → Type 0) (Second : A → List AtHost → Result B Failure → Type 0) (value : A) (result : Result B Failure)
    (before between after : Option (List AtHost)) → GoesOnBy (λ log. First log (Ok value)) before between → GoesOnBy (λ log. Second value log result) between after
    → GoesOnBy (λ log. Then First Second log result) before after
follows First Second value result before between after first second = then_follows First Second (Ok value) result before between after first second

-- a step that failed, as the `?` after it says
pub stopped : {A B : Type 0} → (First : List AtHost → Result A Failure → Type 0) (Second : A → List AtHost → Result B Failure → Type 0) (failure : Failure) (r : Result B Failure)
    (before after : Option (List AtHost)) → IsErrAnd r (λ f. f ≡ failure) → GoesOnBy (λ log. First log (Err failure)) before after → GoesOnBy (λ log. Then First Second log r) before after
stopped {B = B} First Second failure r before after is first =
    subst (λ (r : Result B Failure). GoesOnBy (λ log. Then First Second log r) before after) (sym (failure_is r failure is)) (then_fails First Second failure before after first)

-- a silent step that gave a value, and one that follows
pub silent_then : {A B : Type 0} → (Gives : Result A Failure → Type 0) (Second : A → List AtHost → Result B Failure → Type 0) (value : A) (result : Result B Failure)
    (before after : Option (List AtHost)) → Gives (Ok value) → GoesOnBy (λ log. Second value log result) before after
    → GoesOnBy (λ log. Then (Quietly Gives) Second log result) before after
silent_then Gives Second value result before after gives second =
    then_follows (Quietly Gives) Second (Ok value) result before before after (quietly Gives (Ok value) before gives) second

-- a silent step that failed
pub silent_stopped : {A B : Type 0} → (Gives : Result A Failure → Type 0) (Second : A → List AtHost → Result B Failure → Type 0) (failure : Failure) (r : Result B Failure)
    (told : Option (List AtHost)) → IsErrAnd r (λ f. f ≡ failure) → Gives (Err failure) → GoesOnBy (λ log. Then (Quietly Gives) Second log r) told told
silent_stopped Gives Second failure r told is gives = stopped (Quietly Gives) Second failure r told told is (quietly Gives (Err failure) told gives)

-- a line that was made, or no memory for it
pub has_line : (made : Result (String Global) AllocError) (text : List ℕ) (more : Option (String Global)) → IfOk made (λ t. string_bytes t ≡ text) → more ≡ result_ok made → HasLine text more
has_line (Ok t) text more is same = inl (ap (λ m. option_map string_bytes m) same ∙ ap Some is)
has_line (Err e) text more is same = inr same

-- what was found at a path
pub found_as : (p q : List ℕ) (b c : Bool) (before after : Option (List AtHost)) → p ≡ q → b ≡ c → GoesOnBy (λ log. IsFinding p log (let r : Result Bool Failure = Ok b in r)) before after
    → GoesOnBy (λ log. IsFinding q log (let r : Result Bool Failure = Ok c in r)) before after
found_as p q b c before after path is found =
    subst (λ (x : Bool). GoesOnBy (λ log. IsFinding q log (let r : Result Bool Failure = Ok x in r)) before after) is
    (subst (λ (x : List ℕ). GoesOnBy (λ log. IsFinding x log (let r : Result Bool Failure = Ok b in r)) before after) path found)
