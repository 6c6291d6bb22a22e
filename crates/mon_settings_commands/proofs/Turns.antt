-- What is done step after step, where a step fails or does nothing.
use Rattle.std.proofs.Common.{◌≡◌, List, refl, sym, ap, inr, subst}
use Rattle.std.specs.Prelude.{IsErrAnd, Option, Result, Ok, Err}
use Rattle.mon_console.specs.declared.failure.Failure.{Failure}
use Rattle.mon_host.proofs.Promised.{quietly, then_fails, then_follows, weaker}
use Rattle.mon_host.specs.AtHost.{AtHost}
use Rattle.mon_host.specs.Log.{GoesOnBy}
use Rattle.mon_host.specs.Then.{Quietly, Then}
use Rattle.mon_settings_commands.specs.Notes.{Surely}
use Rattle.mon_settings_commands.specs.Source.{OrMemory}

-- a failure that a `?` made
pub failure_is : {A : Type 0} → (r : Result A Failure) (failure : Failure) → IsErrAnd r (λ f. f ≡ failure) → r ≡ Err failure
failure_is (Ok a) failure is = absurd is
failure_is (Err f) failure is = ap Err is

-- the first step failed
pub fails : {A B : Type 0} → (First : List AtHost → Result A Failure → Type 0) (Second : A → List AtHost → Result B Failure → Type 0) (failure : Failure) (r : Result B Failure)
    (before after : Option (List AtHost)) → IsErrAnd r (λ f. f ≡ failure) → GoesOnBy (λ log. First log (Err failure)) before after
    → GoesOnBy (λ log. Then First Second log r) before after
fails {B = B} First Second failure r before after is first = subst (λ (r : Result B Failure). GoesOnBy (λ log. Then First Second log r) before after) (sym (failure_is r failure is))
    (then_fails First Second failure before after first)

-- the first step does nothing, and failed
pub fails_quietly : {A B : Type 0} → (Gives : Result A Failure → Type 0) (Second : A → List AtHost → Result B Failure → Type 0) (failure : Failure) (r : Result B Failure)
    (now : Option (List AtHost)) → IsErrAnd r (λ f. f ≡ failure) → Gives (Err failure) → GoesOnBy (λ log. Then (Quietly Gives) Second log r) now now
fails_quietly Gives Second failure r now is gives = fails (Quietly Gives) Second failure r now now is (quietly Gives (Err failure) now gives)

-- the first step does nothing
pub quietly_then : {A B : Type 0} → (Gives : Result A Failure → Type 0) (Second : A → List AtHost → Result B Failure → Type 0) (value : A) (result : Result B Failure)
    (now end : Option (List AtHost)) → Gives (Ok value) → GoesOnBy (λ log. Second value log result) now end → GoesOnBy (λ log. Then (Quietly Gives) Second log result) now end
quietly_then Gives Second value result now end gives second = then_follows (Quietly Gives) Second (Ok value) result now now end (quietly Gives (Ok value) now gives) second

-- a step, and then one that always succeeds
pub then_surely : (First : List AtHost → Result (Unit {0}) Failure → Type 0) (Holds : List AtHost → Type 0) (done : Unit {0}) (before between after : Option (List AtHost))
    → GoesOnBy (λ log. First log (Ok done)) before between → GoesOnBy Holds between after → GoesOnBy (λ log. Then First (λ d. Surely Holds) log (Ok tt)) before after
then_surely First Holds done before between after first said = then_follows First (λ d. Surely Holds) (Ok done) (Ok tt) before between after first
    (weaker Holds (λ log. Surely Holds log (Ok tt)) between after (λ log holds. (holds, refl)) said)

-- a step that was done, or memory ran out before it
pub or_memory : {A C : Type 0} → (Step : List C → Result A Failure → Type 0) (log : List C) (r : Result A Failure) → Step log r → OrMemory Step log r
or_memory Step log (Ok value) step = step
or_memory Step log (Err failure) step = inr step
