-- The calls of a turn.
use native.Mathlib.Omega.{arith}
use Rattle.std.proofs.Common.{◌≡◌, ◌≢◌, ◌-◌, ℕ, zero, suc, refl, sym, subst}
use Rattle.mon_courier.specs.Exchange.{AreSteps, Call, IsStep, Parts, spent, stops, goes_on}
use Rattle.mon_courier.specs.declared.exchange.CallOutcome.TheVariants.{GoesOn, Stops}
use Rattle.mon_courier.specs.declared.exchange.Stop.{Stop}
use Rattle.mon_courier.specs.declared.exchange.Stop.TheVariants.{Waits}

-- there were enough calls
pub none_left : {S : Type 0} (Wrote Read : Call S) (left : ℕ) (s : S) (e : Parts) → left ≡ 0
    → AreSteps Wrote Read left s e s e Waits
none_left Wrote Read left s e none = subst (λ (n : ℕ). AreSteps Wrote Read n s e s e Waits) (sym none) (spent s e)

-- a call stops
pub stops_at : {S : Type 0} (Wrote Read : Call S) (left : ℕ) (s t : S) (e f : Parts) (stop : Stop) → left ≢ 0
    → IsStep Wrote Read s e t f (Stops stop) → AreSteps Wrote Read left s e t f stop
stops_at Wrote Read zero s t e f stop some step = absurd (some refl)
stops_at Wrote Read (suc n) s t e f stop some step = stops n s t e f stop step

one_less : (n : ℕ) → suc n - 1 ≡ n
one_less n = omega arith

-- a call goes on
pub goes_on_at : {S : Type 0} (Wrote Read : Call S) (left : ℕ) (s t u : S) (e f g : Parts) (stop : Stop) → left ≢ 0
    → IsStep Wrote Read s e t f GoesOn → AreSteps Wrote Read (left - 1) t f u g stop
    → AreSteps Wrote Read left s e u g stop
goes_on_at Wrote Read zero s t u e f g stop some step rest = absurd (some refl)
goes_on_at Wrote Read (suc n) s t u e f g stop some step rest =
    goes_on n s t u e f g stop step (subst (λ (m : ℕ). AreSteps Wrote Read m t f u g stop) (one_less n) rest)
