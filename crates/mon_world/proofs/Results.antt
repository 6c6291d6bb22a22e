-- Results and their faults.
use Rattle.std.proofs.Common.{◌≡◌, Result, Ok, Err, sym, subst}
use Rattle.std.specs.Prelude.{IfErr, IfOk}
use Rattle.std.specs.Result.{IsErrAnd}

-- what holds of the fault that a call answered holds of its result
pub err_is : {T E : Type 0} (r : Result T E) (P : E → Type 0) (e : E) → IsErrAnd r (λ x. x ≡ e) → P e → IfErr r P
err_is (Ok x) P e is p = tt
err_is (Err y) P e is p = subst P (sym is) p

-- what holds of a value that a call answered, by what the call says of it
pub ok_is : {T E : Type 0} (r : Result T E) (P Q : T → Type 0) → ((x : T) → P x → Q x) → IfOk r P → IfOk r Q
ok_is (Ok x) P Q f is = f x is
ok_is (Err y) P Q f is = tt
