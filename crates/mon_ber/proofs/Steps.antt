-- Steps that did not fail.
use Rattle.std.proofs.Common.{◌≡◌, Bool, true, false, cond, ◌||◌, Result, Ok, Err, refl, ap, ◌⊎◌, inl, inr}
use Rattle.mon_ber.specs.declared.fault.BerFault.{BerFault}
use Rattle.mon_ber.specs.declared.fault.BerFault.TheVariants.{OutOfMemory, Truncated, BadTag, BadLength, OutOfRange, BadOid}
use Rattle.mon_oid.specs.Steps.{◌>>=◌}
use Rattle.mon_ber.specs.Reading.{Fails}

-- the value of a step
pub bind_ok : {A B E : Type 0} (r : Result A E) (f : A → Result B E) (y : B) → (r >>= f) ≡ Ok y → (x : A) × (r ≡ Ok x) × (f x ≡ Ok y)
bind_ok (Ok x) f y e = (x, refl, e)
bind_ok (Err d) f y e = absurd cc

-- a test that found no fault
pub guard : {A E : Type 0} (t : Bool) (d : E) (x : Result A E) (y : A) → cond t (Err d) x ≡ Ok y → (t ≡ false) × (x ≡ Ok y)
guard true d x y e = absurd cc
guard false d x y e = (refl, e)

-- a test that must have been true
pub wanted : {A E : Type 0} (t : Bool) (d : E) (x : Result A E) (y : A) → cond t x (Err d) ≡ Ok y → (t ≡ true) × (x ≡ Ok y)
wanted true d x y e = (refl, e)
wanted false d x y e = absurd cc

pub chosen : {A : Type 0} (t : Bool) (x y z : A) → cond t x y ≡ z → ((t ≡ true) × (x ≡ z)) ⊎ ((t ≡ false) × (y ≡ z))
chosen true x y z e = inl (refl, e)
chosen false x y z e = inr (refl, e)

pub or_false : (a b : Bool) → (a || b) ≡ false → (a ≡ false) × (b ≡ false)
or_false true b e = absurd cc
or_false false b e = (refl, e)

abbrev done : {A E : Type 0} → A → Result A E
done x = Ok x

pub ok_is : {A E : Type 0} (x y : A) → done {E = E} x ≡ done y → x ≡ y
ok_is x y e = cc

pub pair_is : {A B E : Type 0} (a : A) (b : B) (c : A) (d : B) → done {A = A × B} {E = E} (a, b) ≡ done (c, d) → (a ≡ c) × (b ≡ d)
pair_is {A = A} {B = B} a b c d e =
    let p : A × B = (a, b) in
    let q : A × B = (c, d) in
    let same : p ≡ q = ok_is p q e in
    (ap (λ (x : A × B). x.0) same, ap (λ (x : A × B). x.1) same)

-- where reading yields a value, the only fault is out of memory
pub fails_only : {Y Z : Type 0} (e : BerFault) (read : Result Y BerFault) (y : Y) (other : Result Z BerFault) → Fails e read → read ≡ Ok y → Fails e other
fails_only OutOfMemory read y other h is = tt
fails_only Truncated read y other h is = absurd cc
fails_only BadTag read y other h is = absurd cc
fails_only BadLength read y other h is = absurd cc
fails_only OutOfRange read y other h is = absurd cc
fails_only BadOid read y other h is = absurd cc

-- what failed for another cause than memory did not read a value
pub fails_never : {Y : Type 0} (e : BerFault) (read : Result Y BerFault) (y : Y) → Fails e read → (e ≡ OutOfMemory → ⊥) → read ≡ Ok y → ⊥
fails_never OutOfMemory read y h other is = other refl
fails_never Truncated read y h other is = absurd cc
fails_never BadTag read y h other is = absurd cc
fails_never BadLength read y h other is = absurd cc
fails_never OutOfRange read y h other is = absurd cc
fails_never BadOid read y h other is = absurd cc
