-- Steps of a verdict that may refuse.
use Rattle.std.proofs.Common.{◌≡◌, Bool, true, false, not, refl, sym, ap, Result}
use Rattle.mon_poller.specs.declared.fault.ResponseFault.{ResponseFault}
use Rattle.mon_poller.specs.declared.fault.ResponseFault.TheVariants.{OutOfMemory, BadMessage, Stray, WrongSource, WrongCommunity, AgentError, WrongNames, BadStamp, OtherEngine}
use Rattle.mon_oid.specs.Steps.{◌>>=◌}
use Rattle.mon_poller.specs.Gives.{Fails}

-- what fails in the first step fails
pub fails_first : {A B : Type 0} (e : ResponseFault) (x : Result A ResponseFault) (f : A → Result B ResponseFault) → Fails e x → Fails e (x >>= f)
fails_first OutOfMemory x f h = tt
fails_first BadMessage x f h = ap (λ r. r >>= f) h
fails_first Stray x f h = ap (λ r. r >>= f) h
fails_first WrongSource x f h = ap (λ r. r >>= f) h
fails_first WrongCommunity x f h = ap (λ r. r >>= f) h
fails_first (AgentError status index) x f h = ap (λ r. r >>= f) h
fails_first WrongNames x f h = ap (λ r. r >>= f) h
fails_first BadStamp x f h = ap (λ r. r >>= f) h
fails_first OtherEngine x f h = ap (λ r. r >>= f) h

-- a test that was negated
pub was_false : (b : Bool) → not b ≡ true → b ≡ false
was_false true e = sym e
was_false false e = refl

pub was_true : (b : Bool) → not b ≡ false → b ≡ true
was_true true e = refl
was_true false e = sym e
