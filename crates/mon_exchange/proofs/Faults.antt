-- Which faults reading has: none of noting.
use Rattle.std.proofs.Common.{ℕ, ◌≤◌, Bool, true, false, cond, List, length, Result, Ok, Err, subst, arith}
use Rattle.std.specs.Prelude.{IfErr, nat_lt, ◌==◌, ◌||◌}
use Rattle.mon_oid.specs.Steps.{◌>>=◌}
use Rattle.mon_fields.specs.declared.fault.LayoutFault.{LayoutFault}
use Rattle.mon_fields.specs.declared.fault.LayoutFault.TheVariants as layout
use Rattle.mon_fields.specs.Reading.{octet_at, field_at, u32_at, samples_at}
use Rattle.mon_exchange.specs.declared.claim.Claim.{Claim}
use Rattle.mon_exchange.specs.declared.claim.ClaimKind.TheVariants.{Offer, Confirm}
use Rattle.mon_exchange.specs.declared.fault.ExchangeFault.{ExchangeFault}
use Rattle.mon_exchange.specs.declared.fault.ExchangeFault.TheVariants.{OutOfMemory, NotAClaim, BadVersion, BadSample, NotRising, BadName, UnknownPeer, UnknownInstance}
use Rattle.mon_exchange.specs.Fault.{number_of}
use Rattle.mon_exchange.specs.Reading.{Fails, lifted, octet_is, claim_kind_of, claim_kind_at, positive_at, within_at, engine_at, sub_identifiers_at, is_unrooted, oid_at, claimed_at, all_read, version_at, claim_at}

-- what was read, or a fault of reading
abbrev IsReading : {A : Type 0} → Result A ExchangeFault → Type 0
IsReading (Ok x) = Unit {0}
IsReading (Err e) = number_of e ≤ 6

after : {A B : Type 0} (r : Result A ExchangeFault) (f : A → Result B ExchangeFault) → IsReading r → ((x : A) → IsReading (f x)) → IsReading (r >>= f)
after (Ok x) f h k = k x
after (Err e) f h k = h

fields : {A : Type 0} (r : Result A LayoutFault) → IsReading (lifted r)
fields (Ok x) = tt
fields (Err layout.OutOfMemory) = omega arith
fields (Err layout.Truncated) = omega arith
fields (Err layout.BadSample) = omega arith
fields (Err layout.NotRising) = omega arith

tested : {A : Type 0} (t : Bool) (r s : Result A ExchangeFault) → IsReading r → IsReading s → IsReading (cond t r s)
tested true r s h k = h
tested false r s h k = k

octet_reads : (w : ℕ) (f : ExchangeFault) (octets : List ℕ) → number_of f ≤ 6 → IsReading (octet_is w f octets)
unfolding octet_is
octet_reads w f octets h = after (lifted (octet_at octets)) _ (fields (octet_at octets)) (λ b. tested (b.0 == w) (Ok b.1) (Err f) tt h)

version_reads : (octets : List ℕ) → IsReading (version_at octets)
unfolding version_at
version_reads octets =
    after (octet_is 77 NotAClaim octets) _ (octet_reads 77 NotAClaim octets (omega arith)) (λ m. after (octet_is 88 NotAClaim m) _ (octet_reads 88 NotAClaim m (omega arith)) (λ x. octet_reads 1 BadVersion x (omega arith)))

kind_reads : (octets : List ℕ) → IsReading (claim_kind_at octets)
unfolding claim_kind_at
kind_reads octets = after (lifted (octet_at octets)) _ (fields (octet_at octets)) (λ b. after (claim_kind_of b.0) _ (of b.0) (λ k. tt))
  where
    of : (b : ℕ) → IsReading (claim_kind_of b)
    of b = tested (b == 1) (Ok Offer) (cond (b == 2) (Ok Confirm) (Err NotAClaim)) tt (tested (b == 2) (Ok Confirm) (Err NotAClaim) tt (omega arith))

positive_reads : (octets : List ℕ) → IsReading (positive_at octets)
unfolding positive_at
positive_reads octets = after (lifted (u32_at octets)) _ (fields (u32_at octets)) (λ n. tested (n.0 == 0) (Err NotAClaim) (Ok n) (omega arith) tt)

within_reads : (least most : ℕ) (f : ExchangeFault) (octets : List ℕ) → number_of f ≤ 6 → IsReading (within_at least most f octets)
unfolding within_at
within_reads least most f octets h = after (lifted (octet_at octets)) _ (fields (octet_at octets)) (λ b. tested (nat_lt b.0 least || nat_lt most b.0) (Err f) (Ok b) h tt)

engine_reads : (octets : List ℕ) → IsReading (engine_at octets)
unfolding engine_at
engine_reads octets = after (within_at 5 32 BadName octets) _ (within_reads 5 32 BadName octets (omega arith)) (λ len. fields (field_at len.0 len.1))

oid_reads : (octets : List ℕ) → IsReading (oid_at octets)
unfolding oid_at
oid_reads octets = after (within_at 2 128 BadName octets) _ (within_reads 2 128 BadName octets (omega arith))
    (λ count. after (lifted (sub_identifiers_at count.0 count.1)) _ (fields (sub_identifiers_at count.0 count.1)) (λ parts. tested (is_unrooted parts.0) (Err BadName) (Ok parts) (omega arith) tt))

claimed_reads : (octets : List ℕ) → IsReading (claimed_at octets)
unfolding claimed_at
claimed_reads octets = after (within_at 0 40 NotAClaim octets) _ (within_reads 0 40 NotAClaim octets (omega arith)) (λ count. fields (samples_at count.0 count.1))

all_reads : {A : Type 0} (octets : List ℕ) (x : A) → IsReading (all_read octets x)
unfolding all_read
all_reads octets x = tested (length octets == 0) (Ok x) (Err NotAClaim) tt (omega arith)

claim_reads : (octets : List ℕ) → IsReading (claim_at octets)
unfolding claim_at
claim_reads octets =
    after (version_at octets) _ (version_reads octets) (λ rest.
    after (claim_kind_at rest) _ (kind_reads rest) (λ kind.
    after (positive_at kind.1) _ (positive_reads kind.1) (λ station.
    after (positive_at station.1) _ (positive_reads station.1) (λ incarnation.
    after (lifted (u32_at incarnation.1)) _ (fields (u32_at incarnation.1)) (λ serial.
    after (engine_at serial.1) _ (engine_reads serial.1) (λ engine.
    after (oid_at engine.1) _ (oid_reads engine.1) (λ name.
    after (claimed_at name.1) _ (claimed_reads name.1) (λ samples. all_reads samples.1 _))))))))

of_reading : (e : ExchangeFault) (read : Result Claim ExchangeFault) → IsReading read → Fails e read → number_of e ≤ 6
of_reading OutOfMemory read h f = omega arith
of_reading NotAClaim read h f = omega arith
of_reading BadVersion read h f = omega arith
of_reading BadSample read h f = omega arith
of_reading NotRising read h f = omega arith
of_reading BadName read h f = omega arith
of_reading UnknownPeer read h f = subst IsReading f h
of_reading UnknownInstance read h f = absurd (let no : 8 ≤ 6 = subst IsReading f h in omega (arith, no))

pub faults_of_reading : (octets : List ℕ) (r : Result Claim ExchangeFault) → IfErr r (λ e. Fails e (claim_at octets)) → IfErr r (λ e. number_of e ≤ 6)
faults_of_reading octets (Ok c) h = tt
faults_of_reading octets (Err e) h = of_reading e (claim_at octets) (claim_reads octets) h
