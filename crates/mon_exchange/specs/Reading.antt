-- Reading claims from left to right, with the first fault that is met.
use Rattle.std.specs.Prelude.{◌≡◌, ℕ, Bool, List, length, slice_index, Option, None, Result, Ok}
use Rattle.std.specs.Prelude.{Err, nat_lt, ◌==◌, ◌||◌, ◌&&◌, if◌then◌else◌}
use Rattle.mon_oid.specs.Steps.{◌>>=◌}
use Rattle.mon_fields.specs.declared.fault.LayoutFault.{LayoutFault}
use Rattle.mon_fields.specs.Reading.{octet_at, field_at, u32_at, one_by_one, samples_at}
use Rattle.mon_exchange.specs.declared.claim.Claim.{Claim}
use Rattle.mon_exchange.specs.declared.claim.ClaimKind.{ClaimKind}
use Rattle.mon_exchange.specs.declared.claim.ClaimKind.TheVariants.{Offer, Confirm}
use Rattle.mon_exchange.specs.declared.fault.ExchangeFault.{ExchangeFault}
use Rattle.mon_exchange.specs.declared.fault.ExchangeFault.TheVariants.{
  OutOfMemory,
  NotAClaim,
  BadVersion,
  BadSample,
  NotRising,
  BadName,
  UnknownPeer,
  UnknownInstance,
}
use Rattle.mon_exchange.specs.Fault.{exchange_fault}

-- a call that failed so failed as reading does, unless memory ran out
abbrev pub Fails : {Y : Type 0} → ExchangeFault → Result Y ExchangeFault → Type 0
Fails OutOfMemory read = Unit {0}
Fails NotAClaim read = read ≡ Err NotAClaim
Fails BadVersion read = read ≡ Err BadVersion
Fails BadSample read = read ≡ Err BadSample
Fails NotRising read = read ≡ Err NotRising
Fails BadName read = read ≡ Err BadName
Fails UnknownPeer read = read ≡ Err UnknownPeer
Fails UnknownInstance read = read ≡ Err UnknownInstance

-- what a call returned, seen by view, is what reading gives, unless memory ran out
abbrev pub Gives : {X Y : Type 0} → (X → Y) → Result X ExchangeFault → Result Y ExchangeFault
    → Type 0
Gives view (Ok x) read = read ≡ Ok (view x)
Gives view (Err e) read = Fails e read

-- what reading fields gives, with the faults of claims
abbrev pub lifted : {A : Type 0} → Result A LayoutFault → Result A ExchangeFault
lifted (Ok x) = Ok x
lifted (Err e) = Err (exchange_fault e)

-- what follows this octet, else the fault
unfoldable pub octet_is : ℕ → ExchangeFault → List ℕ → Result (List ℕ) ExchangeFault
octet_is wanted fault octets = do
  b ← lifted (octet_at octets)
  if b.0 == wanted then Ok b.1 else Err fault

-- the kind of claim of an octet
abbrev pub claim_kind_of : ℕ → Result ClaimKind ExchangeFault
claim_kind_of b = if b == 1 then Ok Offer else (if b == 2 then Ok Confirm else Err NotAClaim)

-- a kind of claim, and what follows it
unfoldable pub claim_kind_at : List ℕ → Result (ClaimKind × List ℕ) ExchangeFault
claim_kind_at octets = do
  b ← lifted (octet_at octets)
  kind ← claim_kind_of b.0
  Ok (kind, b.1)

-- a number that is not 0, and what follows it
unfoldable pub positive_at : List ℕ → Result (ℕ × List ℕ) ExchangeFault
positive_at octets = do
  n ← lifted (u32_at octets)
  if n.0 == 0 then Err NotAClaim else Ok n

-- an octet from least to most, else the fault, and what follows it
unfoldable pub within_at : ℕ → ℕ → ExchangeFault → List ℕ → Result (ℕ × List ℕ) ExchangeFault
within_at least most fault octets = do
  b ← lifted (octet_at octets)
  if nat_lt b.0 least || nat_lt most b.0 then Err fault else Ok b

-- an engine id after its length, and what follows it
unfoldable pub engine_at : List ℕ → Result (List ℕ × List ℕ) ExchangeFault
engine_at octets = do
  len ← within_at 5 32 BadName octets
  lifted (field_at len.0 len.1)

-- a number of four octets, whatever was read before it
abbrev pub next_number : Option ℕ → List ℕ → Result (ℕ × List ℕ) LayoutFault
next_number last octets = u32_at octets

-- n numbers of four octets each, and what follows them
unfoldable pub sub_identifiers_at : ℕ → List ℕ → Result (List ℕ × List ℕ) LayoutFault
sub_identifiers_at n octets = one_by_one next_number None n octets

-- whether the first two numbers are out of the range of an identifier's (RFC 2578 section 3.5)
unfoldable pub is_unrooted : List ℕ → Bool
is_unrooted parts = nat_lt 2 (slice_index parts 0) || (nat_lt (slice_index parts 0) 2
    && nat_lt 39 (slice_index parts 1))

-- an identifier after the count of its numbers, and what follows it
unfoldable pub oid_at : List ℕ → Result (List ℕ × List ℕ) ExchangeFault
oid_at octets = do
  count ← within_at 2 128 BadName octets
  parts ← lifted (sub_identifiers_at count.0 count.1)
  if is_unrooted parts.0 then Err BadName else Ok parts

-- samples after their count, and what follows them
unfoldable pub claimed_at : List ℕ → Result (List ℕ × List ℕ) ExchangeFault
claimed_at octets = do
  count ← within_at 0 40 NotAClaim octets
  lifted (samples_at count.0 count.1)

-- nothing is left of the octets
unfoldable pub all_read : {A : Type 0} → List ℕ → A → Result A ExchangeFault
all_read octets x = if length octets == 0 then Ok x else Err NotAClaim

-- the mark MX and the version, and what follows them
unfoldable pub version_at : List ℕ → Result (List ℕ) ExchangeFault
version_at octets = do
  m ← octet_is 77 NotAClaim octets
  x ← octet_is 88 NotAClaim m
  octet_is 1 BadVersion x

-- the claim that all of the octets say
unfoldable pub claim_at : List ℕ → Result Claim ExchangeFault
claim_at octets = do
  rest ← version_at octets
  kind ← claim_kind_at rest
  station ← positive_at kind.1
  incarnation ← positive_at station.1
  serial ← lifted (u32_at incarnation.1)
  engine ← engine_at serial.1
  name ← oid_at engine.1
  samples ← claimed_at name.1
  all_read samples.1 (record {
    kind = kind.0;
    station = station.0;
    incarnation = incarnation.0;
    serial = serial.0;
    engine = engine.0;
    name = name.0;
    samples = samples.0;
  })
