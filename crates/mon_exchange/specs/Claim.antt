-- Claims, and the one spelling of each.
use Rattle.std.specs.Prelude.{ℕ, ◌≡◌, ◌≤◌, ◌<◌, ◌^◌, List, ◌∷◌, ◌++◌, length}
use Rattle.std.specs.Int.{w32, to_be_bytes}
use Rattle.std.specs.List.Sorted.{IsStrictlySortedBy}
use Rattle.std.specs.Ordering.{nat_cmp}
use Rattle.mon_oid.specs.Oid.{IsOid}
use Rattle.mon_fields.specs.Layout.{instance_octets, samples_octets, AreSamples}
use Rattle.mon_board.specs.Instance.{IsEngine}
use Rattle.mon_exchange.specs.declared.claim.Claim.{Claim}
use Rattle.mon_exchange.specs.declared.claim.ClaimRef.{ClaimRef}
use Rattle.mon_exchange.specs.declared.claim.ClaimKind.{ClaimKind}
use Rattle.mon_exchange.specs.declared.claim.ClaimKind.TheVariants.{Offer, Confirm}

-- the octet of a kind
abbrev pub kind_octet : ClaimKind → ℕ
kind_octet Offer = 1
kind_octet Confirm = 2

-- a claim whose engine id, name and samples are lent, as a claim
abbrev pub claim_of : ClaimRef → Claim
claim_of c = record {
  kind = c.kind;
  station = c.station;
  incarnation = c.incarnation;
  serial =
      c.serial;
  engine = c.engine.now;
  name = c.name.now;
  samples = c.samples.now;
}

-- the count of the samples, and these
unfoldable pub counted_samples : List ℕ → List ℕ
counted_samples samples = length samples ∷ samples_octets samples

-- the octets of a claim: MX, version 1, the kind, then station, incarnation and serial of four
-- octets each, the instance, the samples
unfoldable pub claim_octets : Claim → List ℕ
claim_octets c = 77 ∷ 88 ∷ 1 ∷ kind_octet c.kind ∷ (to_be_bytes w32 c.station
    ++ (to_be_bytes w32 c.incarnation
    ++ (to_be_bytes w32 c.serial ++ (instance_octets c.engine c.name
    ++ counted_samples c.samples))))

-- station and incarnation are not 0, the engine id has 5 to 32 octets, the name is an object
-- identifier, and at most 40 samples rise
pub record IsClaim (c : Claim) : Type 0 where
  pub station : 1 ≤ c.station
  pub station_fits : c.station < 2 ^ 32
  pub incarnation : 1 ≤ c.incarnation
  pub incarnation_fits : c.incarnation < 2 ^ 32
  pub serial_fits : c.serial < 2 ^ 32
  pub engine : IsEngine c.engine
  pub name : IsOid c.name
  pub few : length c.samples ≤ 40
  pub samples : AreSamples c.samples

-- these octets, all of them, say the claim
pub record SpellsClaim (octets : List ℕ) (c : Claim) : Type 0 where
  pub spelled : octets ≡ claim_octets c
  pub valid : IsClaim c

-- what a writer has to know of a claim; its types know the rest of what makes it one
pub record IsSendable (c : Claim) : Type 0 where
  pub station : 1 ≤ c.station
  pub incarnation : 1 ≤ c.incarnation
  pub engine : IsEngine c.engine
  pub few : length c.samples ≤ 40
  pub rising : IsStrictlySortedBy nat_cmp c.samples
