-- Each object's own name is an identifier.
use Rattle.std.proofs.Common.{◌≡◌, ℕ, ◌<◌, ◌^◌, Bool, true, List, length, get_or, refl, arith}
use Rattle.std.specs.Prelude.{nat_lt, ◌&&◌}
use Rattle.std.specs.List.{list_all}
use Rattle.std.proofs.lemmas.Bool.{ltb-true}
use Rattle.std.proofs.lemmas.List.Sums.{AllPass-from_list_all}
use Rattle.mon_oid.specs.Oid.{IsOid}
use Rattle.mon_mib.proofs.Both.{first_so, second_so}
use Rattle.mon_mib.specs.declared.scalar.Scalar.{Scalar}
use Rattle.mon_mib.specs.declared.scalar.Scalar.TheVariants.{SysDescr, SysObjectId, SysUpTime, SysContact, SysName, SysLocation, SysServices, IfNumber, SnmpInPkts, SnmpInBadVersions, SnmpInBadCommunityNames, SnmpInAsnParseErrs, SnmpSilentDrops, SnmpEngineId, SnmpEngineBoots, SnmpEngineTime, SnmpEngineMaxMessageSize}
use Rattle.mon_mib.specs.declared.column.Column.{Column}
use Rattle.mon_mib.specs.declared.column.Column.TheVariants.{IfIndex, IfDescr, IfType, IfMtu, IfSpeed, IfPhysAddress, IfAdminStatus, IfOperStatus, IfLastChange, IfInOctets, IfInUcastPkts, IfInDiscards, IfInErrors, IfInUnknownProtos, IfOutOctets, IfOutUcastPkts, IfOutDiscards, IfOutErrors, IfName, IfHcInOctets, IfHcInUcastPkts, IfHcOutOctets, IfHcOutUcastPkts, IfHighSpeed, IfAlias, IfCounterDiscontinuityTime}
use Rattle.mon_mib.specs.declared.object.Object.{Object}
use Rattle.mon_mib.specs.declared.object.Object.TheVariants as served
use Rattle.mon_mib.specs.Objects.{prefix_of, scalar_row, column_row}

-- the tests of a list: how many numbers, the first two, and that each is of 32 bits
abbrev few : List ℕ → Bool
few ns = nat_lt 1 (length ns) && nat_lt (length ns) 16

abbrev rooted : List ℕ → Bool
rooted ns = nat_lt (get_or ns 0 0) 3 && nat_lt (get_or ns 1 0) 40

abbrev small : List ℕ → Bool
small ns = list_all (λ n. nat_lt n (2 ^ 32)) ns

abbrev passes : List ℕ → Bool
passes ns = few ns && (rooted ns && small ns)

-- an identifier that an instance may follow, for which no heap memory is needed
pub record HasRoom (ns : List ℕ) : Type 0 where
  pub is : IsOid ns
  pub room : length ns < 128
  pub inline : length ns < 16

sound : (ns : List ℕ) → passes ns ≡ true → HasRoom ns
sound ns ok =
    let counts : few ns ≡ true = first_so (few ns) (rooted ns && small ns) ok in
    let rest : (rooted ns && small ns) ≡ true = second_so (few ns) (rooted ns && small ns) ok in
    let begins : rooted ns ≡ true = first_so (rooted ns) (small ns) rest in
    let more : 1 < length ns = ltb-true 1 (length ns) (first_so (nat_lt 1 (length ns)) (nat_lt (length ns) 16) counts) in
    let fewer : length ns < 16 = ltb-true (length ns) 16 (second_so (nat_lt 1 (length ns)) (nat_lt (length ns) 16) counts) in
    let first : get_or ns 0 0 < 3 = ltb-true (get_or ns 0 0) 3 (first_so (nat_lt (get_or ns 0 0) 3) (nat_lt (get_or ns 1 0) 40) begins) in
    let second : get_or ns 1 0 < 40 = ltb-true (get_or ns 1 0) 40 (second_so (nat_lt (get_or ns 0 0) 3) (nat_lt (get_or ns 1 0) 40) begins) in
    record {
      is = record {
        long = omega arith;
        short = omega arith;
        rooted = record { first = omega arith; second = λ _. omega arith };
        small = λ k d lt. ltb-true (get_or ns k d) (2 ^ 32) (AllPass-from_list_all (λ n. nat_lt n (2 ^ 32)) ns (second_so (rooted ns) (small ns) rest) k d lt);
      };
      room = omega arith;
      inline = fewer;
    }

scalar : (s : Scalar) → passes (scalar_row s).prefix ≡ true
scalar SysDescr = refl
scalar SysObjectId = refl
scalar SysUpTime = refl
scalar SysContact = refl
scalar SysName = refl
scalar SysLocation = refl
scalar SysServices = refl
scalar IfNumber = refl
scalar SnmpInPkts = refl
scalar SnmpInBadVersions = refl
scalar SnmpInBadCommunityNames = refl
scalar SnmpInAsnParseErrs = refl
scalar SnmpSilentDrops = refl
scalar SnmpEngineId = refl
scalar SnmpEngineBoots = refl
scalar SnmpEngineTime = refl
scalar SnmpEngineMaxMessageSize = refl

column : (c : Column) → passes (column_row c).prefix ≡ true
column IfIndex = refl
column IfDescr = refl
column IfType = refl
column IfMtu = refl
column IfSpeed = refl
column IfPhysAddress = refl
column IfAdminStatus = refl
column IfOperStatus = refl
column IfLastChange = refl
column IfInOctets = refl
column IfInUcastPkts = refl
column IfInDiscards = refl
column IfInErrors = refl
column IfInUnknownProtos = refl
column IfOutOctets = refl
column IfOutUcastPkts = refl
column IfOutDiscards = refl
column IfOutErrors = refl
column IfName = refl
column IfHcInOctets = refl
column IfHcInUcastPkts = refl
column IfHcOutOctets = refl
column IfHcOutUcastPkts = refl
column IfHighSpeed = refl
column IfAlias = refl
column IfCounterDiscontinuityTime = refl

pub has_room : (o : Object) → HasRoom (prefix_of o)
unfolding prefix_of
has_room (served.Scalar s) = sound (scalar_row s).prefix (scalar s)
has_room (served.Column c) = sound (column_row c).prefix (column c)
