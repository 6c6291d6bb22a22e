-- The snmpEngine group of an agent (RFC 3411 section 5).
use Rattle.std.specs.Prelude.{◌≡◌, ◌≤◌, ℕ, Bool, true, false, pos, int_le, List, length}
use Rattle.mon_ber.specs.declared.value.Value.{Value}
use Rattle.mon_ber.specs.declared.value.Value.TheVariants as value

-- whether a value is a number from 0 on
abbrev pub is_count : Value → Bool
is_count (value.Integer z) = int_le (pos 0) z
is_count _ = false

-- the answers of an agent whose engine id is this one: 5 to 32 octets, with boots and time
pub record IsEngine (id boots time : Value) (engine : List ℕ) : Type 0 where
  pub is : id ≡ value.Octets engine
  pub long : 5 ≤ length engine
  pub short : length engine ≤ 32
  pub counts_boots : is_count boots ≡ true
  pub counts_time : is_count time ≡ true
