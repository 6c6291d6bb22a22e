use Rattle.mon_ber.proofs.Promised.{all_bytes}
use Rattle.mon_pdu.proofs.Whole.{version_from, version_again}
use Rattle.mon_pdu.proofs.laws.version.Goals as goal

pub returns : goal.returns
returns c = λ bytes v octets. (version_from bytes v (all_bytes bytes octets), λ is. version_again bytes v is.0 is.1)
