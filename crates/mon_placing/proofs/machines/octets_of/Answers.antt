use Rattle.std.proofs.Common.{ap, sym, ◌∙◌}
use Rattle.std.specs.Prelude.{Some}
use Rattle.mon_placing.proofs.Addresses.{octets_complete, octets_none}
use Rattle.mon_placing.proofs.machines.octets_of.Goals as goal

pub returns-in-Ok : goal.returns-in-Ok
returns-in-Ok c = ap Some c.octets.ensures ∙ sym (octets_complete c.args.text.now c.in-Ok.address.octets c.in-Ok.ensures.value)

pub returns-in-Err : goal.returns-in-Err
returns-in-Err c = sym (octets_none c.args.text.now (λ octets h. c.in-Err.ensures.value (record { octets = octets }) h))
