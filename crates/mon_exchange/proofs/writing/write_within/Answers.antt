use Rattle.std.proofs.Common.{rules, refl}
use Rattle.mon_exchange.specs.Claim.{claim_of}
use Rattle.mon_exchange.proofs.Claims.{all_written}
use Rattle.mon_exchange.proofs.writing.write_within.Goals as goal

pub returns-clause-items : goal.returns-clause-items
returns-clause-items c =
    all_written (claim_of c.args.claim.now) c.args.out.now.items c.put_octets.new.out.items c.put_octet.new.out.items c.put_u32.new.out.items c.put_u32-2.new.out.items c.put_u32-3.new.out.items
    c.put_instance.new.out.items c.put_octet-2.new.out.items c.put_samples.new.out.items
    (search rules) (search rules) (search rules) (search rules) (search rules) (search rules) (search rules) (search rules)

pub returns-clause-says : goal.returns-clause-says
returns-clause-says c = record {
  spelled = refl;
  valid = record {
    station = c.requires.sendable.station;
    station_fits = search rules;
    incarnation = c.requires.sendable.incarnation;
    incarnation_fits = search rules;
    serial_fits = search rules;
    engine = c.requires.sendable.engine;
    name = c.put_instance.ensures.oid;
    few = c.requires.sendable.few;
    samples = record { each = c.put_samples.ensures.samples; rising = c.requires.sendable.rising };
  };
}
