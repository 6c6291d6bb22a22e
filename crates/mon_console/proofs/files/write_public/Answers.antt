use Rattle.std.specs.Prelude.{Ok}
use Rattle.mon_console.specs.Files.{IsPermit, IsWrite}
use Rattle.mon_host.proofs.Promised.{then_follows}
use Rattle.mon_console.proofs.files.write_public.Goals as goal

pub returns : goal.returns
returns g c = then_follows (IsWrite c.args.path.now c.args.octets.now) (λ done. IsPermit c.args.path.now) (Ok c.in_ok-write_file.field-0) c.permit_reading.result (g.H.Host.log c.args.host.now)
    (g.H.Host.log c.write_file.new.host) (g.H.Host.log c.permit_reading.new.host) c.in_ok-write_file.ensures c.permit_reading.ensures
