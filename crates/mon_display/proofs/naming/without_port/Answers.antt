use Rattle.mon_display.proofs.Ports.{bare}
use Rattle.mon_display.proofs.naming.without_port.Goals as goal

pub returns-in-None : goal.returns-in-None
returns-in-None c = bare c.args.address.now (rw c.in-None.is at c.strip_suffix.ensures.cases)
