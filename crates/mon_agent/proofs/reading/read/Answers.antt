use Rattle.std.proofs.Common.{sym, subst}
use Rattle.std.specs.Prelude.{IfOk}
use Rattle.mon_pdu.specs.declared.message.Body.{Body}
use Rattle.mon_mib.specs.Search.{IsSeenIn, known_in}
use Rattle.mon_agent.specs.Sent.{IsReadOut}
use Rattle.mon_agent.proofs.reading.read.Goals as goal

pub returns-in-Bulk : goal.returns-in-Bulk
returns-in-Bulk g c =
    subst (λ (b : Body). IfOk c.read_bulk.result (IsReadOut (known_in g.D.Device.held c.args.search.now) (IsSeenIn c.args.search.now)
    (record { community = c.args.message.community; body = b }))) (sym c.in-Bulk.is) c.read_bulk.ensures
