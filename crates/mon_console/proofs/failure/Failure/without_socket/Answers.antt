use Rattle.mon_console.proofs.Lines.{has_socket}
use Rattle.mon_console.proofs.failure.Failure.without_socket.Goals as goal

pub returns : goal.returns
returns g c = record {
  fault = c.said.ensures.fault;
  more = has_socket c.format.result (g.P.Display.output c.args.address) c.args.reason c.text-why.result.now c.said.result.more c.text-why.ensures c.format.ensures.ok c.said.ensures.more;
  whole = c.said.ensures.whole;
}
