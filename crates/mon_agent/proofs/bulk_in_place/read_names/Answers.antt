use Rattle.mon_agent.proofs.Filling.{one_named}
use Rattle.mon_agent.proofs.bulk_in_place.read_names.Goals as goal

pub loop-rest-preserved : goal.loop-rest-preserved
loop-rest-preserved c =
    one_named c.args.octets.now c.args.names.now.items c.loop-rest.rest.now c.loop-rest.names.items c.in-Some.after.now c.read_name.new.names.items c.loop-rest.invariant c.in-Some.ensures.named
