use Rattle.mon_mib.proofs.Searching.{at_index, no_index}
use Rattle.mon_mib.proofs.sim_device.find.Goals as goal

pub returns-in_default : goal.returns-in_default
returns-in_default c = no_index c.args.interfaces.now c.args.index c.in_default.ensures.missing

pub returns : goal.returns
returns c = at_index c.args.interfaces.now c.args.index c.in-Some.place c.index-interfaces-place.result c.requires.rising c.in-Some.ensures.found c.index-interfaces-place.is
