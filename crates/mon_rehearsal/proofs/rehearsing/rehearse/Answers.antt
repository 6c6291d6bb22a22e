use Rattle.std.proofs.Common.{sym, subst}
use Rattle.mon_rehearsal.specs.Script.{AreSteps, Says, lines_of}
use Rattle.mon_rehearsal.proofs.Made.{rehearsed}
use Rattle.mon_rehearsal.proofs.rehearsing.rehearse.Goals as goal

pub returns-clause-printed : goal.returns-clause-printed
returns-clause-printed c =
    let world = c.in_ok-world.world in
    let now = c.make_steps.new.world in
    rehearsed c.args.core.now world.core now.core c.args.count world.stations.items now.stations.items world.sent.items now.sent.items (lines_of c.args.script.now) c.as_slice.result.now
    c.new-text.result.items c.make_steps.new.text.items c.put_stations.new.text.items
    (subst (AreSteps Says (lines_of c.args.script.now)) (sym c.as_slice.ensures.value) c.in_ok-steps.ensures.steps) c.in_ok-world.ensures.core c.in_ok-world.ensures.count
    c.in_ok-make_steps.ensures.core c.in_ok-make_steps.ensures.stations c.new-text.ensures.items c.in_ok-world.ensures.opened c.in_ok-make_steps.ensures.made c.unforged.ensures.first c.unforged.ensures.steps c.debts.ensures.states c.in_ok-put_stations.ensures
