use Rattle.std.proofs.Common.{◌≤◌, length, arith}
use Rattle.mon_poller.proofs.Slots.{least_all, none_after}
use Rattle.mon_poller.proofs.finding.least_after.Goals as goal

pub returns-clause-least : goal.returns-clause-least
returns-clause-least c =
    let end : length c.args.polls.now.slots ≤ c.loop-key.key = omega (arith, c.loop-key-test.false, c.capacity-key-end.ensures.slots) in
    least_all c.args.polls.now c.args.id c.loop-key.key c.loop-key.least c.loop-key.invariant end

pub returns-clause-none : goal.returns-clause-none
returns-clause-none c =
    let end : length c.args.polls.now.slots ≤ c.loop-key.key = omega (arith, c.loop-key-test.false, c.capacity-key-end.ensures.slots) in
    none_after c.args.polls.now c.args.id c.loop-key.key c.loop-key.least c.loop-key.invariant end
