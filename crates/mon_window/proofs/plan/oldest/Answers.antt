use Rattle.mon_sample.specs.Key.{boots_of}
use Rattle.mon_window.proofs.ByBoots.{whole_room, whole_leaves}
use Rattle.mon_window.proofs.plan.oldest.Goals as goal

pub returns-then-items-size-clause-some : goal.returns-then-items-size-clause-some
returns-then-items-size-clause-some c =
    whole_leaves boots_of c.args.boots c.args.size c.args.epoch c.args.items.now c.args.at c.requires.whole c.requires.few c.if-items-size.true c.requires.place

pub returns-else-items-size-clause-none : goal.returns-else-items-size-clause-none
returns-else-items-size-clause-none c =
    whole_room boots_of c.args.boots c.args.size c.args.epoch c.args.items.now c.requires.whole c.if-items-size.false
