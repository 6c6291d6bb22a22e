use Rattle.std.proofs.Common.{◌<◌, length, arith}
use Rattle.mon_poller.specs.Lent.{lent_stamp}
use Rattle.mon_poller.proofs.InPlace.{all_read, nothing, one_less}
use Rattle.mon_poller.proofs.in_place.put_pairs.Goals as goal

pub loop-object-init : goal.loop-object-init
loop-object-init c = record { spelled = c.requires; offers = λ new h. h }

pub loop-object-preserved : goal.loop-object-preserved
loop-object-preserved c =
    let at = c.loop-object in
    let read = c.in-Some in
    one_less (lent_stamp c.args.stamp.now) c.args.objects.now c.args.unread.now.list.now c.args.pairs.now at.object-index at.rest.names.now at.rest.list.now at.pairs at.invariant
    c.object-item.result read.sample read.after.names.now read.after.list.now c.put_sample.new.pairs c.loop-object-test.true c.object-item.is read.ensures c.in_ok-put_sample.ensures

pub returns-then-is_empty : goal.returns-then-is_empty
returns-then-is_empty c =
    let at = c.loop-object in
    let empty : length at.rest.list.now < 1 = grind arith in
    all_read (lent_stamp c.args.stamp.now) c.args.objects.now c.args.unread.now.list.now c.args.pairs.now at.object-index at.rest.names.now at.rest.list.now at.pairs at.invariant c.loop-object-test.false (nothing at.rest.list.now empty)
