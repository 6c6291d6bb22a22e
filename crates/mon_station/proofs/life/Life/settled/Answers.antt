use Rattle.std.proofs.Common.{subst}
use Rattle.mon_board.specs.Watch.{IsWatch}
use Rattle.mon_station.proofs.Few.{window_few}
use Rattle.mon_station.proofs.life.Life.settled.Goals as goal

pub returns-clause-settled : goal.returns-clause-settled
returns-clause-settled c =
    let watch = subst IsWatch c.watch.ensures.watch c.instances.ensures.watch in
    record {
      whole = c.watch.ensures.whole;
      entries = c.watch.ensures.entries;
      few = window_few c.args.self.now.board watch c.watch.ensures.whole c.bound.ensures.keep_few c.rising_list.ensures.count;
      most = watch.listed.few;
    }
