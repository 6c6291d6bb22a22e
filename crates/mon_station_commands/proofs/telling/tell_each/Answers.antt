use Rattle.mon_station_commands.specs.Telling.{notice_lines}
use Rattle.mon_station_commands.proofs.Notes.{noted_more}
use Rattle.mon_station_commands.proofs.telling.tell_each.Goals as goal

pub loop-notice-preserved : goal.loop-notice-preserved
loop-notice-preserved g c =
    noted_more (notice_lines c.args.round) c.args.notices.now c.loop-notice.notice-index _ (g.H.Host.log c.args.host.now) (g.H.Host.log c.loop-notice.host)
    (g.H.Host.log c.tell_notice.new.host) c.loop-notice-test.true c.loop-notice.invariant c.tell_notice.ensures
