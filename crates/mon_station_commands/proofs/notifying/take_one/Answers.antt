use Rattle.mon_host.proofs.Promised.{weaker}
use Rattle.mon_file_commands.specs.Line.{AreNoted}
use Rattle.mon_station_commands.specs.Notifying.{IsTurnSaid, news_lines}
use Rattle.mon_station_commands.proofs.notifying.take_one.Goals as goal

pub returns : goal.returns
returns g c =
    let said = c.turn-said.result in
    weaker (AreNoted (news_lines said)) (IsTurnSaid c.args.now c.args.courier.now c.turn-said.new.self) (g.H.Host.log c.args.host.now) (g.H.Host.log c.tell_news.new.host)
    (λ log noted. (said, c.turn-said.ensures, noted)) c.tell_news.ensures
