use Rattle.mon_station_commands.proofs.Followings.{news}
use Rattle.mon_station_commands.proofs.following.take_news.Goals as goal

pub returns : goal.returns
returns g c =
    news c.args.words c.args.round c.args.at c.read_labelled_station-given.result c.say_news.result.at c.say_news.result.ends
    (g.H.Host.log c.args.host.now) (g.H.Host.log c.read_labelled_station-given.new.host) (g.H.Host.log c.say_news.new.host)
    c.read_labelled_station-given.ensures c.say_news.ensures
