use Rattle.std.proofs.Common.{◌∙◌, ap}
use Rattle.std.specs.Prelude.{Option}
use Rattle.std.specs.declared.time.SystemTime.{SystemTime}
use Rattle.mon_station_commands.specs.Following.{new_time}
use Rattle.mon_station_commands.proofs.Followings.{is_new}
use Rattle.mon_station_commands.proofs.following.follow.Goals as goal

pub returns-in-Some : goal.returns-in-Some
returns-in-Some g c =
    is_new c.args.words c.args.round c.args.known c.take_news.result.at c.changed.result c.in-Some.at c.take_news.result.ends
    (g.H.Host.log c.args.host.now) (g.H.Host.log c.changed.new.self) (g.H.Host.log c.take_news.new.host)
    (c.in-Some.ensures ∙ ap (λ (t : Option SystemTime). new_time c.args.known t) c.ok-changed.ensures.value) c.changed.ensures c.take_news.ensures
