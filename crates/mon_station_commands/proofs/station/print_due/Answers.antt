use Rattle.std.proofs.Common.{refl}
use Rattle.mon_station.specs.State.{state_of}
use Rattle.mon_station_commands.specs.Rounds.{Moment}
use Rattle.mon_station_commands.proofs.Rounding.{due_is}
use Rattle.mon_station_commands.proofs.station.print_due.Goals as goal

pub returns-then-is_due-clause-run : goal.returns-then-is_due-clause-run
returns-then-is_due-clause-run g c =
    due_is c.args.number c.args.every c.args.live.now.reports.printing
    (let m : Moment = record { state = state_of c.args.live.now.station.life; course = c.args.live.now.course; fresh = c.args.live.now.freshness; peers = c.args.live.now.transport.peers.items; engines = c.args.live.now.transport.engines.items; now = c.args.live.now.ended; round_at = c.args.live.now.kept.round_at; reports = c.args.live.now.reports } in m) c.args.live.now.kept c.print_between.new.live.kept (g.H.Host.log c.args.host.now) (g.H.Host.log c.print_between.new.host) (c.is_due.ensures.0 c.if-is_due.true) refl refl
    c.print_between.ensures.kept c.print_between.ensures.printed
