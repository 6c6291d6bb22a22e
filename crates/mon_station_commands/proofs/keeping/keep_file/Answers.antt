use Rattle.std.proofs.Common.{string_bytes}
use Rattle.mon_station_commands.proofs.Keepings.{looked}
use Rattle.mon_station_commands.proofs.keeping.keep_file.Goals as goal

pub returns-clause-looked : goal.returns-clause-looked
returns-clause-looked g c =
    let live = c.args.live.now in
    looked c.args.round (string_bytes live.reports.paths.file) live.kept.strayed c.deref.result.now c.node-at.result c.node.result c.found_by-found.result c.keep_by-live.result
    (g.H.Host.log c.args.host.now) (g.H.Host.log c.node-at.new.self) (g.H.Host.log c.keep_by-live.new.host) c.deref.ensures c.found_by-found.ensures c.node-at.ensures c.keep_by-live.ensures.kept_by
