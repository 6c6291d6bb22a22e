use Rattle.std.proofs.Common.{◌∙◌, string_bytes}
use Rattle.mon_station_commands.proofs.Keepings.{taken}
use Rattle.mon_station_commands.proofs.keeping.take_file.Goals as goal

pub returns-clause-taken : goal.returns-clause-taken
returns-clause-taken g c =
    let live = c.args.live.now in
    taken c.args.round (string_bytes live.reports.paths.file) live.kept.strayed c.args.what.now c.deref.result.now c.deref-2.result.now c.move_file-moved.result c.tell_moved.result
    (g.H.Host.log c.args.host.now) (g.H.Host.log c.tell_strayed.new.host) (g.H.Host.log c.tell_moved.new.host) c.deref.ensures
    (c.deref-2.ensures ∙ (λ i. string_bytes ((c.move_file-moved.ensures.reports i).paths.file))) c.move_file-moved.ensures.refused c.tell_strayed.ensures c.tell_moved.ensures
