use Rattle.std.proofs.Common.{ap, string_bytes}
use Rattle.std.specs.Global.{Global}
use Rattle.std.specs.Prelude.{Option, String, option_map}
use Rattle.mon_station_commands.proofs.Steps.{out}
use Rattle.mon_station_commands.proofs.printing.try_write.Goals as goal

pub returns-in-Some : goal.returns-in-Some
returns-in-Some g c =
    out c.args.round (option_map string_bytes c.args.live.now.reports.paths.out) (string_bytes c.in-Some.path) c.deref.result.now c.deref-in-Some.result.now _ c.args.before.now
    c.failed_by.result c.write_file-done.result (g.H.Host.log c.args.host.now) (g.H.Host.log c.write_file-done.new.host) (g.H.Host.log c.tell_change.new.host)
    (ap (λ (o : Option (String Global)). option_map string_bytes o) c.in-Some.is) c.deref.ensures c.deref-in-Some.ensures c.failed_by.ensures c.write_file-done.ensures
    c.tell_change.ensures
