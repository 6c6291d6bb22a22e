use Rattle.mon_host.specs.declared.level.Level.TheVariants as level
use Rattle.std.proofs.Common.{Bool, subst, sym}
use Rattle.mon_host.specs.Log.{GoesOnBy}
use Rattle.mon_station_commands.specs.Reporting.{IsAgain, written_line}
use Rattle.mon_station_commands.proofs.Steps.{line_said}
use Rattle.mon_station_commands.proofs.printing.tell_written.Goals as goal

pub returns-then-failed : goal.returns-then-failed
returns-then-failed g c =
    let start = g.H.Host.log c.args.host.now in
    let end = g.H.Host.log c.note.new.self in
    subst (λ (b : Bool). GoesOnBy (IsAgain b c.args.round c.args.path.now) start end) (sym c.if-failed.true)
    (line_said level.Notice (written_line c.args.round c.args.path.now) start end c.note.ensures)
