use Rattle.mon_file_commands.specs.Line.{AreNoted, stated}
use Rattle.mon_host.specs.declared.level.Level.TheVariants as level
use Rattle.std.proofs.Common.{◌+◌, ◌∷◌, [], ℕ, ap, subst, sym}
use Rattle.std.specs.Prelude.{None, Option, Some}
use Rattle.mon_host.specs.Log.{GoesOnBy}
use Rattle.mon_station_commands.specs.Telling.{restart_level, restart_line}
use Rattle.mon_station_commands.proofs.Notes.{line_noted}
use Rattle.mon_station_commands.proofs.telling.tell_boots.Goals as goal

pub returns-in-None : goal.returns-in-None
returns-in-None g c =
    let start = g.H.Host.log c.args.host.now in
    let end = g.H.Host.log c.note.new.self in
    let at = c.args.target.now.address in
    let boots = c.args.restart.boots in
    subst (λ (u : Option ℕ). GoesOnBy (AreNoted (stated (restart_level u) (restart_line c.args.round (c.args.target.now.number + 1) at boots u) ∷ [])) start end) (sym c.in-None.is)
    (line_noted level.Info _ _ start end (ap (λ (n : ℕ). restart_line c.args.round (n + 1) at boots None) c.from.ensures) c.note.ensures)

pub returns-in-Some : goal.returns-in-Some
returns-in-Some g c =
    let start = g.H.Host.log c.args.host.now in
    let end = g.H.Host.log c.note-in-Some.new.self in
    let at = c.args.target.now.address in
    let boots = c.args.restart.boots in
    subst (λ (u : Option ℕ). GoesOnBy (AreNoted (stated (restart_level u) (restart_line c.args.round (c.args.target.now.number + 1) at boots u) ∷ [])) start end) (sym c.in-Some.is)
    (line_noted level.Warning _ _ start end (ap (λ (n : ℕ). restart_line c.args.round (n + 1) at boots (Some c.in-Some.time)) c.from.ensures) c.note-in-Some.ensures)
