use Rattle.mon_host.specs.declared.level.Level.TheVariants as level
use Rattle.std.proofs.Common.{◌∙◌, ◌++◌, List, ℕ, ap, codes, decimal, subst, sym}
use Rattle.std.specs.Prelude.{Option}
use Rattle.mon_host.specs.Log.{GoesOnBy}
use Rattle.mon_file_commands.specs.Line.{AreNoted}
use Rattle.mon_station_commands.specs.Telling.{plural, stray_lines}
use Rattle.mon_station_commands.proofs.Notes.{line_noted, nine_pieces}
use Rattle.mon_station_commands.proofs.telling.tell_strays.Goals as goal
use Rattle.mon_udp.specs.Addr.{addr_text}
use Rattle.mon_udp.specs.declared.addr.Addr.{Addr}

pub returns-in-Some : goal.returns-in-Some
returns-in-Some g c =
    let start = g.H.Host.log c.args.host.now in
    let end = g.H.Host.log c.note.new.self in
    subst (λ (last : Option Addr). GoesOnBy (AreNoted (stray_lines c.args.round c.args.count last)) start end) (sym c.in-Some.is)
    (line_noted level.Warning _ _ start end
    (nine_pieces (codes "snmpmon: round ") (decimal c.args.round) (codes ": ") (decimal c.args.count) (codes " response") c.plural-end.result.now
    (codes " came from addresses of no target, the last from ") (addr_text c.in-Some.from) (codes "\n")
    ∙ ap (λ (s : List ℕ). codes "snmpmon: round " ++ decimal c.args.round ++ codes ": " ++ decimal c.args.count ++ codes " response" ++ s
    ++ codes " came from addresses of no target, the last from " ++ addr_text c.in-Some.from ++ codes "\n") (c.plural-end.ensures ∙ ap plural c.from.ensures)) c.note.ensures)
