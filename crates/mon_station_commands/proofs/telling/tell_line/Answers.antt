use Rattle.std.proofs.Common.{ℕ, codes, decimal, subst, sym}
use Rattle.std.specs.Prelude.{Option, Some}
use Rattle.mon_host.specs.AtHost.{IsNoted}
use Rattle.mon_host.specs.Log.{GoesOnBy}
use Rattle.mon_station_commands.specs.Telling.{line_in}
use Rattle.mon_station_commands.proofs.Notes.{five_pieces, text_noted, three_pieces}
use Rattle.mon_station_commands.proofs.telling.tell_line.Goals as goal

pub returns-in-None : goal.returns-in-None
returns-in-None g c =
    let start = g.H.Host.log c.args.host.now in
    let end = g.H.Host.log c.note.new.self in
    subst (λ (r : Option ℕ). GoesOnBy (IsNoted c.args.level (Some (line_in r c.args.line.now))) start end) (sym c.in-None.is)
    (text_noted c.args.level _ _ start end (three_pieces (codes "snmpmon: ") c.args.line.now (codes "\n")) c.note.ensures)

pub returns-in-Some : goal.returns-in-Some
returns-in-Some g c =
    let start = g.H.Host.log c.args.host.now in
    let end = g.H.Host.log c.note-in-Some.new.self in
    subst (λ (r : Option ℕ). GoesOnBy (IsNoted c.args.level (Some (line_in r c.args.line.now))) start end) (sym c.in-Some.is)
    (text_noted c.args.level _ _ start end (five_pieces (codes "snmpmon: round ") (decimal c.in-Some.round) (codes ": ") c.args.line.now (codes "\n")) c.note-in-Some.ensures)
