use Rattle.mon_host.specs.declared.level.Level.TheVariants as level
use Rattle.std.proofs.Common.{◌∙◌, ◌++◌, List, ℕ, ap, codes, decimal}
use Rattle.mon_station_commands.proofs.Notes.{counted, seven_pieces}
use Rattle.mon_station_commands.proofs.telling.tell_unsent.Goals as goal

pub returns-then-count-ne0 : goal.returns-then-count-ne0
returns-then-count-ne0 g c =
    counted level.Warning c.args.count _ _ (g.H.Host.log c.args.host.now) (g.H.Host.log c.note.new.self) c.if-count-ne0.true
    (seven_pieces (codes "snmpmon: round ") (decimal c.args.round) (codes ": ") (decimal c.args.count) (codes " datagram") c.plural-end.result.now (codes " could not be sent\n")
    ∙ ap (λ (s : List ℕ). codes "snmpmon: round " ++ decimal c.args.round ++ codes ": " ++ decimal c.args.count ++ codes " datagram" ++ s ++ codes " could not be sent\n") c.plural-end.ensures) c.note.ensures
