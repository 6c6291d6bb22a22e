use Rattle.mon_host.specs.declared.level.Level.TheVariants as level
use Rattle.std.proofs.Common.{◌≢◌, ◌≤◌, ◌<◌, arith, codes, decimal}
use Rattle.mon_station_commands.proofs.Notes.{five_pieces, short}
use Rattle.mon_station_commands.proofs.opening.warn_of_size.Goals as goal

pub returns-then-is_short : goal.returns-then-is_short
returns-then-is_short g c =
    let sized : (1 ≤ c.args.size) × (c.args.size < 2097152) = c.is_short.ensures.0 c.if-is_short.true in
    let some : c.args.size ≢ 0 = omega (arith, sized.0) in
    short level.Warning c.args.size 2097152 _ _ (g.H.Host.log c.args.host.now) (g.H.Host.log c.note.new.self) some sized.1
    (five_pieces (codes "snmpmon: ") c.args.path.now (codes " has ") (decimal c.args.size) (codes " octets, so it is no station's file yet: it is laid out as one\n")) c.note.ensures
