use Rattle.std.proofs.Common.{refl, string_bytes}
use Rattle.mon_placing.specs.Network.{units_of, unit_line, seat}
use Rattle.mon_placing.proofs.Pieces.{more_text, whole_text}
use Rattle.mon_placing.proofs.texts.put_units.Goals as goal

pub loop-station-preserved : goal.loop-station-preserved
loop-station-preserved c =
    let n = c.args.network in
    let part = c.args.part in
    more_text (units_of n part) (unit_line (seat n part c.loop-station.station)) c.loop-station.station (string_bytes c.args.text.now) (string_bytes c.loop-station.text) (string_bytes c.put_unit.new.text)
    c.loop-station.invariant c.in_ok-put_unit.ensures refl

pub returns : goal.returns
returns c =
    whole_text (units_of c.args.network c.args.part) c.loop-station.station c.args.network.stations (string_bytes c.args.text.now) (string_bytes c.loop-station.text) c.loop-station.invariant
    c.loop-station-test.false c.loop-station.auto.station-end
