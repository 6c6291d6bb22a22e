use Rattle.std.proofs.Common.{map, sym}
use Rattle.std.proofs.lemmas.List.{append-nil}
use Rattle.mon_settings_commands.specs.Seats.{peer_at}
use Rattle.mon_settings_commands.proofs.Seated.{more_others, whole_group}
use Rattle.mon_settings_commands.proofs.seating.put_others.Goals as goal

pub loop-station-init : goal.loop-station-init
loop-station-init c = sym (append-nil (map peer_at c.args.peers.now.items))

pub loop-station-preserved : goal.loop-station-preserved
loop-station-preserved c =
    more_others c.args.seat c.loop-station.station (map peer_at c.args.peers.now.items) (map peer_at c.loop-station.peers.items) (map peer_at c.put_other.new.peers.items)
    c.loop-station.invariant c.in_ok-put_other.ensures

pub returns : goal.returns
returns c =
    whole_group c.args.seat c.loop-station.station c.args.seat.network.stations (map peer_at c.args.peers.now.items) (map peer_at c.loop-station.peers.items) c.loop-station.invariant
    c.loop-station-test.false c.loop-station.auto.station-end
