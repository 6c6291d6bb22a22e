use Rattle.toml.specs.View.{table_view}
use Rattle.mon_settings.specs.Resolving.{resolution}
use Rattle.mon_settings.specs.Station.{station_of}
use Rattle.mon_settings.specs.StationAccepted.{IsStation, station_view}
use Rattle.mon_settings.specs.declared.fault.SettingsFault.TheVariants.{NotToml}
use Rattle.mon_settings.proofs.ForStations.{station_of-is}
use Rattle.mon_settings.proofs.StationFaults.{station_of-told}
use Rattle.mon_settings.proofs.Texts.{said, refused, unsaid, unread}
use Rattle.mon_settings.proofs.station.read_station.Goals as goal

pub returns-in-Ok-clause-accepted : goal.returns-in-Ok-clause-accepted
returns-in-Ok-clause-accepted c =
    let defs = c.args.names.now in
    said station_view (station_of (resolution defs)) c.args.text.now (table_view c.in-Ok.table) c.in-Ok.ensures.tree (IsStation defs)
    (station_of-is defs (resolution defs) (c.resolving.ensures defs c.invariants.ensures)) c.read_tree.result c.read_tree.ensures

pub returns-in-Ok-clause-refused : goal.returns-in-Ok-clause-refused
returns-in-Ok-clause-refused c =
    let tree = table_view c.in-Ok.table in
    let find = resolution c.args.names.now in
    refused station_view (station_of find) c.args.text.now tree c.in-Ok.ensures.tree (λ from h. station_of-told find tree (NotToml from) h) c.read_tree.result c.read_tree.ensures

pub returns-in-Err-clause-accepted : goal.returns-in-Err-clause-accepted
returns-in-Err-clause-accepted c =
    unsaid station_view (station_of (resolution c.args.names.now)) c.args.text.now (IsStation c.args.names.now) c.in-Err.fault c.in-Err.ensures.unread

pub returns-in-Err-clause-refused : goal.returns-in-Err-clause-refused
returns-in-Err-clause-refused c = unread station_view (station_of (resolution c.args.names.now)) c.args.text.now c.in-Err.fault c.in-Err.ensures.unread
