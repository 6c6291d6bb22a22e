use Rattle.std.proofs.Common.{List, ℕ, length, refl, string_bytes, subst}
use Rattle.std.specs.Prelude.{None, Some, Ok, Err}
use Rattle.mon_host.specs.Log.{GoesOnBy}
use Rattle.mon_station.specs.State.{state_of}
use Rattle.mon_file_commands.specs.Line.{AreNoted}
use Rattle.mon_station_commands.specs.Telling.{start_lines}
use Rattle.mon_station_commands.proofs.Openings.{half_opened, opened, unopened, unwatched}
use Rattle.mon_station_commands.proofs.Steps.{failure_is}
use Rattle.mon_station_commands.proofs.live.start_station.Goals as goal

pub returns-in_err-station-clause-opening : goal.returns-in_err-station-clause-opening
returns-in_err-station-clause-opening g c =
    let t = c.args.transport in
    unopened t.number c.args.place.at (string_bytes c.args.setup.settings.file) (length t.engines.items) (length t.peers.items)
    c.args.setup.reports.printing (λ live. state_of live.station.life) c.in_err-station.field-0.0 c.from_residual.result (g.H.Host.log c.args.host.now)
    (failure_is c.from_residual.result c.in_err-station.field-0.0 c.from_residual.ensures.1) c.in_err-station.ensures

pub returns-in_err-opened-clause-opening : goal.returns-in_err-opened-clause-opening
returns-in_err-opened-clause-opening g c =
    let t = c.args.transport in
    unwatched t.number c.args.place.at (string_bytes c.args.setup.settings.file) (length t.engines.items) (length t.peers.items)
    c.args.setup.reports.printing (λ live. state_of live.station.life) c.from_residual-in_err-opened.result (g.H.Host.log c.args.host.now)
    c.from_residual-in_err-opened.ensures.1

pub returns-in_err-tell_raised-clause-opening : goal.returns-in_err-tell_raised-clause-opening
returns-in_err-tell_raised-clause-opening g c =
    let t = c.args.transport in
    let at = c.args.place.at in
    let start = g.H.Host.log c.args.host.now in
    let said = g.H.Host.log c.tell_start.new.host in
    let targets = length t.engines.items in
    let peers = length t.peers.items in
    let line = subst (λ (f : List ℕ). GoesOnBy (AreNoted (start_lines t.number at c.incarnation.result f targets peers)) start said) c.deref-2.ensures c.tell_start.ensures in
    let file = string_bytes c.args.setup.settings.file in
    let printing = c.args.setup.reports.printing in
    let end = g.H.Host.log c.tell_raised.new.host in
    half_opened t.number at file targets peers printing (λ live. state_of live.station.life) c.from_residual-in_err-tell_raised.result start end
    c.from_residual-in_err-tell_raised.ensures.1
    (opened t.number at file targets peers printing (state_of c.in_ok-opened.opened.station.life) c.incarnation.result (Err c.in_err-tell_raised.field-0.0) None start said end
    c.incarnation.ensures refl line c.in_err-tell_raised.ensures)

pub returns-clause-opening : goal.returns-clause-opening
returns-clause-opening g c =
    let t = c.args.transport in
    let at = c.args.place.at in
    let start = g.H.Host.log c.args.host.now in
    let said = g.H.Host.log c.tell_start.new.host in
    let targets = length t.engines.items in
    let peers = length t.peers.items in
    let line = subst (λ (f : List ℕ). GoesOnBy (AreNoted (start_lines t.number at c.incarnation.result f targets peers)) start said) c.deref-2.ensures c.tell_start.ensures in
    opened t.number at (string_bytes c.args.setup.settings.file) targets peers c.args.setup.reports.printing (state_of c.in_ok-opened.opened.station.life)
    c.incarnation.result (Ok c.in_ok-tell_raised.field-0) (Some (state_of c.in_ok-opened.opened.station.life)) start said (g.H.Host.log c.tell_raised.new.host) c.incarnation.ensures refl line c.in_ok-tell_raised.ensures
