use Rattle.std.proofs.Common.{◌⊎◌, ◌*◌, ℕ, List, ap, length, subst, sym}
use Rattle.std.specs.Prelude.{Err}
use Rattle.mon_client.specs.Network.{agents_by}
use Rattle.mon_console.specs.Failure.{IsMemory}
use Rattle.mon_console.specs.declared.failure.Failure.{Failure}
use Rattle.mon_placing.specs.Network.{seat_at}
use Rattle.mon_settings_commands.specs.Fitting.{AreFitting}
use Rattle.mon_settings_commands.specs.Network.{AreSeatFiles}
use Rattle.mon_settings_commands.specs.Seats.{IsSeatSettings}
use Rattle.mon_settings_commands.specs.Source.{source_in}
use Rattle.mon_settings_commands.specs.declared.network.Output.{Output}
use Rattle.mon_settings_commands.proofs.Groups.{still}
use Rattle.mon_settings_commands.proofs.Seated.{all_places, at_some_place, one_file_more, small_place}
use Rattle.mon_settings_commands.proofs.network.seats_of.Goals as goal

pub loop-place-init : goal.loop-place-init
loop-place-init g c =
    let agents = agents_by (g.N.Opens.has_opened c.args.net.now) (g.N.Opens.has_failed c.args.net.now) g.N.Wire.Wire.log in
    (ap length c.new-seats.ensures.items, subst (λ (xs : List Output). AreSeatFiles agents (source_in c.args.input.now) c.args.files.folder.now c.args.files.network 0 xs) (sym c.new-seats.ensures.items) tt)

pub seat_output-requires-clause-seated : goal.seat_output-requires-clause-seated
seat_output-requires-clause-seated g c = c.seated.ensures c.args.files.network c.args.groups c.loop-place.place c.requires.placed c.loop-place-test.true

pub seat_output-requires-clause-small : goal.seat_output-requires-clause-small
seat_output-requires-clause-small g c = small_place c.args.files.network c.args.groups c.loop-place.place c.requires.placed c.requires.network c.loop-place-test.true

pub returns-in_err-seat-clause-refused : goal.returns-in_err-seat-clause-refused
returns-in_err-seat-clause-refused g c =
    let agents = agents_by (g.N.Opens.has_opened c.args.net.now) (g.N.Opens.has_failed c.args.net.now) g.N.Wire.Wire.log in
    still (λ (f : Failure). IsMemory f ⊎ ((place : ℕ) × AreFitting agents c.args.input.now.asked (IsSeatSettings (source_in c.args.input.now) (seat_at c.args.files.network place)) (Err f))) c.in_err-seat.field-0.0 c.from_residual.result
    c.from_residual.ensures.1 (at_some_place (λ (k : ℕ). AreFitting agents c.args.input.now.asked (IsSeatSettings (source_in c.args.input.now) (seat_at c.args.files.network k)) (Err c.in_err-seat.field-0.0)) c.loop-place.place c.in_err-seat.ensures.refused)

pub loop-place-preserved : goal.loop-place-preserved
loop-place-preserved g c =
    let agents = agents_by (g.N.Opens.has_opened c.args.net.now) (g.N.Opens.has_failed c.args.net.now) g.N.Wire.Wire.log in
    one_file_more agents (source_in c.args.input.now) c.args.files.folder.now c.args.files.network c.loop-place.seats.items c.push.new.self.items c.loop-place.place c.in_ok-seat.seat
    c.loop-place.invariant.0 c.loop-place.invariant.1 c.in_ok-push.ensures.items c.in_ok-seat.ensures.file

pub returns-clause-each : goal.returns-clause-each
returns-clause-each g c = c.loop-place.invariant.1

pub returns-clause-all : goal.returns-clause-all
returns-clause-all g c = all_places c.loop-place.place (c.args.groups * c.args.files.network.stations) c.loop-place.seats.items c.loop-place.invariant.0 c.loop-place-test.false c.loop-place.auto.place-end
