use Rattle.std.proofs.Common.{◌∙◌, ap, inr, refl, subst, sym}
use Rattle.std.specs.Prelude.{Err, Ok}
use Rattle.mon_client.specs.Network.{agents_by}
use Rattle.mon_placing.specs.Network.{IsSeat, seat_path}
use Rattle.mon_placing.specs.declared.network.Seat.{Seat}
use Rattle.mon_settings_commands.specs.Fitting.{AreFitting}
use Rattle.mon_settings_commands.specs.Seats.{IsSeatSettings}
use Rattle.mon_settings_commands.specs.Source.{source_in}
use Rattle.mon_settings_commands.proofs.network.seat_output.Goals as goal

pub seat-seat-requires-clause-few : goal.seat-seat-requires-clause-few
seat-seat-requires-clause-few g c = c.requires.seated.placed.few

pub seat_path-requires : goal.seat_path-requires
seat_path-requires g c = subst IsSeat (sym c.seat-seat.ensures) c.requires.seated

pub fit-requires : goal.fit-requires
fit-requires g c = subst IsSeat (sym c.seat-seat.ensures) c.requires.seated

pub returns-in-Ok-clause-file : goal.returns-in-Ok-clause-file
returns-in-Ok-clause-file g c =
    let agents = agents_by (g.N.Opens.has_opened c.args.net.now) (g.N.Opens.has_failed c.args.net.now) g.N.Wire.Wire.log in
    let s = source_in c.args.input.now in
    let d = c.in-Ok.drafted in
    record {
      drafted = d;
      fits = subst (λ (q : Seat). AreFitting agents s.asked (IsSeatSettings s q) (Ok d)) c.seat-seat.ensures c.in-Ok.ensures;
      path_is = c.in_ok-path.ensures ∙ ap (λ (q : Seat). seat_path c.args.files.folder.now q) c.seat-seat.ensures;
      text_is = refl;
      round = refl;
    }

pub returns-in-Err-clause-refused : goal.returns-in-Err-clause-refused
returns-in-Err-clause-refused g c =
    let agents = agents_by (g.N.Opens.has_opened c.args.net.now) (g.N.Opens.has_failed c.args.net.now) g.N.Wire.Wire.log in
    let s = source_in c.args.input.now in
    inr (subst (λ (q : Seat). AreFitting agents s.asked (IsSeatSettings s q) (Err c.in-Err.failure)) c.seat-seat.ensures c.in-Err.ensures)
