use Rattle.std.proofs.Common.{◌∙◌, option_map}
use Rattle.std.specs.Prelude.{None}
use Rattle.mon_station.specs.State.{state_of}
use Rattle.mon_station_commands.specs.Showing.{AreTextsOf}
use Rattle.mon_station_commands.specs.Snapshot.{texts_of}
use Rattle.mon_station_commands.specs.declared.snapshot.Snapshot.{Snapshot}
use Rattle.mon_station_commands.proofs.Copies.{shown_anew}
use Rattle.mon_station_commands.proofs.showing.show.Goals as goal
use Rattle.mon_web.specs.Pages.{with_texts}
use Rattle.mon_web.specs.Texts.{Texts}

pub returns-then-is_shown-clause-shown : goal.returns-then-is_shown-clause-shown
returns-then-is_shown-clause-shown g c =
    let live = c.args.live.now in
    let says : Snapshot → Texts = λ s. texts_of s.source in
    shown_anew (AreTextsOf (state_of live.station.life) live.course live.freshness live.transport.peers.items live.transport.engines.items live.ended live.kept.round_at live.reports) says c.snapshot_of.result
    (g.S.Shows.shown live.transport.rounds.receiver) (g.S.Shows.shown c.take_content-before.new.self) (g.S.Shows.shown c.show.new.self) c.snapshot_of.ensures
    (c.take_content-before.ensures.shown ∙ (λ i. option_map (with_texts None) (g.S.Shows.shown (c.receiver_mut.ensures.value i))))
    (c.show.ensures.shown ∙ (λ i. option_map (with_texts (option_map says (c.ok-after.ensures.value i))) (g.S.Shows.shown (c.receiver_mut-then-is_shown.ensures.value i))))
