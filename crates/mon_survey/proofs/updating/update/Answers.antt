use Rattle.std.proofs.Common.{◌≡◌, List, ◌∙◌, ap, string_bytes, subst}
use Rattle.std.specs.Prelude.{IfErr, IfOk}
use Rattle.mon_board.specs.declared.instance.Watched.{Watched}
use Rattle.mon_settings.specs.StationAccepted.{station_view}
use Rattle.mon_survey.specs.declared.counter.Planned.{Planned}
use Rattle.mon_survey.specs.Moved.{At, at_in, at_of}
use Rattle.mon_survey.specs.Updated.{IsUpdateFault, IsUpdatedText, new_counters}
use Rattle.mon_survey.proofs.updating.update.Goals as goal

pub returns-clause-reads : goal.returns-clause-reads
returns-clause-reads c =
    let ws = c.args.existing.now.station.now.core.watch.instances in
    let watched : c.instances-instances.result.now ≡ ws = c.instances-instances.ensures.instances ∙ ap (λ w. w.instances) c.watch.ensures.watch in
    let here : at_of c.places-places.result ≡ at_in c.args.renamed.now = c.places-places.ensures in
    let new : c.deref.result.now ≡ new_counters c.args.choice.now (at_in c.args.renamed.now) ws =
    c.deref.ensures.value ∙ c.in_ok-planned.ensures ∙ ap (λ (l : List Watched). new_counters c.args.choice.now (at_of c.places-places.result) l) watched ∙ ap (λ (a : At). new_counters c.args.choice.now a ws) here in
    subst (λ (ps : List Planned). IfOk c.update_with.result (λ drafted. IsUpdatedText c.args.existing.now.names.now c.args.options.now (at_in c.args.renamed.now) ps c.args.existing.now.text.now (station_view c.args.existing.now.station.now) (string_bytes drafted.text) drafted.longest drafted.targets.items)) new
    (subst (λ (a : At). IfOk c.update_with.result (λ drafted. IsUpdatedText c.args.existing.now.names.now c.args.options.now a c.deref.result.now c.args.existing.now.text.now (station_view c.args.existing.now.station.now) (string_bytes drafted.text) drafted.longest drafted.targets.items)) here
    c.update_with.ensures.reads)

pub returns-clause-fault : goal.returns-clause-fault
returns-clause-fault c =
    let ws = c.args.existing.now.station.now.core.watch.instances in
    let watched : c.instances-instances.result.now ≡ ws = c.instances-instances.ensures.instances ∙ ap (λ w. w.instances) c.watch.ensures.watch in
    let here : at_of c.places-places.result ≡ at_in c.args.renamed.now = c.places-places.ensures in
    let new : c.deref.result.now ≡ new_counters c.args.choice.now (at_in c.args.renamed.now) ws =
    c.deref.ensures.value ∙ c.in_ok-planned.ensures ∙ ap (λ (l : List Watched). new_counters c.args.choice.now (at_of c.places-places.result) l) watched ∙ ap (λ (a : At). new_counters c.args.choice.now a ws) here in
    subst (λ (ps : List Planned). IfErr c.update_with.result (IsUpdateFault c.args.existing.now.names.now c.args.options.now (at_in c.args.renamed.now) ps c.args.existing.now.text.now (station_view c.args.existing.now.station.now))) new
    (subst (λ (a : At). IfErr c.update_with.result (IsUpdateFault c.args.existing.now.names.now c.args.options.now a c.deref.result.now c.args.existing.now.text.now (station_view c.args.existing.now.station.now))) here
    c.update_with.ensures.fault)
