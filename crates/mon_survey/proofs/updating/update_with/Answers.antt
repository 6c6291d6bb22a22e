use Rattle.std.proofs.Common.{ap, length, string_bytes, sym}
use Rattle.std.proofs.lemmas.List.{length-map}
use Rattle.mon_settings.specs.StationAccepted.{station_view}
use Rattle.mon_survey.specs.Moved.{at_of}
use Rattle.mon_survey.proofs.Updates.{read_back, undrafted, unmeant}
use Rattle.mon_survey.proofs.updating.update_with.Goals as goal

pub returns-in-Err-draft_update-clause-fault : goal.returns-in-Err-draft_update-clause-fault
returns-in-Err-draft_update-clause-fault c =
    undrafted c.args.existing.now.names.now c.args.update.now.options.now (at_of c.args.update.now.places) c.args.update.now.planned.now c.args.existing.now.text.now (station_view c.args.existing.now.station.now) c.in-Err-draft_update.fault
    (length c.args.existing.now.station.now.modules.items) (sym (length-map c.args.existing.now.station.now.modules.items string_bytes)) c.in-Err-draft_update.ensures.fault

pub returns-in-Err-read_updated-clause-fault : goal.returns-in-Err-read_updated-clause-fault
returns-in-Err-read_updated-clause-fault c =
    unmeant c.args.existing.now.names.now c.args.update.now.options.now (at_of c.args.update.now.places) c.args.update.now.planned.now c.args.existing.now.text.now (station_view c.args.existing.now.station.now) c.in-Err-read_updated.fault
    (length c.args.existing.now.station.now.modules.items) (sym (length-map c.args.existing.now.station.now.modules.items string_bytes)) (string_bytes c.in-Ok-draft_update.value) c.as_str.result.now c.as_str.ensures.value c.in-Ok-draft_update.ensures.gives c.in-Err-read_updated.ensures.fault

pub returns-clause-reads : goal.returns-clause-reads
returns-clause-reads c =
    read_back c.args.existing.now.names.now c.args.update.now.options.now (at_of c.args.update.now.places) c.args.update.now.planned.now c.args.existing.now.text.now (station_view c.args.existing.now.station.now)
    (length c.args.existing.now.station.now.modules.items) (sym (length-map c.args.existing.now.station.now.modules.items string_bytes)) (string_bytes c.in-Ok-draft_update.value) c.in-Ok.ensures.room c.in-Ok-draft_update.ensures.gives c.as_str.result.now c.as_str.ensures.value
    c.in-Ok-read_updated.value.longest c.in-Ok-read_updated.value.targets.items c.in-Ok-read_updated.ensures.gives (string_bytes c.drafted_of.result.text) c.drafted_of.result.longest c.drafted_of.result.targets.items
    (ap string_bytes c.drafted_of.ensures.text) c.drafted_of.ensures.longest c.drafted_of.ensures.targets
