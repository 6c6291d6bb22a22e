use Rattle.std.proofs.Common.{◌∙◌, string_bytes, sym}
use Rattle.std.proofs.lemmas.List.{length-map}
use Rattle.mon_settings.specs.StationAccepted.{station_view}
use Rattle.mon_survey.proofs.Stops.{misread, no_room, no_text, unplanned}
use Rattle.mon_survey.proofs.appending.append.Goals as goal

pub returns-in-Err-clause-fault : goal.returns-in-Err-clause-fault
returns-in-Err-clause-fault c =
    unplanned c.args.existing.now.names.now c.args.choice.now c.args.options.now c.args.existing.now.text.now (station_view c.args.existing.now.station.now) c.args.agent.now.engine.now c.args.agent.now.answers.now
    c.in-Err.fault c.in-Err.ensures.fault

pub returns-in-Err-require_room-clause-fault : goal.returns-in-Err-require_room-clause-fault
returns-in-Err-require_room-clause-fault c =
    no_room c.args.existing.now.names.now c.args.choice.now c.args.options.now c.args.existing.now.text.now (station_view c.args.existing.now.station.now) c.args.agent.now.engine.now c.args.agent.now.answers.now
    c.in-Err-require_room.fault c.in-Ok.value.items c.in-Ok.ensures.gives c.deref.result.now c.deref.ensures.value c.in-Err-require_room.ensures.fault

pub returns-in-Err-draft_addition-clause-fault : goal.returns-in-Err-draft_addition-clause-fault
returns-in-Err-draft_addition-clause-fault c =
    no_text c.args.existing.now.names.now c.args.choice.now c.args.options.now c.args.existing.now.text.now (station_view c.args.existing.now.station.now) c.args.agent.now.engine.now c.args.agent.now.answers.now
    c.in-Err-draft_addition.fault c.in-Ok.value.items c.in-Ok.ensures.gives _ c.agent_plan.result.options.now c.agent_plan.result.engine.now c.agent_plan.result.planned.now
    (sym (length-map c.args.existing.now.station.now.modules.items string_bytes)) c.agent_plan.ensures.0 c.agent_plan.ensures.1
    (c.agent_plan.ensures.2 ∙ c.deref-2.ensures.value) c.in-Err-draft_addition.ensures.fault

pub returns-in-Err-read_appended-clause-fault : goal.returns-in-Err-read_appended-clause-fault
returns-in-Err-read_appended-clause-fault c =
    misread c.args.existing.now.names.now c.args.choice.now c.args.options.now c.args.existing.now.text.now (station_view c.args.existing.now.station.now) c.args.agent.now.engine.now c.args.agent.now.answers.now
    c.in-Err-read_appended.fault c.in-Ok.value.items c.in-Ok.ensures.gives c.deref.result.now c.deref.ensures.value c.in-Ok-require_room.ensures.room
    _ c.agent_plan.result.options.now c.agent_plan.result.engine.now c.agent_plan.result.planned.now (sym (length-map c.args.existing.now.station.now.modules.items string_bytes)) c.agent_plan.ensures.0 c.agent_plan.ensures.1 (c.agent_plan.ensures.2 ∙ c.deref-2.ensures.value)
    _ c.in-Ok-draft_addition.ensures.gives c.deref-2.result.now c.deref-2.ensures.value c.as_str.result.now c.as_str.ensures.value c.in-Err-read_appended.ensures.fault
