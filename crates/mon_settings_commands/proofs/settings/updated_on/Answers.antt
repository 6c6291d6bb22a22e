use Rattle.std.proofs.Common.{List, ℕ, string_bytes, subst}
use Rattle.mon_settings.specs.StationAccepted.{station_view}
use Rattle.mon_settings.specs.declared.station.StationSettings.{StationSettings}
use Rattle.mon_smi.specs.declared.definition.Definition.{Definition}
use Rattle.mon_survey.specs.Moved.{At}
use Rattle.mon_survey.specs.Updated.{IsUpdateFault, IsUpdatedText, new_counters}
use Rattle.mon_settings_commands.specs.Source.{source_in}
use Rattle.mon_settings_commands.specs.Updated.{at_source}
use Rattle.mon_settings_commands.proofs.settings.updated_on.Goals as goal

pub returns-in-Ok : goal.returns-in-Ok
returns-in-Ok c =
    let o = c.args.options.now in
    let e = c.args.news.existing.now in
    let a = at_source (source_in c.args.input.now) c.args.news.known.now in
    let d = c.in-Ok.drafted in
    let is = c.choice.ensures in (
      c.choice.result,
      record { kinds = is.kinds; up = is.up; part = is.part; group = is.group },
      subst (λ (ns : List Definition). IsUpdatedText ns o a (new_counters c.choice.result a (station_view e.station).core.watch.instances) (string_bytes e.text) (station_view e.station) (string_bytes d.text) d.longest d.targets.items) c.lent.ensures.names
          (subst (λ (old : List ℕ). IsUpdatedText c.lent.result.names.now o a (new_counters c.choice.result a (station_view e.station).core.watch.instances) old (station_view e.station) (string_bytes d.text) d.longest d.targets.items) c.lent.ensures.text
          (subst (λ (st : StationSettings). IsUpdatedText c.lent.result.names.now o a (new_counters c.choice.result a (station_view st).core.watch.instances) c.lent.result.text.now (station_view st) (string_bytes d.text) d.longest d.targets.items) c.lent.ensures.station
          (subst (λ (b : At). IsUpdatedText c.lent.result.names.now o b (new_counters c.choice.result b (station_view c.lent.result.station.now).core.watch.instances) c.lent.result.text.now (station_view c.lent.result.station.now) (string_bytes d.text) d.longest d.targets.items) c.renamed.ensures c.in-Ok.ensures.reads))),
    )

pub returns-in-Err : goal.returns-in-Err
returns-in-Err c =
    let o = c.args.options.now in
    let e = c.args.news.existing.now in
    let a = at_source (source_in c.args.input.now) c.args.news.known.now in
    let fault = c.in-Err.fault in
    let said = c.survey_failure.ensures in
    let is = c.choice.ensures in (
      c.choice.result,
      fault,
      record { kinds = is.kinds; up = is.up; part = is.part; group = is.group },
      record { part = said.part; number = said.number; name = said.name },
      subst (λ (ns : List Definition). IsUpdateFault ns o a (new_counters c.choice.result a (station_view e.station).core.watch.instances) (string_bytes e.text) (station_view e.station) fault) c.lent.ensures.names
          (subst (λ (old : List ℕ). IsUpdateFault c.lent.result.names.now o a (new_counters c.choice.result a (station_view e.station).core.watch.instances) old (station_view e.station) fault) c.lent.ensures.text
          (subst (λ (st : StationSettings). IsUpdateFault c.lent.result.names.now o a (new_counters c.choice.result a (station_view st).core.watch.instances) c.lent.result.text.now (station_view st) fault) c.lent.ensures.station
          (subst (λ (b : At). IsUpdateFault c.lent.result.names.now o b (new_counters c.choice.result b (station_view c.lent.result.station.now).core.watch.instances) c.lent.result.text.now (station_view c.lent.result.station.now) fault) c.renamed.ensures c.in-Err.ensures.fault))),
    )
