use Rattle.std.proofs.Common.{◌∙◌, List, ℕ, ap, inr, string_bytes, subst}
use Rattle.mon_settings.specs.StationAccepted.{station_view}
use Rattle.mon_survey.specs.Appended.{IsAppendFault, IsAppendedText}
use Rattle.mon_settings.specs.declared.station.StationSettings.{StationSettings}
use Rattle.mon_smi.specs.declared.definition.Definition.{Definition}
use Rattle.mon_survey.specs.declared.answers.Cell.{Cell}
use Rattle.mon_settings_commands.specs.Source.{source_in}
use Rattle.mon_settings_commands.specs.declared.settings.Texts.{Texts}
use Rattle.mon_settings_commands.proofs.Made.{options}
use Rattle.mon_settings_commands.proofs.settings.appended.Goals as goal

pub returns-in-Ok : goal.returns-in-Ok
returns-in-Ok c =
    let o = c.options_of-options.result in
    let os = c.options_of-options.ensures in
    let lent = c.lend-lent.ensures in
    let names = c.args.existing.now.names in
    let made = options (source_in c.args.input.now) 0 c.args.size c.in_ok-texts.texts o c.in_ok-texts.ensures.texts os.station os.window os.wait_ms (os.size ∙ lent.size) os.tries os.same
    (os.listen ∙ ap (λ (t : Texts). string_bytes t.listen) lent.texts) (os.file ∙ ap (λ (t : Texts). string_bytes t.file) lent.texts)
    (os.peers ∙ ap (λ (t : Texts). t.peers.items) lent.texts) (os.modules ∙ lent.modules) (os.address ∙ lent.address) (os.community ∙ lent.community) in
    let is = c.choice.ensures in (
      o,
      c.choice.result,
      made,
      record { kinds = is.kinds; up = is.up; part = is.part; group = is.group },
      subst (λ (ns : List Definition). IsAppendedText ns c.choice.result o (string_bytes c.args.existing.now.text) (station_view c.args.existing.now.station) c.args.input.now.survey.now.engine.items c.args.input.now.survey.now.answers (string_bytes c.in-Ok.drafted.text) c.in-Ok.drafted.longest c.in-Ok.drafted.targets.items) c.lent.ensures.names
          (subst (λ (old : List ℕ). IsAppendedText c.lent.result.names.now c.choice.result o old (station_view c.args.existing.now.station) c.args.input.now.survey.now.engine.items c.args.input.now.survey.now.answers (string_bytes c.in-Ok.drafted.text) c.in-Ok.drafted.longest c.in-Ok.drafted.targets.items) c.lent.ensures.text
          (subst (λ (st : StationSettings). IsAppendedText c.lent.result.names.now c.choice.result o c.lent.result.text.now (station_view st) c.args.input.now.survey.now.engine.items c.args.input.now.survey.now.answers (string_bytes c.in-Ok.drafted.text) c.in-Ok.drafted.longest c.in-Ok.drafted.targets.items) c.lent.ensures.station
          (subst (λ (cells : List Cell). IsAppendedText c.lent.result.names.now c.choice.result o c.lent.result.text.now (station_view c.lent.result.station.now) c.args.input.now.survey.now.engine.items cells (string_bytes c.in-Ok.drafted.text) c.in-Ok.drafted.longest c.in-Ok.drafted.targets.items) c.agent.ensures.answers
          (subst (λ (engine : List ℕ). IsAppendedText c.lent.result.names.now c.choice.result o c.lent.result.text.now (station_view c.lent.result.station.now) engine c.agent.result.answers.now (string_bytes c.in-Ok.drafted.text) c.in-Ok.drafted.longest c.in-Ok.drafted.targets.items) c.agent.ensures.engine c.in-Ok.ensures.reads)))),
    )

pub returns : goal.returns
returns c =
    let o = c.options_of-options.result in
    let os = c.options_of-options.ensures in
    let lent = c.lend-lent.ensures in
    let names = c.args.existing.now.names in
    let made = options (source_in c.args.input.now) 0 c.args.size c.in_ok-texts.texts o c.in_ok-texts.ensures.texts os.station os.window os.wait_ms (os.size ∙ lent.size) os.tries os.same
    (os.listen ∙ ap (λ (t : Texts). string_bytes t.listen) lent.texts) (os.file ∙ ap (λ (t : Texts). string_bytes t.file) lent.texts)
    (os.peers ∙ ap (λ (t : Texts). t.peers.items) lent.texts) (os.modules ∙ lent.modules) (os.address ∙ lent.address) (os.community ∙ lent.community) in
    let is = c.choice.ensures in
    let said = c.survey_failure.ensures in
    inr (
      o,
      c.choice.result,
      c.in-Err.fault,
      made,
      record { kinds = is.kinds; up = is.up; part = is.part; group = is.group },
      record { part = said.part; number = said.number; name = said.name },
      subst (λ (ns : List Definition). IsAppendFault ns c.choice.result o (string_bytes c.args.existing.now.text) (station_view c.args.existing.now.station) c.args.input.now.survey.now.engine.items c.args.input.now.survey.now.answers c.in-Err.fault) c.lent.ensures.names
          (subst (λ (old : List ℕ). IsAppendFault c.lent.result.names.now c.choice.result o old (station_view c.args.existing.now.station) c.args.input.now.survey.now.engine.items c.args.input.now.survey.now.answers c.in-Err.fault) c.lent.ensures.text
          (subst (λ (st : StationSettings). IsAppendFault c.lent.result.names.now c.choice.result o c.lent.result.text.now (station_view st) c.args.input.now.survey.now.engine.items c.args.input.now.survey.now.answers c.in-Err.fault) c.lent.ensures.station
          (subst (λ (cells : List Cell). IsAppendFault c.lent.result.names.now c.choice.result o c.lent.result.text.now (station_view c.lent.result.station.now) c.args.input.now.survey.now.engine.items cells c.in-Err.fault) c.agent.ensures.answers
          (subst (λ (engine : List ℕ). IsAppendFault c.lent.result.names.now c.choice.result o c.lent.result.text.now (station_view c.lent.result.station.now) engine c.agent.result.answers.now c.in-Err.fault) c.agent.ensures.engine c.in-Err.ensures.fault)))),
    )
