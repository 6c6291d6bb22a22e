use Rattle.std.proofs.Common.{◌∙◌, ◌+◌, List, ℕ, ap, inr, length, refl, string_bytes, subst}
use Rattle.mon_survey.specs.Appended.{shown_by}
use Rattle.mon_survey.specs.Meant.{IsFault, IsSettingsText}
use Rattle.mon_survey.specs.declared.answers.Cell.{Cell}
use Rattle.mon_survey.specs.declared.options.Options.{Options}
use Rattle.mon_settings_commands.specs.Source.{source_in}
use Rattle.mon_settings_commands.specs.declared.settings.Texts.{Texts}
use Rattle.mon_settings_commands.proofs.Seated.{seat_options}
use Rattle.mon_settings_commands.proofs.seating.seat_settings.Goals as goal

pub returns-in-Ok : goal.returns-in-Ok
returns-in-Ok c =
    let o : Options = record c.options_of.result { station = c.args.seat.station + 1 } in
    let os = c.options_of.ensures in
    let lent = c.lend-lent.ensures in
    let names = c.args.input.now.names.now in
    let made = seat_options (source_in c.args.input.now) c.args.seat c.args.size c.in_ok-texts.texts o c.in_ok-texts.ensures refl os.window os.wait_ms (os.size ∙ lent.size) os.tries os.same
    (os.listen ∙ ap (λ (t : Texts). string_bytes t.listen) lent.texts) (os.file ∙ ap (λ (t : Texts). string_bytes t.file) lent.texts)
    (os.peers ∙ ap (λ (t : Texts). t.peers.items) lent.texts) (os.modules ∙ lent.modules) (os.address ∙ lent.address) (os.community ∙ lent.community) in
    let is = c.choice-choice.ensures in (
      o,
      c.choice-choice.result,
      made,
      record { kinds = is.kinds; up = is.up; part = is.part; group = is.group },
      subst (λ (cells : List Cell). IsSettingsText names (shown_by names (length o.modules.now)) c.choice-choice.result o c.args.input.now.survey.now.engine.items cells (string_bytes c.in-Ok.drafted.text) c.in-Ok.drafted.longest c.in-Ok.drafted.targets.items) c.agent.ensures.answers
          (subst (λ (engine : List ℕ). IsSettingsText names (shown_by names (length o.modules.now)) c.choice-choice.result o engine c.agent.result.answers.now (string_bytes c.in-Ok.drafted.text) c.in-Ok.drafted.longest c.in-Ok.drafted.targets.items) c.agent.ensures.engine c.in-Ok.ensures.reads),
    )

pub returns : goal.returns
returns c =
    let o : Options = record c.options_of.result { station = c.args.seat.station + 1 } in
    let os = c.options_of.ensures in
    let lent = c.lend-lent.ensures in
    let names = c.args.input.now.names.now in
    let made = seat_options (source_in c.args.input.now) c.args.seat c.args.size c.in_ok-texts.texts o c.in_ok-texts.ensures refl os.window os.wait_ms (os.size ∙ lent.size) os.tries os.same
    (os.listen ∙ ap (λ (t : Texts). string_bytes t.listen) lent.texts) (os.file ∙ ap (λ (t : Texts). string_bytes t.file) lent.texts)
    (os.peers ∙ ap (λ (t : Texts). t.peers.items) lent.texts) (os.modules ∙ lent.modules) (os.address ∙ lent.address) (os.community ∙ lent.community) in
    let is = c.choice-choice.ensures in
    let said = c.survey_failure.ensures in
    inr (
      o,
      c.choice-choice.result,
      c.in-Err.fault,
      made,
      record { kinds = is.kinds; up = is.up; part = is.part; group = is.group },
      record { part = said.part; number = said.number; name = said.name },
      subst (λ (cells : List Cell). IsFault names (shown_by names (length o.modules.now)) c.choice-choice.result o c.args.input.now.survey.now.engine.items cells c.in-Err.fault) c.agent.ensures.answers
          (subst (λ (engine : List ℕ). IsFault names (shown_by names (length o.modules.now)) c.choice-choice.result o engine c.agent.result.answers.now c.in-Err.fault) c.agent.ensures.engine c.in-Err.ensures.fault),
    )
