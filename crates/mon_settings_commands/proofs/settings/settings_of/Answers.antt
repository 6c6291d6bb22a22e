use Rattle.std.proofs.Common.{◌∙◌, ◌≡◌, List, ℕ, ap, inr, length, refl, string_bytes, subst}
use Rattle.std.specs.Prelude.{Option, None, Some, unwrap_or}
use Rattle.mon_survey.specs.Appended.{shown_by}
use Rattle.mon_survey.specs.Meant.{IsFault, IsSettingsText}
use Rattle.mon_survey.specs.declared.answers.Cell.{Cell}
use Rattle.mon_settings_commands.specs.Settings.{up_of}
use Rattle.mon_settings_commands.specs.Source.{source_in}
use Rattle.mon_settings_commands.specs.Texts.{AreTexts}
use Rattle.mon_settings_commands.specs.declared.settings.Texts.{Texts}
use Rattle.mon_settings_commands.proofs.Made.{options}
use Rattle.mon_settings_commands.proofs.settings.settings_of.Goals as goal

is_up : (group : Option ℕ) → unwrap_or group 0 ≡ up_of group
is_up None = refl
is_up (Some group) = refl

pub returns-in-Ok : goal.returns-in-Ok
returns-in-Ok c =
    let o = c.options_of-options.result in
    let os = c.options_of-options.ensures in
    let lent = c.lend-lent.ensures in
    let names = c.args.input.now.names.now in
    let made = options (source_in c.args.input.now) (up_of c.args.group) c.args.size c.in_ok-texts.texts o (subst (λ (u : ℕ). AreTexts c.args.input.now.words.now u c.in_ok-texts.texts) (c.unwrap_or.ensures ∙ is_up c.args.group) c.in_ok-texts.ensures.texts) os.station os.window os.wait_ms (os.size ∙ lent.size) os.tries os.same
    (os.listen ∙ ap (λ (t : Texts). string_bytes t.listen) lent.texts) (os.file ∙ ap (λ (t : Texts). string_bytes t.file) lent.texts)
    (os.peers ∙ ap (λ (t : Texts). t.peers.items) lent.texts) (os.modules ∙ lent.modules) (os.address ∙ lent.address) (os.community ∙ lent.community) in
    let is = c.choice.ensures in (
      o,
      c.choice.result,
      made,
      record { kinds = is.kinds; up = is.up; part = is.part; group = is.group },
      subst (λ (cells : List Cell). IsSettingsText names (shown_by names (length o.modules.now)) c.choice.result o c.args.input.now.survey.now.engine.items cells (string_bytes c.in-Ok.drafted.text) c.in-Ok.drafted.longest c.in-Ok.drafted.targets.items) c.agent.ensures.answers
          (subst (λ (engine : List ℕ). IsSettingsText names (shown_by names (length o.modules.now)) c.choice.result o engine c.agent.result.answers.now (string_bytes c.in-Ok.drafted.text) c.in-Ok.drafted.longest c.in-Ok.drafted.targets.items) c.agent.ensures.engine c.in-Ok.ensures.reads),
    )

pub returns : goal.returns
returns c =
    let o = c.options_of-options.result in
    let os = c.options_of-options.ensures in
    let lent = c.lend-lent.ensures in
    let names = c.args.input.now.names.now in
    let made = options (source_in c.args.input.now) (up_of c.args.group) c.args.size c.in_ok-texts.texts o (subst (λ (u : ℕ). AreTexts c.args.input.now.words.now u c.in_ok-texts.texts) (c.unwrap_or.ensures ∙ is_up c.args.group) c.in_ok-texts.ensures.texts) os.station os.window os.wait_ms (os.size ∙ lent.size) os.tries os.same
    (os.listen ∙ ap (λ (t : Texts). string_bytes t.listen) lent.texts) (os.file ∙ ap (λ (t : Texts). string_bytes t.file) lent.texts)
    (os.peers ∙ ap (λ (t : Texts). t.peers.items) lent.texts) (os.modules ∙ lent.modules) (os.address ∙ lent.address) (os.community ∙ lent.community) in
    let is = c.choice.ensures in
    let said = c.survey_failure.ensures in
    inr (
      o,
      c.choice.result,
      c.in-Err.fault,
      made,
      record { kinds = is.kinds; up = is.up; part = is.part; group = is.group },
      record { part = said.part; number = said.number; name = said.name },
      subst (λ (cells : List Cell). IsFault names (shown_by names (length o.modules.now)) c.choice.result o c.args.input.now.survey.now.engine.items cells c.in-Err.fault) c.agent.ensures.answers
          (subst (λ (engine : List ℕ). IsFault names (shown_by names (length o.modules.now)) c.choice.result o engine c.agent.result.answers.now c.in-Err.fault) c.agent.ensures.engine c.in-Err.ensures.fault),
    )
