use Rattle.std.proofs.Common.{List, ℕ, map, subst}
use Rattle.std.specs.Prelude.{Ok, Option, string_bytes}
use Rattle.mon_agent.specs.State.{policy_of, settings_of}
use Rattle.mon_serving.specs.Served.{AnswersIt, stands}
use Rattle.mon_host.proofs.Promised.{then_fails}
use Rattle.mon_host.specs.Log.{GoesOnBy}
use Rattle.mon_commands.specs.Agent.{AreAnswers, PrintsAnswers}
use Rattle.mon_console.specs.Files.{IsInputText, IsPrint}
use Rattle.mon_console.specs.Naming.{AreNames}
use Rattle.mon_console.specs.Printing.{shown_names}
use Rattle.mon_smi.specs.declared.definition.Definition.{Definition}
use Rattle.mon_commands.proofs.Steps.{failed, follows, silent_fails, silent_then}
use Rattle.mon_commands.proofs.agent.print_told.Goals as goal

pub returns-in_err-text : goal.returns-in_err-text
returns-in_err-text g c =
    let Answers = AnswersIt g.D.Device.held g.D.Device.failed g.D.Device.refuses (policy_of c.args.agent.now) (settings_of c.args.agent.now) in
    let failure = c.in_err-text.field-0.0 in
    failed (PrintsAnswers Answers (stands c.args.agent.now) c.args.arrivals c.args.named) c.from_residual-in_err-text.result failure _ _
    c.from_residual-in_err-text.ensures.1 (follows (AreNames (map (λ f. f.now) c.args.named.modules.now)) _ c.in_ok-names.names _ _ _ _ c.in_ok-names.ensures
    (then_fails IsInputText _ failure _ _ c.in_err-text.ensures))

pub returns-in_err-lines : goal.returns-in_err-lines
returns-in_err-lines g c =
    let Answers = AnswersIt g.D.Device.held g.D.Device.failed g.D.Device.refuses (policy_of c.args.agent.now) (settings_of c.args.agent.now) in
    let agent = stands c.args.agent.now in
    let known = c.in_ok-names.names in
    let failure = c.in_err-lines.field-0.0 in
    failed (PrintsAnswers Answers agent c.args.arrivals c.args.named) c.from_residual-in_err-lines.result failure _ _
    c.from_residual-in_err-lines.ensures.1 (follows (AreNames (map (λ f. f.now) c.args.named.modules.now)) _ known _ _ _ _ c.in_ok-names.ensures
    (follows IsInputText _ c.in_ok-text.text _ _ _ _ c.in_ok-text.ensures
    (silent_fails (AreAnswers Answers agent c.args.arrivals (shown_names c.args.named.shown known) (string_bytes c.in_ok-text.text)) _ failure _ c.in_err-lines.ensures)))

pub returns : goal.returns
returns g c =
    let Answers = AnswersIt g.D.Device.held g.D.Device.failed g.D.Device.refuses (policy_of c.args.agent.now) (settings_of c.args.agent.now) in
    let agent = stands c.args.agent.now in
    let known = c.in_ok-names.names in
    let lines = c.in_ok-lines.lines in
    let named = subst (λ (ns : Option (List Definition)). AreAnswers Answers agent c.args.arrivals ns c.deref.result.now (Ok lines))
    c.lent_if-names.ensures c.in_ok-lines.ensures in
    let are = subst (λ (o : List ℕ). AreAnswers Answers agent c.args.arrivals (shown_names c.args.named.shown known) o (Ok lines)) c.deref.ensures named in
    let printed = subst (λ (o : List ℕ). GoesOnBy (λ log. IsPrint o log c.print.result) (g.H.Host.log c.read_input_text.new.host) (g.H.Host.log c.print.new.host))
    c.as_bytes.ensures.value c.print.ensures in
    follows (AreNames (map (λ f. f.now) c.args.named.modules.now)) _ known _ _ _ _ c.in_ok-names.ensures
    (follows IsInputText _ c.in_ok-text.text _ _ _ _ c.in_ok-text.ensures
    (silent_then (AreAnswers Answers agent c.args.arrivals (shown_names c.args.named.shown known) (string_bytes c.in_ok-text.text)) _ lines _ _ _ are printed))
