use Rattle.std.proofs.Common.{◌≡◌, ◌∙◌, sym, ap, subst, fold}
use Rattle.std.proofs.lemmas.List.Folds.{fold-map}
use Rattle.std.proofs.lemmas.Result.{IfOk-weaker}
use Rattle.clap.specs.Words.{App, new_app}
use Rattle.clap.specs.Simple.{app_of_fields}
use Rattle.mon_cli.specs.Choice.{word_of}
use Rattle.mon_cli.specs.Line.{argument_of}
use Rattle.mon_cli.specs.Program.{HasApp, command_app, with_argument, with_line}
use Rattle.mon_cli.proofs.parser.one.Goals as goal

pub returns : goal.returns
returns c =
    let first : App = new_app (word_of c.args.choice) in
    let start : HasApp first c.long_about-command.result = (
      ap app_of_fields c.long_about-command.ensures ∙ (ap app_of_fields c.about-2.ensures ∙ (c.new.ensures.app ∙ ap new_app c.word.ensures)),
      ap (λ f. f.has_globals) c.long_about-command.ensures ∙ (ap (λ f. f.has_globals) c.about-2.ensures ∙ c.new.ensures.local),
    ) in
    let same : fold (with_line c.args.lists) first c.lines_of.result.now ≡ command_app c.args.lists c.args.choice =
    sym (fold-map (with_argument c.args.lists) argument_of first c.lines_of.result.now) ∙ ap (fold (with_argument c.args.lists) first) c.lines_of.ensures in
    IfOk-weaker c.with_lines.result _ _ (λ r has. subst (λ (app : App). HasApp app r) same has) (c.with_lines.ensures first start)
