use Rattle.std.proofs.Common.{◌≡◌, ◌∙◌, rules, sym, ap, subst, fold, map, codes}
use Rattle.std.proofs.lemmas.List.Folds.{fold-map}
use Rattle.std.proofs.lemmas.Result.{IfOk-weaker}
use Rattle.clap.specs.Words.{App, new_app}
use Rattle.clap.specs.Simple.{app_of_fields}
use Rattle.mon_cli.specs.Choice.{choices}
use Rattle.mon_cli.specs.Line.{argument_of}
use Rattle.mon_cli.specs.Table.{first_arguments}
use Rattle.mon_cli.specs.Program.{HasApp, IsLists, with_argument, with_arguments, with_command, with_line}
use Rattle.mon_cli.specs.declared.parser.Lists.{Lists}
use Rattle.mon_cli.proofs.parser.command.Goals as goal

pub returns : goal.returns
returns c =
    let lists : Lists = record { formats = c.as_slice.result; kinds = c.as_slice-2.result; sorts = c.as_slice-3.result } in
    let are : IsLists lists = (search rules, search rules, search rules) in
    let first : App = new_app (codes "snmpmon") in
    let start : HasApp first c.after_help-command.result = (
      ap app_of_fields c.after_help-command.ensures ∙ (ap app_of_fields c.about.ensures ∙ c.new.ensures.app),
      ap (λ f. f.has_globals) c.after_help-command.ensures ∙ (ap (λ f. f.has_globals) c.about.ensures ∙ c.new.ensures.local),
    ) in
    let lines : map argument_of c.as_slice-4.result.now ≡ first_arguments = search rules in
    let top : fold (with_line lists) first c.as_slice-4.result.now ≡ with_arguments lists first first_arguments =
    sym (fold-map (with_argument lists) argument_of first c.as_slice-4.result.now) ∙ ap (fold (with_argument lists) first) lines in
    let all : c.as_slice-5.result.now ≡ choices = search rules in
    let has : HasApp (with_arguments lists first first_arguments) c.in_ok-command.command =
    subst (λ (app : App). HasApp app c.in_ok-command.command) top (c.in_ok-command.ensures first start) in
    let same = ap (fold (with_command lists) (with_arguments lists first first_arguments)) all in
    IfOk-weaker c.with_commands.result _ _ (λ r is. (lists, are, subst (λ (app : App). HasApp app r) same is)) (c.with_commands.ensures _ has)
