use Rattle.std.proofs.Common.{Bor, List, ℕ, option_map, subst, sym}
use Rattle.std.specs.Prelude.{Option}
use Rattle.mon_host.specs.Log.{GoesOnBy}
use Rattle.mon_file_commands.specs.Command.{IsReportOf}
use Rattle.mon_file_commands.specs.Saved.{IsSettingsReport}
use Rattle.mon_file_commands.proofs.command.print_saved_report.Goals as goal

pub returns-in-Some : goal.returns-in-Some
returns-in-Some g c =
    let words = c.args.words in
    subst (λ (f : Option (Bor (List ℕ))). GoesOnBy (λ log. IsReportOf (option_map (λ p. p.now) f) (option_map (λ s. s.now) words.settings) (option_map (λ l. l.now) words.labels) words.printed log c.print_file_report.result)
    (g.H.Host.log c.args.host.now) (g.H.Host.log c.print_file_report.new.host)) (sym c.in-Some.is) c.print_file_report.ensures

pub returns-in-None : goal.returns-in-None
returns-in-None g c =
    let words = c.args.words in
    let start = g.H.Host.log c.args.host.now in
    let end = g.H.Host.log c.print_settings_report.new.host in
    let by_path = subst (λ (p : List ℕ). GoesOnBy (λ log. IsSettingsReport p (option_map (λ l. l.now) words.labels) words.printed log c.print_settings_report.result) start end) c.path_or_empty-path.ensures c.print_settings_report.ensures in
    subst (λ (f : Option (Bor (List ℕ))). GoesOnBy (λ log. IsReportOf (option_map (λ p. p.now) f) (option_map (λ s. s.now) words.settings) (option_map (λ l. l.now) words.labels) words.printed log c.print_settings_report.result) start end)
    (sym c.in-None.is) by_path
