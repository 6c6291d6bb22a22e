use Rattle.std.proofs.Common.{List, ℕ, subst, sym}
use Rattle.std.specs.Prelude.{Option}
use Rattle.mon_console.specs.Files.{IsPrint}
use Rattle.mon_host.specs.Log.{GoesOnBy}
use Rattle.mon_survey.specs.declared.longest.LongestRound.{LongestRound}
use Rattle.mon_settings_commands.specs.Network.{IsPathPrinted}
use Rattle.mon_settings_commands.specs.Notes.{IsPrintNoted}
use Rattle.mon_settings_commands.proofs.network.print_line.Goals as goal

pub returns-in-Some : goal.returns-in-Some
returns-in-Some g c =
    let before = g.H.Host.log c.args.host.now in
    let after = g.H.Host.log c.print_noted.new.host in
    let path = c.args.path.now in
    let r = c.print_noted.result in
    subst (λ (o : Option LongestRound). GoesOnBy (λ log. IsPathPrinted path o log r) before after) (sym c.in-Some.is)
    (subst (λ (l : List ℕ). GoesOnBy (λ log. IsPrintNoted l path c.in-Some.longest log r) before after) c.requires c.print_noted.ensures)

pub returns-in-None : goal.returns-in-None
returns-in-None g c =
    let before = g.H.Host.log c.args.host.now in
    let after = g.H.Host.log c.print.new.host in
    let path = c.args.path.now in
    let r = c.print.result in
    subst (λ (o : Option LongestRound). GoesOnBy (λ log. IsPathPrinted path o log r) before after) (sym c.in-None.is)
    (subst (λ (l : List ℕ). GoesOnBy (λ log. IsPrint l log r) before after) c.requires c.print.ensures)
