use Rattle.std.proofs.Common.{◌≡◌, ◌∙◌, List, ℕ, ap, refl}
use Rattle.std.specs.Prelude.{Ok, Option}
use Rattle.mon_console.specs.Files.{IsPrint}
use Rattle.mon_console.specs.Printing.{aged as with_age}
use Rattle.mon_console.specs.declared.printing.Printing.{Printing}
use Rattle.mon_host.specs.Then.{Quietly, Then}
use Rattle.mon_host.proofs.Promised.{then_follows}
use Rattle.mon_file_commands.specs.Age.{IsAge}
use Rattle.mon_file_commands.specs.Own.{own_report}
use Rattle.mon_file_commands.specs.Steps.{OrMemory}
use Rattle.mon_file_commands.proofs.Ages.{aged}
use Rattle.mon_file_commands.proofs.Promised.{no_memory, printed}
use Rattle.mon_file_commands.proofs.own.print_aged.Goals as goal

pub returns-in_err-text : goal.returns-in_err-text
returns-in_err-text g c =
    let start = g.H.Host.log c.args.host.now in
    let told = g.H.Host.log c.tell_age-age.new.host in
    let printing = c.args.printing in
    let age = c.tell_age-age.result in
    let path = c.args.path.now in
    let own = c.args.own.now in
    let r = c.from_residual.result in
    then_follows (IsAge path) (λ (age : Option ℕ). Then (Quietly (OrMemory (λ (text : List ℕ). text ≡ own_report (with_age age printing) own))) IsPrint) (Ok age) r start told told
    (aged path path age start told refl c.tell_age-age.ensures)
    (no_memory (λ (text : List ℕ). text ≡ own_report (with_age age printing) own) IsPrint r told c.from_residual.ensures.1)

pub returns : goal.returns
returns g c =
    let start = g.H.Host.log c.args.host.now in
    let told = g.H.Host.log c.tell_age-age.new.host in
    let end = g.H.Host.log c.print.new.host in
    let printing = c.args.printing in
    let age = c.tell_age-age.result in
    let path = c.args.path.now in
    let own = c.args.own.now in
    then_follows (IsAge path) (λ (age : Option ℕ). Then (Quietly (OrMemory (λ (text : List ℕ). text ≡ own_report (with_age age printing) own))) IsPrint) (Ok age) c.print.result start told end
    (aged path path age start told refl c.tell_age-age.ensures)
    (printed (λ (text : List ℕ). text ≡ own_report (with_age age printing) own) c.in_ok-text.text.items c.as_slice.result.now c.print.result told end
    (c.in_ok-text.ensures ∙ ap (λ (p : Printing). own_report p own) c.with_file_age-printing.ensures) c.as_slice.ensures.value c.print.ensures)
