use Rattle.std.proofs.Common.{◌≡◌, ◌∙◌, List, ℕ, [], ap, string_bytes}
use Rattle.std.specs.Prelude.{None, Ok, Option}
use Rattle.mon_board.specs.declared.board.Board.{Board}
use Rattle.mon_console.specs.Files.{IsPrint}
use Rattle.mon_console.specs.Printing.{aged as with_age}
use Rattle.mon_console.specs.declared.printing.Printing.{Printing}
use Rattle.mon_host.specs.Then.{Quietly, Then}
use Rattle.mon_host.proofs.Promised.{then_follows}
use Rattle.mon_file_commands.specs.Age.{IsAge}
use Rattle.mon_file_commands.specs.Report.{report_by}
use Rattle.mon_file_commands.specs.Saved.{IsSavedIn}
use Rattle.mon_file_commands.specs.Steps.{OrMemory}
use Rattle.mon_file_commands.proofs.Ages.{aged}
use Rattle.mon_file_commands.proofs.Promised.{no_memory, printed}
use Rattle.mon_file_commands.proofs.saved.print_saved.Goals as goal

pub returns-in_err-text : goal.returns-in_err-text
returns-in_err-text g c =
    let start = g.H.Host.log c.args.host.now in
    let read = g.H.Host.log c.saved_in.new.host in
    let told = g.H.Host.log c.tell_age-age.new.host in
    let printing = c.args.printing in
    let age = c.tell_age-age.result in
    let path = string_bytes c.args.settings.now.file in
    let board = c.in_ok-board.board in
    let r = c.from_residual-in_err-text.result in
    then_follows (IsSavedIn c.args.settings.now) (λ (b : Board). Then (IsAge path) (λ (age : Option ℕ). Then (Quietly (OrMemory (λ (text : List ℕ). text ≡ report_by (with_age age printing) b [] None))) IsPrint))
    (Ok board) r start read told c.in_ok-board.ensures
    (then_follows (IsAge path) (λ (age : Option ℕ). Then (Quietly (OrMemory (λ (text : List ℕ). text ≡ report_by (with_age age printing) board [] None))) IsPrint) (Ok age) r read told told
    (aged path c.deref.result.now age read told c.deref.ensures c.tell_age-age.ensures)
    (no_memory (λ (text : List ℕ). text ≡ report_by (with_age age printing) board [] None) IsPrint r told c.from_residual-in_err-text.ensures.1))

pub returns : goal.returns
returns g c =
    let start = g.H.Host.log c.args.host.now in
    let read = g.H.Host.log c.saved_in.new.host in
    let told = g.H.Host.log c.tell_age-age.new.host in
    let end = g.H.Host.log c.print.new.host in
    let printing = c.args.printing in
    let age = c.tell_age-age.result in
    let path = string_bytes c.args.settings.now.file in
    let board = c.in_ok-board.board in
    then_follows (IsSavedIn c.args.settings.now) (λ (b : Board). Then (IsAge path) (λ (age : Option ℕ). Then (Quietly (OrMemory (λ (text : List ℕ). text ≡ report_by (with_age age printing) b [] None))) IsPrint))
    (Ok board) c.print.result start read end c.in_ok-board.ensures
    (then_follows (IsAge path) (λ (age : Option ℕ). Then (Quietly (OrMemory (λ (text : List ℕ). text ≡ report_by (with_age age printing) board [] None))) IsPrint) (Ok age) c.print.result read told end
    (aged path c.deref.result.now age read told c.deref.ensures c.tell_age-age.ensures)
    (printed (λ (text : List ℕ). text ≡ report_by (with_age age printing) board [] None) c.in_ok-text.text.items c.as_slice.result.now c.print.result told end (c.in_ok-text.ensures ∙ ap (λ (p : Printing). report_by p board [] None) c.with_file_age-printing.ensures) c.as_slice.ensures.value c.print.ensures))
