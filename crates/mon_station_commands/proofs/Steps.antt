-- Steps that are done one after another.
use Rattle.std.proofs.Common.{◌≡◌, ◌∙◌, ◌++◌, ◌∷◌, List, ℕ, [], ap, refl, subst, sym}
use Rattle.std.specs.Prelude.{false, IfOk, IsErrAnd, Option, Some, None, Result, Ok, Err}
use Rattle.std.specs.Global.{Vec}
use Rattle.std.specs.declared.alloc.AllocError.{AllocError}
use Rattle.mon_alarms.specs.declared.alarm.AlarmState.{AlarmState}
use Rattle.mon_board.specs.declared.board.Board.{Board}
use Rattle.mon_console.specs.Failure.{IsTold}
use Rattle.mon_console.specs.Files.{IsPublishing}
use Rattle.mon_console.specs.Shown.{shown_by}
use Rattle.mon_console.specs.declared.failure.Failure.{Failure}
use Rattle.mon_board.specs.Board.{window_of}
use Rattle.mon_formats.specs.Formats.{formatted, report_in}
use Rattle.mon_formats.specs.declared.format.Format.TheVariants.{Text}
use Rattle.mon_console.specs.declared.printing.Printing.{Printing}
use Rattle.mon_host.specs.declared.level.Level.{Level}
use Rattle.mon_host.specs.declared.level.Level.TheVariants as level
use Rattle.mon_host.specs.AtHost.{AtHost, IsNoted, Noted}
use Rattle.mon_host.specs.Log.{GoesOnBy}
use Rattle.mon_host.specs.Then.{Quietly, Then}
use Rattle.mon_host.proofs.Promised.{goes_on, weaker}
use Rattle.mon_page.specs.declared.extras.Presentation.{Presentation}
use Rattle.mon_page.specs.declared.figures.Figures.{Figures}
use Rattle.mon_report.specs.Report.{Entry}
use Rattle.mon_file_commands.proofs.Promised.{made}
use Rattle.mon_file_commands.specs.Report.{entries_by}
use Rattle.mon_station_commands.specs.Reporting.{IsChangeOut, IsFiled, IsOut, IsReport, IsUnwritten, failed_by, unwritten_line}
use Rattle.mon_file_commands.specs.Steps.{OrMemory}
use Rattle.mon_station_commands.specs.Steps.{IsKeptOf, IsSaidOf, IsTried, kept_after}

-- a text was made, and a file replaced by it
pub filed : (Holds : List ℕ → Type 0) (path text octets : List ℕ) (r : Result Unit Failure) (told after : Option (List AtHost)) → Holds text → octets ≡ text
    → GoesOnBy (λ log. IsPublishing path octets log r) told after → GoesOnBy (λ log. Then (Quietly (OrMemory Holds)) (IsPublishing path) log r) told after
filed Holds path text octets r told after holds same done =
    made Holds (IsPublishing path) text r told after holds (subst (λ (o : List ℕ). GoesOnBy (λ log. IsPublishing path o log r) told after) same done)

-- a step, and its failure, if there is one, was said
pub tried : (Step : List AtHost → Result Unit Failure → Type 0) (given : Result Unit Failure) (failure : Option Failure) (before between after : Option (List AtHost))
    → GoesOnBy (λ log. Step log given) before between → GoesOnBy (λ log. IsSaidOf given log failure) between after → GoesOnBy (λ log. IsTried Step log failure) before after
tried Step given failure before between after step said = record {
  more = step.more ++ said.more;
  holds = record { given = given; begin = step.more; step = step.holds; rest = said.more; said = said.holds; log_is = refl };
  on = goes_on step.more said.more before between after step.on said.on;
}

-- the report of a board, of states and of figures
pub report_is : (Holds : Figures → Type 0) (printing : Printing) (board : Board) (states : List AlarmState) (entries : List Entry) (figures : Figures)
    (r : Result (Vec ℕ) AllocError) → Holds figures → entries ≡ entries_by board states
    → IfOk r (λ text. text.items ≡ formatted printing.format (shown_by printing.names) entries (Some figures) printing.labels.items printing.presentation)
    → IfOk r (λ text. IsReport Holds printing board states text.items)
report_is Holds printing board states entries figures (Ok text) holds same is = record {
  figures = Some figures;
  holds = holds;
  needed = λ none. absurd (let not : Some figures ≡ None = none in let never : ⊥ = cc in never);
  text_is = is ∙ ap (λ (es : List Entry). formatted printing.format (shown_by printing.names) es (Some figures) printing.labels.items printing.presentation) same;
}
report_is Holds printing board states entries figures (Err fault) holds same is = tt

-- a failure that a `?` made
pub failure_is : {A : Type 0} → (r : Result A Failure) (failure : Failure) → IsErrAnd r (λ f. f ≡ failure) → r ≡ Err failure
failure_is (Ok a) failure is = absurd is
failure_is (Err f) failure is = ap Err is

-- lines of text with names in numbers, which say nothing of figures
pub plain : (Holds : Figures → Type 0) (printing : Printing) (board other : Board) (states : List AlarmState) (text : List ℕ) → printing.format ≡ Text → printing.names ≡ None → other ≡ board
    → ((p : Presentation) → text ≡ report_in Text (shown_by None) other.watch (window_of other) None [] p) → IsReport Holds printing board states text
plain Holds printing board other states text format names same is = record {
  figures = None;
  holds = tt;
  needed = λ none. format;
  text_is = is printing.presentation ∙ (ap (λ (b : Board). report_in Text (shown_by None) b.watch (window_of b) None printing.labels.items printing.presentation) same
      ∙ (λ i. report_in (sym format i) (shown_by (sym names i)) board.watch (window_of board) None printing.labels.items printing.presentation));
}

-- a file for reports, what was done to it, and what was said of that
pub out : (round : ℕ) (path : Option (List ℕ)) (own octets octets2 : List ℕ) (Holds : List ℕ → Type 0) (before after : Option Failure) (given : Result Unit Failure)
    (t0 t1 t2 : Option (List AtHost)) → path ≡ Some own → octets ≡ own → octets2 ≡ own → after ≡ failed_by given
    → GoesOnBy (λ log. IsFiled octets Holds log given) t0 t1 → GoesOnBy (IsChangeOut round octets2 before given) t1 t2
    → GoesOnBy (λ log. IsOut round path Holds before log after) t0 t2
out round path own octets octets2 Holds before after given t0 t1 t2 is same same2 failed filed said =
    subst (λ (p : Option (List ℕ)). GoesOnBy (λ log. IsOut round p Holds before log after) t0 t2) (sym is)
    record {
      more = filed.more ++ said.more;
      holds = record {
        given = given;
        begin = filed.more;
        filed = subst (λ (o : List ℕ). IsFiled o Holds filed.more given) same filed.holds;
        rest = said.more;
        said = subst (λ (o : List ℕ). IsChangeOut round o before given said.more) same2 said.holds;
        after_is = failed;
        log_is = refl;
      };
      on = goes_on filed.more said.more t0 t1 t2 filed.on said.on;
    }

-- a step that was tried, and the failure that is kept
pub kept_of : (Step : List AtHost → Result Unit Failure → Type 0) (before same after failure : Option Failure) (start end : Option (List AtHost)) → same ≡ before
    → after ≡ kept_after same failure → GoesOnBy (λ log. IsTried Step log failure) start end → GoesOnBy (λ log. IsKeptOf Step before log after) start end
kept_of Step before same after failure start end is kept done = record {
  more = done.more;
  holds = record { failure = failure; tried = done.holds; kept = kept ∙ ap (λ (b : Option Failure). kept_after b failure) is };
  on = done.on;
}

-- one line of which all is stated
pub line_said : (v : Level) (line : List ℕ) (before after : Option (List AtHost)) → GoesOnBy (IsNoted v (Some line)) before after → GoesOnBy (λ log. log ≡ Noted v line ∷ []) before after
line_said v line before after = weaker (IsNoted v (Some line)) (λ log. log ≡ Noted v line ∷ []) before after (λ log is. is.2 ∙ ap (λ (o : List ℕ). Noted v o ∷ []) is.1)

-- the line of a file that is not written, and why
pub unwritten_said : (round : ℕ) (path : List ℕ) (failure : Failure) (before between after : Option (List AtHost))
    → GoesOnBy (IsNoted level.Warning (Some (unwritten_line round path))) before between → GoesOnBy (IsTold level.Warning failure) between after
    → GoesOnBy (IsUnwritten false round path failure) before after
unwritten_said round path failure before between after note told =
    let line = line_said level.Warning (unwritten_line round path) before between note in
    record {
      more = line.more ++ told.more;
      holds = (told.more, told.holds, ap (λ (l : List AtHost). l ++ told.more) line.holds);
      on = goes_on line.more told.more before between after line.on told.on;
    }
