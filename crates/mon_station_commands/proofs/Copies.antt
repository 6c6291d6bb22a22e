-- What is shown of a copy of a board, in place of what was shown before.
use Rattle.std.proofs.Common.{◌≡◌, ◌∙◌, List, Option, Some, None, Result, Ok, Err, IfOk, IfSome, option_map, ap, refl}
use Rattle.std.specs.Result.{result_ok}
use Rattle.mon_alarms.specs.declared.alarm.AlarmState.{AlarmState}
use Rattle.mon_board.specs.declared.board.Board.{Board}
use Rattle.mon_console.specs.Shown.{shown_by}
use Rattle.mon_console.specs.declared.printing.Printing.{Printing}
use Rattle.mon_formats.specs.Formats.{formatted}
use Rattle.mon_formats.specs.declared.format.Format.{Format}
use Rattle.mon_page.specs.declared.figures.Figures.{Figures}
use Rattle.mon_file_commands.specs.Report.{entries_by}
use Rattle.mon_station_commands.specs.Showing.{IsShown}
use Rattle.mon_web.specs.Pages.{View, with_texts}
use Rattle.mon_web.specs.Texts.{Texts}

-- the report of a copy is that of the board
pub of_copy : (format : Format) (figures : Figures) (printing kept : Printing) (board copy : Board) (states given : List AlarmState)
    → kept ≡ printing → copy.watch ≡ board.watch → copy.windows ≡ board.windows → given ≡ states
    → formatted format (shown_by kept.names) (entries_by copy given) (Some figures) kept.labels.items kept.presentation
    ≡ formatted format (shown_by printing.names) (entries_by board states) (Some figures) printing.labels.items printing.presentation
of_copy format figures printing kept board copy states given same watch windows are =
    λ i. formatted format (shown_by (same i).names) (entries_by (let b : Board = record { watch = watch i; windows = windows i; marks = copy.marks } in b) (are i)) (Some figures) (same i).labels.items (same i).presentation

-- pages that lost its texts and have others then
with_others : (texts : Option Texts) (view : Option View) → option_map (with_texts texts) (option_map (with_texts None) view) ≡ option_map (with_texts texts) view
with_others texts None = refl
with_others texts (Some view) = refl

holds_of : {S E : Type 0} → (Holds : Texts → Type 0) (says : S → Texts) (made : Result S E) → IfOk made (λ s. Holds (says s)) → IfSome (option_map says (result_ok made)) Holds
holds_of Holds says (Ok s) holds = holds
holds_of Holds says (Err e) holds = tt

-- what is shown is what was made, if it was, after what was shown before was taken away
pub shown_anew : {S E : Type 0} → (Holds : Texts → Type 0) (says : S → Texts) (made : Result S E) (old between new : Option View)
    → IfOk made (λ s. Holds (says s)) → between ≡ option_map (with_texts None) old
    → new ≡ option_map (with_texts (option_map says (result_ok made))) between → IsShown Holds old new
shown_anew Holds says made old between new holds taken shown = record {
  texts = option_map says (result_ok made);
  holds = holds_of Holds says made holds;
  shown = shown ∙ ap (option_map (with_texts (option_map says (result_ok made)))) taken ∙ with_others (option_map says (result_ok made)) old;
}
