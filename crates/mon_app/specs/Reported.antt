-- What a replay keeps, as a report says it.
use Rattle.std.specs.Prelude.{◌≡◌, ℕ, List, [], map}
use Rattle.mon_window.specs.Top.{rising}
use Rattle.mon_report.specs.Report.{Entry}
use Rattle.mon_app.specs.declared.table.Row.{Row}
use Rattle.mon_app.specs.Outcome.{Outcome, AreOutcomes, taken_by, refused_in}
use Rattle.mon_app.specs.Replay.{lines_of, accepted, refusals, refused_text}
use Rattle.mon_app.specs.Windows.{rows_of}

-- what a report says of an instance with its window; there are no alarm rules
abbrev pub reported_row : Row → Entry
reported_row row = record {
  engine = row.instance.engine;
  name = row.instance.name;
  items = rising
      row.window.items;
  rules = [];
  alarms = [];
}

-- what a replay keeps: the lines that name what it refuses, and of each instance what a report says
pub record Kept : Type 0 where
  pub refused : List ℕ
  pub entries : List Entry

-- what windows of n samples keep of the input
abbrev pub kept_of : ℕ → List ℕ → Kept
kept_of n input =
    record {
      refused = refused_text (refusals 0 [] (lines_of input));
      entries = map reported_row
          (rows_of n (accepted [] (lines_of input)));
    }

-- It is kept of the input: each line has its outcome, as in a replay.
pub record IsKept (n : ℕ) (input : List ℕ) (kept : Kept) : Type 0 where
  pub outcomes : List Outcome
  pub are : AreOutcomes (lines_of input) outcomes
  pub refused : kept.refused ≡ refused_text (refused_in 0 outcomes)
  pub entries : kept.entries ≡ map reported_row (rows_of n (taken_by outcomes))
