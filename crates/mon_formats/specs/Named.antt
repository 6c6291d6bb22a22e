-- The text of a report in which names are shown by a function.
use Rattle.std.specs.Prelude.{ℕ, List, ◌++◌, codes, length}
use Rattle.std.specs.List.{flat_map}
use Rattle.hex.specs.Hex.{encode_lower}
use Rattle.mon_report.specs.Report.{Entry, entry_rest, end_line, samples_in}

-- an instance's line: the engine id in hex digits, the name as it is shown, the window and the
-- alarms
unfoldable pub named_line : (List ℕ → List ℕ) → Entry → List ℕ
named_line shown e = encode_lower e.engine ++ codes " " ++ shown e.name ++ entry_rest e

-- a line for each instance, and a last line that counts
unfoldable pub named_report : (List ℕ → List ℕ) → List Entry → List ℕ
named_report shown entries = flat_map (named_line shown) entries
    ++ end_line (length entries) (samples_in entries)
