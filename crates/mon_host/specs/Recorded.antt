-- What surroundings in memory have recorded.
use Rattle.std.specs.Prelude.{◌≡◌, List, Option, Some, None, Bool, true, false, Result, Ok, Err}
use Rattle.std.specs.Prelude.{map, string_bytes}
use Rattle.std.specs.Result.{result_map_both}
use Rattle.std.specs.declared.io.ErrorKind.{ErrorKind}
use Rattle.std.specs.declared.io.ErrorKind.TheVariants.{Unsupported}
use Rattle.mon_host.specs.AtHost as at
use Rattle.mon_host.specs.declared.reason.Reason.{Reason}
use Rattle.mon_host.specs.declared.recorder.RecordedCall.{RecordedCall}
use Rattle.mon_host.specs.declared.recorder.RecordedCall.TheVariants as step

-- a reason of this kind, without words
abbrev pub bare : ErrorKind → Reason
bare kind = record { kind = kind; words = None }

-- what a call gives that failed for a reason of this kind, or not
abbrev pub refused : {T : Type 0} → Result T ErrorKind → Result T Reason
refused given = result_map_both (λ value. value) bare given

-- a recorded call, as the log has it
abbrev pub step_of : RecordedCall → at.AtHost
step_of (step.Arguments given) = at.listing_arguments (refused given)
step_of (step.AtTerminal is) = at.AtTerminal is
step_of (step.OutputAtTerminal is) = at.OutputAtTerminal is
step_of (step.Print octets given) = at.printing octets.items (refused given)
step_of (step.Note level text) = at.Noted level (string_bytes text)
step_of step.ShowLevels = at.LevelsShown
step_of (step.Input given) = at.reading_input (refused given)
step_of (step.File path given) = at.reading_file (string_bytes path) (refused given)
step_of (step.Part path part given) = at.reading_part (string_bytes path) part (refused given)
step_of (step.Write path octets given) = at.writing (string_bytes path) octets.items (refused given)
step_of (step.Rename path other given) =
    at.renaming (string_bytes path) (string_bytes other) (refused given)
step_of (step.Find path is) = at.finding (string_bytes path) (Ok is)
step_of (step.DateFile path) = at.dating_file (string_bytes path) (refused (Err Unsupported))
step_of (step.Permit path given) = at.permitting (string_bytes path) (refused given)
step_of (step.FindNode path node) = at.finding_node (string_bytes path) (Ok node)
step_of step.Time = at.telling_time (refused (Err Unsupported))
step_of step.Date = at.telling_date (refused (Err Unsupported))

-- the log: the recorded calls, unless one could not be recorded
abbrev pub recorded : Bool → List RecordedCall → Option (List at.AtHost)
recorded true steps = None
recorded false steps = Some (map step_of steps)

-- a recorded call is this one
abbrev pub IsStepOf : at.AtHost → RecordedCall → Type 0
IsStepOf call step = step_of step ≡ call
