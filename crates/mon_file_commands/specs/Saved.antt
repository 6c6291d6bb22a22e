-- How a station's file is read that may be saved to meanwhile.
use Rattle.std.specs.Prelude.{◌≡◌, ◌⊎◌, ◌↔◌, ◌<◌, ℕ, zero, suc, Bool, true, false, IsTrue, List, []}
use Rattle.std.specs.Prelude.{◌∷◌, ◌++◌, Option, None, Result, Ok, Err, drop, length, string_bytes}
use Rattle.std.specs.Prelude.{take}
use Rattle.std.specs.Global.{Vec}
use Rattle.mon_board.specs.declared.board.Board.{Board}
use Rattle.mon_cli.specs.declared.meaning.Printed.{Printed}
use Rattle.mon_console.specs.Failure.{IsOf}
use Rattle.mon_console.specs.Files.{IsPart, IsPrint}
use Rattle.mon_console.specs.Labelled.{IsLabelled}
use Rattle.mon_console.specs.Printing.{aged}
use Rattle.mon_console.specs.declared.failure.Failure.{Failure}
use Rattle.mon_console.specs.declared.printing.Printing.{Printing}
use Rattle.mon_faults.specs.Fault.{station_fault}
use Rattle.mon_host.specs.AtHost.{AtHost, PartRead, PartUnread}
use Rattle.mon_host.specs.Reason.{Why}
use Rattle.mon_host.specs.Then.{Quietly, Then}
use Rattle.mon_host.specs.declared.host.Part.{Part}
use Rattle.mon_settings.specs.declared.station.StationSettings.{StationSettings}
use Rattle.mon_disk.specs.Keeper.{found_body}
use Rattle.mon_station.specs.Found.{IsBoardOf, IsFaultOfOctets}
use Rattle.mon_station.specs.declared.fault.StationFault.{StationFault}
use Rattle.mon_file_commands.specs.Age.{IsAge}
use Rattle.mon_file_commands.specs.Report.{report_by}
use Rattle.mon_file_commands.specs.Steps.{OrMemory}

-- what is read of a file: as much as a station's has and an octet more, since a longer one is
-- damaged
abbrev pub whole_part : Part
whole_part = record { at = 0; length = 2097153 }

-- the head of the slot at a place: its gate, its generation and the length of its body
abbrev pub head_part : ℕ → Part
head_part at = record { at = at; length = 17 }

-- whether this is the head of the slot at a place of octets, or is cut short
abbrev pub IsSameHead : (octets : List ℕ) (at : ℕ) (head : List ℕ) (same : Bool) → Type 0
IsSameHead octets at head same =
    IsTrue same ↔ ((length head < 17) ⊎ (take 17 (drop at octets) ≡ head))

-- the head of a slot was read again: it is the same, or could not be read
abbrev pub IsLook : (path octets : List ℕ) (at : ℕ) → List AtHost → Bool → Type 0
IsLook path octets at log same =
    ((head : List ℕ) × (log ≡ PartRead path (head_part at) head ∷ [])
    × IsSameHead octets at head same)
    ⊎ ((why : Why) × (log ≡ PartUnread path (head_part at) why ∷ []) × (same ≡ true))

-- after the first slot's head: that of the second, if the first one's is the same
abbrev pub AreLooksAfter : Bool → (path octets : List ℕ) → List AtHost → Bool → Type 0
AreLooksAfter true path octets log same = IsLook path octets 1048576 log same
AreLooksAfter false path octets log same = (log ≡ []) × (same ≡ false)

-- both heads were read again, in order, up to one that has changed
pub record AreLooks (path octets : List ℕ) (log : List AtHost) (same : Bool) : Type 0 where
  pub first : Bool
  pub begin : List AtHost
  pub look : IsLook path octets 0 begin first
  pub rest : List AtHost
  pub after : AreLooksAfter first path octets rest same
  pub log_is : log ≡ begin ++ rest

-- after both heads: the octets, or those of another read if a head has changed
abbrev pub IsReadAfter : Bool → Vec ℕ → (Again : List AtHost → Result (Vec ℕ) Failure → Type 0)
    → List AtHost → Result (Vec ℕ) Failure → Type 0
IsReadAfter true octets Again log result = (log ≡ []) × (result ≡ Ok octets)
IsReadAfter false octets Again log result = Again log result

-- octets were read: these are those that are kept, or it is read again as here
pub record IsKept (path : List ℕ) (Again : List AtHost → Result (Vec ℕ) Failure → Type 0)
    (octets : Vec ℕ) (log : List AtHost) (result : Result (Vec ℕ) Failure) : Type 0 where
  pub same : Bool
  pub begin : List AtHost
  pub looks : AreLooks path octets.items begin same
  pub rest : List AtHost
  pub after : IsReadAfter same octets Again rest result
  pub log_is : log ≡ begin ++ rest

-- A file is read, and again while a head has changed, at most this many times more. After the last
-- read no head is looked at.
abbrev pub IsSteadyRead : (path : List ℕ) (more : ℕ) → List AtHost → Result (Vec ℕ) Failure → Type 0
IsSteadyRead path zero = Then (IsPart path whole_part) (λ octets log result. (log ≡ [])
    × (result ≡ Ok octets))
IsSteadyRead path (suc more) = Then (IsPart path whole_part) (IsKept path (IsSteadyRead path more))

-- the windows in octets, as board_in of mon_station finds them; or why there are none
abbrev pub IsBoardIn : StationSettings → List ℕ → Result Board Failure → Type 0
IsBoardIn s octets (Ok board) = IsBoardOf s.core.watch (found_body octets) board
IsBoardIn s octets (Err failure) = (fault : StationFault) × IsFaultOfOctets s.core.watch octets
    fault
    × IsOf (station_fault fault) failure

-- the windows in the file of settings, which is read 16 times at most
abbrev pub IsSavedIn : StationSettings → List AtHost → Result Board Failure → Type 0
IsSavedIn s = Then (IsSteadyRead (string_bytes s.file) 15) (λ octets. Quietly
    (IsBoardIn s octets.items))

-- the file of these settings is read, it is said how old it is, and the report of its windows with
-- this age is printed
abbrev pub IsSavedReport : StationSettings → Printing → List AtHost → Result Unit Failure → Type 0
IsSavedReport s printing = Then (IsSavedIn s) (λ board.
    Then (IsAge (string_bytes s.file)) (λ (age : Option ℕ).
    Then (Quietly (OrMemory (λ (text : List ℕ). text ≡ report_by (aged age printing) board []
    None))) IsPrint))

-- The settings at this path and labels are read, then the file that the settings name, whose age is
-- said. Then one report is printed, and nothing is replaced.
abbrev pub IsSettingsReport : (path : List ℕ) (labels : Option (List ℕ)) → Printed → List AtHost
    → Result Unit Failure → Type 0
IsSettingsReport path labels printed =
    Then (IsLabelled path labels printed) (λ both. IsSavedReport both.0 both.1)
