-- What is said on standard error of settings that are printed or written.
use Rattle.std.specs.Prelude.{◌≡◌, ◌++◌, ◌==◌, ◌∷◌, ℕ, List, [], None, Result, Ok, codes, decimal}
use Rattle.std.specs.Prelude.{if◌then◌else◌}
use Rattle.mon_console.specs.Files.{IsPrint}
use Rattle.mon_console.specs.declared.failure.Failure.{Failure}
use Rattle.mon_host.specs.AtHost.{AtHost, Noted}
use Rattle.mon_host.specs.declared.level.Level.TheVariants as level
use Rattle.mon_host.specs.Then.{Then}
use Rattle.mon_survey.specs.Plan.{count_without_speed}
use Rattle.mon_survey.specs.declared.choice.Choice.{Choice}
use Rattle.mon_survey.specs.declared.longest.LongestRound.{LongestRound}
use Rattle.mon_settings_commands.specs.Source.{IsChoice, Source}

-- the form of a word for a count: the first for 1, else the second
abbrev pub form_of : ℕ → (one many : List ℕ) → List ℕ
form_of count one many = if count == 1 then one else many

-- a step that always succeeds, of which this holds
abbrev pub Surely : (List AtHost → Type 0) → List AtHost → Result Unit Failure → Type 0
Surely Holds log result = Holds log × (result ≡ Ok tt)

-- the line that says how long a round of some settings, named by this text, takes at most
abbrev pub round_line : List ℕ → LongestRound → List ℕ
round_line settings longest = codes "snmpmon: a round of " ++ settings ++ codes " takes at most "
    ++ decimal longest.most ++ codes " ms (wait_ms = " ++ decimal longest.wait_ms
    ++ codes ", tries = " ++ decimal longest.tries ++ codes ")\n"

-- it is said how long a round takes at most, in one line
abbrev pub IsRoundNoted : List ℕ → LongestRound → List AtHost → Type 0
IsRoundNoted settings longest log = log ≡ Noted level.Info (round_line settings longest) ∷ []

-- octets are printed, and after that it is said how long a round takes at most
abbrev pub IsPrintNoted : List ℕ → List ℕ → LongestRound → List AtHost → Result Unit Failure
    → Type 0
IsPrintNoted octets settings longest = Then (IsPrint octets)
    (λ done. Surely (IsRoundNoted settings longest))

-- the line that says for how many interfaces there is no threshold
abbrev pub speed_line : ℕ → List ℕ
speed_line count = if count == 1
    then codes "snmpmon: no threshold for 1 interface: its speed is not known\n"
    else (codes "snmpmon: no threshold for " ++ decimal count
    ++ codes " interfaces: their speed is not known\n")

-- It is said if alarms are asked for, at a percentage above 0, and an interface has no threshold.
abbrev pub speed_notes : (percent count : ℕ) → List AtHost
speed_notes percent count = if percent == 0 then []
    else if count == 0 then []
    else (Noted level.Warning (speed_line count) ∷ [])

-- of all interfaces whose octets are polled, in whichever file, those are counted whose speed is
-- unknown
abbrev pub AreSpeedsNoted : Source → List AtHost → Type 0
AreSpeedsNoted s log = (choice : Choice) × IsChoice s None choice
    × (log ≡ speed_notes s.asked.percent (count_without_speed choice s.survey.answers))
