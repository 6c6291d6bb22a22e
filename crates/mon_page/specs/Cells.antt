-- What every format says of an instance.
use Rattle.std.specs.Prelude.{ℕ, ℤ, Bool, true, false, List, [], ◌∷◌, ◌++◌, Option, Some, None}
use Rattle.std.specs.Prelude.{codes, decimal, if◌then◌else◌}
use Rattle.std.specs.Fmt.{signed_decimal}
use Rattle.std.specs.List.{list_any}
use Rattle.mon_sample.specs.Kind.{number_of}
use Rattle.mon_sample.specs.Key.{kind_of, sample_value}
use Rattle.mon_rates.specs.Totals.{totals, thousandths}
use Rattle.mon_alarms.specs.Changes.{is_raised}
use Rattle.mon_report.specs.declared.alarms.Alarm.{Alarm}
use Rattle.mon_report.specs.Report.{newest, rate_text}

-- the newest of samples, the oldest of which is first
abbrev pub newest_of : List ℕ → Option ℕ
newest_of [] = None
newest_of (first ∷ rest) = Some (newest first rest)

-- the number that a sample's value means
abbrev pub value_of : ℕ → ℤ
value_of sample = number_of (kind_of sample) (sample_value sample)

-- what the counter counted a second, in thousandths; none where it was in no time
abbrev pub rate_of : List ℕ → Option ℕ
rate_of items = thousandths (totals items)

-- that rate, if the instance is fresh; a stale one has none
abbrev pub fresh_rate : Bool → List ℕ → Option ℕ
fresh_rate false items = None
fresh_rate true items = rate_of items

-- ---- cells, which the table and the page have alike
-- the newest value; a dash if there is no sample
abbrev pub value_cell : Option ℕ → List ℕ
value_cell None = codes "-"
value_cell (Some s) = signed_decimal (value_of s)

-- the rate a second; a dash if there is none
abbrev pub rate_cell : Option ℕ → List ℕ
rate_cell None = codes "-"
rate_cell (Some q) = rate_text (Some q) ++ codes "/s"

-- whether an alarm is raised, of those that there are; a dash if there are none
abbrev pub alarm_cell : List Alarm → List ℕ
alarm_cell [] = codes "-"
alarm_cell (a ∷ rest) = if list_any (λ alarm. is_raised alarm.state) (a ∷ rest) then codes "RAISED"
    else codes "clear"

-- an alarm is raised
abbrev pub has_raised : List Alarm → Bool
has_raised alarms = list_any (λ alarm. is_raised alarm.state) alarms

-- what is said of an instance's alarms, if it is fresh; else that it is stale
abbrev pub state_cell : Bool → List Alarm → List ℕ
state_cell false alarms = codes "stale"
state_cell true alarms = alarm_cell alarms

-- in how many rounds an instance had no new sample; a dash where that is not known
abbrev pub age_cell : Option ℕ → List ℕ
age_cell None = codes "-"
age_cell (Some age) = decimal age
