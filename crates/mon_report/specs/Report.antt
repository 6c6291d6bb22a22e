-- The text of a report: for each watched instance a line, and a last line that counts.
use Rattle.std.specs.Prelude.{ℕ, ◌+◌, ◌/◌, ◌%◌, List, [], ◌∷◌, ◌++◌, Option, Some, None, codes}
use Rattle.std.specs.Prelude.{decimal, length, filter, sum_by, get_or, slice_get, if◌then◌else◌}
use Rattle.std.specs.Prelude.{◌==◌}
use Rattle.std.specs.Fmt.{signed_decimal}
use Rattle.std.specs.List.{flat_map}
use Rattle.hex.specs.Hex.{encode_lower}
use Rattle.mon_oid.specs.Oid.{dotted}
use Rattle.mon_sample.specs.Kind.{kind_name, number_of}
use Rattle.mon_sample.specs.Key.{boots_of, time_of, kind_of, sample_value}
use Rattle.mon_window.specs.Top.{rising}
use Rattle.mon_window.specs.Window.{Samples}
use Rattle.mon_rates.specs.declared.totals.Totals.{Totals}
use Rattle.mon_rates.specs.Totals.{totals, thousandths}
use Rattle.mon_alarms.specs.declared.alarm.AlarmState.{AlarmState}
use Rattle.mon_alarms.specs.declared.alarm.AlarmState.TheVariants.{Clear, Raised}
use Rattle.mon_alarms.specs.Rule.{Rule}
use Rattle.mon_alarms.specs.Observed.{state_by}
use Rattle.mon_board.specs.declared.instance.Watched.{Watched}
use Rattle.mon_board.specs.Watch.{Watch}
use Rattle.mon_report.specs.declared.alarms.Alarm.{Alarm}

-- what a report says of an instance: its engine's octets, its name, its samples from the oldest on,
-- the rules on it, and their alarms
pub record Entry : Type 0 where
  pub engine : List ℕ
  pub name : List ℕ
  pub items : List ℕ
  pub rules : List Rule
  pub alarms : List Alarm

-- a dot and a sub-identifier, as they follow the first one in a name
abbrev pub dot_text : ℕ → List ℕ
dot_text part = codes "." ++ decimal part

-- a stamp: boots and time
abbrev pub stamp_text : ℕ → ℕ → List ℕ
stamp_text boots time = decimal boots ++ codes ":" ++ decimal time

-- the stamps of two samples
abbrev pub stamps_text : ℕ → ℕ → List ℕ
stamps_text oldest newest = stamp_text (boots_of oldest) (time_of oldest) ++ codes ".."
    ++ stamp_text (boots_of newest) (time_of newest)

-- a sample's kind and number
abbrev pub value_text : ℕ → List ℕ
value_text sample = kind_name (kind_of sample) ++ codes "=" ++ signed_decimal
    (number_of (kind_of sample) (sample_value sample))

-- a rate in thousandths, with three digits after the point
abbrev pub rate_text : Option ℕ → List ℕ
rate_text None = codes "none"
rate_text (Some q) = decimal (q / 1000) ++ codes "." ++ (48 + q / 100 % 10) ∷ (48 + q / 10 % 10)
    ∷ (48 + q % 10) ∷ []

-- how much the counter counted, in how many seconds, and the rate
unfoldable pub totals_text : Totals → List ℕ
totals_text t = codes " delta=" ++ decimal t.delta ++ codes " span=" ++ decimal t.span
    ++ codes " rate=" ++ rate_text (thousandths t)

-- the last of some samples, of which this is the first
abbrev pub newest : ℕ → List ℕ → ℕ
newest first rest = get_or (first ∷ rest) (length rest) first

-- how many samples there are; then the oldest and the newest stamp, the newest sample's value, and
-- the totals
unfoldable pub window_text : List ℕ → List ℕ
window_text [] = codes " n=0"
window_text (first ∷ rest) =
    codes " n=" ++ decimal (length (first ∷ rest)) ++ codes " "
    ++ stamps_text first (newest first rest) ++ codes " " ++ value_text (newest first rest)
    ++ totals_text (totals (first ∷ rest))

-- an alarm's state: clear, or raised at a stamp
abbrev pub state_text : AlarmState → List ℕ
state_text Clear = codes "clear"
state_text (Raised boots time) = codes "raised@" ++ stamp_text boots time

-- a rule with its thresholds, and its state over these samples
unfoldable pub alarm_text : List ℕ → Rule → List ℕ
alarm_text items rule =
    codes " alarm " ++ signed_decimal rule.rising ++ codes "/" ++ signed_decimal rule.falling
    ++ codes "=" ++ state_text (state_by rule items)

-- what follows the name in an instance's line: the window and the alarms
unfoldable pub entry_rest : Entry → List ℕ
entry_rest e = window_text e.items ++ flat_map (alarm_text e.items) e.rules ++ codes "\n"

-- an instance's line: the engine id in hex digits, the name, the window and the alarms
unfoldable pub entry_line : Entry → List ℕ
entry_line e = encode_lower e.engine ++ codes " " ++ dotted e.name ++ entry_rest e

-- the last line: how many instances and samples there are
unfoldable pub end_line : ℕ → ℕ → List ℕ
end_line instances samples = codes "end " ++ decimal instances ++ codes " instances "
    ++ decimal samples ++ codes " samples\n"

-- how many samples some instances have
abbrev pub samples_in : List Entry → ℕ
samples_in entries = sum_by (λ e. length e.items) entries

-- the report of some instances, in this order
unfoldable pub report_of : List Entry → List ℕ
report_of entries = flat_map entry_line entries ++ end_line (length entries) (samples_in entries)

-- the rules on the instance of this number
abbrev pub rules_on : ℕ → List Rule → List Rule
rules_on i rules = filter (λ r. r.instance == i) rules

-- the alarm of a rule: its state that was announced, or, where none was, its state over these
-- samples
abbrev pub alarm_of : List ℕ → Rule → Option AlarmState → Alarm
alarm_of items rule None = record { rule = rule; state = state_by rule items }
alarm_of items rule (Some state) = record { rule = rule; state = state }

-- the alarms of those of these rules that are on the instance of this number, by the states that
-- were announced; the first rule has this place
abbrev pub alarms_from : List AlarmState → ℕ → List ℕ → ℕ → List Rule → List Alarm
alarms_from states i items place [] = []
alarms_from states i items place (r ∷ rules) =
    if r.instance == i then alarm_of items r (slice_get states place)
    ∷ alarms_from states i items (place + 1) rules else alarms_from states i items (place + 1)
    rules

-- what a report says of the instance of this number, by the states of these rules that were
-- announced
abbrev pub announced_entry : List AlarmState → List Rule → (ℕ → Samples) → ℕ → Watched → Entry
announced_entry states rules windows i w =
    record {
      engine = w.instance.engine;
      name = w.instance.name;
      items = rising (windows i);
      rules = rules_on i rules;
      alarms = alarms_from states i (rising (windows i)) 0 rules;
    }

-- of each of these instances, which have the numbers from this one on
abbrev pub announced_from : List AlarmState → List Rule → (ℕ → Samples) → ℕ → List Watched
    → List Entry
announced_from states rules windows i [] = []
announced_from states rules windows i (w ∷ ws) = announced_entry states rules windows i w
    ∷ announced_from states rules windows (i + 1) ws

-- what a report says of the instance of this number, by the states over its samples
abbrev pub entry_of : List Rule → (ℕ → Samples) → ℕ → Watched → Entry
entry_of rules windows i w = announced_entry [] rules windows i w

-- of each of these instances, which have the numbers from this one on
abbrev pub entries_from : List Rule → (ℕ → Samples) → ℕ → List Watched → List Entry
entries_from rules windows i ws = announced_from [] rules windows i ws

-- the report of a watch and a window for each of its instances; nothing else is an argument
abbrev pub report : Watch → (ℕ → Samples) → List ℕ
report watch windows = report_of (entries_from watch.rules windows 0 watch.instances)
