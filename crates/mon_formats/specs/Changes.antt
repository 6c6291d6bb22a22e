-- The line of an alarm that changed: of which device and interface, by which value, and its limit.
use Rattle.std.specs.Prelude.{ℕ, ◌*◌, ◌/◌, ◌%◌, ℤ, pos, negsuc, suc, Bool, true, false, ◌&&◌, ◌==◌}
use Rattle.std.specs.Prelude.{if◌then◌else◌, List, ◌++◌, [], Option, Some, None, codes, decimal}
use Rattle.std.specs.Prelude.{find, option_map, slice_get, string_bytes}
use Rattle.std.specs.Int.Signed.{le_z}
use Rattle.hex.specs.Hex.{encode_lower}
use Rattle.mon_alarms.specs.Observed.{Observation, observations_from}
use Rattle.mon_alarms.specs.Rule.{Rule}
use Rattle.mon_alarms.specs.declared.change.AlarmChange.{AlarmChange}
use Rattle.mon_alarms.specs.declared.change.AlarmEvent.{AlarmEvent}
use Rattle.mon_alarms.specs.declared.change.AlarmEvent.TheVariants.{Raised, Cleared, Lapsed}
use Rattle.mon_board.specs.Board.{window_of}
use Rattle.mon_board.specs.declared.board.Board.{Board}
use Rattle.mon_board.specs.declared.instance.Instance.{Instance}
use Rattle.mon_board.specs.declared.instance.Watched.{Watched}
use Rattle.mon_display.specs.Interface.{column_of}
use Rattle.mon_display.specs.Rate.{rate_text}
use Rattle.mon_display.specs.Naming.{device_text, interface_text}
use Rattle.mon_display.specs.declared.interface.Column.{Column}
use Rattle.mon_display.specs.declared.interface.Column.TheVariants.{InOctets, OutOctets}
use Rattle.mon_display.specs.declared.rate.Unit.TheVariants as unit
use Rattle.mon_formats.specs.Prometheus.{at_first_dot, is_in_numbers}
use Rattle.mon_formats.specs.declared.changes.Measure.{Measure}
use Rattle.mon_formats.specs.declared.changes.Measure.TheVariants.{Bits, Each, Plain}
use Rattle.mon_page.specs.Cells.{newest_of}
use Rattle.mon_page.specs.declared.extras.InstanceLabels.{InstanceLabels}
use Rattle.mon_rates.specs.Part.{is_counter}
use Rattle.mon_sample.specs.Key.{boots_of, kind_of, time_of}
use Rattle.mon_window.specs.Top.{rising}

-- ---- which instance
-- an instance: its engine id in hex digits, and its name
abbrev pub instance_text : (List ℕ → List ℕ) → Instance → List ℕ
instance_text shown i = encode_lower i.engine ++ codes " " ++ shown i.name

-- the device at an address and with a label; its engine id in hex digits if it has neither
abbrev pub device_or : (engine : List ℕ) → (address label : Option (List ℕ)) → List ℕ
device_or engine None None = encode_lower engine
device_or engine address label = device_text address label

-- the device of an instance, by its labels if it has any
abbrev pub device_of : (engine : List ℕ) → Option InstanceLabels → List ℕ
device_of engine None = encode_lower engine
device_of engine (Some l) = device_or engine (option_map string_bytes l.target)
    (option_map string_bytes l.device)

-- the object of a name as it is shown: without its index if it is shown by modules
abbrev pub object_of : List ℕ → List ℕ
object_of name = if is_in_numbers name then name else (at_first_dot name).0

-- an interface of this ifName and ifAlias and the object; the name as it is shown if the ifName is
-- not known
abbrev pub interface_or : (name : List ℕ) → (if_name if_alias : Option (List ℕ)) → List ℕ
interface_or name None if_alias = name
interface_or name (Some if_name) if_alias = interface_text (Some if_name) if_alias ++ codes " "
    ++ object_of name

-- the interface and the object of a name as it is shown, by the labels of its instance if it has
-- any
abbrev pub interface_of : (name : List ℕ) → Option InstanceLabels → List ℕ
interface_of name None = name
interface_of name (Some l) = interface_or name (option_map string_bytes l.if_name)
    (option_map string_bytes l.if_alias)

-- an instance with its labels: its device, and then its interface and object
unfoldable pub subject_text : (List ℕ → List ℕ) → Instance → Option InstanceLabels → List ℕ
subject_text shown i labels = device_of i.engine labels ++ codes " "
    ++ interface_of (shown i.name) labels

-- ---- how much
-- what is behind the point of thousandths in decimal: no zeros at its end, and nothing of a whole
-- number
abbrev pub fraction_text : ℕ → List ℕ
fraction_text n =
    if n % 1000 == 0 then []
    else if n % 100 == 0 then codes "." ++ decimal (n / 100 % 10)
    else if n % 10 == 0 then codes "." ++ decimal (n / 100 % 10) ++ decimal (n / 10 % 10)
    else codes "." ++ decimal (n / 100 % 10) ++ decimal (n / 10 % 10) ++ decimal (n % 10)

-- thousandths as a decimal number
unfoldable pub thousandths_text : ℕ → List ℕ
thousandths_text n = decimal (n / 1000) ++ fraction_text n

-- thousandths as a decimal number with its sign
abbrev pub number_text : ℤ → List ℕ
number_text (pos n) = thousandths_text n
number_text (negsuc n) = codes "-" ++ thousandths_text (suc n)

-- whether a column counts octets
abbrev pub is_octets : Column → Bool
is_octets InOctets = true
is_octets OutOctets = true
is_octets _ = false

-- How values of a column are shown, by the kind of a sample: those of octets' counters in bits, and
-- of others' as rates. Without a sample the column decides.
abbrev pub measure_of : Column → Option ℕ → Measure
measure_of column None = if is_octets column then Bits else Plain
measure_of column (Some x) = if is_counter (kind_of x) then (if is_octets column then Bits
    else Each) else Plain

-- a value in thousandths, a second if it is a counter's: of octets in bits a second
abbrev pub measured : Measure → ℤ → List ℕ
measured Bits (pos n) = rate_text unit.Bits (8 * n)
measured Each (pos n) = rate_text unit.Each n
measured other level = number_text level

-- ---- by which sample
-- whether a sample has this stamp
abbrev pub is_at : (boots time : ℕ) → (sample : ℕ) → Bool
is_at boots time x = (boots_of x == boots) && (time_of x == time)

-- whether an alarm was raised or cleared by an observation: it is at the sample, and at the
-- threshold or beyond it
abbrev pub is_by : Rule → AlarmEvent → Observation → Bool
is_by rule (Raised boots time) o = is_at boots time o.sample && le_z rule.rising o.level
is_by rule (Cleared boots time) o = is_at boots time o.sample && le_z o.level rule.falling
is_by rule Lapsed o = false

-- the value by which an alarm was raised or cleared, if the samples still have it
abbrev pub level_by : Rule → AlarmEvent → List ℕ → Option ℤ
level_by rule event samples = option_map (λ o. o.level) (find (is_by rule event)
    (observations_from None samples))

-- ---- the line
-- what became of an alarm
abbrev pub event_word : AlarmEvent → List ℕ
event_word (Raised boots time) = codes "ALARM raised: "
event_word (Cleared boots time) = codes "ALARM cleared: "
event_word Lapsed = codes "ALARM cleared: "

-- the threshold that was reached
abbrev pub limit_of : Rule → AlarmEvent → ℤ
limit_of rule (Raised boots time) = rule.rising
limit_of rule (Cleared boots time) = rule.falling
limit_of rule Lapsed = rule.falling

-- the boots and time of the sample by which it was, if there is one
abbrev pub event_end : AlarmEvent → List ℕ
event_end (Raised boots time) = codes ", sample " ++ decimal boots ++ codes ":" ++ decimal time
event_end (Cleared boots time) = codes ", sample " ++ decimal boots ++ codes ":" ++ decimal time
event_end Lapsed = codes ", its samples are gone"

-- the value by which it was, if it is known
abbrev pub value_text : Measure → Option ℤ → List ℕ
value_text measure None = []
value_text measure (Some level) = codes " " ++ measured measure level

-- the limit
abbrev pub limit_text : Measure → ℤ → List ℕ
limit_text measure limit = codes " (limit " ++ measured measure limit ++ codes ")"

-- the value by which it was, and its limit
unfoldable pub values_text : Measure → (samples : List ℕ) → Rule → AlarmEvent → List ℕ
values_text measure samples rule event = value_text measure (level_by rule event samples)
    ++ limit_text measure (limit_of rule event)

-- the line of a rule on an instance with these labels and samples
unfoldable pub line_on : (List ℕ → List ℕ) → Instance → Option InstanceLabels → (samples : List ℕ)
    → Rule → AlarmEvent → List ℕ
line_on shown i labels samples rule event =
    event_word event ++ subject_text shown i labels
    ++ values_text (measure_of (column_of i.name) (newest_of samples)) samples rule event
    ++ event_end event

-- the line of a rule on an instance of a watch, if it has that
abbrev pub line_at : (List ℕ → List ℕ) → Option Watched → Option InstanceLabels → (samples : List ℕ)
    → Rule → AlarmEvent → List ℕ
line_at shown None labels samples rule event = []
line_at shown (Some watched) labels samples rule event = line_on shown watched.instance labels
    samples rule event

-- the line of a rule of a board, if it has that
abbrev pub rule_line : (List ℕ → List ℕ) → Board → List InstanceLabels → Option Rule → AlarmEvent
    → List ℕ
rule_line shown board labels None event = []
rule_line shown board labels (Some rule) event = line_at shown
    (slice_get board.watch.instances rule.instance)
    (slice_get labels rule.instance) (rising (window_of board rule.instance)) rule event

-- the line of a change: that of its rule
abbrev pub change_line : (List ℕ → List ℕ) → Board → List InstanceLabels → AlarmChange → List ℕ
change_line shown board labels change = rule_line shown board labels
    (slice_get board.watch.rules change.rule) change.event
