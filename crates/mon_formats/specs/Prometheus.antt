-- A report as Prometheus reads it: in its text exposition format, version 0.0.4, or in OpenMetrics
-- 1.0 (github.com/prometheus/OpenMetrics, specification/OpenMetrics.md). Each metric has a line
-- `# HELP`, a line `# TYPE`, and then its lines together; there are no empty lines. The formats
-- differ in what these two lines call a metric and its type, and in the end. Timestamps, units and
-- exemplars are not written. What a running station says of itself has its number as the label
-- `station`. The series of instances have that label just if a number is given for it: the reports
-- of several stations on the same devices then have no series in common.
use Rattle.std.specs.Prelude.{◌≡◌, ℕ, ℤ, Bool, true, false, not, List, [], ◌∷◌, ◌++◌, Option, Some}
use Rattle.std.specs.Prelude.{◌&&◌, None, codes, decimal, length, ◌==◌, if◌then◌else◌, slice_index}
use Rattle.std.specs.Prelude.{String, string_bytes, take, ◌-◌}
use Rattle.std.specs.Char.{is_ascii_digit}
use Rattle.std.specs.Fmt.{signed_decimal}
use Rattle.std.specs.List.{after_first, before_first, flat_map}
use Rattle.std.specs.Option.{option_map, unwrap_or}
use Rattle.std.specs.Path.{dot, rsplit_once}
use Rattle.hex.specs.Hex.{encode_lower}
use Rattle.mon_sample.specs.Key.{kind_of}
use Rattle.mon_rates.specs.Part.{is_counter}
use Rattle.mon_alarms.specs.Rule.{Rule}
use Rattle.mon_alarms.specs.declared.alarm.AlarmState.{AlarmState}
use Rattle.mon_alarms.specs.declared.alarm.AlarmState.TheVariants.{Clear, Raised}
use Rattle.mon_report.specs.Report.{rate_text}
use Rattle.mon_report.specs.declared.alarms.Alarm.{Alarm as AnAlarm}
use Rattle.mon_page.specs.Freshness.{fresh}
use Rattle.mon_page.specs.Labelled.{Labelled}
use Rattle.mon_page.specs.declared.extras.InstanceLabels.{InstanceLabels}
use Rattle.mon_page.specs.declared.figures.Figures.{Figures}
use Rattle.mon_page.specs.declared.figures.PeerFigures.{PeerFigures}
use Rattle.mon_page.specs.declared.figures.TargetFigures.{TargetFigures}
use Rattle.mon_formats.specs.declared.prometheus.metric.Metric.{Metric}
use Rattle.mon_formats.specs.declared.prometheus.metric.Metric.TheVariants.{Counted, Number}
use Rattle.mon_formats.specs.declared.prometheus.metric.Metric.TheVariants.{Samples, Rate, Alarm}
use Rattle.mon_formats.specs.declared.prometheus.metric.Metric.TheVariants.{Speed}
use Rattle.mon_formats.specs.declared.prometheus.peer.PeerMetric.{PeerMetric}
use Rattle.mon_formats.specs.declared.prometheus.peer.PeerMetric.TheVariants.{PeerUp, LastHeard}
use Rattle.mon_formats.specs.declared.prometheus.station.StationMetric.{StationMetric}
use Rattle.mon_formats.specs.declared.prometheus.station.StationMetric.TheVariants.{
  Info,
  Incarnation,
  Taken,
  GivenUp,
  Debt,
  FailedSaves,
  Strangers,
  Dropped,
  Duration,
  Interval,
  Overruns,
  LastRound,
  Age,
}
use Rattle.mon_formats.specs.declared.prometheus.target.TargetMetric.{TargetMetric}
use Rattle.mon_formats.specs.declared.prometheus.target.TargetMetric.TheVariants.{
  Up,
  Rounds,
  Seconds,
  PollsGivenUp,
  Refusal,
}
use Rattle.mon_formats.specs.declared.prometheus.text.Exposition.{Exposition}
use Rattle.mon_formats.specs.declared.prometheus.text.Exposition.TheVariants.{Prometheus}
use Rattle.mon_formats.specs.declared.prometheus.text.Exposition.TheVariants.{OpenMetrics}
use Rattle.mon_formats.specs.declared.prometheus.text.Kind.{Kind}
use Rattle.mon_formats.specs.declared.prometheus.text.Kind.TheVariants as kinds
use Rattle.mon_page.specs.Cells.{newest_of, value_of, rate_of}

-- a character of a label's value: a backslash, a quote and a line feed have a backslash before them
abbrev pub escaped : ℕ → List ℕ
escaped c = if c == 92 then 92 ∷ 92 ∷ [] else if c == 34 then 92 ∷ 34 ∷ [] else if c == 10
    then 92 ∷ 110 ∷ [] else c ∷ []

-- a character that has none
abbrev pub is_plain : ℕ → Bool
is_plain c = not (c == 92) && (not (c == 34) && not (c == 10))

-- A label's value as a reader of the format takes it, from behind its opening quote up to its
-- closing one, and what follows that: a backslash is before a backslash, a quote, and the n of a
-- line feed; None if it isn't closed.
abbrev pub read_value : List ℕ → Option (List ℕ × List ℕ)
read_value [] = None
read_value (c ∷ []) = if c == 34 then Some ([], []) else None
read_value (c ∷ d ∷ rest) =
    if c == 34 then Some ([], d ∷ rest) else
    (if c == 92 then option_map (λ r. ((if d == 110 then 10 else d) ∷ r.0, r.1)) (read_value rest)
    else
    option_map (λ r. (c ∷ r.0, r.1)) (read_value (d ∷ rest)))

-- a label with its value
unfoldable pub label_text : List ℕ → List ℕ → List ℕ
label_text label value = label ++ codes "=\"" ++ flat_map escaped value ++ codes "\""

-- the end of a metric's line: the closing brace of its labels, and its value
unfoldable pub line_end : List ℕ → List ℕ
line_end value = codes "} " ++ value ++ codes "\n"

-- a metric's line, with its labels, which begin with their opening brace
unfoldable pub metric_line : List ℕ → List ℕ → List ℕ → List ℕ
metric_line metric labels value = metric ++ labels ++ line_end value

-- a line that says something of a metric to Prometheus
unfoldable pub comment_line : List ℕ → List ℕ → List ℕ → List ℕ
comment_line keyword metric content = codes "# " ++ keyword ++ codes " " ++ metric ++ codes " "
    ++ content ++ codes "\n"

-- The word for a type. A metric whose labels say something and whose value is always 1 is an info
-- of OpenMetrics, and a gauge of the text format, which has no infos.
abbrev pub type_word : Exposition → Kind → List ℕ
type_word format kinds.Counter = codes "counter"
type_word format kinds.Gauge = codes "gauge"
type_word Prometheus kinds.Info = codes "gauge"
type_word OpenMetrics kinds.Info = codes "info"

-- how many octets at the end of a sample's name are no part of its family's name: in OpenMetrics
-- the `_total` of a counter and the `_info` of an info (sections "Counter" and "Info")
abbrev pub suffix_length : Exposition → Kind → ℕ
suffix_length Prometheus kind = 0
suffix_length OpenMetrics kinds.Counter = 6
suffix_length OpenMetrics kinds.Info = 5
suffix_length OpenMetrics kinds.Gauge = 0

-- what the lines `# HELP` and `# TYPE` call a metric of this type, whose samples have this name
unfoldable pub family_name : Exposition → Kind → (sample : List ℕ) → List ℕ
family_name format kind sample = take (length sample - suffix_length format kind) sample

-- the suffix that samples of a family of this type have in OpenMetrics
abbrev pub suffix : Kind → List ℕ
suffix kinds.Counter = codes "_total"
suffix kinds.Info = codes "_info"
suffix kinds.Gauge = []

-- the samples of a metric of this type have its family's name and then the suffix
abbrev pub IsNamed : Kind → (sample : List ℕ) → Type 0
IsNamed kind sample = sample ≡ family_name OpenMetrics kind sample ++ suffix kind

-- What a metric is, and of which type. The text of help has neither a backslash nor a quote nor a
-- line feed (mon_formats::laws::helps), so it is the same with the escapes of both formats.
unfoldable pub head_text : Exposition → List ℕ → List ℕ → Kind → List ℕ
head_text format metric help kind =
    comment_line (codes "HELP") (family_name format kind metric) help
    ++ comment_line (codes "TYPE") (family_name format kind metric) (type_word format kind)

-- the end of a text: OpenMetrics has a last line, by which a reader sees that nothing is cut off
abbrev pub end_text : Exposition → List ℕ
end_text Prometheus = []
end_text OpenMetrics = codes "# EOF\n"

-- what a metric is called
abbrev pub name_of : Metric → List ℕ
name_of Counted = codes "snmpmon_counted_total"
name_of Number = codes "snmpmon_number"
name_of Samples = codes "snmpmon_samples"
name_of Rate = codes "snmpmon_rate"
name_of Alarm = codes "snmpmon_alarm"
name_of Speed = codes "snmpmon_interface_speed_bits"

-- what it is, and what to do with it
abbrev pub help_of : Metric → List ℕ
help_of Counted = codes
    "Newest value of a counter. Take rate() of it for other spans than the window of snmpmon_rate."
help_of Number = codes
    "Newest value of what may fall: an integer, a gauge or a time. Compare it as it is, without rate()."
help_of Samples = codes "Samples that the window of an instance holds. A rate needs at least two."
help_of Rate = codes
    "What a counter counted a second over its window. Multiply a rate of octets by 8 for bits a second."
help_of Alarm = codes
    "1 where the alarm of a rule is raised: alert on it. Thresholds are in thousandths."
help_of Speed = codes
    "Speed of an interface in bits a second. Divide 8 * snmpmon_rate of octets by it for the part in use."

-- its type
abbrev pub type_of : Metric → Kind
type_of Counted = kinds.Counter
type_of Number = kinds.Gauge
type_of Samples = kinds.Gauge
type_of Rate = kinds.Gauge
type_of Alarm = kinds.Gauge
type_of Speed = kinds.Gauge

-- one more label with its value
unfoldable pub more_label : List ℕ → List ℕ → List ℕ
more_label label value = codes "," ++ label_text label value

-- the name of an instance, as it is shown, is in numbers
abbrev pub is_in_numbers : List ℕ → Bool
is_in_numbers name = is_ascii_digit (slice_index name 0)

-- the object and the index of a name by modules: before and behind its first dot; all of it and
-- nothing, where it has no dot
unfoldable pub at_first_dot : List ℕ → List ℕ × List ℕ
at_first_dot name = (before_first (λ c. c == dot) name, after_first (λ c. c == dot) name)

-- those of a name in numbers: before and behind its last dot
unfoldable pub at_last_dot : List ℕ → List ℕ × List ℕ
at_last_dot name = unwrap_or (rsplit_once dot name) (name, [])

-- the object and the index of an instance, from its name as it is shown
abbrev pub object_and_index : List ℕ → List ℕ × List ℕ
object_and_index name = if is_in_numbers name then at_last_dot name else at_first_dot name

-- the labels of an object and an index
unfoldable pub object_labels : List ℕ × List ℕ → List ℕ
object_labels parts = more_label (codes "object") parts.0 ++ more_label (codes "index") parts.1

-- one more label, where there is a value
abbrev pub label_if : {A : Type 0} → List ℕ → Option (String A) → List ℕ
label_if label None = []
label_if label (Some value) = more_label label (string_bytes value)

-- the labels that are given for an instance: its target's address and label, and its interface's
-- ifName and ifAlias
unfoldable pub joined_labels : InstanceLabels → List ℕ
joined_labels l =
    label_if (codes "target") l.target ++ label_if (codes "device") l.device
    ++ label_if (codes "ifName") l.if_name
    ++ label_if (codes "ifAlias") l.if_alias

-- those labels, where any are given
abbrev pub given_labels : Option InstanceLabels → List ℕ
given_labels None = []
given_labels (Some l) = joined_labels l

-- the number of a station as the first label
unfoldable pub station_label : (station : ℕ) → List ℕ
station_label station = codes "{" ++ label_text (codes "station") (decimal station)

-- what the labels of an instance begin with: the number of the station, if it is given
abbrev pub before_labels : (station : Option ℕ) → List ℕ
before_labels None = codes "{"
before_labels (Some station) = station_label station ++ codes ","

-- the labels of an instance: the number of the station, if it is given; its engine id in hex
-- digits, its name as it is shown, its object and index, and what is given for it
unfoldable pub instance_labels : (station : Option ℕ) → (shown : List ℕ → List ℕ) → Labelled
    → List ℕ
instance_labels station shown i =
    before_labels station ++ label_text (codes "engine") (encode_lower i.0.engine)
    ++ more_label (codes "name") (shown i.0.name)
    ++ object_labels (object_and_index (shown i.0.name)) ++ given_labels i.1

-- a threshold as one more label
unfoldable pub threshold_text : List ℕ → ℤ → List ℕ
threshold_text label threshold = codes "," ++ label_text label (signed_decimal threshold)

-- the labels of an alarm: those of its instance, and the thresholds in thousandths
unfoldable pub alarm_labels : List ℕ → Rule → List ℕ
alarm_labels labels rule = labels ++ threshold_text (codes "rising") rule.rising
    ++ threshold_text (codes "falling") rule.falling

-- the line of a sample's value
abbrev pub sample_line : Metric → List ℕ → ℕ → List ℕ
sample_line metric labels s = metric_line (name_of metric) labels (signed_decimal (value_of s))

-- the newest value, if it is a counter's
abbrev pub counted_line : List ℕ → Option ℕ → List ℕ
counted_line labels None = []
counted_line labels (Some s) = if is_counter (kind_of s) then sample_line Counted labels s else []

-- the newest value, if it is no counter's
abbrev pub number_line : List ℕ → Option ℕ → List ℕ
number_line labels None = []
number_line labels (Some s) = if is_counter (kind_of s) then [] else sample_line Number labels s

-- how many samples the window holds
abbrev pub samples_line : List ℕ → List ℕ → List ℕ
samples_line labels items = metric_line (name_of Samples) labels (decimal (length items))

-- the rate, where there is one
abbrev pub rate_line : List ℕ → Option ℕ → List ℕ
rate_line labels None = []
rate_line labels (Some q) = metric_line (name_of Rate) labels (rate_text (Some q))

-- 1 where an alarm is raised, 0 where it is clear
abbrev pub state_number : AlarmState → ℕ
state_number Clear = 0
state_number (Raised boots time) = 1

-- the state of a rule's alarm
abbrev pub alarm_line : List ℕ → AnAlarm → List ℕ
alarm_line labels alarm = metric_line (name_of Alarm) (alarm_labels labels alarm.rule)
    (decimal (state_number alarm.state))

-- the speed of an instance's interface in bits a second, if the labels that are given for it have
-- one
abbrev pub speed_of : Option InstanceLabels → Option ℕ
speed_of None = None
speed_of (Some l) = l.speed

-- that speed
abbrev pub speed_line : List ℕ → Option ℕ → List ℕ
speed_line labels None = []
speed_line labels (Some bits) = metric_line (name_of Speed) labels (decimal bits)

-- the lines of a metric for an instance with these labels
abbrev pub lines_of : Metric → List ℕ → Labelled → List ℕ
lines_of Counted labels i = counted_line labels (newest_of i.0.items)
lines_of Number labels i = number_line labels (newest_of i.0.items)
lines_of Samples labels i = samples_line labels i.0.items
lines_of Rate labels i = rate_line labels (rate_of i.0.items)
lines_of Alarm labels i = flat_map (alarm_line labels) i.0.alarms
lines_of Speed labels i = speed_line labels (speed_of i.1)

-- the lines of a metric for an instance whose labels a function has
abbrev pub entry_lines : Metric → (Labelled → List ℕ) → Labelled → List ℕ
entry_lines metric labels i = lines_of metric (labels i) i

-- a metric: what it is, and its lines of all instances
unfoldable pub metric_text : Exposition → Metric → (Labelled → List ℕ) → List Labelled → List ℕ
metric_text format metric labels instances =
    head_text format (name_of metric) (help_of metric) (type_of metric)
    ++ flat_map (entry_lines metric labels) instances

-- all lines of the instances, metric by metric: of each how many samples it has and how fast its
-- interface is, and the values, rates and alarms of some
unfoldable pub instances_text : Exposition → (Labelled → List ℕ) → (all some : List Labelled)
    → List ℕ
instances_text format labels all some =
    metric_text format Counted labels some ++ metric_text format Number labels some
    ++ metric_text format Samples labels all
    ++ metric_text format Rate labels some ++ metric_text format Alarm labels some
    ++ metric_text format Speed labels all

-- ---- the station itself
-- what a metric of the station itself is called
abbrev pub station_name : StationMetric → List ℕ
station_name Info = codes "snmpmon_info"
station_name Incarnation = codes "snmpmon_incarnation"
station_name Taken = codes "snmpmon_samples_taken_total"
station_name GivenUp = codes "snmpmon_polls_given_up_total"
station_name Debt = codes "snmpmon_debt"
station_name FailedSaves = codes "snmpmon_saves_failed_total"
station_name Strangers = codes "snmpmon_strangers_total"
station_name Dropped = codes "snmpmon_notifications_dropped_total"
station_name Duration = codes "snmpmon_round_duration_seconds"
station_name Interval = codes "snmpmon_round_interval_seconds"
station_name Overruns = codes "snmpmon_rounds_overrun_total"
station_name LastRound = codes "snmpmon_last_round_timestamp_seconds"
station_name Age = codes "snmpmon_sample_age_rounds"

-- what it is, and what to do with it
abbrev pub station_help : StationMetric → List ℕ
station_help Info = codes "The program's version and the station's number. Its value is always 1."
station_help Incarnation = codes
    "How often the station was started over its file. It rises by one at each restart."
station_help Taken = codes
    "Samples that the station took since it began. Look at snmpmon_target_up where it no longer rises."
station_help GivenUp = codes
    "Polls that the station gave up since it began. Look at snmpmon_target_up where it rises."
station_help Debt = codes
    "Samples that the station owes a peer. Look at that peer and the way to it where it goes on rising."
station_help FailedSaves = codes
    "Saves that failed since the station began. Look at its disk and the rights of its file where it rises."
station_help Strangers = codes
    "Datagrams since the station began from an address of no target and no peer. Find the sender where it rises."
station_help Dropped = codes
    "Notifications that the station could not deliver and dropped since it began. Look at the receiver of --notify where it rises."
station_help Duration = codes
    "How long the last round took. Rounds begin late where it exceeds snmpmon_round_interval_seconds."
station_help Interval = codes
    "Seconds between the beginnings of two rounds, at least. 0 where rounds follow one another."
station_help Overruns = codes
    "Rounds since the station began that took longer than the interval. Lower tries and wait_ms where it rises."
station_help LastRound = codes
    "When the last round ended, in seconds since 1970. Look at the station where it is long before time()."
station_help Age = codes
    "Rounds since an instance had a new sample, or since the station began. It is stale from --stale-after on."

-- its type
abbrev pub station_type : StationMetric → Kind
station_type Info = kinds.Info
station_type Incarnation = kinds.Gauge
station_type Taken = kinds.Counter
station_type GivenUp = kinds.Counter
station_type Debt = kinds.Gauge
station_type FailedSaves = kinds.Counter
station_type Strangers = kinds.Counter
station_type Dropped = kinds.Counter
station_type Duration = kinds.Gauge
station_type Interval = kinds.Gauge
station_type Overruns = kinds.Counter
station_type LastRound = kinds.Gauge
station_type Age = kinds.Gauge

-- the first two lines of a metric of the station
abbrev pub station_head : Exposition → StationMetric → List ℕ
station_head format metric = head_text format (station_name metric) (station_help metric)
    (station_type metric)

-- the line of a metric that has no label but the station's number
abbrev pub station_line : (station : ℕ) → StationMetric → List ℕ → List ℕ
station_line station metric value = metric_line (station_name metric) (station_label station) value

-- a metric of that line
unfoldable pub plain_metric : Exposition → (station : ℕ) → StationMetric → ℕ → List ℕ
plain_metric format station metric value = station_head format metric
    ++ station_line station metric (decimal value)

-- the program's version
abbrev pub version : List ℕ
version = codes "0.1.0"

-- which program and which station it is: the version is one more label
unfoldable pub info_text : Exposition → (station : ℕ) → List ℕ
info_text format station = station_head format Info ++ metric_line (station_name Info)
    (station_label station ++ more_label (codes "version") version) (decimal 1)

-- how many notifications the station dropped; nothing where it sends none
abbrev pub dropped_if : Exposition → (station : ℕ) → Option ℕ → List ℕ
dropped_if format station None = []
dropped_if format station (Some dropped) = plain_metric format station Dropped dropped

-- how long the last round took: milliseconds, written as seconds with three digits after the point
unfoldable pub duration_text : Exposition → (station milliseconds : ℕ) → List ℕ
duration_text format station milliseconds = station_head format Duration
    ++ station_line station Duration (rate_text (Some milliseconds))

-- when the last round ended, in seconds since 1970; nothing before the end of the first one
abbrev pub last_round_if : Exposition → (station : ℕ) → Option ℕ → List ℕ
last_round_if format station None = []
last_round_if format station (Some seconds) = plain_metric format station LastRound seconds

-- what a station says of its rounds: how long the last one took, how long one may take, how many
-- took longer, and when the last one ended
unfoldable pub rounds_text : Exposition → Figures → List ℕ
rounds_text format f =
    duration_text format f.station f.round_ms ++ plain_metric format f.station Interval f.interval
    ++ plain_metric format f.station Overruns f.overruns ++ last_round_if format f.station
    f.round_at

-- ---- peers
-- the labels of a peer: the station's number, and the peer's
unfoldable pub peer_labels : (station peer : ℕ) → List ℕ
peer_labels station peer = station_label station ++ more_label (codes "peer") (decimal peer)

-- how many samples the station owes a peer, by the peer's number
abbrev pub debt_line : (station : ℕ) → ℕ × ℕ → List ℕ
debt_line station d = metric_line (station_name Debt) (peer_labels station d.0) (decimal d.1)

-- the debts to all peers
unfoldable pub debts_text : Exposition → (station : ℕ) → List (ℕ × ℕ) → List ℕ
debts_text format station debts = station_head format Debt ++ flat_map (debt_line station) debts

-- 1 for true, 0 for false
abbrev pub one_if : Bool → ℕ
one_if true = 1
one_if false = 0

-- what a metric of a peer is called
abbrev pub peer_name : PeerMetric → List ℕ
peer_name PeerUp = codes "snmpmon_peer_up"
peer_name LastHeard = codes "snmpmon_peer_last_heard_rounds"

-- what it is, and what to do with it
abbrev pub peer_help : PeerMetric → List ℕ
peer_help PeerUp = codes
    "1 where a peer was heard within the rounds of --stale-after. Look at that station where it is 0."
peer_help LastHeard = codes
    "Whole rounds since a datagram came from a peer, or since the station began. Look at that peer where it rises."

-- the first two lines of a metric of peers: its value may fall
abbrev pub peer_head : Exposition → PeerMetric → List ℕ
peer_head format metric = head_text format (peer_name metric) (peer_help metric) kinds.Gauge

-- what a metric says of a peer
abbrev pub peer_value : PeerMetric → PeerFigures → ℕ
peer_value PeerUp p = one_if (not p.silent)
peer_value LastHeard p = p.rounds

-- the line of a metric for a peer
abbrev pub peer_line : (station : ℕ) → PeerMetric → PeerFigures → List ℕ
peer_line station metric p = metric_line (peer_name metric) (peer_labels station p.station)
    (decimal (peer_value metric p))

-- a metric with a line for each peer
unfoldable pub peer_metric : Exposition → (station : ℕ) → PeerMetric → List PeerFigures → List ℕ
peer_metric format station metric peers = peer_head format metric
    ++ flat_map (peer_line station metric) peers

-- what a station says of its peers, metric by metric
unfoldable pub peers_text : Exposition → (station : ℕ) → List PeerFigures → List ℕ
peers_text format station peers = peer_metric format station PeerUp peers
    ++ peer_metric format station LastHeard peers

-- ---- targets
-- what a metric of a target is called
abbrev pub target_name : TargetMetric → List ℕ
target_name Up = codes "snmpmon_target_up"
target_name Rounds = codes "snmpmon_target_answer_age_rounds"
target_name Seconds = codes "snmpmon_target_answer_age_seconds"
target_name PollsGivenUp = codes "snmpmon_target_polls_given_up_total"
target_name Refusal = codes "snmpmon_target_refusal_info"

-- what it is, and what to do with it
abbrev pub target_help : TargetMetric → List ℕ
target_help Up = codes
    "1 where the last poll of a target was answered. Look at the device or the way to it where it is 0."
target_help Rounds = codes
    "Rounds since a target answered, or since the station began. Look at the device where it rises."
target_help Seconds = codes
    "Seconds since a target answered, or since the station began. Alert where it exceeds some rounds."
target_help PollsGivenUp = codes
    "Polls of a target that the station gave up since it began. Datagrams get lost where it rises and it is up."
target_help Refusal = codes
    "Why the last response of a target was refused, until it answers. Its label reason says what to correct."

-- its type
abbrev pub target_type : TargetMetric → Kind
target_type Up = kinds.Gauge
target_type Rounds = kinds.Gauge
target_type Seconds = kinds.Gauge
target_type PollsGivenUp = kinds.Counter
target_type Refusal = kinds.Info

-- the first two lines of a metric of targets
abbrev pub target_head : Exposition → TargetMetric → List ℕ
target_head format metric = head_text format (target_name metric) (target_help metric)
    (target_type metric)

-- the labels of a target: the station's number, where the target's agent is reached, its number,
-- which keeps targets at one address apart, and its engine id in hex digits
unfoldable pub target_labels : (station : ℕ) → TargetFigures → List ℕ
target_labels station t =
    station_label station ++ more_label (codes "target") (string_bytes t.address)
    ++ more_label (codes "number") (decimal t.number)
    ++ more_label (codes "engine") (encode_lower t.engine.items)

-- what a metric says of a target
abbrev pub target_value : TargetMetric → TargetFigures → ℕ
target_value Up t = one_if t.up
target_value Rounds t = t.rounds
target_value Seconds t = t.seconds
target_value PollsGivenUp t = t.given_up
target_value Refusal t = 1

-- the line of a metric for a target
abbrev pub target_line : (station : ℕ) → TargetMetric → TargetFigures → List ℕ
target_line station metric t = metric_line (target_name metric) (target_labels station t)
    (decimal (target_value metric t))

-- a metric with a line for each target
unfoldable pub target_metric : Exposition → (station : ℕ) → TargetMetric → List TargetFigures
    → List ℕ
target_metric format station metric targets = target_head format metric
    ++ flat_map (target_line station metric) targets

-- why a target's last response was refused, as one more label of a line
unfoldable pub reason_line : {A : Type 0} → (station : ℕ) → TargetFigures → String A → List ℕ
reason_line station t reason =
    metric_line (target_name Refusal) (target_labels station t
    ++ more_label (codes "reason") (string_bytes reason)) (decimal 1)

-- that line, where there is a reason
abbrev pub reason_if : {A : Type 0} → (station : ℕ) → TargetFigures → Option (String A) → List ℕ
reason_if station t None = []
reason_if station t (Some reason) = reason_line station t reason

-- the refusals of all targets that have one
unfoldable pub refusals_text : Exposition → (station : ℕ) → List TargetFigures → List ℕ
refusals_text format station targets = target_head format Refusal
    ++ flat_map (λ t. reason_if station t t.refusal) targets

-- what a station says of its targets, metric by metric
unfoldable pub targets_text : Exposition → (station : ℕ) → List TargetFigures → List ℕ
targets_text format station targets =
    target_metric format station Up targets ++ target_metric format station Rounds targets
    ++ target_metric format station Seconds targets ++ target_metric format station PollsGivenUp
    targets
    ++ refusals_text format station targets

-- what a station says of itself since its start, by its number: the program's version and its
-- incarnation, how many samples it took and how many polls it gave up, by the number of each peer
-- how many samples it owes that peer and when its last datagram came, how many saves failed, how
-- many datagrams strangers sent, how many notifications it dropped, if it sends any, and what it
-- says of its rounds and of each target
unfoldable pub station_text : Exposition → Figures → List ℕ
station_text format f =
    info_text format f.station ++ plain_metric format f.station Incarnation f.incarnation
    ++ plain_metric format f.station Taken f.taken
    ++ plain_metric format f.station GivenUp f.given_up ++ debts_text format f.station f.debts.items
    ++ peers_text format f.station f.peers.items ++ plain_metric format f.station FailedSaves
    f.failed_saves
    ++ plain_metric format f.station Strangers f.strangers
    ++ dropped_if format f.station f.notifications_dropped ++ rounds_text format f
    ++ targets_text format f.station f.targets.items

-- ---- ages of instances
-- the line of an instance that had no new sample in this many rounds
abbrev pub age_line : (Labelled → List ℕ) → Labelled → ℕ → List ℕ
age_line labels i age = metric_line (station_name Age) (labels i) (decimal age)

-- the lines of instances with these ages, for as many as have one
abbrev pub age_lines : (Labelled → List ℕ) → List ℕ → List Labelled → List ℕ
age_lines labels [] is = []
age_lines labels (age ∷ ages) [] = []
age_lines labels (age ∷ ages) (i ∷ is) = age_line labels i age ++ age_lines labels ages is

-- the ages of all instances
unfoldable pub ages_text : Exposition → (Labelled → List ℕ) → List ℕ → List Labelled → List ℕ
ages_text format labels ages instances = station_head format Age ++ age_lines labels ages instances

-- the instances whose values are reported: of a running station those that are fresh, else all
abbrev pub fresh_by : Option Figures → List Labelled → List Labelled
fresh_by None instances = instances
fresh_by (Some f) instances = fresh f.stale_after f.ages.items instances

-- nothing if there is no station
abbrev pub station_text_if : Exposition → (Labelled → List ℕ) → List Labelled → Option Figures
    → List ℕ
station_text_if format labels instances None = []
station_text_if format labels instances (Some f) = station_text format f
    ++ ages_text format labels f.ages.items instances

-- The instances by their labels, metric by metric, and then the station, if there is one. Values,
-- rates and alarms are those of fresh instances: so Prometheus marks what is left out as stale by
-- itself.
abbrev pub report_by : Exposition → (Labelled → List ℕ) → List Labelled → Option Figures → List ℕ
report_by format labels instances figures =
    instances_text format labels instances (fresh_by figures instances)
    ++ station_text_if format labels instances figures

-- that report and the end, with the number that each series of an instance has as its label
-- `station`, if it is given
unfoldable pub prometheus_report : Exposition → (station : Option ℕ) → (shown : List ℕ → List ℕ)
    → List Labelled → Option Figures
    → List ℕ
prometheus_report format station shown instances figures =
    report_by format (instance_labels station shown) instances figures ++ end_text format
