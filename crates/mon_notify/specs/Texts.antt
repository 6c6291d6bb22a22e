-- The texts of what became of a board's alarms, and of devices.
use Rattle.std.specs.Prelude.{ℕ, Bool, false, true, List, [], Option, Some, None, decimal}
use Rattle.std.specs.Prelude.{option_map}
use Rattle.std.specs.Prelude.{option_and_then, slice_get, string_bytes}
use Rattle.std.specs.Fmt.{signed_decimal}
use Rattle.std.specs.List.{find}
use Rattle.std.specs.Str.{bytes_eq}
use Rattle.hex.specs.Hex.{encode_lower}
use Rattle.httpdate.specs.declared.date.HttpDate.{HttpDate as Date}
use Rattle.mon_alarms.specs.Rule.{Rule}
use Rattle.mon_alarms.specs.declared.change.AlarmChange.{AlarmChange}
use Rattle.mon_alarms.specs.declared.change.AlarmEvent.{AlarmEvent}
use Rattle.mon_alarms.specs.declared.change.AlarmEvent.TheVariants.{Raised, Cleared, Lapsed}
use Rattle.mon_board.specs.Board.{Board}
use Rattle.mon_board.specs.declared.instance.Instance.{Instance}
use Rattle.mon_board.specs.declared.instance.Watched.{Watched}
use Rattle.mon_notify.specs.Labels.{AlarmWords, alarm_pairs, device_pairs}
use Rattle.mon_notify.specs.Webhook.{text_of}
use Rattle.mon_notify.specs.declared.alarms.Texts.{Texts}
use Rattle.mon_page.specs.declared.extras.InstanceLabels.{InstanceLabels}
use Rattle.mon_udp.specs.Addr.{addr_text}
use Rattle.mon_udp.specs.declared.addr.Addr.{Addr}

-- ---- the labels of an instance
-- the label of its device, if it is known
abbrev pub device_of : Option InstanceLabels → Option (List ℕ)
device_of labels = option_and_then (λ l. option_map string_bytes l.device) labels

-- the address of its target, if it is known
abbrev pub target_of : Option InstanceLabels → Option (List ℕ)
target_of labels = option_and_then (λ l. option_map string_bytes l.target) labels

-- the ifName of its interface, if it is known
abbrev pub if_name_of : Option InstanceLabels → Option (List ℕ)
if_name_of labels = option_and_then (λ l. option_map string_bytes l.if_name) labels

-- the ifAlias of its interface, if it is known
abbrev pub if_alias_of : Option InstanceLabels → Option (List ℕ)
if_alias_of labels = option_and_then (λ l. option_map string_bytes l.if_alias) labels

-- ---- alarms
-- Which alarm it is: the engine id and the name of its instance, its thresholds in thousandths, and
-- the number of the station. No sample changes it.
pub record Identity : Type 0 where
  pub engine : List ℕ
  pub name : List ℕ
  pub rising : List ℕ
  pub falling : List ℕ
  pub station : List ℕ

-- that of a rule on an instance
abbrev pub identity_of : (List ℕ → List ℕ) → Instance → Rule → (station : ℕ) → Identity
identity_of shown i rule station = record {
  engine = encode_lower i.engine;
  name = shown i.name;
  rising = signed_decimal rule.rising;
  falling = signed_decimal rule.falling;
  station = decimal station;
}

-- that of these texts
abbrev pub identity : Texts → Identity
identity t = record {
  engine = string_bytes t.engine;
  name = string_bytes t.name;
  rising = string_bytes t.rising;
  falling = string_bytes t.falling;
  station = string_bytes t.station;
}

-- what is said of an alarm whose instance has these labels
abbrev pub words_by : Identity → Option InstanceLabels → AlarmWords
words_by which labels = record {
  engine = which.engine;
  name = which.name;
  device = device_of labels;
  target = target_of labels;
  if_name = if_name_of labels;
  if_alias = if_alias_of labels;
  rising = which.rising;
  falling = which.falling;
  station = which.station;
}

-- when an alarm ended that changed at this date, if it did
abbrev pub end_of : AlarmEvent → Date → Option Date
end_of (Raised boots time) date = None
end_of (Cleared boots time) date = Some date
end_of Lapsed date = Some date

-- the text of what became of the alarm of a rule on an instance with these labels
unfoldable pub instance_text : (List ℕ → List ℕ) → Instance → Option InstanceLabels → Rule
    → (station : ℕ) → (summary : List ℕ) → Date → Option Date → List ℕ
instance_text shown instance labels rule station summary starts_at ends_at =
    text_of (alarm_pairs (words_by (identity_of shown instance rule station) labels)) summary
    starts_at ends_at

-- the text of what became of a rule's alarm, if the watch has the rule's instance
abbrev pub text_at : (List ℕ → List ℕ) → Option Watched → Option InstanceLabels → Rule
    → (station : ℕ) → (summary : List ℕ) → Date → Option Date → List ℕ
text_at shown None labels rule station summary starts_at ends_at = []
text_at shown (Some watched) labels rule station summary starts_at ends_at =
    instance_text shown watched.instance labels rule station summary starts_at ends_at

-- the text of what became of a rule's alarm, if the watch has the rule and its instance
abbrev pub rule_text : (List ℕ → List ℕ) → Board → List InstanceLabels → Option Rule
    → (station : ℕ) → (summary : List ℕ) → Date → Option Date → List ℕ
rule_text shown board labels None station summary starts_at ends_at = []
rule_text shown board labels (Some rule) station summary starts_at ends_at = text_at shown
    (slice_get board.watch.instances rule.instance) (slice_get labels rule.instance) rule station
    summary starts_at ends_at

-- the text of a change of an alarm at this date, with the labels of the board's instances
abbrev pub alarm_text : (List ℕ → List ℕ) → Board → List InstanceLabels → (station : ℕ)
    → (summary : List ℕ) → Date → AlarmChange → List ℕ
alarm_text shown board labels station summary date change = rule_text shown board labels
    (slice_get board.watch.rules change.rule) station summary date (end_of change.event date)

-- ---- devices
-- whether a text is this address
abbrev pub is_address : List ℕ → Option (List ℕ) → Bool
is_address address None = false
is_address address (Some target) = bytes_eq target address

-- whether labels have this address as that of their target
abbrev pub has_address : List ℕ → InstanceLabels → Bool
has_address address labels = is_address address (option_map string_bytes labels.target)

-- the device at an address: that of the first instance whose target it is
abbrev pub device_at : List ℕ → List InstanceLabels → Option (List ℕ)
device_at address labels = device_of (find (has_address address) labels)

-- when it ended that a device was down, if the device is not down at this date
abbrev pub end_if_up : (is_down : Bool) → Date → Option Date
end_if_up true date = None
end_if_up false date = Some date

-- the text of a change of the device at a target, with the labels of a board's instances
abbrev pub device_text : List InstanceLabels → (station : ℕ) → (summary : List ℕ) → Date
    → (target : Addr) → (is_down : Bool) → List ℕ
device_text labels station summary date target is_down =
    text_of (device_pairs (addr_text target) (device_at (addr_text target) labels)
    (decimal station))
    summary date (end_if_up is_down date)
