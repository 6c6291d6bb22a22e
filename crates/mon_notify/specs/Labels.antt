-- The labels of a change.
use Rattle.std.specs.Prelude.{ℕ, List, [], ◌∷◌, ◌++◌, Option, Some, None, codes, option_map}
use Rattle.mon_notify.specs.declared.label.Label.{Label}
use Rattle.mon_notify.specs.declared.changes.AlarmLabels.{AlarmLabels}
use Rattle.mon_notify.specs.declared.changes.DeviceLabels.{DeviceLabels}

-- name and value of a label
abbrev pub pair_of : Label → List ℕ × List ℕ
pair_of label = (label.name.now, label.value.now)

-- a label, if its value is known
abbrev pub if_known : List ℕ → Option (List ℕ) → List (List ℕ × List ℕ)
if_known name None = []
if_known name (Some value) = (name, value) ∷ []

-- what the labels of a change of an alarm say of it; a text that is not known has no label
pub record AlarmWords : Type 0 where
  pub engine : List ℕ
  pub name : List ℕ
  pub device : Option (List ℕ)
  pub target : Option (List ℕ)
  pub if_name : Option (List ℕ)
  pub if_alias : Option (List ℕ)
  pub rising : List ℕ
  pub falling : List ℕ
  pub station : List ℕ

-- these words as labels, sorted by their names
abbrev pub alarm_pairs : AlarmWords → List (List ℕ × List ℕ)
alarm_pairs w =
    (codes "alertname", codes "SnmpmonAlarmRaised") ∷ []
    ++ if_known (codes "device") w.device
    ++ (codes "engine", w.engine) ∷ []
    ++ (codes "falling", w.falling) ∷ []
    ++ if_known (codes "ifAlias") w.if_alias
    ++ if_known (codes "ifName") w.if_name
    ++ (codes "name", w.name) ∷ []
    ++ (codes "rising", w.rising) ∷ []
    ++ (codes "station", w.station) ∷ []
    ++ if_known (codes "target") w.target

-- what is said of a change of an alarm
abbrev pub alarm_words : AlarmLabels → AlarmWords
alarm_words c = record {
  engine = c.engine.now;
  name = c.name.now;
  device = option_map (λ t. t.now) c.device;
  target = option_map (λ t. t.now) c.target;
  if_name = option_map (λ t. t.now) c.if_name;
  if_alias = option_map (λ t. t.now) c.if_alias;
  rising = c.rising.now;
  falling = c.falling.now;
  station = c.station.now;
}

-- the labels of a change of an alarm, sorted by their names
abbrev pub alarm_labels : AlarmLabels → List (List ℕ × List ℕ)
alarm_labels c = alarm_pairs (alarm_words c)

-- the labels of a change of the device at a target, sorted by their names
abbrev pub device_pairs : (target : List ℕ) → (device : Option (List ℕ)) → (station : List ℕ)
    → List (List ℕ × List ℕ)
device_pairs target device station =
    (codes "alertname", codes "SnmpmonDeviceDown") ∷ []
    ++ if_known (codes "device") device
    ++ (codes "station", station) ∷ []
    ++ (codes "target", target) ∷ []

-- the labels of a change of a device, sorted by their names
abbrev pub device_labels : DeviceLabels → List (List ℕ × List ℕ)
device_labels c = device_pairs c.target.now (option_map (λ t. t.now) c.device) c.station.now
