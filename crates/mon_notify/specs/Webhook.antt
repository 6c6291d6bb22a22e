-- The JSON object of one change, in the form of Alertmanager's webhook, version 4: a group of one
-- alert, which is grouped by all its labels.
use Rattle.std.specs.Prelude.{ℕ, List, [], ◌∷◌, ◌++◌, Option, Some, None, codes, map}
use Rattle.hex.specs.Hex.{encode_lower}
use Rattle.std.specs.Int.{to_be_bytes, w64}
use Rattle.httpdate.specs.declared.date.HttpDate.{HttpDate as Date}
use Rattle.serde_json.specs.Data.{Data, Members, number, unsigned, string, array, object, no_items}
use Rattle.serde_json.specs.Data.{item, no_members, member, put}
use Rattle.serde_json.specs.Written.{compact_text}
use Rattle.mon_notify.specs.declared.webhook.Notice.{Notice}
use Rattle.mon_notify.specs.Fingerprint.{fingerprint}
use Rattle.mon_notify.specs.Labels.{pair_of}
use Rattle.mon_notify.specs.Times.{time_text}

-- members, and labels as members among them
abbrev pub with_labels : Members → List (List ℕ × List ℕ) → Members
with_labels members [] = members
with_labels members (label ∷ labels) = with_labels (put label.0 (string label.1) members) labels

-- labels as an object
abbrev pub labels_data : List (List ℕ × List ℕ) → Data
labels_data labels = object (with_labels no_members labels)

-- the fingerprint of labels, in sixteen hexadecimal digits
abbrev pub fingerprint_text : List (List ℕ × List ℕ) → List ℕ
fingerprint_text labels = encode_lower (to_be_bytes w64 (fingerprint labels))

-- the key of the group, which has only this alert
abbrev pub key_text : List (List ℕ × List ℕ) → List ℕ
key_text labels = codes "{}:{fingerprint=\"" ++ fingerprint_text labels ++ codes "\"}"

-- "resolved" if it ended, else "firing"
abbrev pub status_text : Option Date → List ℕ
status_text None = codes "firing"
status_text (Some date) = codes "resolved"

-- when it ended; the first time of Go's calendar where it has not
abbrev pub end_text : Option Date → List ℕ
end_text None = codes "0001-01-01T00:00:00Z"
end_text (Some date) = time_text date

-- the annotations: a line for people
abbrev pub annotations_data : List ℕ → Data
annotations_data summary = object (member (codes "summary") (string summary) no_members)

-- the alert of these labels, which started and may have ended
abbrev pub alert_of : List (List ℕ × List ℕ) → (summary : List ℕ) → Date → Option Date → Data
alert_of labels summary starts_at ends_at = object
    (member (codes "annotations") (annotations_data summary)
    (member (codes "endsAt") (string (end_text ends_at))
    (member (codes "fingerprint") (string (fingerprint_text labels))
    (member (codes "generatorURL") (string [])
    (member (codes "labels") (labels_data labels)
    (member (codes "startsAt") (string (time_text starts_at))
    (member (codes "status") (string (status_text ends_at))
    no_members)))))))

-- the whole object of that alert
abbrev pub object_of : List (List ℕ × List ℕ) → (summary : List ℕ) → Date → Option Date → Data
object_of labels summary starts_at ends_at = object
    (member (codes "alerts") (array (item (alert_of labels summary starts_at ends_at) no_items))
    (member (codes "commonAnnotations") (annotations_data summary)
    (member (codes "commonLabels") (labels_data labels)
    (member (codes "externalURL") (string [])
    (member (codes "groupKey") (string (key_text labels))
    (member (codes "groupLabels") (labels_data labels)
    (member (codes "receiver") (string (codes "snmpmon"))
    (member (codes "status") (string (status_text ends_at))
    (member (codes "truncatedAlerts") (number (unsigned 0))
    (member (codes "version") (string (codes "4"))
    no_members))))))))))

-- its text (RFC 8259), with no space
abbrev pub text_of : List (List ℕ × List ℕ) → (summary : List ℕ) → Date → Option Date → List ℕ
text_of labels summary starts_at ends_at = compact_text (object_of labels summary starts_at ends_at)

-- the labels of a notice
abbrev pub labels_of : Notice → List (List ℕ × List ℕ)
labels_of n = map pair_of n.labels.now

-- the alert of a notice
abbrev pub alert_data : Notice → Data
alert_data n = alert_of (labels_of n) n.summary.now n.starts_at n.ends_at

-- the whole object of a notice
abbrev pub message_data : Notice → Data
message_data n = object_of (labels_of n) n.summary.now n.starts_at n.ends_at

-- its text
abbrev pub message_text : Notice → List ℕ
message_text n = text_of (labels_of n) n.summary.now n.starts_at n.ends_at
