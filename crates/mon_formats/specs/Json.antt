-- A report as JSON (RFC 8259), on one line. Whole numbers beyond 2^53, which many readers round,
-- are texts.
use Rattle.std.specs.Prelude.{◌≡◌, ℕ, ℤ, pos, negsuc, ◌+◌, ◌^◌, Bool, true, false, not, List, []}
use Rattle.std.specs.Prelude.{◌∷◌, ◌++◌, Option, Some, None, codes, decimal, map, nat_le, nat_lt}
use Rattle.std.specs.Prelude.{String, string_bytes, if◌then◌else◌}
use Rattle.std.specs.Fmt.{signed_decimal}
use Rattle.hex.specs.Hex.{encode_lower}
use Rattle.serde_json.specs.Data.{Data, Members, boolean, null, number, unsigned, negative, string}
use Rattle.serde_json.specs.Data.{array, object, no_members, member, put}
use Rattle.serde_json.specs.Read.{read}
use Rattle.serde_json.specs.View.{items_of}
use Rattle.serde_json.specs.Written.{compact_text}
use Rattle.mon_sample.specs.Kind.{kind_name}
use Rattle.mon_sample.specs.Key.{boots_of, time_of, discontinuity_of, kind_of}
use Rattle.mon_rates.specs.Totals.{totals}
use Rattle.mon_alarms.specs.declared.alarm.AlarmState.{AlarmState}
use Rattle.mon_alarms.specs.declared.alarm.AlarmState.TheVariants.{Clear, Raised}
use Rattle.mon_report.specs.Report.{Entry, samples_in}
use Rattle.mon_report.specs.declared.alarms.Alarm.{Alarm}
use Rattle.mon_page.specs.Cells.{value_of, fresh_rate}
use Rattle.mon_page.specs.Freshness.{fresh_at}
use Rattle.mon_page.specs.declared.figures.Figures.{Figures}
use Rattle.mon_page.specs.declared.figures.TargetFigures.{TargetFigures}

-- a whole number: as a number up to 2^53, else as a text
abbrev pub exact : ℕ → Data
exact n = if nat_le n (2 ^ 53) then number (unsigned n) else string (decimal n)

-- a whole number with its sign, in the same way
abbrev pub exact_signed : ℤ → Data
exact_signed (pos n) = exact n
exact_signed (negsuc n) = if nat_lt n (2 ^ 53) then number (negative (negsuc n))
    else string (signed_decimal (negsuc n))

-- a whole number, if there is one; else null
abbrev pub exact_or_null : Option ℕ → Data
exact_or_null None = null
exact_or_null (Some n) = exact n

-- boots and time of the agent's engine
abbrev pub stamp : ℕ → ℕ → Data
stamp boots time = object (member (codes "boots") (number (unsigned boots))
    (member (codes "time") (number (unsigned time)) no_members))

-- a sample
abbrev pub sample_data : ℕ → Data
sample_data s = object
    (member (codes "boots") (number (unsigned (boots_of s)))
    (member (codes "kind") (string (kind_name (kind_of s)))
    (member (codes "mark") (number (unsigned (discontinuity_of s)))
    (member (codes "time") (number (unsigned (time_of s)))
    (member (codes "value") (exact_signed (value_of s))
    no_members)))))

-- when an alarm was raised; null where it is clear
abbrev pub raised_data : AlarmState → Data
raised_data Clear = null
raised_data (Raised boots time) = stamp boots time

-- a rule with its thresholds in thousandths, and when its alarm was raised
abbrev pub alarm_data : Alarm → Data
alarm_data alarm = object
    (member (codes "falling") (exact_signed alarm.rule.falling)
    (member (codes "raised") (raised_data alarm.state)
    (member (codes "rising") (exact_signed alarm.rule.rising)
    no_members)))

-- how much the counter counted, and in how many seconds
abbrev pub totals_data : List ℕ → Data
totals_data items = object (member (codes "delta") (exact (totals items).delta)
    (member (codes "span") (exact (totals items).span) no_members))

-- the alarms that are said of an instance: none if it is stale
abbrev pub fresh_alarms : Bool → List Alarm → List Alarm
fresh_alarms false alarms = []
fresh_alarms true alarms = alarms

-- what is said of an instance, fresh or stale, its name as it is shown
abbrev pub entry_members : (List ℕ → List ℕ) → Bool → Entry → Members
entry_members shown fresh e =
    (member (codes "alarms") (array (items_of (map alarm_data (fresh_alarms fresh e.alarms))))
    (member (codes "engine") (string (encode_lower e.engine))
    (member (codes "name") (string (shown e.name))
    (member (codes "rate_thousandths") (exact_or_null (fresh_rate fresh e.items))
    (member (codes "samples") (array (items_of (map sample_data e.items)))
    (member (codes "totals") (totals_data e.items)
    no_members))))))

-- an instance counts as fresh without a station
abbrev pub or_fresh : Option Bool → Bool
or_fresh None = true
or_fresh (Some fresh) = fresh

-- the members, of a running station's instance with whether it is stale, in alphabetical order
abbrev pub with_stale : Option Bool → Members → Members
with_stale None members = members
with_stale (Some fresh) members = put (codes "stale") (boolean (not fresh)) members

-- an instance, and of a running station whether it is fresh
abbrev pub entry_data : (List ℕ → List ℕ) → Option Bool → Entry → Data
entry_data shown fresh e = object (with_stale fresh (entry_members shown (or_fresh fresh) e))

-- the instances from a place on
abbrev pub entries_data : (List ℕ → List ℕ) → Option Figures → ℕ → List Entry → List Data
entries_data shown station place [] = []
entries_data shown station place (e ∷ es) = entry_data shown (fresh_at station place) e
    ∷ entries_data shown station (place + 1) es

-- why a target's last response was refused; null where none was
abbrev pub refusal_data : {A : Type 0} → Option (String A) → Data
refusal_data None = null
refusal_data (Some reason) = string (string_bytes reason)

-- what a station says of a target
abbrev pub target_data : TargetFigures → Data
target_data t = object
    (member (codes "address") (string (string_bytes t.address))
    (member (codes "engine") (string (encode_lower t.engine.items))
    (member (codes "given_up") (exact t.given_up)
    (member (codes "number") (number (unsigned t.number))
    (member (codes "refusal") (refusal_data t.refusal)
    (member (codes "rounds") (number (unsigned t.rounds))
    (member (codes "seconds") (exact t.seconds)
    (member (codes "up") (boolean t.up)
    no_members))))))))

-- how many samples a station owes a peer, by the peer's number
abbrev pub debt_data : ℕ × ℕ → Data
debt_data d = object (member (codes "peer") (number (unsigned d.0))
    (member (codes "samples") (number (unsigned d.1)) no_members))

-- in how many rounds an instance had no new sample
abbrev pub age_data : ℕ → Data
age_data age = number (unsigned age)

-- what a station says of itself; the ages are in the order of the instances
abbrev pub station_data : Figures → Data
station_data f = object
    (member (codes "ages") (array (items_of (map age_data f.ages.items)))
    (member (codes "debts") (array (items_of (map debt_data f.debts.items)))
    (member (codes "failed_saves") (exact f.failed_saves)
    (member (codes "given_up") (exact f.given_up)
    (member (codes "incarnation") (number (unsigned f.incarnation))
    (member (codes "number") (number (unsigned f.station))
    (member (codes "round_at") (exact_or_null f.round_at)
    (member (codes "round_ms") (exact f.round_ms)
    (member (codes "strangers") (exact f.strangers)
    (member (codes "taken") (exact f.taken)
    (member (codes "targets") (array (items_of (map target_data f.targets.items)))
    no_members)))))))))))

-- what a running station says of itself, as a member
abbrev pub station_member : Option Figures → Members
station_member None = no_members
station_member (Some f) = member (codes "station") (station_data f) no_members

-- the instances, how many samples they have, and what a running station says of itself
abbrev pub report_data : (List ℕ → List ℕ) → List Entry → Option Figures → Data
report_data shown entries station = object
    (member (codes "instances") (array (items_of (entries_data shown station 0 entries)))
    (member (codes "samples") (exact (samples_in entries))
    (station_member station)))

-- the text, with a line feed behind it
unfoldable pub json_report : (List ℕ → List ℕ) → List Entry → Option Figures → List ℕ
json_report shown entries station = compact_text (report_data shown entries station) ++ codes "\n"

-- the text is a line that reads as the report's value, and a line feed
abbrev pub ReadsAsReport : (List ℕ → List ℕ) → List Entry → Option Figures → List ℕ → Type 0
ReadsAsReport shown entries station text = (line : List ℕ) × (text ≡ line ++ codes "\n")
    × (read line ≡ Some (report_data shown entries station))
