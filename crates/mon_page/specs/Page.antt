-- The page of a report: how it is with the station, what is wrong now, and a section for each
-- device.
use Rattle.std.specs.Prelude.{
  ℕ,
  ◌+◌,
  ◌*◌,
  ◌/◌,
  ◌%◌,
  ◌^◌,
  max,
  Bool,
  true,
  false,
  not,
  ◌&&◌,
  ◌||◌,
  List,
  [],
  ◌∷◌,
  ◌++◌,
  Option,
  Some,
  None,
  is_some,
  bytes_eq,
  codes,
  decimal,
  filter,
  find,
  length,
  nat_lt,
  option_map,
  String,
  string_bytes,
  ◌==◌,
  if◌then◌else◌,
}
use Rattle.std.specs.List.{flat_map, list_any}
use Rattle.hex.specs.Hex.{encode_lower}
use Rattle.mon_alarms.specs.Changes.{is_raised}
use Rattle.mon_alarms.specs.declared.alarm.AlarmState.{AlarmState}
use Rattle.mon_alarms.specs.declared.alarm.AlarmState.TheVariants.{Clear, Raised}
use Rattle.mon_report.specs.declared.alarms.Alarm.{Alarm}
use Rattle.mon_display.specs.Interface.{column_of, interface_of}
use Rattle.mon_display.specs.Naming.{device_text}
use Rattle.mon_display.specs.Rate.{percent_text, rate_text}
use Rattle.mon_display.specs.declared.interface.Column.{Column}
use Rattle.mon_display.specs.declared.interface.Column.TheVariants.{InOctets, OutOctets, InErrors}
use Rattle.mon_display.specs.declared.interface.Column.TheVariants.{OutErrors, InDiscards}
use Rattle.mon_display.specs.declared.interface.Column.TheVariants.{OutDiscards, Other}
use Rattle.mon_display.specs.declared.rate.Unit.TheVariants.{Each}
use Rattle.mon_page.specs.declared.extras.Presentation.{Presentation}
use Rattle.mon_page.specs.declared.figures.Figures.{Figures}
use Rattle.mon_page.specs.declared.figures.PeerFigures.{PeerFigures}
use Rattle.mon_page.specs.declared.figures.TargetFigures.{TargetFigures}
use Rattle.mon_page.specs.declared.head.Counts.{Counts}
use Rattle.mon_page.specs.declared.section.Heading.{Heading}
use Rattle.mon_page.specs.Cells.{newest_of, fresh_rate, value_cell, age_cell}
use Rattle.mon_page.specs.Dates.{date_at}
use Rattle.mon_page.specs.Escape.{escaped}
use Rattle.mon_page.specs.Between.{between}
use Rattle.mon_page.specs.Devices.{devices, engine_of, is_up, is_wrong, naming_row, newest_stamp}
use Rattle.mon_page.specs.Devices.{targets_of}
use Rattle.mon_page.specs.Labelled.{Labelled}
use Rattle.mon_page.specs.Plot.{limit_words, plot_of}
use Rattle.mon_page.specs.Rows.{Row, row_state, rows_of}
use Rattle.mon_page.specs.Seats.{comes_in, goes_out, interfaces, others}
use Rattle.mon_page.specs.Style.{style_text}
use Rattle.mon_page.specs.Words.{bits_of, device_words, duration_words, interface_words, is_counted}
use Rattle.mon_page.specs.Words.{known_words, now_words, rate_or_dash}

-- ---- what is wrong now
-- an alarm that is raised, with its instance
pub record RaisedAlarm : Type 0 where
  pub row : Row
  pub alarm : Alarm

-- an alarm of an instance, if it is raised
abbrev pub raised_if : Row → Alarm → List RaisedAlarm
raised_if r a = if is_raised a.state then record { row = r; alarm = a } ∷ [] else []

-- the raised alarms of an instance
abbrev pub raised_on : Row → List Alarm → List RaisedAlarm
raised_on r alarms = flat_map (raised_if r) alarms

-- the raised alarms of an instance that is not stale; of a stale one nothing is said of alarms
abbrev pub raised_of : Row → List RaisedAlarm
raised_of r = if r.fresh then raised_on r r.entry.alarms else []

-- those of all instances
abbrev pub raised_alarms : List Row → List RaisedAlarm
raised_alarms rows = flat_map raised_of rows

-- the interface of an instance before its name, if it is of one
abbrev pub interface_before : Option (List ℕ) → Option ℕ → List ℕ
interface_before name None = []
interface_before name (Some index) = interface_words name index ++ codes " "

-- since when an alarm is raised: the stamp of the sample that raised it
abbrev pub since_words : AlarmState → List ℕ
since_words Clear = []
since_words (Raised boots time) = decimal boots ++ codes ":" ++ decimal time

-- which instance an alarm is on: its device, its interface and its name
unfoldable pub alarm_place : (List ℕ → List ℕ) → Row → List ℕ
alarm_place shown r =
    codes "<li class=\"RAISED\"><b>RAISED</b> " ++ device_words r ++ codes " "
    ++ interface_before r.labels.if_name (interface_of r.entry.name)
    ++ flat_map escaped (shown r.entry.name)

-- the line of a raised alarm
unfoldable pub alarm_item : (List ℕ → List ℕ) → RaisedAlarm → List ℕ
alarm_item shown a =
    alarm_place shown a.row ++ codes ": " ++ now_words a.row ++ codes ", limit "
    ++ limit_words (column_of a.row.entry.name) (is_counted (newest_of a.row.entry.items))
    a.alarm.rule ++ codes ", since " ++ since_words a.alarm.state
    ++ codes "</li>\n"

-- why a target's last response was refused, if one was
abbrev pub reason_text : {A : Type 0} → Option (String A) → List ℕ
reason_text None = []
reason_text (Some reason) = codes ": " ++ flat_map escaped (string_bytes reason)

-- the label of an instance's device, if there is an instance
abbrev pub label_of : Option Row → Option (List ℕ)
label_of None = None
label_of (Some r) = r.labels.device

-- the instance whose labels name the device of an engine id
abbrev pub row_of_engine : List ℕ → List Row → Option Row
row_of_engine engine rows = find (λ r. is_some r.labels.device && bytes_eq r.entry.engine engine)
    rows

-- a target: where its agent is reached, and the label of its device
abbrev pub target_words : List Row → TargetFigures → List ℕ
target_words rows t = flat_map escaped (device_text (Some (string_bytes t.address))
    (label_of (row_of_engine t.engine.items rows)))

-- since when a target is down
unfoldable pub since_text : TargetFigures → List ℕ
since_text t = codes " is down, answered " ++ decimal t.seconds ++ codes " s ago, "
    ++ decimal t.rounds ++ codes " rounds ago"

-- the line of a target that is down: which it is, since when, and why
unfoldable pub target_item : List Row → TargetFigures → List ℕ
target_item rows t =
    codes "<li class=\"down\">" ++ target_words rows t ++ since_text t ++ reason_text t.refusal
    ++ codes "</li>\n"

-- nothing of one that is up
abbrev pub down_item : List Row → TargetFigures → List ℕ
down_item rows t = if t.up then [] else target_item rows t

-- the line of a peer that is silent
unfoldable pub silent_item : PeerFigures → List ℕ
silent_item p = codes "<li class=\"down\">peer " ++ decimal p.station ++ codes " is silent, heard "
    ++ decimal p.rounds ++ codes " rounds ago</li>\n"

-- the item of a silent peer; nothing of a peer that is not silent
abbrev pub peer_item : PeerFigures → List ℕ
peer_item p = if p.silent then silent_item p else []

-- the line of failed saves
unfoldable pub failed_item : ℕ → List ℕ
failed_item n = codes "<li class=\"down\">" ++ decimal n ++ codes " saves failed</li>\n"

-- that line, if there are any
abbrev pub saves_item : ℕ → List ℕ
saves_item n = if n == 0 then [] else failed_item n

-- what is wrong with the station's targets, its peers and its file
abbrev pub station_items : List Row → Option Figures → List ℕ
station_items rows None = []
station_items rows (Some f) = flat_map (down_item rows) f.targets.items
    ++ (flat_map peer_item f.peers.items ++ saves_item f.failed_saves)

-- all that is wrong
unfoldable pub wrong_items : (List ℕ → List ℕ) → List Row → Option Figures → List ℕ
wrong_items shown rows station = flat_map (alarm_item shown) (raised_alarms rows)
    ++ station_items rows station

-- a line that says so if nothing is wrong
abbrev pub or_nothing : List ℕ → List ℕ
or_nothing items = if length items == 0 then codes "<li>Nothing is wrong.</li>\n" else items

-- the list of what is wrong
unfoldable pub wrong_section : (List ℕ → List ℕ) → List Row → Option Figures → List ℕ
wrong_section shown rows station =
    codes "<section id=\"wrong\">\n<h2>What is wrong now</h2>\n<ul>\n"
    ++ or_nothing (wrong_items shown rows station) ++ codes "</ul>\n</section>\n"

-- ---- rows of interfaces
-- what percentage of a speed a rate of octets is, rounded down; of a speed of 0 as of 1
abbrev pub percent_of : ℕ → ℕ → ℕ
percent_of q speed = bits_of q / (10 * max speed 1)

-- a rate as a percentage of a speed, with a digit after the point, and as a bar
unfoldable pub share_words : ℕ → ℕ → List ℕ
share_words q speed =
    codes " " ++ percent_text (bits_of q) speed ++ codes "<meter max=\"100\" value=\""
    ++ decimal (percent_of q speed) ++ codes "\"></meter>"

-- that percentage, if the rate and the speed are known
abbrev pub share_if : Option ℕ → Option ℕ → List ℕ
share_if None speed = []
share_if (Some q) None = []
share_if (Some q) (Some speed) = share_words q speed

-- what octets are now, their part of the speed, and their plot
unfoldable pub octets_words : Row → List ℕ
octets_words r = now_words r ++ share_if (fresh_rate r.fresh r.entry.items) r.labels.speed
    ++ plot_of r

-- nothing without such an instance
abbrev pub octets_if : Option Row → List ℕ
octets_if None = []
octets_if (Some r) = octets_words r

-- what a column counts, in words
abbrev pub column_words : Column → List ℕ
column_words InOctets = codes ""
column_words OutOctets = codes ""
column_words InErrors = codes "in errors "
column_words OutErrors = codes "out errors "
column_words InDiscards = codes "in discards "
column_words OutDiscards = codes "out discards "
column_words Other = codes ""

-- errors or discards a second
unfoldable pub fault_words : Column → ℕ → List ℕ
fault_words c q = codes "<div>" ++ column_words c ++ rate_text Each q ++ codes "</div>"

-- nothing if they are 0 or not known
abbrev pub fault_if : Column → Option ℕ → List ℕ
fault_if c None = []
fault_if c (Some q) = if q == 0 then [] else fault_words c q

-- those of an instance, which has none if it counts octets
abbrev pub fault_of : Row → List ℕ
fault_of r = if comes_in r || goes_out r then [] else fault_if (column_of r.entry.name)
    (fresh_rate r.fresh r.entry.items)

-- some instance is in this state
abbrev pub has_state : List Row → List ℕ → Bool
has_state rows word = list_any (λ r. bytes_eq (row_state r) word) rows

-- the state of instances together: raised if one is, else clear if one is, else a dash if one has
-- no alarm, else stale
abbrev pub worst_state : List Row → List ℕ
worst_state rows =
    if has_state rows (codes "RAISED") then codes "RAISED" else if has_state rows (codes "clear")
    then codes "clear"
    else if has_state rows (codes "-") then codes "-" else codes "stale"

-- the greater of two ages, as far as they are known
abbrev pub older : Option ℕ → Option ℕ → Option ℕ
older None age = age
older (Some a) None = Some a
older (Some a) (Some b) = Some (max a b)

-- the greatest age of instances
abbrev pub oldest : Option ℕ → List Row → Option ℕ
oldest age [] = age
oldest age (r ∷ rs) = oldest (older age r.age) rs

-- the beginning of a row in this state
unfoldable pub row_start : List ℕ → List ℕ
row_start state = between (codes "<tr class=\"") state (codes "\"><th scope=\"row\">")

-- the cells of a state and an age, and the end of a row
unfoldable pub row_end : List ℕ → Option ℕ → List ℕ
row_end state age = between (codes "</td><td class=\"s\">") state (codes "</td><td>")
    ++ age_cell age ++ codes "</td></tr>\n"

-- the first of instances, if there is one
abbrev pub first_of : List Row → Option Row
first_of [] = None
first_of (r ∷ rs) = Some r

-- the ifName, or the ifIndex
abbrev pub lead_words : Option (List ℕ) → Option ℕ → List ℕ
lead_words name None = []
lead_words name (Some index) = interface_words name index

-- which interface a row is of
abbrev pub name_words : Option Row → List ℕ
name_words None = []
name_words (Some r) = lead_words r.labels.if_name (interface_of r.entry.name)

-- its ifAlias
abbrev pub alias_words : Option Row → List ℕ
alias_words None = []
alias_words (Some r) = known_words r.labels.if_alias

-- the row of an interface with these instances: name, alias, octets in and out, errors and
-- discards, alarm and age
unfoldable pub interface_row : List Row → List ℕ
interface_row rows =
    row_start (worst_state rows) ++ name_words (first_of rows) ++ codes "</th><td class=\"t\">"
    ++ alias_words (first_of rows) ++ codes "</td><td>"
    ++ octets_if (find comes_in rows) ++ codes "</td><td>" ++ octets_if (find goes_out rows)
    ++ codes "</td><td>" ++ flat_map fault_of rows
    ++ row_end (worst_state rows) (oldest None rows)

-- the table of interfaces
unfoldable pub interface_lines : List (List Row) → List ℕ
interface_lines is =
    codes
    "<table class=\"i\">\n<caption>Interfaces</caption>\n<thead><tr><th scope=\"col\">Interface</th><th scope=\"col\">Alias</th><th scope=\"col\">In</th><th scope=\"col\">Out</th><th scope=\"col\">Errors and discards</th><th scope=\"col\">Alarm</th><th scope=\"col\">Age in rounds</th></tr></thead>\n<tbody>\n"
    ++ flat_map interface_row is ++ codes "</tbody>\n</table>\n"

-- that table, if there are any
abbrev pub interface_table : List (List Row) → List ℕ
interface_table is = if length is == 0 then [] else interface_lines is

-- ---- rows of other instances
-- the beginning of the line of a label, at most 20rem wide, so that a long text does not narrow the
-- other columns
unfoldable pub label_start : List ℕ
label_start = codes "<div style=\"max-width:20rem\">"

-- the line of a label below a name: its title and its text
unfoldable pub label_line : List ℕ → List ℕ → List ℕ
label_line title text = label_start ++ title ++ codes " " ++ flat_map escaped text ++ codes "</div>"

-- that line, if the label is known
abbrev pub label_if : List ℕ → Option (List ℕ) → List ℕ
label_if title None = []
label_if title (Some text) = label_line title text

-- the name of an instance, with its ifName and its ifAlias below it, as far as they are known
unfoldable pub name_cell : (List ℕ → List ℕ) → Row → List ℕ
name_cell shown r = flat_map escaped (shown r.entry.name) ++ label_if (codes "ifName")
    r.labels.if_name ++ label_if (codes "ifAlias") r.labels.if_alias

-- the cells of a value and a rate
unfoldable pub figure_cells : Row → List ℕ
figure_cells r =
    codes "</th><td>" ++ value_cell (newest_of r.entry.items) ++ codes "</td><td>"
    ++ rate_or_dash (column_of r.entry.name) (fresh_rate r.fresh r.entry.items)

-- the row of an instance: name, value, rate, plot, alarm and age
unfoldable pub other_row : (List ℕ → List ℕ) → Row → List ℕ
other_row shown r =
    row_start (row_state r) ++ name_cell shown r ++ figure_cells r ++ codes "</td><td>" ++ plot_of r
    ++ row_end (row_state r) r.age

-- the table of other instances
unfoldable pub other_lines : (List ℕ → List ℕ) → List Row → List ℕ
other_lines shown rows =
    codes
    "<table class=\"o\">\n<caption>Other instances</caption>\n<thead><tr><th scope=\"col\">Name</th><th scope=\"col\">Value</th><th scope=\"col\">Rate</th><th scope=\"col\">Window</th><th scope=\"col\">Alarm</th><th scope=\"col\">Age in rounds</th></tr></thead>\n<tbody>\n"
    ++ flat_map (other_row shown) rows ++ codes "</tbody>\n</table>\n"

-- that table, if there are any
abbrev pub other_table : (List ℕ → List ℕ) → List Row → List ℕ
other_table shown rows = if length rows == 0 then [] else other_lines shown rows

-- ---- sections of devices
-- the class of a section
abbrev pub open_word : Bool → List ℕ
open_word true = codes "open"
open_word false = codes "closed"

-- whether a device is up, if a station says so
abbrev pub state_words : Option Bool → List ℕ
state_words None = []
state_words (Some true) = codes "<b class=\"up\">up</b> "
state_words (Some false) = codes "<b class=\"down\">down</b> "

-- how long its agent was up at the newest sample, which has this stamp, if there is one
abbrev pub uptime_words : ℕ → List ℕ
uptime_words stamp = if stamp == 0 then [] else codes "agent up " ++ duration_words (stamp % 2 ^ 32)

-- the text that names a device
abbrev pub naming_words : Option Row → List ℕ
naming_words None = []
naming_words (Some r) = device_words r

-- the heading of a section, which is a link to it
unfoldable pub section_start : Heading → List Row → List ℕ
section_start h device =
    codes "<section id=\"d" ++ decimal h.number ++ codes "\" class=\"" ++ open_word h.is_open
    ++ codes "\">\n<h3><a href=\"#d" ++ decimal h.number ++ codes "\">"
    ++ naming_words (naming_row device) ++ codes "</a> <small>" ++ encode_lower (engine_of device)
    ++ codes "</small></h3>\n"

-- its line below the heading
unfoldable pub section_line : Heading → List Row → List ℕ
section_line h device = codes "<p>" ++ state_words h.up ++ uptime_words (newest_stamp 0 device)
    ++ codes "</p>\n<div>\n"

-- the section of a device
unfoldable pub section_text : (List ℕ → List ℕ) → Heading → List Row → List ℕ
section_text shown h device =
    section_start h device ++ section_line h device ++ interface_table (interfaces device)
    ++ other_table shown (others device) ++ codes "</div>\n</section>\n"

-- whether a device is up, if there is a station
abbrev pub up_of : Option Figures → List Row → Option Bool
up_of None device = None
up_of (Some f) device = Some (is_up f.targets.items device)

-- the heading of a device, by how many devices there are: it is open if something is wrong in it,
-- or if there are at most four
abbrev pub heading_of : Option Figures → ℕ → ℕ → List Row → Heading
heading_of station count number device =
    record {
      number = number;
      is_open = not (nat_lt 4 count)
          || is_wrong (targets_of station) device;
      up = up_of station device;
    }

-- the sections of devices, of which the first is at this place
abbrev pub sections_from : (List ℕ → List ℕ) → Option Figures → ℕ → ℕ → List (List Row) → List ℕ
sections_from shown station count place [] = []
sections_from shown station count place (d ∷ ds) =
    section_text shown (heading_of station count (place + 1) d) d
    ++ sections_from shown station count (place + 1) ds

-- all sections
unfoldable pub device_sections : (List ℕ → List ℕ) → Option Figures → List (List Row) → List ℕ
device_sections shown station all = codes "<h2>Devices</h2>\n"
    ++ sections_from shown station (length all) 0 all

-- ---- the head
-- the title of a page: the station's number and its label, or what there is of them
abbrev pub title_text : Option Figures → Option (List ℕ) → List ℕ
title_text None None = codes "snmpmon"
title_text None (Some label) = flat_map escaped label
title_text (Some f) None = codes "station " ++ decimal f.station
title_text (Some f) (Some label) = codes "station " ++ decimal f.station ++ codes " &middot; "
    ++ flat_map escaped label

-- when the last round ended, if one did before the year 10000
abbrev pub round_text : Option ℕ → List ℕ
round_text None = []
round_text (Some seconds) = if nat_lt seconds 253_402_300_800
    then between (codes ", last round ") (date_at seconds) [] else []

-- which incarnation it is, and when the last round ended
unfoldable pub station_line : Figures → List ℕ
station_line f = codes "<p><small>incarnation " ++ decimal f.incarnation ++ codes "</small>"
    ++ round_text f.round_at ++ codes "</p>\n"

-- how old a file is, if that is known
abbrev pub age_line : Option ℕ → List ℕ
age_line None = []
age_line (Some seconds) = codes "<p>The file is " ++ duration_words seconds ++ codes " old.</p>\n"

-- the line of a station, or of a file
abbrev pub origin_line : Option Figures → Option ℕ → List ℕ
origin_line None age = age_line age
origin_line (Some f) age = station_line f

-- ---- counts
-- the peers of a station
abbrev pub peers_of : Option Figures → List PeerFigures
peers_of None = []
peers_of (Some f) = f.peers.items

-- how many devices there are, and how many of them are up; raised alarms; stale instances; peers,
-- and how many of them are not silent
abbrev pub counts_of : Option Figures → List Row → Counts
counts_of station rows =
    record {
      devices = length (devices rows);
      up = length (filter (is_up (targets_of station)) (devices rows));
      raised = length (raised_alarms rows);
      stale = length (filter (λ r. not r.fresh) rows);
      peers = length (peers_of station);
      heard = length (filter (λ p. not p.silent) (peers_of station));
    }

-- the beginning of a count, which is marked if it is bad
abbrev pub count_start : Bool → List ℕ
count_start true = codes "<li class=\"bad\"><b>"
count_start false = codes "<li><b>"

-- a count, which is bad if there are any
unfoldable pub count_item : ℕ → List ℕ → List ℕ
count_item n words = count_start (nat_lt 0 n) ++ decimal n ++ words

-- how many of all, which is bad if it is not all
unfoldable pub part_item : ℕ → ℕ → List ℕ → List ℕ
part_item n all words = count_start (nat_lt n all) ++ decimal n ++ codes "</b> of " ++ decimal all
    ++ words

-- the counts of a station
unfoldable pub station_counts : Counts → List ℕ
station_counts c =
    codes "<ul class=\"counts\">\n" ++ part_item c.up c.devices (codes " devices up</li>\n")
    ++ count_item c.raised (codes "</b> alarms raised</li>\n")
    ++ count_item c.stale (codes "</b> stale instances</li>\n")
    ++ part_item c.heard c.peers (codes " peers heard</li>\n") ++ codes "</ul>\n</header>\n"

-- those of a file
unfoldable pub file_counts : Counts → List ℕ
file_counts c =
    codes "<ul class=\"counts\">\n<li><b>" ++ decimal c.devices ++ codes "</b> devices</li>\n"
    ++ count_item c.raised (codes "</b> alarms raised</li>\n")
    ++ codes "</ul>\n</header>\n"

-- the one or the other
abbrev pub counts_text : Option Figures → Counts → List ℕ
counts_text None c = file_counts c
counts_text (Some f) c = station_counts c

-- ---- the document
-- after how many seconds a browser loads the page again, if it is to
abbrev pub refresh_text : Option ℕ → List ℕ
refresh_text None = []
refresh_text (Some seconds) = between (codes "<meta http-equiv=\"refresh\" content=\"")
    (decimal seconds) (codes "\">\n")

-- after how many seconds a page of a station is loaded again: after its interval, if it has one
abbrev pub refresh_of : Option Figures → Option ℕ
refresh_of None = None
refresh_of (Some f) = if f.interval == 0 then None else Some f.interval

-- what is before the title
unfoldable pub start_text : Option Figures → List ℕ
start_text station =
    codes "<!DOCTYPE html>\n<html lang=\"en\">\n<head>\n<meta charset=\"utf-8\">\n"
    ++ refresh_text (refresh_of station)
    ++ codes "<meta name=\"viewport\" content=\"width=device-width, initial-scale=1\">\n<title>"

-- the head of the document
unfoldable pub head_text : Option Figures → Option (List ℕ) → List ℕ
head_text station label =
    start_text station ++ title_text station label ++ codes "</title>\n<style>" ++ style_text
    ++ codes "</style>\n</head>\n<body>\n<header>\n<h1>" ++ title_text station label
    ++ codes "</h1>\n"

-- what follows it
unfoldable pub body_text : (List ℕ → List ℕ) → List Row → Option Figures → Option ℕ → List ℕ
body_text shown rows station age =
    origin_line station age ++ counts_text station (counts_of station rows)
    ++ wrong_section shown rows station
    ++ device_sections shown station (devices rows) ++ codes "</body>\n</html>\n"

-- the page, of instances with their labels, what a running station says of itself, and how it is
-- presented
unfoldable pub page_text : (List ℕ → List ℕ) → List Labelled → Option Figures → Presentation
    → List ℕ
page_text shown instances station presentation =
    head_text station (option_map (λ l. string_bytes l) presentation.label)
    ++ body_text shown (rows_of station instances) station presentation.file_age
