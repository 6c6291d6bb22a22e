-- What a running station says on standard error.
use Rattle.std.specs.Prelude.{◌≡◌, ◌⊎◌, ℕ, ◌+◌, ◌/◌, ◌%◌, Bool, List, [], ◌∷◌, ◌++◌, if◌then◌else◌}
use Rattle.std.specs.Prelude.{◌==◌, nat_lt, Option, Some, None, Result, Ok, Err, codes, decimal}
use Rattle.std.specs.Prelude.{map, min, take, OnOk}
use Rattle.std.specs.List.{flat_map, fold}
use Rattle.std.specs.declared.alloc.AllocError.{AllocError}
use Rattle.std.specs.Net.Text.{socket_text}
use Rattle.std.specs.declared.net.socket_addr.SocketAddr.{SocketAddr}
use Rattle.mon_alarms.specs.Announcing.{Announcer, announced_of}
use Rattle.mon_alarms.specs.declared.change.AlarmChange.{AlarmChange}
use Rattle.mon_alarms.specs.declared.change.AlarmEvent.{AlarmEvent}
use Rattle.mon_alarms.specs.declared.change.AlarmEvent.TheVariants.{Raised}
use Rattle.mon_board.specs.declared.board.Board.{Board}
use Rattle.mon_console.specs.Failure.{IsMemory}
use Rattle.mon_console.specs.Shown.{shown_by}
use Rattle.mon_console.specs.declared.failure.Failure.{Failure}
use Rattle.mon_console.specs.declared.printing.Printing.{Printing}
use Rattle.mon_formats.specs.Changes.{change_line}
use Rattle.mon_host.specs.AtHost.{AtHost}
use Rattle.mon_host.specs.declared.level.Level.{Level}
use Rattle.mon_host.specs.declared.level.Level.TheVariants as level
use Rattle.mon_poller.specs.declared.fault.ResponseFault.TheVariants.{OtherEngine, Stray}
use Rattle.mon_report.specs.Alarms.{raised_from}
use Rattle.mon_rounds.specs.Totals.{changes_since}
use Rattle.mon_rounds.specs.declared.clock.Restart.{Restart}
use Rattle.mon_rounds.specs.declared.freshness.TargetAge.{TargetAge}
use Rattle.mon_rounds.specs.declared.reporting.Notice.{Notice}
use Rattle.mon_rounds.specs.declared.reporting.Notice.TheVariants.{Astray, BadClaim, BadResponse}
use Rattle.mon_rounds.specs.declared.reporting.Notice.TheVariants.{GaveUp, NoMemory, NotPolled}
use Rattle.mon_rounds.specs.declared.reporting.Notice.TheVariants.{NotSaved, NotShared}
use Rattle.mon_rounds.specs.declared.reporting.RoundReport.{RoundReport}
use Rattle.mon_station.specs.State.{State}
use Rattle.mon_station.specs.declared.fault.StationFault.{StationFault}
use Rattle.mon_station.specs.declared.fault.StationFault.TheVariants.{Response}
use Rattle.mon_file_commands.specs.Line.{AreNoted, Line, noted, stated, unstated}
use Rattle.mon_station_commands.specs.Opening.{IsNoStation}
use Rattle.mon_udp.specs.Addr.{addr_text}
use Rattle.mon_udp.specs.declared.addr.Addr.{Addr}

-- the line of a response that was refused; none if another engine answered, or if it came too late,
-- which are changes
abbrev pub response_lines : StationFault → List Line
response_lines (Response OtherEngine) = []
response_lines (Response Stray) = []
response_lines fault = unstated level.Warning ∷ []

-- the text of a save that failed; if the disk did (2), the system's words may be in it
abbrev pub unsaved_text : (round number : ℕ) → Option (List ℕ)
unsaved_text round number = if number == 2 then None
    else Some (codes "snmpmon: round " ++ decimal round ++ codes ": not saved, mon_disk "
    ++ decimal number ++ codes "\n")

-- the line of a save that failed
abbrev pub unsaved_line : (round number : ℕ) → Line
unsaved_line round number = record { level = level.Error; text = unsaved_text round number }

-- the line of a round in which memory ran out
abbrev pub memory_line : ℕ → List ℕ
memory_line round = codes "snmpmon: round " ++ decimal round ++ codes ": out of memory\n"

-- The line of a notice, if it has one. What stays wrong is said once, as a change, and responses
-- from addresses of no target are one line.
abbrev pub notice_lines : ℕ → Notice → List Line
notice_lines round (GaveUp target) = []
notice_lines round (NotPolled target fault) = unstated level.Warning ∷ []
notice_lines round (BadResponse from fault) = response_lines fault
notice_lines round (Astray from) = []
notice_lines round (BadClaim from fault) = unstated level.Warning ∷ []
notice_lines round (NotShared peer fault) = unstated level.Warning ∷ []
notice_lines round (NotSaved number) = unsaved_line round number ∷ []
notice_lines round (NoMemory event) = stated level.Warning (memory_line round) ∷ []

-- the count of responses from addresses of no target after a notice, as far as 32 bits go
abbrev pub strays_after : ℕ → Notice → ℕ
strays_after count (Astray from) = min (count + 1) 4294967295
strays_after count other = count

-- the last such address after a notice
abbrev pub stray_after : Option Addr → Notice → Option Addr
stray_after last (Astray from) = Some from
stray_after last other = last

-- how many responses of these notices came from addresses of no target
abbrev pub strays_in : List Notice → ℕ
strays_in notices = fold strays_after 0 notices

-- the last of these addresses
abbrev pub last_stray : List Notice → Option Addr
last_stray notices = fold stray_after None notices

-- the end of a word after a number: none after 1
abbrev pub plural : ℕ → List ℕ
plural n = if n == 1 then [] else codes "s"

-- the line of responses from addresses of no target, if there are any: how many, and the last one
abbrev pub stray_lines : (round count : ℕ) → Option Addr → List Line
stray_lines round count None = []
stray_lines round count (Some last) = stated level.Warning (codes "snmpmon: round " ++ decimal round
    ++ codes ": "
    ++ decimal count ++ codes " response" ++ plural count ++ codes
    " came from addresses of no target, the last from "
    ++ addr_text last ++ codes "\n") ∷ []

-- the line of how often nothing could be received
abbrev pub unreceived_lines : (round count : ℕ) → List Line
unreceived_lines round count = if count == 0 then []
    else (stated level.Warning (codes "snmpmon: round " ++ decimal round
    ++ codes ": nothing could be received, " ++ decimal count ++ codes " time" ++ plural count
    ++ codes "\n") ∷ [])

-- the line of how many datagrams could not be sent
abbrev pub unsent_lines : (round count : ℕ) → List Line
unsent_lines round count = if count == 0 then []
    else (stated level.Warning (codes "snmpmon: round " ++ decimal round ++ codes ": "
    ++ decimal count ++ codes " datagram" ++ plural count ++ codes " could not be sent\n") ∷ [])

-- what is said of a round: its notices in order, and what else went wrong
abbrev pub round_lines : ℕ → RoundReport → List Line
round_lines round report = flat_map (notice_lines round) report.notices.items
    ++ stray_lines round (strays_in report.notices.items) (last_stray report.notices.items)
    ++ unreceived_lines round report.source_faults ++ unsent_lines round report.send_faults

-- what is said of an agent that restarted: its boots, or until when its samples are too old
abbrev pub restart_text : (boots : ℕ) → (until : Option ℕ) → List ℕ
restart_text boots None = codes " restarted: boots " ++ (decimal boots ++ codes "\n")
restart_text boots (Some time) =
    codes " restarted without raising its boots: its samples are too old until its time is past "
    ++ (decimal time ++ codes "\n")

-- the line of a target whose agent restarted
abbrev pub restart_line : (round number : ℕ) → Addr → (boots : ℕ) → (until : Option ℕ) → List ℕ
restart_line round number at boots until = codes "snmpmon: round "
    ++ (decimal round ++ (codes ": target "
    ++ (decimal number ++ (codes " at " ++ (addr_text at ++ restart_text boots until)))))

-- how grave it is that an agent restarted: if its samples are too old, something is wrong
abbrev pub restart_level : (until : Option ℕ) → Level
restart_level None = level.Info
restart_level (Some time) = level.Warning

-- that line, if there was a restart
abbrev pub restart_if : (round : ℕ) → TargetAge → Option Restart → List Line
restart_if round t None = []
restart_if round t (Some r) =
    stated (restart_level r.until) (restart_line round (t.number + 1) t.address r.boots r.until)
    ∷ []

-- the line of a target whose agent restarted in the last spell
abbrev pub restart_lines : (round : ℕ) → TargetAge → List Line
restart_lines round t = restart_if round t t.clock.restart

-- the line of a text about a round; none if it is empty
abbrev pub text_lines : Level → ℕ → List ℕ → List Line
text_lines level round [] = []
text_lines level round (c ∷ cs) =
    stated level (codes "snmpmon: round " ++ decimal round ++ codes ": " ++ (c ∷ cs) ++ codes "\n")
    ∷ []

-- a line of the program, in a round if it is of one
abbrev pub line_in : (round : Option ℕ) → List ℕ → List ℕ
line_in None line = codes "snmpmon: " ++ line ++ codes "\n"
line_in (Some round) line = codes "snmpmon: round " ++ decimal round ++ codes ": " ++ line
    ++ codes "\n"

-- how grave what became of an alarm is
abbrev pub alarm_level : AlarmEvent → Level
alarm_level (Raised boots time) = level.Warning
alarm_level _ = level.Notice

-- the line of an alarm of a board, in a round if it changed in one
abbrev pub alarm_note : (round : Option ℕ) → Printing → Board → AlarmChange → Level × List ℕ
alarm_note round printing board change = (
  alarm_level change.event,
  line_in round (change_line (shown_by printing.names) board printing.labels.items change),
)

-- Some of these lines were sent to standard error, from the first one on; all, unless memory ran
-- out.
pub record AreSaid (lines : List (Level × List ℕ)) (log : List AtHost)
    (result : Result Unit AllocError) : Type 0 where
  pub many : ℕ
  pub log_is : log ≡ map noted (take many lines)
  pub all : OnOk result (take many lines ≡ lines)

-- the lines of what is announced of a board's alarms in a round, whose windows were seen so before:
-- at a look, or between two
abbrev pub announced_notes : Printing → (round : ℕ) → Board → (seen : List (List ℕ)) → Announcer
    → (looks : Bool) → List (Level × List ℕ)
announced_notes printing round board seen announcer looks =
    map (alarm_note (Some round) printing board) (announced_of looks (changes_since board seen)
    announcer)

-- the lines of the alarms of a board that are raised, in order
abbrev pub raised_notes : Printing → Board → List (Level × List ℕ)
raised_notes printing board = map (alarm_note None printing board)
    (raised_from board 0 board.watch.rules)

-- the line of where a station is and what it polls
abbrev pub start_line : (number : ℕ) (at : SocketAddr) (incarnation : ℕ) (file : List ℕ)
    (targets peers : ℕ) → List ℕ
start_line number at incarnation file targets peers =
    codes "snmpmon: station " ++ decimal number ++ codes " at " ++ socket_text at
    ++ codes ", incarnation " ++ decimal incarnation ++ codes ", file " ++ file
    ++ codes ", targets: " ++ decimal targets ++ codes ", peers: " ++ decimal peers ++ codes "\n"

-- the line of what the peers of a station need whose file is new, as its first incarnation says
abbrev pub new_lines : (number incarnation : ℕ) → List Line
new_lines number incarnation = if incarnation == 1
    then (stated level.Warning (codes "snmpmon: station " ++ decimal number
    ++ codes
    " has a new file: a peer that knows it from before must be started again, or it offers nothing old\n") ∷ [])
    else []

-- the lines of a station that begins: where it is, and if it has peers what these need
abbrev pub start_lines : (number : ℕ) (at : SocketAddr) (incarnation : ℕ) (file : List ℕ)
    (targets peers : ℕ)
    → List Line
start_lines number at incarnation file targets peers =
    stated level.Info (start_line number at incarnation file targets peers)
    ∷ (if nat_lt 0 peers then new_lines number incarnation else [])

-- the line of where a station serves HTTP
abbrev pub http_line : SocketAddr → List ℕ
http_line at = codes "snmpmon: HTTP at " ++ socket_text at ++ codes "\n"

-- the line of a file that is shorter than a station's, and not empty
abbrev pub short_lines : (path : List ℕ) (size : ℕ) → List Line
short_lines path size = if size == 0 then []
    else if nat_lt size 2097152 then
    (stated level.Warning (codes "snmpmon: " ++ path ++ codes " has " ++ decimal size
    ++ codes " octets, so it is no station's file yet: it is laid out as one\n") ∷ [])
    else []

-- the line of a file that is shorter than a station's, and not empty, if its size is known
abbrev pub short_lines_of : {E : Type 0} → (path : List ℕ) → Result ℕ E → List Line
short_lines_of path (Ok size) = short_lines path size
short_lines_of path (Err fault) = []

-- the line of how long it is to the first round: seconds and tenths
abbrev pub first_line : ℕ → List ℕ
first_line left = codes "snmpmon: the first round begins in " ++ decimal (left / 1000) ++ codes "."
    ++ decimal (left % 1000 / 100) ++ codes " s\n"

-- the line of a round that took longer than the interval, both in milliseconds
abbrev pub outrun_lines : (round took interval : ℕ) → List Line
outrun_lines round took interval = if nat_lt interval took then
    (stated level.Warning (codes "snmpmon: round " ++ decimal round ++ codes " took "
    ++ decimal (took / 1000) ++ codes "."
    ++ decimal (took % 1000 / 100) ++ codes " s of " ++ decimal (interval / 1000) ++ codes " s\n")
    ∷ [])
    else []

-- the station that was opened, unless memory ran out for the line of an alarm
abbrev pub opened_to : Result Unit AllocError → State → Option State
opened_to (Ok done) state = Some state
opened_to (Err fault) state = None

-- A station was opened: the lines of its start were said, and then those of its raised alarms.
pub record IsOpened (number : ℕ) (at : SocketAddr) (file : List ℕ) (targets peers : ℕ)
    (printing : Printing) (log : List AtHost) (found : Option State) : Type 0 where
  pub state : State
  pub told : Result Unit AllocError
  pub begin : List AtHost
  pub begun : AreNoted (start_lines number at state.incarnation file targets peers) begin
  pub rest : List AtHost
  pub raised : AreSaid (raised_notes printing state.board) rest told
  pub log_is : log ≡ begin ++ rest
  pub found_is : found ≡ opened_to told state

-- A station was opened; or it could not be, and nothing was said; or memory ran out for the line of
-- an alarm.
abbrev pub IsOpening : (number : ℕ) (at : SocketAddr) (file : List ℕ) (targets peers : ℕ)
    → Printing → List AtHost → Result State Failure → Type 0
IsOpening number at file targets peers printing log (Ok state) =
    IsOpened number at file targets peers printing log (Some state)
IsOpening number at file targets peers printing log (Err failure) =
    ((log ≡ []) × IsNoStation failure)
    ⊎ (IsOpened number at file targets peers printing log None × IsMemory failure)
