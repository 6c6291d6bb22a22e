-- How long a round waits, and what else limits a station.
use Rattle.std.specs.Prelude.{ℕ, ◌+◌, ◌*◌, ◌/◌, List, [], ◌∷◌, ◌++◌, if◌then◌else◌, ◌==◌, codes}
use Rattle.std.specs.Prelude.{decimal, length, nat_le, string_bytes, sum_by}
use Rattle.mon_board.specs.declared.instance.Watched.{Watched}
use Rattle.mon_poller.specs.declared.target.Target.{Target}
use Rattle.mon_settings.specs.RoundTime.{greatest_tries, has_some, waits}
use Rattle.mon_settings.specs.declared.station.StationSettings.{StationSettings}
use Rattle.mon_udp.specs.Addr.{addr_text}
use Rattle.mon_udp.specs.declared.addr.Addr.{Addr}

-- how many milliseconds of an interval, in seconds, each of these stations has to itself if they
-- poll one after another
abbrev pub turn_of : (interval stations : ℕ) → ℕ
turn_of interval stations = interval * 1000 / stations

-- how many milliseconds a round takes: if all targets answer, if none does, and at most
abbrev pub round_line : (least silent most wait_ms : ℕ) → List ℕ
round_line least silent most wait_ms =
    codes "round: " ++ decimal least ++ codes " ms if all targets answer, " ++ decimal silent
    ++ codes " ms if none does, " ++ decimal most ++ codes " ms at most (wait_ms = "
    ++ decimal wait_ms ++ codes "); at most 4096 datagrams\n"

-- what to change if the longest round is longer than the interval, if there is one
abbrev pub interval_line : (most interval : ℕ) → List ℕ
interval_line most interval = if interval == 0 then []
    else if nat_le most (interval * 1000) then []
    else (codes "interval: " ++ decimal interval
    ++ codes
    " s are less than the longest round; fewer tries, a smaller wait_ms or a longer --interval keep rounds on time\n")

-- how many stations poll one after another, and how long each one's turn is
abbrev pub turn_line : (stations turn : ℕ) → List ℕ
turn_line stations turn =
    codes "turns: " ++ decimal stations ++ codes " stations poll one after another, each in "
    ++ decimal turn ++ codes " ms of the interval\n"

-- what to change if a round in which no target answers is longer than the turn
abbrev pub outlasting_line : (silent turn : ℕ) → List ℕ
outlasting_line silent turn = if nat_le silent turn then [] else
    (codes "turns: a round of " ++ decimal silent
    ++ codes
    " ms outlasts its turn; a longer --interval, fewer tries or a smaller wait_ms keep stations apart\n")

-- the lines about turns, if there is an interval and a peer
abbrev pub turn_lines : (silent interval peers : ℕ) → List ℕ
turn_lines silent interval peers = if interval == 0 then []
    else if peers == 0 then []
    else (turn_line (peers + 1) (turn_of interval (peers + 1))
    ++ outlasting_line silent (turn_of interval (peers + 1)))

-- what to do about agents that renew their counters less often than samples are taken, which come
-- this many milliseconds apart
abbrev pub sample_line : (apart : ℕ) → List ℕ
sample_line apart = if nat_le 5000 apart then [] else
    (codes "samples: one every " ++ decimal apart
    ++ codes
    " ms; an agent that renews its counters less often (net-snmp's every 3 s) makes rates of 0 and too high ones: a longer --interval mends that, and --alarm-after 4 keeps most such alarms from being announced\n")

-- that line for a station with these peers, if there is an interval
abbrev pub sample_lines : (interval peers : ℕ) → List ℕ
sample_lines interval peers = if interval == 0 then [] else sample_line
    (turn_of interval (peers + 1))

-- of a target: its number, its address, how many objects it is asked for, and how often
abbrev pub target_text : (number : ℕ) (at : Addr) (objects tries : ℕ) → List ℕ
target_text number at objects tries =
    codes "target " ++ decimal number ++ codes " at " ++ addr_text at ++ codes ": objects "
    ++ decimal objects ++ codes ", tries " ++ decimal tries ++ codes "\n"

-- the line of the target of this number
abbrev pub target_line : ℕ → Target → List ℕ
target_line number t = target_text number t.address (length t.objects) t.tries

-- a line for each target, of which the first has this number
abbrev pub target_lines : ℕ → List Target → List ℕ
target_lines number [] = []
target_lines number (t ∷ ts) = target_line number t ++ target_lines (number + 1) ts

-- how many samples these instances have at most
abbrev pub samples_of : List Watched → ℕ
samples_of instances = sum_by (λ w. w.window) instances

-- how much is kept in memory, and in the file
abbrev pub kept_lines : (instances samples : ℕ) (file : List ℕ) → List ℕ
kept_lines instances samples file =
    codes "windows: instances " ++ decimal instances ++ codes ", samples at most "
    ++ decimal samples ++ codes "\nfile: " ++ file ++ codes ", " ++ decimal 2097152
    ++ codes " octets\n"

-- how many milliseconds a round of these settings waits if no target answers
abbrev pub silent_in : StationSettings → ℕ
silent_in s = waits s.wait_ms (greatest_tries s.core.targets) (has_some s.core.peers)

-- Within how many milliseconds of one another rounds must end if a station of these settings is
-- healthy: twice the longest round, and an interval of this many seconds.
abbrev pub longest_gap : StationSettings → ℕ → ℕ
longest_gap s interval = 2 * (4 * silent_in s) + interval * 1000

-- what limits a station of these settings, whose rounds begin this many seconds apart (0: at once)
abbrev pub limits_text : StationSettings → ℕ → List ℕ
limits_text s interval =
    round_line (waits s.wait_ms 0 (has_some s.core.peers)) (silent_in s) (4 * silent_in s) s.wait_ms
    ++ interval_line (4 * silent_in s) interval
    ++ turn_lines (silent_in s) interval (length s.core.peers)
    ++ sample_lines interval (length s.core.peers)
    ++ target_lines 1 s.core.targets
    ++ kept_lines (length s.core.watch.instances) (samples_of s.core.watch.instances)
    (string_bytes s.file)
