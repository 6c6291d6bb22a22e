-- What a running station puts for the receiver of notifications, and its delivery.
use Rattle.std.specs.Prelude.{◌≡◌, ◌⊎◌, ℕ, max, min, Bool, true, false, List, [], ◌∷◌, ◌++◌, Option}
use Rattle.std.specs.Prelude.{Some, None, Result, Ok, Err, codes, slice_get}
use Rattle.httpdate.specs.Date.{unix_secs}
use Rattle.httpdate.specs.declared.date.HttpDate.{HttpDate as Date}
use Rattle.mio.specs.declared.net.stream.TcpStream.{TcpStream}
use Rattle.mon_alarms.specs.declared.change.AlarmChange.{AlarmChange}
use Rattle.mon_console.specs.Failure.{IsMemory, IsOfText}
use Rattle.mon_console.specs.Notices.{alarm_notice, device_notice}
use Rattle.mon_console.specs.declared.failure.Failure.{Failure}
use Rattle.mon_board.specs.declared.board.Board.{Board}
use Rattle.mon_console.specs.declared.printing.Printing.{Printing}
use Rattle.mon_console.specs.declared.seen.Seen.{Seen}
use Rattle.mon_courier.specs.Courier.{State, all_dropped, fresh, rest_of, with_mail, with_plan}
use Rattle.mon_courier.specs.Plan.{after_loss}
use Rattle.mon_courier.specs.Turn.{IsTurn}
use Rattle.mon_courier.specs.News.{news_text}
use Rattle.mon_courier.specs.declared.news.News.{News}
use Rattle.mon_courier.specs.declared.news.News.TheVariants.{Again}
use Rattle.mon_file_commands.specs.Line.{AreNoted, Line, stated}
use Rattle.mon_host.specs.AtHost.{AtHost}
use Rattle.mon_host.specs.declared.level.Level.{Level}
use Rattle.mon_host.specs.declared.level.Level.TheVariants as level
use Rattle.mon_http_client.specs.Target.{target_of}
use Rattle.mon_http_client.specs.declared.target.TargetFault.{TargetFault}
use Rattle.mon_http_client.specs.declared.target.TargetFault.TheVariants.{Https}
use Rattle.mon_notify.specs.Mail.{after_put}
use Rattle.mon_rounds.specs.declared.changes.Change.{Change}
use Rattle.mon_rounds.specs.declared.changes.Trouble.{Trouble}
use Rattle.mon_rounds.specs.declared.changes.Trouble.TheVariants.{SilentTarget}
use Rattle.mon_rounds.specs.declared.freshness.TargetAge.{TargetAge}
use Rattle.mon_station_commands.specs.Troubles.{IsText, silent_text}
use Rattle.mon_udp.specs.declared.addr.Addr.{Addr}

-- what delivers notifications over the system's streams
abbrev pub Courier : Type 0
Courier = State TcpStream

-- what is expected in place of a URL with this fault
abbrev pub wanted_of : TargetFault → List ℕ
wanted_of Https = codes "http://, and a proxy for HTTPS,"
wanted_of other = codes "http://a.b.c.d:port/path"

-- What delivers to a URL, if there is one: with no text yet, to the target that the URL names. Else
-- the URL names none, which the failure says, or memory ran out.
abbrev pub IsCourier : Option (List ℕ) → Result (Option Courier) Failure → Type 0
IsCourier None result = result ≡ Ok None
IsCourier (Some url) (Ok courier) = (host : List ℕ) × (address : Addr) × (path : List ℕ)
    × (target_of url ≡ Ok (host, address, path)) × (courier ≡ Some (fresh host path address))
IsCourier (Some url) (Err failure) = IsMemory failure
    ⊎ ((fault : TargetFault) × (target_of url ≡ Err fault) × IsOfText url (wanted_of fault) failure)

-- a text was put
abbrev pub with_text : List ℕ → Courier → Courier
with_text text c = with_mail (after_put text c.mail) c

-- there was no memory for a text, which is counted
abbrev pub lost : Courier → Courier
lost c = with_plan (after_loss c.plan) c

-- something done once for each of a list, in order
abbrev pub Chain : {X : Type 0} → (Step : X → Courier → Courier → Type 0) → List X
    → (before after : Courier) → Type 0
Chain Step [] before after = after ≡ before
Chain Step (x ∷ xs) before after = (between : Courier) × Step x before between
    × Chain Step xs between after

-- something was done; or there was no memory for it, which is counted
abbrev pub OrLost : {X : Type 0} → (Step : X → Courier → Courier → Type 0) → X
    → (before after : Courier) → Type 0
OrLost Step x before after = Step x before after ⊎ (after ≡ lost before)

-- something was done if there is a receiver
abbrev pub IfCarried : (Courier → Courier → Type 0) → (before after : Option Courier) → Type 0
IfCarried Done None after = after ≡ None
IfCarried Done (Some before) None = ⊥
IfCarried Done (Some before) (Some after) = Done before after

-- the date at a time in seconds since 1970; a time after the year 9999 counts as its end
abbrev pub IsDateAt : ℕ → Date → Type 0
IsDateAt seconds date = unix_secs date ≡ min seconds 253402300799

-- this station sees something at a time in seconds since 1970
abbrev pub IsSeenAt : (station seconds : ℕ) → Seen → Type 0
IsSeenAt station seconds seen = (seen.station ≡ station) × IsDateAt seconds seen.date

-- the notice of a change of an alarm is put
abbrev pub IsAlarmPut : Printing → Board → Seen → AlarmChange → (before after : Courier) → Type 0
IsAlarmPut printing board seen change before after =
    after ≡ with_text (alarm_notice printing board seen change) before

-- The changes of a board's alarms that a station sees at a time, in seconds since 1970, are put in
-- their order, if there is a receiver.
abbrev pub AreAlarmsPut : Printing → (station seconds : ℕ) → Board → List AlarmChange
    → (before after : Option Courier) → Type 0
AreAlarmsPut printing station seconds board changes before after = (seen : Seen)
    × IsSeenAt station seconds seen
    × IfCarried (Chain (IsAlarmPut printing board seen) changes) before after

-- whether a trouble is that a target gives no answer
abbrev pub is_silence : Trouble → Bool
is_silence SilentTarget = true
is_silence other = false

-- a notice of a device is put that is down or up again, if there is such a target, with its line
abbrev pub IsDevicePut : Printing → Seen → (is_down : Bool) → Option TargetAge
    → (before after : Courier) → Type 0
IsDevicePut printing seen is_down None before after = after ≡ before
IsDevicePut printing seen is_down (Some target) before after = (line : List ℕ)
    × IsText (silent_text is_down target) line
    × (after ≡ with_text (device_notice printing seen
    record { target = target.address; is_down = is_down } line) before)

-- a change is put if it is that a target gives no answer, or answers again
abbrev pub IsPutIf : (is_silent : Bool) → Printing → Seen → List TargetAge → Change
    → (before after : Courier) → Type 0
IsPutIf true printing seen targets change before after =
    IsDevicePut printing seen change.begins (slice_get targets change.number) before after
IsPutIf false printing seen targets change before after = after ≡ before

-- a change is put or not, by whether its trouble is that a target gives no answer
abbrev pub IsPut : Printing → Seen → List TargetAge → Change → (before after : Courier) → Type 0
IsPut printing seen targets change before after =
    IsPutIf (is_silence change.trouble) printing seen targets change before after

-- The changes of trouble that a station sees at a time, in seconds since 1970, are put in their
-- order as far as they are of devices, if there is a receiver.
abbrev pub AreTroublesPut : Printing → (station seconds : ℕ) → List TargetAge → List Change
    → (before after : Option Courier) → Type 0
AreTroublesPut printing station seconds targets changes before after = (seen : Seen)
    × IsSeenAt station seconds seen
    × IfCarried (Chain (IsPut printing seen targets) changes) before after

-- how many texts were not delivered and never will be, as far as 64 bits go
abbrev pub dropped_of : Courier → ℕ
dropped_of c = min (all_dropped c) 18446744073709551615

-- after how many milliseconds a turn is needed, from 1 to 1,000
abbrev pub turn_after : Option ℕ → ℕ
turn_after None = 1000
turn_after (Some rest) = max 1 (min rest 1000)

-- after how many milliseconds what delivers needs a turn: 1,000 if there is no receiver
abbrev pub until_turn : (now : ℕ) → Option Courier → ℕ
until_turn now None = 1000
until_turn now (Some c) = turn_after (rest_of now c)

-- how grave it is what a turn came to
abbrev pub news_level : News → Level
news_level Again = level.Notice
news_level other = level.Warning

-- the line of what a turn came to
abbrev pub news_line : News → Line
news_line news = stated (news_level news) (codes "snmpmon: notifications: " ++ news_text news
    ++ codes "\n")

-- the lines of what a turn came to, which is one or none
abbrev pub news_lines : Option News → List Line
news_lines None = []
news_lines (Some news) = news_line news ∷ []

-- What delivers had a turn at this time, and what it came to was said. What the system answered is
-- not known.
abbrev pub IsTurnSaid : (now : ℕ) → (before after : Courier) → List AtHost → Type 0
IsTurnSaid now before after log = (said : Option News)
    × IsTurn (λ at answer. Unit {0}) (λ stream octets answer next. Unit {0})
    (λ stream octets answer next. Unit {0}) now before after said
    × AreNoted (news_lines said) log

-- What delivers had a turn at this time, and what it came to was said, if there is a receiver. Else
-- nothing is done.
abbrev pub HasTurn : (now : ℕ) → (before after : Option Courier) → List AtHost → Type 0
HasTurn now None after log = (after ≡ None) × (log ≡ [])
HasTurn now (Some before) None log = ⊥
HasTurn now (Some before) (Some after) log = IsTurnSaid now before after log

-- a text was put
abbrev pub IsTextPut : List ℕ → (before after : Courier) → Type 0
IsTextPut text before after = after ≡ with_text text before

-- nothing was done except that texts were put, or counted if there was no memory for them
abbrev pub IsFilled : (before after : Courier) → Type 0
IsFilled before after = (texts : List (List ℕ)) × Chain (OrLost IsTextPut) texts before after

-- What delivers had a turn at each of these times, the newest first. Before a turn nothing was done
-- except that texts were put.
abbrev pub AreTurns : List ℕ → (before after : Option Courier) → Type 0
AreTurns [] before after = after ≡ before
AreTurns (now ∷ earlier) before after = (between filled : Option Courier) × (log : List AtHost)
    × AreTurns earlier before between × IfCarried IsFilled between filled
    × HasTurn now filled after log

-- the newest of these times, or this one if there is none
abbrev pub newest_of : ℕ → List ℕ → ℕ
newest_of was [] = was
newest_of was (now ∷ earlier) = now

-- What delivers had a turn whenever time had gone by, which was counted from one time to another:
-- the last of its turns was at the latter.
abbrev pub IsServed : (was ended : ℕ) → (before after : Option Courier) → Type 0
IsServed was ended before after = (times : List ℕ) × AreTurns times before after
    × (ended ≡ newest_of was times)
