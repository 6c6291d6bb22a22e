-- What the arguments ask for, by the matches that clap makes of them: rows, each under the id of an
-- argument.
use Rattle.std.specs.Prelude.{◌≡◌, ◌≢◌, ◌⊎◌, ◌<◌, ◌≤◌, ◌≤ℤ◌, ◌^◌, FitsSigned, IfSome, IsSome, ◌||◌}
use Rattle.std.specs.Prelude.{ℕ, ℤ, pos, Bool, List, [], ◌∷◌, Option, Some, None, codes, unwrap_or}
use Rattle.std.specs.Prelude.{is_some, ⊤, true, false, option_map}
use Rattle.std.specs.Option.{option_map_or}
use Rattle.std.specs.Str.{bytes_eq}
use Rattle.std.specs.Str.Parse.{IsNumeral, digits_value, signed_digits_value, without_leading_plus}
use Rattle.std.specs.Str.Parse.{without_leading_sign}
use Rattle.std.specs.Int.{w32}
use Rattle.clap.specs.Words.{Row, Text, all_of, first_of, one_of}
use Rattle.clap.specs.Walk.{texts}
use Rattle.std.specs.Borrow.{Bor}
use Rattle.mon_cli.specs.Choice.{word_of}
use Rattle.mon_cli.specs.SortWord.{sort_word}
use Rattle.mon_formats.specs.FormatWord.{format_word}
use Rattle.mon_cli.specs.Line.{Argument}
use Rattle.mon_cli.specs.Table.{taken, value_of}
use Rattle.mon_cli.specs.declared.lines.Value.{Value}
use Rattle.mon_cli.specs.declared.lines.Value.TheVariants as value
use Rattle.mon_cli.specs.declared.choice.Choice.{Choice}
use Rattle.mon_cli.specs.declared.choice.Choice.TheVariants as commands
use Rattle.mon_formats.specs.declared.format.Format.{Format}
use Rattle.mon_formats.specs.declared.format.Format.TheVariants as report
use Rattle.mon_page.specs.declared.extras.Sort.{Sort}
use Rattle.mon_cli.specs.declared.meaning.Named.{Named}
use Rattle.mon_cli.specs.declared.meaning.Printed.{Printed}
use Rattle.mon_cli.specs.declared.meaning.Request.{Request}
use Rattle.mon_cli.specs.declared.meaning.AgentArgs.{AgentArgs}
use Rattle.mon_cli.specs.declared.meaning.AnswerArgs.{AnswerArgs}
use Rattle.mon_cli.specs.declared.meaning.MibArgs.{MibArgs}
use Rattle.mon_cli.specs.declared.meaning.StationArgs.{StationArgs}
use Rattle.mon_cli.specs.declared.meaning.Scene.{Scene}
use Rattle.mon_cli.specs.declared.meaning.SettingsArgs.{SettingsArgs}
use Rattle.mon_cli.specs.declared.meaning.ReportArgs.{ReportArgs}
use Rattle.mon_cli.specs.declared.meaning.CarryArgs.{CarryArgs}
use Rattle.mon_cli.specs.declared.meaning.Timing.{Timing}
use Rattle.mon_cli.specs.declared.meaning.Invocation.{Invocation}
use Rattle.mon_cli.specs.declared.meaning.Invocation.TheVariants as asked

-- the text of an argument, empty where it has none
abbrev pub text_in : Text → List Row → Text
text_in id rows = unwrap_or (first_of id rows) []

-- all values of an argument, in the order of the command line
abbrev pub all_in : Text → List Row → List Text
all_in id rows = unwrap_or (all_of id rows) []

-- a flag was given
abbrev pub is_on : Text → List Row → Bool
is_on id rows = option_map_or (λ t. bytes_eq t (codes "true")) (first_of id rows) false

-- v where P holds, and else nothing
abbrev pub IsIf : {T : Type 0} → Type 0 → T → Option T → Type 0
IsIf P v (Some x) = P × (x ≡ v)
IsIf P v None = P → ⊥

-- the number that a text spells in decimal, if there is a text and it spells one of this many bits
abbrev pub IsNumber : ℕ → Option Text → Option ℕ → Type 0
IsNumber bits None n = n ≡ None
IsNumber bits (Some t) n = IsIf (IsNumeral 10 (without_leading_plus t)
    × (digits_value 10 (without_leading_plus t) < 2 ^ bits))
    (digits_value 10 (without_leading_plus t)) n

-- the number with a sign that a text spells in decimal, if it spells one of 32 bits
abbrev pub IsInteger : Option Text → Option ℤ → Type 0
IsInteger None n = n ≡ None
IsInteger (Some t) n = IsIf (IsNumeral 10 (without_leading_sign t)
    × FitsSigned w32 (signed_digits_value 10 t)) (signed_digits_value 10 t) n

-- the number that a text spells in decimal, or another number if there is no text
abbrev pub IsNumberOr : ℕ → ℕ → Option Text → ℕ → Type 0
IsNumberOr bits other t n = (read : Option ℕ) × IsNumber bits t read × (n ≡ unwrap_or read other)

-- the number with a sign that a text spells in decimal, or another number if there is no text
abbrev pub IsIntegerOr : ℤ → Option Text → ℤ → Type 0
IsIntegerOr other t n = (read : Option ℤ) × IsInteger t read × (n ≡ unwrap_or read other)

-- the modules of -m in the order of the command line, and --names
abbrev pub IsNamed : List Row → Named → Type 0
IsNamed rows n = (texts n.modules.now ≡ all_in (codes "module") rows)
    × (n.shown ≡ is_on (codes "names") rows)

-- a format by its word, or text where the word is none of a format
abbrev pub IsFormatOf : Text → Format → Type 0
IsFormatOf t f = (t ≡ format_word f) ⊎ ((f ≡ report.Text) × ((g : Format) → t ≢ format_word g))

-- whether --columns was given, and the word after --format
abbrev pub IsFormat : Bool → Text → Format → Type 0
IsFormat true t f = f ≡ report.Columns
IsFormat false t f = IsFormatOf t f

-- whether --columns or --format was given
abbrev pub names_format : List Row → Bool
names_format rows = is_on (codes "columns") rows || is_some (first_of (codes "format") rows)

-- the order of rows that a word names, if there is a word and it names one
abbrev pub IsSort : Option Text → Option Sort → Type 0
IsSort None s = s ≡ None
IsSort (Some t) (Some s) = t ≡ sort_word s
IsSort (Some t) None = (s : Sort) → t ≢ sort_word s

-- how a report is printed
abbrev pub IsPrinted : List Row → Printed → Type 0
IsPrinted rows p = IsFormat (is_on (codes "columns") rows) (text_in (codes "format") rows) p.format
    × (p.chosen ≡ names_format rows)
    × IsSort (first_of (codes "sort") rows) p.sort
    × (p.station_label ≡ is_on (codes "station-label") rows)
    × IsNamed rows p.named

-- a replay's report is printed where any of these was given
abbrev pub wants_report : List Row → Bool
wants_report rows = is_on (codes "report") rows || names_format rows

-- ADDRESS, COMMUNITY and all NAMEs in the order of the command line
abbrev pub IsRequest : List Row → Request → Type 0
IsRequest rows q = (q.address.now ≡ text_in (codes "ADDRESS") rows)
    × (q.community.now ≡ text_in (codes "COMMUNITY") rows)
    × (texts q.names.now ≡ all_in (codes "NAME") rows)
    × IsNamed rows q.named

-- --at, --fuses and --times
abbrev pub IsScene : List Row → Scene → Type 0
IsScene rows s = IsNumberOr 64 0 (one_of (codes "at") rows) s.at
    × IsNumberOr 64 0 (one_of (codes "fuses") rows) s.fuses
    × IsNumberOr 32 1 (one_of (codes "times") rows) s.times

-- --rounds, --interval, --phase, --report-every and --save-every
abbrev pub IsTiming : List Row → Timing → Type 0
IsTiming rows t = IsNumberOr 32 0 (one_of (codes "rounds") rows) t.rounds
    × IsNumberOr 32 0 (one_of (codes "interval") rows) t.interval
    × IsNumber 32 (one_of (codes "phase") rows) t.phase
    × IsNumberOr 32 0 (one_of (codes "report-every") rows) t.report_every
    × IsNumberOr 32 1 (one_of (codes "save-every") rows) t.save_every

-- SETTINGS
abbrev pub IsSettings : List Row → Bor Text → Type 0
IsSettings rows path = path.now ≡ text_in (codes "SETTINGS") rows

-- the arguments of `agent`
abbrev pub IsAgent : List Row → AgentArgs → Type 0
IsAgent rows w = IsSettings rows w.settings
    × IsInteger (one_of (codes "boots") rows) w.boots
    × IsNumberOr 32 0 (one_of (codes "count") rows) w.count

-- the arguments of `answer`
abbrev pub IsAnswer : List Row → AnswerArgs → Type 0
IsAnswer rows w = IsSettings rows w.settings
    × IsInteger (one_of (codes "boots") rows) w.boots
    × IsScene rows w.scene
    × IsNamed rows w.named

-- FILE, and the modules of -m in the order of the command line
abbrev pub IsMib : List Row → MibArgs → Type 0
IsMib rows w = (w.file.now ≡ text_in (codes "FILE") rows) × (texts w.modules.now
    ≡ all_in (codes "module") rows)

-- the arguments of `station`
abbrev pub IsStation : List Row → StationArgs → Type 0
IsStation rows w = IsSettings rows w.settings
    × (w.checks ≡ is_on (codes "check") rows)
    × (w.follows ≡ is_on (codes "follow-settings") rows)
    × IsTiming rows w.timing
    × IsNumberOr 32 3 (one_of (codes "stale-after") rows) w.stale_after
    × IsNumberOr 32 1 (one_of (codes "alarm-after") rows) w.alarm_after
    × (w.log_levels ≡ is_on (codes "log-levels") rows)
    × (option_map (λ o. o.now) w.out ≡ first_of (codes "out") rows)
    × (option_map (λ o. o.now) w.http ≡ first_of (codes "http") rows)
    × (texts w.http_hosts.now ≡ all_in (codes "http-host") rows)
    × (option_map (λ o. o.now) w.notify ≡ first_of (codes "notify") rows)
    × (option_map (λ o. o.now) w.labels ≡ first_of (codes "labels") rows)
    × IsPrinted rows w.printed

-- --stations or --first-group was given
abbrev pub numbers_groups : List Row → Bool
numbers_groups rows = is_some (first_of (codes "stations") rows)
    || is_some (first_of (codes "first-group") rows)

-- the arguments of `settings`
abbrev pub IsSurvey : List Row → SettingsArgs → Type 0
IsSurvey rows w = (w.address.now ≡ text_in (codes "ADDRESS") rows)
    × (w.community.now ≡ text_in (codes "COMMUNITY") rows)
    × IsNumberOr 32 1 (one_of (codes "station") rows) w.station
    × (option_map (λ o. o.now) w.listen ≡ first_of (codes "listen") rows)
    × (option_map (λ o. o.now) w.file ≡ first_of (codes "file") rows)
    × IsNumberOr 32 32 (one_of (codes "window") rows) w.window
    × IsNumberOr 32 1000 (one_of (codes "wait-ms") rows) w.wait_ms
    × IsNumberOr 32 3 (one_of (codes "tries") rows) w.tries
    × (texts w.peers.now ≡ all_in (codes "peer") rows)
    × (option_map (λ o. o.now) w.only ≡ first_of (codes "only") rows)
    × (w.up ≡ is_on (codes "up") rows)
    × (w.part.now ≡ text_in (codes "match") rows)
    × (option_map (λ o. o.now) w.thresholds ≡ first_of (codes "thresholds") rows)
    × (option_map (λ o. o.now) w.split ≡ first_of (codes "split") rows)
    × (option_map (λ o. o.now) w.machines ≡ first_of (codes "machines") rows)
    × IsNumberOr 32 1 (one_of (codes "stations") rows) w.stations
    × IsNumberOr 32 1 (one_of (codes "first-group") rows) w.first_group
    × (w.numbered ≡ numbers_groups rows)
    × (option_map (λ o. o.now) w.append ≡ first_of (codes "append") rows)
    × (option_map (λ o. o.now) w.update ≡ first_of (codes "update") rows)
    × (option_map (λ o. o.now) w.labels ≡ first_of (codes "labels") rows)
    × (texts w.modules.now ≡ all_in (codes "module") rows)

-- the arguments of `report`
abbrev pub IsSaved : List Row → ReportArgs → Type 0
IsSaved rows w = (option_map (λ o. o.now) w.settings ≡ first_of (codes "SETTINGS") rows)
    × (option_map (λ o. o.now) w.file ≡ first_of (codes "file") rows)
    × (option_map (λ o. o.now) w.labels ≡ first_of (codes "labels") rows)
    × IsPrinted rows w.printed

-- the arguments of `carry`
abbrev pub IsCarry : List Row → CarryArgs → Type 0
IsCarry rows w = (w.old.now ≡ text_in (codes "OLD") rows)
    × (w.new.now ≡ text_in (codes "NEW") rows)
    × (texts w.dropped.now ≡ all_in (codes "drop") rows)
    × (w.dry_run ≡ is_on (codes "dry-run") rows)
    × (w.previous ≡ is_on (codes "previous") rows)

-- what the rows of a command's arguments ask for
abbrev pub Says : Choice → List Row → Invocation → Type 0
Says commands.Replay rows (asked.Replay w) =
    IsNumberOr 32 8 (one_of (codes "N") rows) w.size × (w.reports ≡ wants_report rows)
    × IsPrinted rows w.printed
Says commands.Get rows (asked.Get request) = IsRequest rows request
Says commands.Next rows (asked.Next request) = IsRequest rows request
Says commands.Bulk rows (asked.Bulk w) = IsRequest rows w.request
    × IsIntegerOr (pos 0) (one_of (codes "non-repeaters") rows) w.non_repeaters
    × IsIntegerOr (pos 0) (one_of (codes "max-repetitions") rows) w.max_repetitions
Says commands.Walk rows (asked.Walk w) = IsRequest rows w.request
    × IsNumberOr 32 0 (one_of (codes "bulk") rows) w.bulk
Says commands.Set rows (asked.Set w) =
    IsRequest rows w.request × (w.kind.now ≡ text_in (codes "KIND") rows)
    × (w.value.now ≡ text_in (codes "VALUE") rows)
Says commands.Settings rows (asked.Settings w) = IsSurvey rows w
Says commands.Agent rows (asked.Agent w) = IsAgent rows w
Says commands.Answer rows (asked.Answer w) = IsAnswer rows w
Says commands.Mib rows (asked.Mib w) = IsMib rows w
Says commands.Station rows (asked.Station w) = IsStation rows w
Says commands.Report rows (asked.Report w) = IsSaved rows w
Says commands.Carry rows (asked.Carry w) = IsCarry rows w
Says commands.Healthz rows (asked.Healthz w) = w.address.now ≡ text_in (codes "ADDRESS") rows
Says commands.SelfTest rows asked.SelfTest = ⊤
Says commands.Rehearse rows (asked.Rehearse w) = IsSettings rows w.settings
    × IsNumberOr 32 1 (one_of (codes "K") rows) w.stations
Says _ rows _ = ⊥

-- What all the arguments ask for, by three things: whether --version was given, the rows before any
-- command, and the command that was met, with its rows.
abbrev pub AsksFor : Bool → List Row → Option (Text × List Row) → Invocation → Type 0
AsksFor true rows command a = a ≡ asked.Version
AsksFor false rows None a = Says commands.Replay rows a
AsksFor false rows (Some command) a = (choice : Choice) × (command.0 ≡ word_of choice)
    × Says choice command.1 a

-- ---- bounds

-- the text spells a decimal number of these bounds, both among them
abbrev pub IsBetween : ℕ → ℕ → Text → Type 0
IsBetween low high t = IsNumeral 10 (without_leading_plus t)
    × (low ≤ digits_value 10 (without_leading_plus t)) × (digits_value 10 (without_leading_plus t)
    ≤ high)

-- the text spells a number within the bounds of such a value, if that has bounds
abbrev pub IsAllowed : Value → Text → Type 0
IsAllowed (value.Number (pos low) (pos high)) t = IsBetween low high t
IsAllowed (value.Natural low high) t = IsBetween low high t
IsAllowed _ t = ⊤

-- what the rows give for each of these arguments is allowed
abbrev pub AreAllowed : List Argument → List Row → Type 0
AreAllowed [] rows = ⊤
AreAllowed (a ∷ rest) rows = IfSome (one_of a.id rows) (IsAllowed (taken a.takes))
    × AreAllowed rest rows

-- the rows have a value for each of these arguments that is required
abbrev pub AreThere : List Argument → List Row → Type 0
AreThere [] rows = ⊤
AreThere (a ∷ rest) rows = (a.needed ≡ true → IsSome (one_of a.id rows)) × AreThere rest rows

-- the number is within the bounds of such a value
abbrev pub IsIn : Value → ℕ → Type 0
IsIn (value.Number (pos low) (pos high)) n = (low ≤ n) × (n ≤ high)
IsIn (value.Natural low high) n = (low ≤ n) × (n ≤ high)
IsIn _ n = ⊥

-- the number with a sign is within the bounds of such a value, if there is one
abbrev pub IsSignedIn : Value → ℤ → Type 0
IsSignedIn (value.Number low high) n = (low ≤ℤ n) × (n ≤ℤ high)
IsSignedIn _ n = ⊥

-- when rounds are run: 0 is a number of rounds, an interval or a report that is left out
abbrev pub IsTimingIn : Timing → Type 0
IsTimingIn t = ((t.rounds ≡ 0) ⊎ IsIn (value_of commands.Station (codes "rounds")) t.rounds)
    × IfSome t.phase (IsIn (value_of commands.Station (codes "phase")))
    × ((t.interval ≡ 0) ⊎ IsIn (value_of commands.Station (codes "interval")) t.interval)
    × ((t.report_every ≡ 0) ⊎ IsIn (value_of commands.Station (codes "report-every"))
    t.report_every)
    × IsIn (value_of commands.Station (codes "save-every")) t.save_every

-- Each number is within the bounds of its argument in the table, whether it was given or is a
-- default.
abbrev pub IsWithin : Invocation → Type 0
IsWithin (asked.Replay w) = IsIn (value_of commands.Replay (codes "N")) w.size
IsWithin (asked.Bulk w) = IsSignedIn (value_of commands.Bulk (codes "non-repeaters"))
    w.non_repeaters
    × IsSignedIn (value_of commands.Bulk (codes "max-repetitions")) w.max_repetitions
IsWithin (asked.Walk w) = (w.bulk ≡ 0) ⊎ IsIn (value_of commands.Walk (codes "bulk")) w.bulk
IsWithin (asked.Settings w) = IsIn (value_of commands.Settings (codes "station")) w.station
    × IsIn (value_of commands.Settings (codes "window")) w.window
    × IsIn (value_of commands.Settings (codes "wait-ms")) w.wait_ms
    × IsIn (value_of commands.Settings (codes "tries")) w.tries
    × IsIn (value_of commands.Settings (codes "stations")) w.stations
    × IsIn (value_of commands.Settings (codes "first-group")) w.first_group
IsWithin (asked.Agent w) = IfSome w.boots (IsSignedIn (value_of commands.Agent (codes "boots")))
    × IsIn (value_of commands.Agent (codes "count")) w.count
IsWithin (asked.Answer w) = IfSome w.boots (IsSignedIn (value_of commands.Answer (codes "boots")))
    × IsIn (value_of commands.Answer (codes "at")) w.scene.at
    × IsIn (value_of commands.Answer (codes "times")) w.scene.times
IsWithin (asked.Station w) = IsTimingIn w.timing
    × IsIn (value_of commands.Station (codes "stale-after")) w.stale_after
    × IsIn (value_of commands.Station (codes "alarm-after")) w.alarm_after
IsWithin (asked.Rehearse w) = IsIn (value_of commands.Rehearse (codes "K")) w.stations
IsWithin _ = ⊤

-- a station that is neither to be checked nor to run any rounds
abbrev pub LacksRounds : Invocation → Type 0
LacksRounds (asked.Station w) = (w.checks ≡ false) × (w.timing.rounds ≡ 0)
LacksRounds _ = ⊥

-- a station that is given a phase, and no interval that it would be in
abbrev pub LacksInterval : Invocation → Type 0
LacksInterval (asked.Station w) = IsSome w.timing.phase × (w.timing.interval ≡ 0)
LacksInterval _ = ⊥

-- a report of saved windows that is given no settings and no file, or both
abbrev pub LacksSource : Invocation → Type 0
LacksSource (asked.Report w) = is_some w.settings ≡ is_some w.file
LacksSource _ = ⊥

-- a report of saved windows whose series get the station's number, and no settings that have the
-- number
abbrev pub LacksNumber : Invocation → Type 0
LacksNumber (asked.Report w) = (w.printed.station_label ≡ true) × (w.settings ≡ None)
LacksNumber _ = ⊥

-- machines for stations, and no folder for the settings of the stations
abbrev pub LacksSplit : Invocation → Type 0
LacksSplit (asked.Settings w) = IsSome w.machines × (w.split ≡ None)
LacksSplit _ = ⊥

-- how many stations a group has, or the number of the first group, and no machines
abbrev pub LacksMachines : Invocation → Type 0
LacksMachines (asked.Settings w) = (w.numbered ≡ true) × (w.machines ≡ None)
LacksMachines _ = ⊥

-- a report whose rows are sorted and which is no table
abbrev pub SortsNoTable : Printed → Type 0
SortsNoTable p = IsSome p.sort × (p.format ≢ report.Columns)

-- the rows of a station's report or of a saved one are sorted, and it is no table
abbrev pub LacksColumns : Invocation → Type 0
LacksColumns (asked.Station w) = SortsNoTable w.printed
LacksColumns (asked.Report w) = SortsNoTable w.printed
LacksColumns _ = ⊥
