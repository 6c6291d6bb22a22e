-- The command lines: for each command its options and words, in their order.
use Rattle.std.specs.Prelude.{ℕ, pos, List, [], ◌∷◌, ◌++◌, codes, find, true, false}
use Rattle.std.specs.Option.{option_map_or}
use Rattle.std.specs.Str.{bytes_eq}
use Rattle.mon_cli.specs.Line.{Argument}
use Rattle.mon_cli.specs.declared.choice.Choice.{Choice}
use Rattle.mon_cli.specs.declared.choice.Choice.TheVariants as commands
use Rattle.mon_cli.specs.declared.lines.Value.{Value}
use Rattle.mon_cli.specs.declared.lines.Value.TheVariants.{Text, Format, Kind, Sort, Number}
use Rattle.mon_cli.specs.declared.lines.Value.TheVariants.{Natural}
use Rattle.mon_cli.specs.declared.lines.Takes.{Takes}
use Rattle.mon_cli.specs.declared.lines.Takes.TheVariants.{Nothing, One, Each, Many}
use Rattle.mon_cli.specs.declared.lines.Form.TheVariants.{Place, Long, Short, Both}

-- ---- kinds of arguments

-- a required argument: `ID`
abbrev pub word : List ℕ → Value → Argument
word id value = record { id = id; form = Place; takes = One value; needed = true }

-- one word or more: `ID..`
abbrev pub words : List ℕ → Argument
words id = record { id = id; form = Place; takes = Many Text; needed = true }

-- an option that may be given, with a value: `[--id VALUE]`
abbrev pub option : List ℕ → Value → Argument
option id value = record { id = id; form = Long; takes = One value; needed = false }

-- an option that may be given, with none: `[--id]`
abbrev pub flag : List ℕ → Argument
flag id = record { id = id; form = Long; takes = Nothing; needed = false }

-- an option that may be given any number of times, with a value each time: `[--id VALUE]..`
abbrev pub repeated : List ℕ → Argument
repeated id = record { id = id; form = Long; takes = Each Text; needed = false }

-- an option that must be given, by a letter: `-c ID`
abbrev pub lettered : ℕ → List ℕ → Value → Argument
lettered c id value = record { id = id; form = Short c; takes = One value; needed = true }

-- the option must be given
abbrev pub needed : Argument → Argument
needed a = record a { needed = true }

-- the argument may be left out
abbrev pub or_none : Argument → Argument
or_none a = record a { needed = false }

-- the option has a letter too
abbrev pub or_letter : ℕ → Argument → Argument
or_letter c a = record a { form = Both c }

-- a number of these bounds, both among them
abbrev pub up_to : ℕ → ℕ → Value
up_to low high = Number (pos low) (pos high)

-- ---- the commands

-- [-m|--module FILE].. [--names]: the modules whose names are known, in this order, and whether
-- names are printed by them
abbrev pub named : List Argument
named = or_letter 109 (repeated (codes "module")) ∷ flag (codes "names") ∷ []

-- [--format FORMAT] [--columns] and the names: how a report is printed
abbrev pub printed : List Argument
printed = option (codes "format") Format ∷ flag (codes "columns") ∷ named

-- [--format FORMAT] [--columns] [--sort ORDER] and the names: how a report is printed, and its rows
-- sorted
abbrev pub sorted : List Argument
sorted = option (codes "format") Format ∷ flag (codes "columns") ∷ option (codes "sort") Sort
    ∷ named

-- ADDRESS COMMUNITY: the agent that is asked, and under which community
abbrev pub addressed : List Argument
addressed = word (codes "ADDRESS") Text ∷ word (codes "COMMUNITY") Text ∷ []

-- SETTINGS: the file of the settings
abbrev pub settings : Argument
settings = word (codes "SETTINGS") Text

-- [--boots N]: the boots in place of those of the settings
abbrev pub boots : Argument
boots = option (codes "boots") (up_to 1 2147483647)

-- the arguments of each command
abbrev pub arguments : Choice → List Argument
arguments commands.Replay = word (codes "N") (up_to 1 64) ∷ flag (codes "report") ∷ printed
arguments commands.Get = addressed ++ words (codes "NAME") ∷ named
arguments commands.Next = addressed ++ words (codes "NAME") ∷ named
arguments commands.Bulk = addressed ++ words (codes "NAME") ∷ repeated (codes "module")
    ∷ flag (codes "names")
    ∷ lettered 110 (codes "non-repeaters") (up_to 0 2147483647)
    ∷ lettered 109 (codes "max-repetitions") (up_to 0 2147483647) ∷ []
arguments commands.Walk = addressed ++ word (codes "NAME") Text
    ∷ option (codes "bulk") (up_to 1 1000) ∷ named
arguments commands.Set = addressed ++ word (codes "NAME") Text ∷ word (codes "KIND") Kind
    ∷ word (codes "VALUE") Text ∷ named
arguments commands.Settings = addressed
    ++ option (codes "station") (up_to 1 4294967295)
    ∷ option (codes "listen") Text
    ∷ option (codes "file") Text
    ∷ option (codes "window") (up_to 1 64)
    ∷ option (codes "wait-ms") (up_to 1 60000)
    ∷ option (codes "tries") (up_to 1 8)
    ∷ repeated (codes "peer")
    ∷ option (codes "only") Text
    ∷ flag (codes "up")
    ∷ option (codes "match") Text
    ∷ option (codes "thresholds") Text
    ∷ option (codes "split") Text
    ∷ option (codes "machines") Text
    ∷ option (codes "stations") (up_to 1 3)
    ∷ option (codes "first-group") (up_to 1 49435)
    ∷ option (codes "append") Text
    ∷ option (codes "update") Text
    ∷ option (codes "labels") Text
    ∷ or_letter 109 (repeated (codes "module")) ∷ []
arguments commands.Agent = settings ∷ boots ∷ needed (option (codes "count") (up_to 1 4294967295))
    ∷ []
arguments commands.Answer = settings ∷ boots
    ∷ option (codes "at") (Natural 0 214748364799)
    ∷ option (codes "fuses") (Natural 0 18446744073709551615)
    ∷ option (codes "times") (up_to 1 4294967295)
    ∷ named
arguments commands.Mib = word (codes "FILE") Text ∷ or_letter 109 (repeated (codes "module")) ∷ []
arguments commands.Station = settings
    ∷ option (codes "rounds") (up_to 1 1000000)
    ∷ flag (codes "check")
    ∷ flag (codes "follow-settings")
    ∷ option (codes "interval") (up_to 1 86400)
    ∷ option (codes "phase") (up_to 0 86399)
    ∷ option (codes "report-every") (up_to 1 1000000)
    ∷ option (codes "save-every") (up_to 1 1000000)
    ∷ option (codes "stale-after") (up_to 1 1000000)
    ∷ option (codes "alarm-after") (up_to 1 1000000)
    ∷ flag (codes "log-levels")
    ∷ option (codes "out") Text
    ∷ option (codes "http") Text
    ∷ repeated (codes "http-host")
    ∷ option (codes "notify") Text
    ∷ option (codes "labels") Text
    ∷ flag (codes "station-label")
    ∷ sorted
arguments commands.Report = or_none settings
    ∷ option (codes "file") Text
    ∷ option (codes "labels") Text
    ∷ flag (codes "station-label")
    ∷ sorted
arguments commands.Carry = word (codes "OLD") Text ∷ word (codes "NEW") Text
    ∷ repeated (codes "drop")
    ∷ flag (codes "dry-run")
    ∷ flag (codes "previous") ∷ []
arguments commands.Healthz = word (codes "ADDRESS") Text ∷ []
arguments commands.SelfTest = []
arguments commands.Rehearse = settings ∷ word (codes "K") (up_to 1 16) ∷ []

-- before any command: [--version]
abbrev pub first_arguments : List Argument
first_arguments = flag (codes "version") ∷ []

-- ---- what a value must be

-- each value of an argument that takes this; of one that takes none, any text
abbrev pub taken : Takes → Value
taken Nothing = Text
taken (One value) = value
taken (Each value) = value
taken (Many value) = value

-- each value of the argument with this id, of a command
abbrev pub value_of : Choice → List ℕ → Value
value_of choice id = option_map_or (λ a. taken a.takes) (find (λ a. bytes_eq a.id id)
    (arguments choice)) Text
