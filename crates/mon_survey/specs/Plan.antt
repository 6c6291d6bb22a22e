-- Which counters of an agent a station polls.
use Rattle.std.specs.Prelude.{ℕ, ◌*◌, ◌/◌, ◌==◌, nat_eq, nat_le, nat_lt, Bool, true, false, not}
use Rattle.std.specs.Prelude.{◌&&◌, ◌||◌, List, [], ◌∷◌, length, take, drop, Option, Some, None}
use Rattle.std.specs.Prelude.{option_map, Result, Ok, Err, if◌then◌else◌, is_some}
use Rattle.std.specs.List.{filter, flat_map, list_all, starts_with}
use Rattle.std.specs.Option.{option_to_list}
use Rattle.mon_survey.specs.declared.answers.Cell.{Cell}
use Rattle.mon_survey.specs.declared.choice.Choice.{Choice}
use Rattle.mon_survey.specs.declared.choice.Kinds.{Kinds}
use Rattle.mon_survey.specs.declared.column.Column.{Column}
use Rattle.mon_survey.specs.declared.column.Column.TheVariants.{If, IfX}
use Rattle.mon_survey.specs.declared.counter.Counter.{Counter}
use Rattle.mon_survey.specs.declared.counter.Counter.TheVariants.{InOctets, OutOctets}
use Rattle.mon_survey.specs.declared.counter.Kind.{Kind}
use Rattle.mon_survey.specs.declared.counter.Kind.TheVariants.{Octets, Packets, Errors, Discards}
use Rattle.mon_survey.specs.declared.counter.Planned.{Planned}
use Rattle.mon_survey.specs.declared.fault.SurveyFault.{SurveyFault}
use Rattle.mon_survey.specs.declared.fault.SurveyFault.TheVariants.{NoCounter, TooMany}
use Rattle.mon_survey.specs.declared.planning.Thresholds.{Thresholds}
use Rattle.mon_survey.specs.Answers.{is_counter32, is_counter64, is_descr, is_up, name_in}
use Rattle.mon_survey.specs.Answers.{octets_of, speed_in, value_at}
use Rattle.mon_survey.specs.Counter.{column_of, every, kind_of}

-- whether counters of a kind are polled
abbrev pub is_wanted : Kinds → Kind → Bool
is_wanted kinds Octets = kinds.octets
is_wanted kinds Packets = kinds.packets
is_wanted kinds Errors = kinds.errors
is_wanted kinds Discards = kinds.discards

-- whether two columns are the same
abbrev pub same_column : Column → Column → Bool
same_column (If a) (If b) = a == b
same_column (IfX a) (IfX b) = a == b
same_column _ _ = false

-- whether a column is one of a counter that is not polled
abbrev pub spares : Kinds → Column → Counter → Bool
spares kinds column counter =
    not (is_wanted kinds (kind_of counter)) && (same_column (column_of counter true) column
    || same_column (column_of counter false) column)

-- whether a plan looks at a column: it counts nothing, or a kind that is polled
abbrev pub needs : Kinds → Column → Bool
needs kinds column = list_all (λ counter. not (spares kinds column counter)) every

-- whether octets contain a part
abbrev pub has_part : List ℕ → List ℕ → Bool
has_part part [] = starts_with nat_eq [] part
has_part part (b ∷ bs) = starts_with nat_eq (b ∷ bs) part || has_part part bs

-- whether an interface is chosen: it is up if only such are, and its name or its alias contains the
-- part
abbrev pub is_chosen : Choice → List Cell → ℕ → Bool
is_chosen choice cells index =
    (not choice.up || is_up cells index) && (has_part choice.part.now (name_in cells index)
    || has_part choice.part.now (octets_of (value_at cells (IfX 18) index)))

-- whether the agent counts this by 64 bits or by 32; none where it does not
abbrev pub width_of : List Cell → Counter → ℕ → Option Bool
width_of cells counter index =
    if is_counter64 (value_at cells (column_of counter true) index) then Some true
    else (if is_counter32 (value_at cells (column_of counter false) index) then Some false
    else None)

-- a counter of an interface, if its kind is polled and the agent has it
abbrev pub planned_by : Choice → List Cell → ℕ → Counter → Option Planned
planned_by choice cells index counter =
    if is_wanted choice.kinds (kind_of counter) then option_map
    (λ wide. record { counter = counter; wide = wide; index = index })
    (width_of cells counter index) else None

-- the counters of an interface
abbrev pub interface_counters : Choice → List Cell → ℕ → List Planned
interface_counters choice cells index = flat_map (λ counter. option_to_list
    (planned_by choice cells index counter)) every

-- the counters of the interface whose ifDescr a cell holds, if it is chosen
abbrev pub counters_from : Choice → List Cell → Cell → List Planned
counters_from choice cells c = if is_descr c.column && is_chosen choice cells c.index
    then interface_counters choice cells c.index else []

-- the counters of all interfaces, in the order of their indexes
abbrev pub counters_of : Choice → List Cell → List Planned
counters_of choice cells = flat_map (counters_from choice cells) cells

-- at least one counter, and at most the 256 of a station
abbrev pub limited : List Planned → Result (List Planned) SurveyFault
limited [] = Err NoCounter
limited (p ∷ ps) = if nat_le (length (p ∷ ps)) 256 then Ok (p ∷ ps)
    else Err (TooMany (length (p ∷ ps)))

-- a group of 256 counters, the first of which has number 0; or all of them
abbrev pub group_of : Option ℕ → List Planned → List Planned
group_of None ps = ps
group_of (Some g) ps = take 256 (drop (256 * g) ps)

-- the counters that a station polls
abbrev pub planned_of : Choice → List Cell → Result (List Planned) SurveyFault
planned_of choice cells = limited (group_of choice.group (counters_of choice cells))

-- The thresholds at N hundredths of a bit a second. They are in thousandths of an octet a second:
-- 100 hundredths of a bit are 125 of them, and the falling one is nine tenths of the rising one.
-- Below 4 there are none, since the two would be equal.
abbrev pub thresholds_at : ℕ → Option Thresholds
thresholds_at part = if nat_lt part 4 then None else Some (record
    { rising = part * 5 / 4; falling = part * 9 / 8 })

-- the thresholds at a percentage of an interface's speed, for a counter of octets
abbrev pub for_kind : Kind → ℕ → Option Thresholds
for_kind Octets part = thresholds_at part
for_kind Packets part = None
for_kind Errors part = None
for_kind Discards part = None

-- the thresholds of a counter of an interface
abbrev pub thresholds_of : List Cell → ℕ → Counter → ℕ → Option Thresholds
thresholds_of cells percent counter index = for_kind (kind_of counter)
    (speed_in cells index * percent)

-- whether a counter of an interface's octets is polled, in or out
abbrev pub polls_octets : Choice → List Cell → ℕ → Bool
polls_octets choice cells index = is_some (planned_by choice cells index InOctets)
    || is_some (planned_by choice cells index OutOctets)

-- whether the interface whose ifDescr a cell holds is chosen, its octets are polled, and its speed
-- is unknown
abbrev pub lacks_speed : Choice → List Cell → Cell → Bool
lacks_speed choice cells c = is_descr c.column && is_chosen choice cells c.index
    && polls_octets choice cells c.index && (speed_in cells c.index == 0)

-- how many interfaces get no alarm on their octets since their speed is unknown
abbrev pub count_without_speed : Choice → List Cell → ℕ
count_without_speed choice cells = length (filter (lacks_speed choice cells) cells)
