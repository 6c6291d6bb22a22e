-- The text of a station's settings. That it reads as what was meant is another definition: this one
-- only says which text it is.
use Rattle.std.specs.Prelude.{ℕ, ◌+◌, ◌%◌, ◌==◌, nat_le, Bool, not, ◌&&◌, ◌||◌, List, [], ◌∷◌, ◌++◌}
use Rattle.std.specs.Prelude.{length, map, take, codes, decimal, string_bytes, Option, Some, None}
use Rattle.std.specs.Prelude.{Result, Ok, Err, if◌then◌else◌}
use Rattle.std.specs.Borrow.{Bor}
use Rattle.std.specs.List.{concat, flat_map, list_all}
use Rattle.hex.specs.Hex.{encode_lower}
use Rattle.mon_survey.specs.declared.answers.Cell.{Cell}
use Rattle.mon_survey.specs.declared.column.Column.TheVariants.{IfX}
use Rattle.mon_survey.specs.declared.counter.Planned.{Planned}
use Rattle.mon_survey.specs.declared.fault.SurveyFault.{SurveyFault}
use Rattle.mon_survey.specs.declared.fault.SurveyFault.TheVariants.{BadText}
use Rattle.mon_survey.specs.declared.options.Options.{Options}
use Rattle.mon_survey.specs.declared.options.Peer.{Peer}
use Rattle.mon_survey.specs.declared.planning.Thresholds.{Thresholds}
use Rattle.mon_survey.specs.Answers.{is_marked, name_in, number_in, octets_of, type_in, value_at}
use Rattle.mon_survey.specs.Column.{cell_name}
use Rattle.mon_survey.specs.Counter.{column_of, label_of}
use Rattle.mon_survey.specs.Plan.{thresholds_of}
use Rattle.mon_survey.specs.Size.{objects_in}
use Rattle.mon_survey.specs.declared.size.TargetSize.{TargetSize}

-- an octet as a comment shows it: itself from 20 to 7E except for a quote, which is `?` like all
-- others
abbrev pub shown : ℕ → ℕ
shown b = if nat_le 32 b && nat_le b 126 && not (b == 34) then b else 63

-- at most 64 octets as a comment shows them
abbrev pub cleaned : List ℕ → List ℕ
cleaned octets = map shown (take 64 octets)

-- whether a text in quotes may have an octet: 20 to 7E, but no quote and no backslash
abbrev pub is_plain_octet : ℕ → Bool
is_plain_octet b = nat_le 32 b && nat_le b 126 && not (b == 34) && not (b == 92)

-- whether a text may be put in quotes as it is
abbrev pub is_plain : List ℕ → Bool
is_plain text = list_all is_plain_octet text

-- whether a peer's address may
abbrev pub is_plain_peer : Peer → Bool
is_plain_peer p = is_plain (string_bytes p.address)

-- whether all texts of the options may
abbrev pub are_plain : Options → Bool
are_plain o =
    is_plain o.listen.now && is_plain o.file.now && is_plain o.address.now
    && is_plain o.community.now && list_all is_plain_peer o.peers.now
    && list_all (λ m. is_plain m.now) o.modules.now

-- an interface's alias, where it has one
abbrev pub alias_text : List ℕ → List ℕ
alias_text alias = if length alias == 0 then [] else codes ", " ++ cleaned alias

-- an interface's ifType, where the agent has it
abbrev pub type_text : ℕ → List ℕ
type_text kind = if kind == 0 then [] else codes ", ifType " ++ decimal kind

-- the end of a counter's line: its comment, with its descriptor, and its interface's name, alias,
-- type and speed
unfoldable pub comment_text : List Cell → Planned → List ℕ
comment_text cells p =
    concat (codes " # " ∷ label_of p.counter p.wide ∷ codes "." ∷ decimal p.index ∷ codes ": " ∷ [])
    ++ cleaned (name_in cells p.index) ++ alias_text (octets_of (value_at cells (IfX 18) p.index))
    ++ type_text (type_in cells p.index)
    ++ concat (codes ", " ∷ decimal (number_in (value_at cells (IfX 15) p.index))
    ∷ codes " Mbit/s\n" ∷ [])

-- the end of a counter's table, with the mark of its interface's counters, where it has one; names
-- appear as they are shown
abbrev pub mark_text : (List ℕ → List ℕ) → List Cell → ℕ → List ℕ
mark_text shown cells index = if is_marked cells index then codes "\", mark = \""
    ++ shown (cell_name (IfX 19) index) ++ codes "\" }," else codes "\" },"

-- the line of a counter
unfoldable pub object_text : (List ℕ → List ℕ) → List Cell → Planned → List ℕ
object_text shown cells p =
    codes "    { name = \"" ++ shown (cell_name (column_of p.counter p.wide) p.index)
    ++ mark_text shown cells p.index ++ comment_text cells p

-- what comes before the modules
unfoldable pub head_text : Options → List ℕ
head_text o = concat (
    codes "station = " ∷ decimal o.station ∷ codes "\nlisten = \"" ∷ o.listen.now
    ∷ codes "\"\nfile = \"" ∷ o.file.now ∷ codes "\"\nwindow = " ∷ decimal o.window
    ∷ codes "\nwait_ms = " ∷ decimal o.wait_ms ∷ codes "\n" ∷ [])

-- the line of a module's file
abbrev pub module_text : List ℕ → List ℕ
module_text path = codes "    \"" ++ path ++ codes "\",\n"

-- the list of the modules' files, where there are some
abbrev pub modules_text : List (Bor (List ℕ)) → List ℕ
modules_text paths = if length paths == 0 then [] else codes "modules = [\n"
    ++ flat_map (λ m. module_text m.now) paths ++ codes "]\n"

-- the head of a target
unfoldable pub target_text : Options → List ℕ → List ℕ
target_text o engine = concat (
    codes "\n[[target]]\naddress = \"" ∷ o.address.now ∷ codes "\"\ncommunity = \""
    ∷ o.community.now ∷ codes "\"\nengine = \"" ∷ engine ∷ codes "\"\ntries = "
    ∷ decimal o.tries ∷ codes "\nobjects = [\n" ∷ [])

-- before the first object of each target its head
abbrev pub opening : Options → List ℕ → ℕ → List ℕ
opening o engine place = if place % objects_in o.size == 0 then target_text o engine else []

-- after the last object of each target, and after the last of all, the end of the list
abbrev pub closing : TargetSize → ℕ → ℕ → List ℕ
closing size count place = if (place + 1) % objects_in size == 0 || place + 1 == count
    then codes "]\n" else []

-- the object at a place, with what is around it
unfoldable pub placed_text : (List ℕ → List ℕ) → Options → List ℕ → List Cell → ℕ → ℕ → Planned
    → List ℕ
placed_text shown o engine cells count place p = opening o engine place ++ object_text shown cells p
    ++ closing o.size count place

-- the objects from a place on, in targets that have as many of them as their size allows
abbrev pub objects_from : (List ℕ → List ℕ) → Options → List ℕ → List Cell → ℕ → ℕ → List Planned
    → List ℕ
objects_from shown o engine cells count place [] = []
objects_from shown o engine cells count place (p ∷ ps) =
    placed_text shown o engine cells count place p ++ objects_from shown o engine cells count
    (place + 1) ps

-- a peer of this number at this address
unfoldable pub peer_at : ℕ → List ℕ → List ℕ
peer_at station address = concat (codes "\n[[peer]]\nstation = " ∷ decimal station
    ∷ codes "\naddress = \"" ∷ address ∷ codes "\"\n" ∷ [])

-- a peer
abbrev pub peer_text : Peer → List ℕ
peer_text p = peer_at p.station (string_bytes p.address)

-- an alarm at these thresholds
unfoldable pub rule_text : (List ℕ → List ℕ) → List ℕ → Planned → Thresholds → List ℕ
rule_text shown engine p at =
    concat (codes "\n[[alarm]]\nengine = \"" ∷ engine ∷ codes "\"\nname = \"" ∷ [])
    ++ shown (cell_name (column_of p.counter p.wide) p.index)
    ++ concat (codes "\"\nrising = " ∷ decimal at.rising ∷ codes "\nfalling = " ∷ decimal at.falling
    ∷ codes "\n" ∷ [])

-- an alarm where there are thresholds
abbrev pub rule_text_of : (List ℕ → List ℕ) → List ℕ → Planned → Option Thresholds → List ℕ
rule_text_of shown engine p None = []
rule_text_of shown engine p (Some at) = rule_text shown engine p at

-- the alarm on a counter, where there is one
abbrev pub alarm_text : (List ℕ → List ℕ) → List Cell → ℕ → List ℕ → Planned → List ℕ
alarm_text shown cells percent engine p = rule_text_of shown engine p
    (thresholds_of cells percent p.counter p.index)

-- the targets of an agent
abbrev pub targets_text : (List ℕ → List ℕ) → Options → List ℕ → List Cell → List Planned → List ℕ
targets_text shown o engine cells ps = objects_from shown o (encode_lower engine) cells (length ps)
    0 ps

-- the alarms on its counters
abbrev pub alarms_text : (List ℕ → List ℕ) → Options → List ℕ → List Cell → List Planned → List ℕ
alarms_text shown o engine cells ps = flat_map (alarm_text shown cells o.percent
    (encode_lower engine)) ps

-- the whole text
unfoldable pub settings_text : (List ℕ → List ℕ) → Options → List ℕ → List Cell → List Planned
    → List ℕ
settings_text shown o engine cells ps =
    head_text o ++ modules_text o.modules.now ++ targets_text shown o engine cells ps
    ++ flat_map peer_text o.peers.now ++ alarms_text shown o engine cells ps

-- the text, if those of the options may be put in quotes
abbrev pub draft_of : (List ℕ → List ℕ) → Options → List ℕ → List Cell → List Planned
    → Result (List ℕ) SurveyFault
draft_of shown o engine cells ps = if are_plain o then Ok (settings_text shown o engine cells ps)
    else Err BadText

-- settings with the targets of an agent and their alarms at their end
unfoldable pub added_text : (List ℕ → List ℕ) → List ℕ → Options → List ℕ → List Cell → List Planned
    → List ℕ
added_text shown text o engine cells ps = text ++ targets_text shown o engine cells ps
    ++ alarms_text shown o engine cells ps

-- the text, if those of the options may be put in quotes
abbrev pub addition_of : (List ℕ → List ℕ) → List ℕ → Options → List ℕ → List Cell → List Planned
    → Result (List ℕ) SurveyFault
addition_of shown text o engine cells ps = if are_plain o then Ok
    (added_text shown text o engine cells ps) else Err BadText
