-- The texts of an instance: its value now, a level, a device, an interface, how long something is.
use Rattle.std.specs.Prelude.{ℕ, ◌-◌, ◌*◌, ◌/◌, ◌%◌, ◌^◌, min, nat_lt, Bool, true, false, ◌||◌}
use Rattle.std.specs.Prelude.{List, ◌++◌, Option, Some, None, is_some, codes, decimal}
use Rattle.std.specs.Prelude.{if◌then◌else◌}
use Rattle.std.specs.List.{flat_map}
use Rattle.hex.specs.Hex.{encode_lower}
use Rattle.mon_sample.specs.Key.{kind_of}
use Rattle.mon_rates.specs.Part.{is_counter}
use Rattle.mon_display.specs.Rate.{rate_text}
use Rattle.mon_display.specs.Interface.{column_of}
use Rattle.mon_display.specs.Naming.{device_text}
use Rattle.mon_display.specs.declared.interface.Column.{Column}
use Rattle.mon_display.specs.declared.interface.Column.TheVariants.{InOctets, OutOctets, InErrors}
use Rattle.mon_display.specs.declared.interface.Column.TheVariants.{OutErrors, InDiscards}
use Rattle.mon_display.specs.declared.interface.Column.TheVariants.{OutDiscards, Other}
use Rattle.mon_display.specs.declared.rate.Unit.TheVariants.{Bits, Each}
use Rattle.mon_page.specs.Cells.{fresh_rate, newest_of, value_cell}
use Rattle.mon_page.specs.Escape.{escaped}
use Rattle.mon_page.specs.Rows.{Row}

-- ---- rates and levels
-- the column counts octets
abbrev pub counts_octets : Column → Bool
counts_octets InOctets = true
counts_octets OutOctets = true
counts_octets InErrors = false
counts_octets OutErrors = false
counts_octets InDiscards = false
counts_octets OutDiscards = false
counts_octets Other = false

-- bits of octets, both in thousandths a second; of more than 2^124 those of 2^124
abbrev pub bits_of : ℕ → ℕ
bits_of q = 8 * min q (2 ^ 124)

-- a rate of a column, in thousandths a second: in bits if it counts octets
abbrev pub rate_words : Column → ℕ → List ℕ
rate_words c q = if counts_octets c then rate_text Bits (bits_of q) else rate_text Each q

-- a value that was moved up by 2^63
abbrev pub moved_words : ℕ → List ℕ
moved_words n = if nat_lt n (2 ^ 63) then codes "-" ++ decimal (2 ^ 63 - n)
    else decimal (n - 2 ^ 63)

-- a level of a plot: of a counter a rate, else a value that was moved up
abbrev pub level_words : Column → Bool → ℕ → List ℕ
level_words c counted n = if counted then rate_words c n else moved_words n

-- the samples are a counter's
abbrev pub is_counted : Option ℕ → Bool
is_counted None = false
is_counted (Some newest) = is_counter (kind_of newest)

-- a rate, with a dash if there is none
abbrev pub rate_or_dash : Column → Option ℕ → List ℕ
rate_or_dash c None = codes "-"
rate_or_dash c (Some q) = rate_words c q

-- the value now: of a counter its rate, with a dash if it has none or is stale, else the newest
-- value
abbrev pub now_words : Row → List ℕ
now_words r =
    if is_counted (newest_of r.entry.items) then rate_or_dash (column_of r.entry.name)
    (fresh_rate r.fresh r.entry.items)
    else value_cell (newest_of r.entry.items)

-- ---- names
-- the address or the label of its device is known
abbrev pub is_labelled : Row → Bool
is_labelled r = is_some r.labels.target || is_some r.labels.device

-- its device: the address and the label, or the engine id in hex digits if neither is known
abbrev pub device_words : Row → List ℕ
device_words r =
    if is_labelled r then flat_map escaped (device_text r.labels.target r.labels.device)
    else encode_lower r.entry.engine

-- an interface: its ifName, or its ifIndex if that is not known
abbrev pub interface_words : Option (List ℕ) → ℕ → List ℕ
interface_words None index = codes "if " ++ decimal index
interface_words (Some name) index = flat_map escaped name

-- a label, if it is known
abbrev pub known_words : Option (List ℕ) → List ℕ
known_words None = codes ""
known_words (Some text) = flat_map escaped text

-- ---- times
-- a number of units, and another of smaller units
unfoldable pub two_units : ℕ → List ℕ → ℕ → List ℕ → List ℕ
two_units large unit small part = decimal large ++ unit ++ decimal small ++ part

-- how long seconds are: in seconds, minutes, hours and minutes, or days and hours
abbrev pub duration_words : ℕ → List ℕ
duration_words s =
    if nat_lt s 60 then decimal s ++ codes " s"
    else if nat_lt s 3600 then decimal (s / 60) ++ codes " min"
    else if nat_lt s 86400 then two_units (s / 3600) (codes " h ") (s % 3600 / 60) (codes " min")
    else two_units (s / 86400) (codes " d ") (s % 86400 / 3600) (codes " h")
