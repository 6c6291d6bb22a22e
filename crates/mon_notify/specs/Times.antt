-- Times as text (RFC 3339, section 5.6), in UTC.
use Rattle.std.specs.Prelude.{ℕ, List, ◌++◌, codes, bytes_eq, if◌then◌else◌}
use Rattle.httpdate.specs.declared.parts.Parts.{Parts}
use Rattle.httpdate.specs.declared.date.HttpDate.{HttpDate as Date}
use Rattle.httpdate.specs.Text.{two_digits, four_digits, time_of_day}

-- a date and a time of day, as 1985-04-12T23:20:50Z
abbrev pub parts_text : Parts → List ℕ
parts_text p =
    four_digits p.year ++ codes "-" ++ two_digits p.mon ++ codes "-" ++ two_digits p.day
    ++ codes "T"
    ++ time_of_day p ++ codes "Z"

-- the text of a date with its time of day, as 1985-04-12T23:20:50Z
abbrev pub time_text : Date → List ℕ
time_text date = parts_text date.parts

-- the number of a month, in two digits, from its name of three letters
abbrev pub month_digits : List ℕ → List ℕ
month_digits name =
    if bytes_eq name (codes "Jan") then codes "01"
    else if bytes_eq name (codes "Feb") then codes "02"
    else if bytes_eq name (codes "Mar") then codes "03"
    else if bytes_eq name (codes "Apr") then codes "04"
    else if bytes_eq name (codes "May") then codes "05"
    else if bytes_eq name (codes "Jun") then codes "06"
    else if bytes_eq name (codes "Jul") then codes "07"
    else if bytes_eq name (codes "Aug") then codes "08"
    else if bytes_eq name (codes "Sep") then codes "09"
    else if bytes_eq name (codes "Oct") then codes "10"
    else if bytes_eq name (codes "Nov") then codes "11"
    else codes "12"
