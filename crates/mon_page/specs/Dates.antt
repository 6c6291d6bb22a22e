-- The date and time of a second, as HTTP writes them (RFC 9110, section 5.6.7).
use Rattle.std.specs.Prelude.{ℕ, zero, suc, ◌+◌, ◌/◌, ◌%◌, nat_lt, List, if◌then◌else◌}
use Rattle.httpdate.specs.Calendar.{days_in_month, weekday}
use Rattle.httpdate.specs.Text.{imf_fixdate}
use Rattle.httpdate.specs.declared.parts.Parts.{Parts}

-- a day: year, month and day of the month
abbrev pub Day : Type 0
Day = ℕ × ℕ × ℕ

-- the day after a day
abbrev pub day_after : Day → Day
day_after d =
    if nat_lt d.2 (days_in_month d.0 d.1) then (d.0, d.1, d.2 + 1) else
    (if nat_lt d.1 12 then (d.0, d.1 + 1, 1) else (d.0 + 1, 1, 1))

-- the day that is this many days after 1 January 1970
abbrev pub day_at : ℕ → Day
day_at zero = (1970, 1, 1)
day_at (suc n) = day_after (day_at n)

-- the numbers of the second that is this many seconds after the beginning of 1970, without leap
-- seconds
abbrev pub parts_at : ℕ → Parts
parts_at seconds = record {
  year = (day_at (seconds / 86400)).0;
  mon = (day_at (seconds / 86400)).1;
  day = (day_at (seconds / 86400)).2;
  hour = seconds % 86400 / 3600;
  min = seconds % 3600 / 60;
  sec = seconds % 60;
  wday = weekday (seconds / 86400);
}

-- its text, as in `Sun, 29 Nov 2026 15:04:05 GMT`
unfoldable pub date_at : ℕ → List ℕ
date_at seconds = imf_fixdate (parts_at seconds)
