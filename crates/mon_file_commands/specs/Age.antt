-- How old a station's file is.
use Rattle.std.specs.Prelude.{◌≡◌, ◌⊎◌, ◌-◌, ◌/◌, ℕ, nat_le, List, [], ◌∷◌, ◌++◌, if◌then◌else◌}
use Rattle.std.specs.Prelude.{Option, Some, None, Result, Ok, Err, codes, decimal}
use Rattle.std.specs.Time.{system_time_nanos}
use Rattle.std.specs.declared.time.SystemTime.{SystemTime}
use Rattle.mon_console.specs.declared.failure.Failure.{Failure}
use Rattle.mon_host.specs.AtHost.{AtHost, Dated, FileDated, FileUndated, Undated}
use Rattle.mon_host.specs.declared.level.Level.TheVariants as level
use Rattle.mon_host.specs.Reason.{Why}
use Rattle.mon_file_commands.specs.Line.{Line, stated}
use Rattle.mon_file_commands.specs.Line.{AreNoted}

-- the whole seconds from one time to another; none if that is before the first
abbrev pub seconds_between : (earlier later : SystemTime) → Option ℕ
seconds_between earlier later =
    if nat_le (system_time_nanos earlier) (system_time_nanos later)
    then Some ((system_time_nanos later - system_time_nanos earlier) / 1_000_000_000) else None

-- the line of how many seconds ago a file was saved, if that is known
abbrev pub age_lines : (path : List ℕ) → Option ℕ → List Line
age_lines path None = []
age_lines path (Some seconds) =
    stated level.Info (codes "snmpmon: " ++ (path ++ (codes " was saved "
    ++ (decimal seconds ++ codes " s ago\n")))) ∷ []

-- Of a file that was changed at this time the wall clock is asked, and it is said how many seconds
-- ago that was. If the clock fails nothing is said, and the age is not known.
abbrev pub IsSinceSaid : (path : List ℕ) → SystemTime → List AtHost → (age : Option ℕ) → Type 0
IsSinceSaid path changed log age = ((why : Why) × (log ≡ Undated why ∷ []) × (age ≡ None))
    ⊎ ((now : SystemTime) × (rest : List AtHost) × AreNoted (age_lines path
    (seconds_between changed now)) rest
    × (log ≡ Dated now ∷ rest) × (age ≡ seconds_between changed now))

-- It is asked when the file at a path was changed, and said how many seconds ago that was. If the
-- system does not say it nothing is said, and the age is not known.
abbrev pub IsAgeSaid : (path : List ℕ) → List AtHost → (age : Option ℕ) → Type 0
IsAgeSaid path log age = ((why : Why) × (log ≡ FileUndated path why ∷ []) × (age ≡ None))
    ⊎ ((changed : SystemTime) × (rest : List AtHost) × IsSinceSaid path changed rest age
    × (log ≡ FileDated path changed ∷ rest))

-- saying how old a file is, as a step that cannot fail
abbrev pub IsAge : (path : List ℕ) → List AtHost → Result (Option ℕ) Failure → Type 0
IsAge path log (Ok age) = IsAgeSaid path log age
IsAge path log (Err failure) = ⊥
