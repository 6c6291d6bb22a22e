-- Settings that change while their station runs.
use Rattle.std.specs.Prelude.{◌≡◌, ◌==◌, ℕ, Bool, true, false, if◌then◌else◌, List, [], ◌∷◌, ◌++◌}
use Rattle.std.specs.Prelude.{Option, Some, None, Result, Ok, Err, codes, decimal, option_map}
use Rattle.std.specs.Result.{result_ok}
use Rattle.std.specs.Time.{system_time_nanos}
use Rattle.std.specs.declared.time.SystemTime.{SystemTime}
use Rattle.mon_cli.specs.declared.meaning.StationArgs.{StationArgs}
use Rattle.mon_console.specs.Failure.{IsTold, is_memory}
use Rattle.mon_console.specs.Labelled.{IsLabelled}
use Rattle.mon_console.specs.declared.failure.Failure.{Failure}
use Rattle.mon_console.specs.declared.printing.Printing.{Printing}
use Rattle.mon_file_commands.specs.Line.{AreNoted, stated}
use Rattle.mon_host.specs.AtHost.{AtHost, dating_file}
use Rattle.mon_host.specs.declared.level.Level.TheVariants as level
use Rattle.mon_host.specs.declared.reason.Reason.{Reason}
use Rattle.mon_settings.specs.declared.station.StationSettings.{StationSettings}

-- when a file was changed, if that is known and is another time than the one that was known
abbrev pub new_time : (known changed : Option SystemTime) → Option SystemTime
new_time known None = None
new_time None (Some at) = Some at
new_time (Some before) (Some at) =
    if system_time_nanos before == system_time_nanos at then None else Some at

-- the line of settings that changed: the station goes on without them, or ends after this round
abbrev pub changed_line : (round : ℕ) (path : List ℕ) (ends : Bool) → List ℕ
changed_line round path false = codes "snmpmon: round " ++ (decimal round ++ (codes ": "
    ++ (path ++ codes " changed: restart the station to use it (systemctl restart)\n")))
changed_line round path true = codes "snmpmon: round " ++ (decimal round ++ (codes ": "
    ++ (path ++ codes " changed: the station ends after this round, to be started with it\n")))

-- What is said of settings that changed at this time, and whether the station ends: it ends if they
-- can be used and it follows them. What is wrong with them is said as `station --check` says it.
-- Then `after` is the time that is known; none if memory ran out, so that they are read again.
abbrev pub IsNewsSaid : (words : StationArgs) (round : ℕ) (at : SystemTime)
    → Result (StationSettings × Printing) Failure → List AtHost → (after : Option SystemTime)
    → (ends : Bool) → Type 0
IsNewsSaid words round at (Ok both) log after ends =
    AreNoted (stated level.Notice (changed_line round words.settings.now words.follows) ∷ []) log
    × (after ≡ Some at) × (ends ≡ words.follows)
IsNewsSaid words round at (Err failure) log after ends = IsTold level.Warning failure log
    × (after ≡ (if is_memory failure.fault then None else Some at)) × (ends ≡ false)

-- Settings that changed are read as at the station's start, and it is said what became of them.
pub record AreNews (words : StationArgs) (round : ℕ) (at : SystemTime) (log : List AtHost)
    (after : Option SystemTime) (ends : Bool) : Type 0 where
  pub given : Result (StationSettings × Printing) Failure
  pub begin : List AtHost
  pub read : IsLabelled words.settings.now (option_map (λ l. l.now) words.labels) words.printed
      begin given
  pub rest : List AtHost
  pub said : IsNewsSaid words round at given rest after ends
  pub log_is : log ≡ begin ++ rest

-- what is done about settings that changed at this time, if they did
abbrev pub IsFollowed : (words : StationArgs) (round : ℕ) (known new : Option SystemTime)
    → List AtHost → (after : Option SystemTime) → (ends : Bool) → Type 0
IsFollowed words round known None log after ends = (log ≡ []) × (after ≡ known) × (ends ≡ false)
IsFollowed words round known (Some at) log after ends = AreNews words round at log after ends

-- Before a round it is asked when the settings were changed last, and what is new is said. `known`
-- and `after` are the time that is known before and after that, and `ends` is whether the station
-- ends.
pub record IsSettingsLook (words : StationArgs) (round : ℕ) (known : Option SystemTime)
    (log : List AtHost) (after : Option SystemTime) (ends : Bool) : Type 0 where
  pub changed : Result SystemTime Reason
  pub rest : List AtHost
  pub done : IsFollowed words round known (new_time known (result_ok changed)) rest after ends
  pub log_is : log ≡ dating_file words.settings.now changed ∷ rest

-- Before the first round it is asked when the settings were changed last.
pub record AreDated (words : StationArgs) (log : List AtHost) (known : Option SystemTime) : Type 0
  where
    pub changed : Result SystemTime Reason
    pub known_is : known ≡ result_ok changed
    pub log_is : log ≡ dating_file words.settings.now changed ∷ []
