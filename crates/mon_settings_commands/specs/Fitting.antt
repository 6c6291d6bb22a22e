-- Settings whose polls the agent answers.
use Rattle.std.specs.Prelude.{◌≡◌, ◌⊎◌, ◌<◌, true, false, List, [], ◌∷◌, Result, Ok, Err}
use Rattle.mon_client.specs.Network.{Agents}
use Rattle.mon_console.specs.declared.failure.Failure.{Failure}
use Rattle.mon_placing.specs.Network.{IsSeat}
use Rattle.mon_survey.specs.declared.longest.Drafted.{Drafted}
use Rattle.mon_survey.specs.declared.size.TargetSize.{TargetSize}
use Rattle.mon_survey.specs.declared.size.TargetSize.TheVariants.{Sixteen}
use Rattle.mon_survey.specs.Size.{sizes_from}
use Rattle.mon_settings_commands.specs.Appended.{IsAppendedOf}
use Rattle.mon_settings_commands.specs.Seats.{IsSeatSettings}
use Rattle.mon_settings_commands.specs.Settings.{IsSettingsOf, up_of}
use Rattle.mon_settings_commands.specs.Source.{Source}
use Rattle.mon_settings_commands.specs.Tried.{IsTrial, is_too_big}
use Rattle.mon_settings_commands.specs.Updated.{IsUpdatedOf}
use Rattle.mon_settings_commands.specs.declared.settings.AgentOptions.{AgentOptions}
use Rattle.mon_settings_commands.specs.declared.trying.Wish.{Wish}
use Rattle.mon_settings_commands.specs.declared.trying.Wish.TheVariants.{Longer, New, Placed}
use Rattle.mon_settings_commands.specs.declared.trying.Wish.TheVariants.{Updated}

-- ports can be counted up so far, or a station's can be written
abbrev pub IsWish : Wish → Type 0
IsWish (New group) = up_of group < 65536
IsWish (Longer existing) = Unit {0}
IsWish (Updated news) = Unit {0}
IsWish (Placed s) = IsSeat s

-- new settings, or those that are there with more targets, or up to date, or those of a station of
-- a network
abbrev pub IsDraft : Source → Wish → TargetSize → Result Drafted Failure → Type 0
IsDraft s (New group) size = IsSettingsOf s group size
IsDraft s (Longer existing) size = IsAppendedOf s existing.now size
IsDraft s (Updated news) size = IsUpdatedOf s news.existing.now news.known.now size
IsDraft s (Placed place) size = IsSeatSettings s place size

-- settings by targets of this size were drafted, and their polls came to this when they were tried
pub record IsDraftTried (agents : Agents) (asked : AgentOptions) (Draft : TargetSize
    → Result Drafted Failure → Type 0) (size : TargetSize) (drafted : Drafted)
    (came : Result Unit Failure) : Type 0 where
  pub draft : Draft size (Ok drafted)
  pub trial : IsTrial agents asked drafted.targets.items came

-- What came of settings by targets of a size, if no smaller one is tried: the agent answered each
-- poll; or there are no such settings; or it gave a poll no answer, or one with an error status,
-- which is tooBig only if there is no smaller size.
abbrev pub IsLastTried : Agents → AgentOptions → (TargetSize → Result Drafted Failure → Type 0)
    → TargetSize → List TargetSize → Result Drafted Failure → Type 0
IsLastTried agents asked Draft size smaller (Ok drafted) = IsDraftTried agents asked Draft size
    drafted (Ok tt)
IsLastTried agents asked Draft size smaller (Err failure) = Draft size (Err failure)
    ⊎ ((drafted : Drafted) × IsDraftTried agents asked Draft size drafted (Err failure)
    × ((is_too_big failure.fault ≡ false) ⊎ (smaller ≡ [])))

-- the agent answered tooBig to a poll by targets of this size
abbrev pub IsTooBigAt : Agents → AgentOptions → (TargetSize → Result Drafted Failure → Type 0)
    → TargetSize
    → Type 0
IsTooBigAt agents asked Draft size = (drafted : Drafted) × (failure : Failure)
    × IsDraftTried agents asked Draft size drafted (Err failure) × (is_too_big failure.fault ≡ true)

-- Settings are by targets of the first of these sizes to whose polls the agent does not answer
-- tooBig.
abbrev pub IsFitting : Agents → AgentOptions → (TargetSize → Result Drafted Failure → Type 0)
    → List TargetSize → Result Drafted Failure → Type 0
IsFitting agents asked Draft [] result = ⊥
IsFitting agents asked Draft (size ∷ smaller) result = IsLastTried agents asked Draft size smaller
    result
    ⊎ (IsTooBigAt agents asked Draft size × IsFitting agents asked Draft smaller result)

-- Settings are by targets of the largest size, of 16 objects at most, to whose polls the agent does
-- not answer tooBig.
abbrev pub AreFitting : Agents → AgentOptions → (TargetSize → Result Drafted Failure → Type 0)
    → Result Drafted Failure → Type 0
AreFitting agents asked Draft = IsFitting agents asked Draft (sizes_from Sixteen)
