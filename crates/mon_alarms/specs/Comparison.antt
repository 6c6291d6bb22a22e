-- For private clauses: an alarm along samples, one after another.
use Rattle.std.specs.Prelude.{◌≡◌, ◌∷◌, ◌++◌, [], ℕ, ℤ, Bool, true, false, if◌then◌else◌, List}
use Rattle.std.specs.Prelude.{Option, Some, None, map}
use Rattle.std.specs.Int.Signed.{le_z}
use Rattle.std.specs.List.{last_or}
use Rattle.mon_sample.specs.Key.{boots_of, time_of}
use Rattle.mon_alarms.specs.declared.alarm.AlarmState.{AlarmState}
use Rattle.mon_alarms.specs.declared.alarm.AlarmState.TheVariants.{Clear, Raised}
use Rattle.mon_alarms.specs.declared.comparison.Comparison.{Comparison}
use Rattle.mon_alarms.specs.declared.comparison.Trail.{Trail}
use Rattle.mon_alarms.specs.Changes.{events_of, is_raised, known_of, merged, new_of, samples_of}
use Rattle.mon_alarms.specs.Observed.{state_by}
use Rattle.mon_alarms.specs.Rule.{Rule}

-- the state after one more observation: a clear alarm is raised at rising or more, a raised one is
-- cleared at falling or less
abbrev pub after_level : Rule → ℤ → ℕ → AlarmState → AlarmState
after_level rule level x state = if is_raised state then (if le_z level rule.falling then Clear
    else state) else if le_z rule.rising level then Raised (boots_of x) (time_of x) else state

-- the state after a sample at which this is observed; one at which nothing is leaves it
abbrev pub after_sample : Rule → Option ℤ → ℕ → AlarmState → AlarmState
after_sample rule None x state = state
after_sample rule (Some level) x state = after_level rule level x state

-- the state over these samples, and the newest of them
pub record IsTrail (rule : Rule) (xs : List ℕ) (t : Trail) : Type 0 where
  pub state : t.state ≡ state_by rule xs
  pub newest : t.newest ≡ last_or None xs

-- both trails, the last event and the last new one, over these samples
pub record IsComparison (rule : Rule) (seen : List (ℕ × Bool)) (c : Comparison) : Type 0 where
  pub all : IsTrail rule (samples_of seen) c.all
  pub known : IsTrail rule (known_of seen) c.known
  pub last : c.last ≡ last_or None (events_of rule seen)
  pub new : c.last_new ≡ last_or None (new_of (events_of rule seen))

-- a window that moved on by one sample: the first look had all samples of both looks but the newest
pub record HasMovedOn (was is : List ℕ) (newest : ℕ) : Type 0 where
  pub both : merged was is ≡ map (λ x. (x, true)) was ++ (newest, false) ∷ []

-- the oldest sample of the first look has left, and these are its others
pub record HasLeft (was is kept : List ℕ) : Type 0 where
  pub oldest : ℕ
  pub first : was ≡ oldest ∷ kept
  pub both : merged was is ≡ (oldest, true) ∷ merged kept is
