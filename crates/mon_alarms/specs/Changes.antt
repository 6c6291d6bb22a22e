-- What became of a rule's alarm between two looks at its window, by its state after each sample
-- that the window had at either.
use Rattle.std.specs.Prelude.{ℕ, Bool, true, false, not, ◌&&◌, if◌then◌else◌, List, [], ◌∷◌, ◌++◌}
use Rattle.std.specs.Prelude.{map, Option, Some, None, option_map, option_to_list, unwrap_or}
use Rattle.std.specs.Bool.{beq}
use Rattle.std.specs.List.{filter, last_or}
use Rattle.std.specs.Ordering.{nat_cmp, match_ordering}
use Rattle.mon_sample.specs.Key.{boots_of, time_of}
use Rattle.mon_alarms.specs.declared.alarm.AlarmState.{AlarmState}
use Rattle.mon_alarms.specs.declared.alarm.AlarmState.TheVariants.{Clear, Raised}
use Rattle.mon_alarms.specs.declared.change.AlarmChange.{AlarmChange}
use Rattle.mon_alarms.specs.declared.change.AlarmEvent.{AlarmEvent}
use Rattle.mon_alarms.specs.declared.change.AlarmEvent.TheVariants as event
use Rattle.mon_alarms.specs.Observed.{state_by}
use Rattle.mon_alarms.specs.Rule.{Rule}

-- ---- the samples of both looks
-- a sample before the others of the list that the first look had, with those of the second
abbrev pub merge_with : ℕ → (List ℕ → List (ℕ × Bool)) → List ℕ → List (ℕ × Bool)
merge_with x rest [] = (x, true) ∷ rest []
merge_with x rest (y ∷ ys) = match_ordering (nat_cmp x y) ((x, true) ∷ rest (y ∷ ys))
    ((x, true) ∷ rest ys) ((y, false) ∷ merge_with x rest ys)

-- two rising lists as one: of both first samples the older, or one of two equal ones; each with
-- whether the first look had it
abbrev pub merged : List ℕ → List ℕ → List (ℕ × Bool)
merged [] is = map (λ y. (y, false)) is
merged (x ∷ was) is = merge_with x (merged was) is

-- these samples
abbrev pub samples_of : List (ℕ × Bool) → List ℕ
samples_of seen = map (λ s. s.0) seen

-- those of them that the first look had
abbrev pub known_of : List (ℕ × Bool) → List ℕ
known_of seen = map (λ s. s.0) (filter (λ s. s.1) seen)

-- ---- events
-- whether an alarm in this state is raised
abbrev pub is_raised : AlarmState → Bool
is_raised Clear = false
is_raised (Raised boots time) = true

-- whether an alarm is raised over these samples
abbrev pub raised_over : Rule → List ℕ → Bool
raised_over rule xs = is_raised (state_by rule xs)

-- whether it is raised after this
abbrev pub raises : AlarmEvent → Bool
raises (event.Raised boots time) = true
raises (event.Cleared boots time) = false
raises event.Lapsed = false

-- the state that this leads to
abbrev pub state_after : AlarmEvent → AlarmState
state_after (event.Raised boots time) = Raised boots time
state_after (event.Cleared boots time) = Clear
state_after event.Lapsed = Clear

-- what a sample does to an alarm, by whether it is raised before and after it
abbrev pub event_between : Bool → Bool → ℕ → Option AlarmEvent
event_between false false x = None
event_between false true x = Some (event.Raised (boots_of x) (time_of x))
event_between true false x = Some (event.Cleared (boots_of x) (time_of x))
event_between true true x = None

-- what a sample does to the alarm after these
abbrev pub event_at : Rule → List (ℕ × Bool) → ℕ × Bool → Option AlarmEvent
event_at rule before s = event_between (raised_over rule (samples_of before))
    (raised_over rule (samples_of (before ++ s ∷ []))) s.0

-- whether the alarm is raised over both or over neither: these samples, and those of them that the
-- first look had
abbrev pub is_same : Rule → List (ℕ × Bool) → Bool
is_same rule seen = beq (raised_over rule (known_of seen)) (raised_over rule (samples_of seen))

-- whether what a sample does is new: the first look did not have it, or the state before it or
-- after it was another one
abbrev pub is_new : Rule → List (ℕ × Bool) → ℕ × Bool → Bool
is_new rule before s = not (s.1 && (is_same rule before && is_same rule (before ++ s ∷ [])))

-- what samples do that follow others, and whether it is new
abbrev pub events_from : Rule → List (ℕ × Bool) → List (ℕ × Bool) → List (AlarmEvent × Bool)
events_from rule before [] = []
events_from rule before (s ∷ seen) = map (λ e. (e, is_new rule before s))
    (option_to_list (event_at rule before s)) ++ events_from rule (before ++ s ∷ []) seen

-- what these samples do, one after another
abbrev pub events_of : Rule → List (ℕ × Bool) → List (AlarmEvent × Bool)
events_of rule seen = events_from rule [] seen

-- ---- what is reported of them
-- those that are new
abbrev pub new_of : List (AlarmEvent × Bool) → List AlarmEvent
new_of events = map (λ e. e.0) (filter (λ e. e.1) events)

-- the last event again, if it is not new and there is a new one before it
abbrev pub last_again : Option AlarmEvent → Option (AlarmEvent × Bool) → Option AlarmEvent
last_again None last = None
last_again (Some new) None = None
last_again (Some new) (Some last) = if last.1 then None else Some last.0

-- the new events, and then the last of all
abbrev pub reported_of : List (AlarmEvent × Bool) → List AlarmEvent
reported_of events = new_of events ++ option_to_list (last_again (last_or None (new_of events))
    (last_or None events))

-- whether an alarm is raised after these events: the last one decides; without any, as before
abbrev pub raised_after : Bool → List AlarmEvent → Bool
raised_after before events = unwrap_or (option_map raises (last_or None events)) before

-- a state as an event
abbrev pub event_of : AlarmState → AlarmEvent
event_of Clear = event.Lapsed
event_of (Raised boots time) = event.Raised boots time

-- the state now, if what was reported does not lead to it
abbrev pub put_right : Bool → AlarmState → Option AlarmEvent
put_right reported now = if beq reported (is_raised now) then None else Some (event_of now)

-- what is reported of an alarm by two looks: at the first its window had these samples, at the
-- second those
abbrev pub reported_between : Rule → List ℕ → List ℕ → List AlarmEvent
reported_between rule was is =
    let events = reported_of (events_of rule (merged was is)) in
    events ++ option_to_list (put_right (raised_after (raised_over rule was) events)
    (state_by rule is))

-- events as changes of the rule of this number
abbrev pub with_rule : ℕ → List AlarmEvent → List AlarmChange
with_rule number events = map (λ e. record { rule = number; event = e }) events

-- what is reported of the alarm of the rule of this number
abbrev pub changes_of : ℕ → Rule → List ℕ → List ℕ → List AlarmChange
changes_of number rule was is = with_rule number (reported_between rule was is)

-- an alarm in this state, if it is raised
abbrev pub raised_now : ℕ → AlarmState → List AlarmChange
raised_now number Clear = []
raised_now number (Raised boots time) = with_rule number (event.Raised boots time ∷ [])
