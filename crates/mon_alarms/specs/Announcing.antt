-- What is announced of a watch's alarms: each change once it has held in as many looks as are asked
-- for.
use Rattle.std.specs.Prelude.{◌≡◌, ℕ, zero, suc, ◌+◌, Bool, true, false, not, List, [], ◌∷◌, ◌++◌}
use Rattle.std.specs.Prelude.{map, filter, Option, Some, None, option_to_list, nat_lt}
use Rattle.std.specs.Prelude.{if◌then◌else◌, ◌==◌, ⊤}
use Rattle.std.specs.Bool.{beq}
use Rattle.mon_alarms.specs.declared.alarm.AlarmState.{AlarmState}
use Rattle.mon_alarms.specs.declared.announcing.Pending.{Pending}
use Rattle.mon_alarms.specs.declared.change.AlarmChange.{AlarmChange}
use Rattle.mon_alarms.specs.declared.change.AlarmEvent.{AlarmEvent}
use Rattle.mon_alarms.specs.Changes.{is_raised, raises, state_after, with_rule}

-- ---- of one rule
-- nothing is pending: what was announced is so
abbrev pub settled : AlarmState → Pending
settled state = record { announced = state; since = None; held = 0 }

-- an event between two looks: where it leads back to what was announced, nothing is pending; else
-- it is pending from now on
abbrev pub after_event : Pending → AlarmEvent → Pending
after_event p e = if beq (raises e) (is_raised p.announced) then settled p.announced
    else record { announced = p.announced; since = Some e; held = 0 }

-- events between two looks, one after another
abbrev pub after_events : Pending → List AlarmEvent → Pending
after_events p [] = p
after_events p (e ∷ es) = after_events (after_event p e) es

-- whether what is pending must hold in further looks after this one
abbrev pub is_early : ℕ → Pending → Bool
is_early after p = nat_lt (p.held + 1) after

-- what is announced at a look: the event that is pending, if with this look it has held in enough
abbrev pub due : ℕ → Pending → Option AlarmEvent
due after p = if is_early after p then None else p.since

-- a look at what is pending, by whether it is early: it has held in one look more, or it is
-- announced
abbrev pub look_by : Bool → Pending → Option AlarmEvent → Pending
look_by early p None = p
look_by true p (Some e) = record { announced = p.announced; since = Some e; held = p.held + 1 }
look_by false p (Some e) = settled (state_after e)

-- what a look leaves
abbrev pub after_look : ℕ → Pending → Pending
after_look after p = look_by (is_early after p) p p.since

-- ---- of all rules of a watch
-- the events of the rule of this number, in their order
abbrev pub events_at : ℕ → List AlarmChange → List AlarmEvent
events_at number changes = map (λ c. c.event) (filter (λ c. c.rule == number) changes)

-- rules after changes, each after its own; the first has this number
abbrev pub noted_from : ℕ → List Pending → List AlarmChange → List Pending
noted_from number [] changes = []
noted_from number (p ∷ ps) changes = after_events p (events_at number changes)
    ∷ noted_from (number + 1) ps changes

-- what is announced at a look, in the order of the rules, of which the first has this number
abbrev pub due_from : ℕ → ℕ → List Pending → List AlarmChange
due_from after number [] = []
due_from after number (p ∷ ps) = with_rule number (option_to_list (due after p))
    ++ due_from after (number + 1) ps

-- the number of looks in which a change must have held, and all rules in their order; none if each
-- change is announced at once
pub record Announcer : Type 0 where
  pub after : ℕ
  pub rules : List Pending

-- nothing is pending, and these states are known
abbrev pub announcer_of : ℕ → List AlarmState → Announcer
announcer_of after states = record {
  after = after;
  rules = if nat_lt 1 after
      then map settled states else [];
}

-- the states that were announced last
abbrev pub announced_states : Announcer → List AlarmState
announced_states a = map (λ p. p.announced) a.rules

-- after these changes, without a look
abbrev pub noted : List AlarmChange → Announcer → Announcer
noted changes a = record { after = a.after; rules = noted_from 0 a.rules changes }

-- after a look
abbrev pub looked : Announcer → Announcer
looked a = record { after = a.after; rules = map (after_look a.after) a.rules }

-- what is announced after these changes, at a look or between two: each change at once, or what has
-- held in enough looks
abbrev pub announced_of : Bool → List AlarmChange → Announcer → List AlarmChange
announced_of looks changes a = if nat_lt 1 a.after then (if looks
    then due_from a.after 0 (noted_from 0 a.rules changes) else []) else changes

-- what that leaves
abbrev pub after_announcing : Bool → List AlarmChange → Announcer → Announcer
after_announcing looks changes a = if nat_lt 1 a.after then (if looks then looked (noted changes a)
    else noted changes a) else a

-- ---- of one rule over many looks, for laws
-- what is announced at looks, one after another, each with the events before it
abbrev pub announced_over : ℕ → Pending → List (List AlarmEvent) → List AlarmEvent
announced_over after p [] = []
announced_over after p (es ∷ looks) = option_to_list (due after (after_events p es))
    ++ announced_over after (after_look after (after_events p es)) looks

-- as many looks without an event
abbrev pub quiet : ℕ → List (List AlarmEvent)
quiet zero = []
quiet (suc n) = [] ∷ quiet n

-- each event leads to another state than the one before it, and the first than this: raised after
-- clear, clear after raised
abbrev pub Alternates : Bool → List AlarmEvent → Type 0
Alternates before [] = ⊤
Alternates before (e ∷ es) = (raises e ≡ not before) × Alternates (raises e) es
