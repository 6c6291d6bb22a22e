-- Where the interfaces are now that settings poll, and what settings say of them there.
use Rattle.std.specs.Prelude.{ℕ, ℤ, pos, nat_eq, Bool, ◌&&◌, List, [], ◌∷◌, ◌++◌, Option, Some}
use Rattle.std.specs.Prelude.{None, option_map, option_and_then, is_some, slice_get, if◌then◌else◌}
use Rattle.std.specs.List.{find, flat_map}
use Rattle.std.specs.Option.{option_to_list}
use Rattle.std.specs.Str.{bytes_eq}
use Rattle.mon_alarms.specs.Rule.{Rule}
use Rattle.mon_board.specs.declared.instance.Instance.{Instance}
use Rattle.mon_board.specs.declared.instance.Watched.{Watched}
use Rattle.mon_poller.specs.declared.target.Object.{Object}
use Rattle.mon_poller.specs.declared.target.Target.{Target}
use Rattle.mon_survey.specs.declared.answers.Cell.{Cell}
use Rattle.mon_survey.specs.declared.column.Column.TheVariants.{If, IfX}
use Rattle.mon_survey.specs.declared.column.Spot.{Spot}
use Rattle.mon_survey.specs.declared.column.Spot.TheVariants as spot
use Rattle.mon_survey.specs.declared.counter.Planned.{Planned}
use Rattle.mon_survey.specs.declared.moving.Known.{Known}
use Rattle.mon_survey.specs.declared.moving.Places.{Places}
use Rattle.mon_survey.specs.declared.planning.Thresholds.{Thresholds}
use Rattle.mon_survey.specs.declared.ruling.Ruling.{Ruling}
use Rattle.mon_survey.specs.declared.updating.Renamed.{Renamed}
use Rattle.mon_survey.specs.Answers.{octets_of, value_at}
use Rattle.mon_survey.specs.Column.{cell_name, spot_of}
use Rattle.mon_survey.specs.Counter.{column_of}
use Rattle.mon_survey.specs.Plan.{same_column, thresholds_of}

-- an agent by its engine id, the names that its interfaces had, and what it answers now
pub record At : Type 0 where
  pub engine : List ℕ
  pub known : List Known
  pub cells : List Cell

-- what is lent, as it is
abbrev pub at_of : Places → At
at_of p = record { engine = p.engine.now; known = p.known.now; cells = p.answers.now }

-- an agent that answered, and the names that its interfaces had
abbrev pub at_in : Renamed → At
at_in r = record { engine = r.agent.engine.now; known = r.known.now; cells = r.agent.answers.now }

-- ---- where an interface is

-- the name that the interface of an index had, if one is known
abbrev pub name_before : List Known → ℕ → Option (List ℕ)
name_before known index = option_map (λ k. k.name) (find (λ k. nat_eq k.index index) known)

-- whether the interface of an index has this ifName
abbrev pub has_name : List Cell → List ℕ → ℕ → Bool
has_name cells name index = bytes_eq (octets_of (value_at cells (IfX 1) index)) name

-- whether a cell is this ifName
abbrev pub is_named : List ℕ → Cell → Bool
is_named name c = same_column c.column (IfX 1) && bytes_eq (octets_of (Some c.value)) name

-- the index of an interface of this name: this one if it is, else the first that is
abbrev pub index_named : List Cell → List ℕ → ℕ → Option ℕ
index_named cells name index = if has_name cells name index then Some index
    else option_map (λ c. c.index) (find (is_named name) cells)

-- an index, if there is an interface of it
abbrev pub same_index : List Cell → ℕ → Option ℕ
same_index cells index = if is_some (value_at cells (If 2) index) then Some index else None

-- an interface is the same by its name, or by its index if its name is not known
abbrev pub index_by : List Cell → ℕ → Option (List ℕ) → Option ℕ
index_by cells index None = same_index cells index
index_by cells index (Some name) = index_named cells name index

-- the index that an interface of the agent has now; none if it is gone
abbrev pub index_now : At → ℕ → Option ℕ
index_now a index = index_by a.cells index (name_before a.known index)

-- ---- names

-- the name of a cell at the index that its interface has now; other names are the same
abbrev pub spot_now : At → List ℕ → Spot → Option (List ℕ)
spot_now a q (spot.Cell column index) = option_map (λ i. cell_name column i) (index_now a index)
spot_now a q spot.Ragged = Some q
spot_now a q spot.Elsewhere = Some q

-- what a name of this engine is now; none if it is that of an interface which is gone
abbrev pub name_now : At → List ℕ → List ℕ → Option (List ℕ)
name_now a engine q = if bytes_eq engine a.engine then spot_now a q (spot_of q) else Some q

-- a mark, which an object may have
abbrev pub mark_now : At → List ℕ → Option (List ℕ) → Option (List ℕ)
mark_now a engine mark = option_and_then (name_now a engine) mark

-- ---- targets

-- an object of this engine; none if its interface is gone
abbrev pub object_now : At → List ℕ → Object → Option Object
object_now a engine o = option_map (λ q. record {
  instance = o.instance;
  name = q;
  discontinuity =
      mark_now a engine o.discontinuity;
}) (name_now a engine o.name)

-- the objects that are left
abbrev pub objects_now : At → List ℕ → List Object → List Object
objects_now a engine os = flat_map (λ o. option_to_list (object_now a engine o)) os

-- a target with these objects, if there are some
abbrev pub with_objects : Target → List Object → Option Target
with_objects t [] = None
with_objects t (o ∷ os) = Some (record {
  address = t.address;
  community = t.community;
  engine =
      t.engine;
  tries = t.tries;
  objects = o ∷ os;
})

-- a target with the objects that are left of it
abbrev pub target_now : At → Target → Option Target
target_now a t = with_objects t (objects_now a t.engine t.objects)

-- the targets that are left
abbrev pub targets_now : At → List Target → List Target
targets_now a ts = flat_map (λ t. option_to_list (target_now a t)) ts

-- ---- what is watched, and alarms

-- an instance; none if its interface is gone
abbrev pub instance_now : At → Instance → Option Instance
instance_now a i = option_map (λ q. record { engine = i.engine; name = q })
    (name_now a i.engine i.name)

-- what is watched of it, by a window of the same size
abbrev pub watched_now : At → Watched → Option Watched
watched_now a w = option_map (λ i. record {
  instance = i;
  discontinuity = mark_now a
      w.instance.engine w.discontinuity;
  window = w.window;
  epoch = w.epoch;
})
    (instance_now a w.instance)

-- what is watched of all that is left
abbrev pub watch_now : At → List Watched → List Watched
watch_now a ws = flat_map (λ w. option_to_list (watched_now a w)) ws

-- these thresholds on an instance, if it is there
abbrev pub ruling_on : (rising falling : ℤ) → Option Instance → Option Ruling
ruling_on rising falling instance = option_map (λ i. record {
  instance = i;
  rising = rising;
  falling
      = falling;
}) instance

-- a rule on what was watched; none if its interface is gone
abbrev pub ruling_now : At → List Watched → Rule → Option Ruling
ruling_now a was r = ruling_on r.rising r.falling (option_and_then (λ w. instance_now a w.instance)
    (slice_get was r.instance))

-- the alarm on a counter of the agent, if there are thresholds
abbrev pub ruling_at : List ℕ → Planned → Option Thresholds → Option Ruling
ruling_at engine p at = option_map (λ t. record {
  instance = record
      { engine = engine; name = cell_name (column_of p.counter p.wide) p.index };
  rising = pos
      t.rising;
  falling = pos t.falling;
}) at

-- the alarm on a new counter
abbrev pub ruling_of : At → ℕ → Planned → Option Ruling
ruling_of a percent p = ruling_at a.engine p (thresholds_of a.cells percent p.counter p.index)

-- the alarms that are left, and those on new counters
abbrev pub rulings : At → ℕ → List Planned → List Watched → List Rule → List Ruling
rulings a percent ps was rules =
    flat_map (λ r. option_to_list (ruling_now a was r)) rules
    ++ flat_map (λ p. option_to_list (ruling_of a percent p)) ps
