-- Why a message gives an instance no new sample, and whether it is of another engine.
use Rattle.std.specs.Prelude.{ℕ, Bool, List, [], ◌∷◌, ◌||◌, ◌&&◌, ◌==◌, nat_le, nat_lt}
use Rattle.std.specs.Prelude.{if◌then◌else◌, Option, Some, None}
use Rattle.std.specs.Option.{option_and_then}
use Rattle.std.specs.Str.{bytes_eq}
use Rattle.mon_ber.specs.Grammar.{tag_of}
use Rattle.mon_ber.specs.declared.value.Value.{Value}
use Rattle.mon_board.specs.declared.instance.Watched.{Watched}
use Rattle.mon_pdu.specs.Grammar.{bindings_of}
use Rattle.mon_pdu.specs.declared.message.Binding.{Binding}
use Rattle.mon_pdu.specs.declared.message.Message.{Message}
use Rattle.mon_poller.specs.Stamp.{Stamp, discontinuity_in, engine_boots_name, engine_id_name}
use Rattle.mon_poller.specs.Stamp.{engine_time_name, octets_in, sampled, stamp_of_values}
use Rattle.mon_sample.specs.Key.{boots_of, time_of}
use Rattle.mon_reasons.specs.declared.reason.Reason.{Reason}
use Rattle.mon_reasons.specs.declared.reason.Reason.TheVariants as reasons

-- the value of the first of these bindings that has this name
abbrev pub value_under : List ℕ → List Binding → Option Value
value_under name [] = None
value_under name (b ∷ bs) = if bytes_eq name b.name then Some b.value else value_under name bs

-- ---- a value of a kind that is no sample
abbrev pub unless_there : {A : Type 0} → Option A → Reason → Option Reason
unless_there (Some x) reason = None
unless_there None reason = Some reason

-- a value of a kind that is not sampled is no sample, whatever else there is
abbrev pub value_reason : Value → Option Reason
value_reason v = unless_there (sampled v) (reasons.Value (tag_of v))

-- ---- an indicator of discontinuities whose value is none
abbrev pub indicator_reason : Option Value → Option Reason
indicator_reason None = Some reasons.NoDiscontinuity
indicator_reason (Some v) = unless_there (discontinuity_in v) (reasons.Discontinuity (tag_of v))

-- an instance without an indicator has none that is amiss
abbrev pub discontinuity_reason : Option (List ℕ) → List Binding → Option Reason
discontinuity_reason None bindings = None
discontinuity_reason (Some name) bindings = indicator_reason (value_under name bindings)

-- ---- a clock that went back or stopped
-- the stamp in these bindings: an engine id, its boots and the seconds since the last one
abbrev pub stamp_in : List Binding → Option Stamp
stamp_in bindings = option_and_then (λ engine. option_and_then
    (λ boots. option_and_then (λ time. stamp_of_values engine boots time)
    (value_under engine_time_name bindings)) (value_under engine_boots_name bindings))
    (value_under engine_id_name bindings)

-- whether a stamp is not past that of a sample
abbrev pub is_not_past : Stamp → ℕ → Bool
is_not_past stamp newest = nat_lt stamp.boots (boots_of newest)
    || ((stamp.boots == boots_of newest) && nat_le stamp.time (time_of newest))

-- a stamp, as a reason, if it is not past that of a sample
abbrev pub clock_of : ℕ → Stamp → Option Reason
clock_of newest stamp = if is_not_past stamp newest then Some (reasons.Clock stamp.boots stamp.time)
    else None

-- the stamp in these bindings, as a reason, if it is not past that of the newest sample
abbrev pub clock_reason : Option ℕ → List Binding → Option Reason
clock_reason None bindings = None
clock_reason (Some newest) bindings = option_and_then (clock_of newest) (stamp_in bindings)

-- ---- all of them
-- the first of two reasons that is there
abbrev pub or_else : Option Reason → Option Reason → Option Reason
or_else (Some reason) other = Some reason
or_else None other = other

-- why bindings give an instance no sample newer than this one: the first of its value, its
-- indicator and the clock that says so
abbrev pub reason_in : Watched → Option ℕ → List Binding → Option Reason
reason_in watched newest bindings = option_and_then (λ v. or_else (value_reason v)
    (or_else (discontinuity_reason watched.discontinuity bindings) (clock_reason newest bindings)))
    (value_under watched.instance.name bindings)

-- why a message, if there is one, gives an instance no sample newer than this one
abbrev pub reason_of : Watched → Option ℕ → Option Message → Option Reason
reason_of watched newest message = option_and_then (λ m. reason_in watched newest
    (bindings_of m.body)) message

-- ---- another engine
-- octets, if they are others than these
abbrev pub unless_same : List ℕ → List ℕ → Option (List ℕ)
unless_same engine other = if bytes_eq other engine then None else Some other

-- the engine id in these bindings, an OCTET STRING, if it is another than this
abbrev pub other_than : List ℕ → List Binding → Option (List ℕ)
other_than engine bindings = option_and_then (unless_same engine)
    (option_and_then octets_in (value_under engine_id_name bindings))
