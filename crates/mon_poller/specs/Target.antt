-- Targets, and how they are asked.
use Rattle.std.specs.Prelude.{◌≡◌, ℕ, ◌≤◌, ◌<◌, pos, List, [], ◌∷◌, length, map, All, Option, Some}
use Rattle.std.specs.Prelude.{None, slice_index_or}
use Rattle.std.specs.List.{flat_map}
use Rattle.mon_ber.specs.declared.value.Value.TheVariants as values
use Rattle.mon_ber.specs.Grammar.{Spells}
use Rattle.mon_ber.specs.Writing.{written}
use Rattle.mon_pdu.specs.declared.message.Binding.{Binding}
use Rattle.mon_pdu.specs.declared.message.Body.TheVariants.{Pdu}
use Rattle.mon_pdu.specs.declared.message.Message.{Message}
use Rattle.mon_pdu.specs.declared.message.PduKind.TheVariants as pdu
use Rattle.mon_pdu.specs.Writing.{list_contents, written_message}
use Rattle.mon_board.specs.Instance.{IsEngine}
use Rattle.mon_poller.specs.declared.target.Object.{Object}
use Rattle.mon_poller.specs.declared.target.Target.{Target}
use Rattle.mon_poller.specs.Stamp.{engine_id_name, engine_boots_name, engine_time_name}

-- a target within the limits of what is polled
pub record IsTarget (t : Target) : Type 0 where
  pub community : (1 ≤ length t.community) × (length t.community ≤ 512)
  pub engine : IsEngine t.engine
  pub tries : (1 ≤ t.tries) × (t.tries ≤ 8)
  pub objects : (1 ≤ length t.objects) × (length t.objects ≤ 16)

-- 1 to 64 targets, each within its limits
pub record AreTargets (targets : List Target) : Type 0 where
  pub some : 1 ≤ length targets
  pub few : length targets ≤ 64
  pub each : All IsTarget targets

-- the target of a number that no target has
abbrev pub no_target : Target
no_target = record {
  address = record { octets = []; port = 0 };
  community = [];
  engine = [];
  tries
      = 0;
  objects = [];
}

-- the target of this number
abbrev pub target_at : List Target → ℕ → Target
target_at targets i = slice_index_or targets i no_target

-- the name of a discontinuity, where there is one
abbrev pub name_of_discontinuity : Option (List ℕ) → List (List ℕ)
name_of_discontinuity None = []
name_of_discontinuity (Some name) = name ∷ []

-- the names by which an object is asked for: its own, directly followed by its discontinuity's
abbrev pub object_names : Object → List (List ℕ)
object_names o = o.name ∷ name_of_discontinuity o.discontinuity

-- the names of a poll: the stamp's, and then the objects'
abbrev pub poll_names : Target → List (List ℕ)
poll_names t = engine_id_name ∷ engine_boots_name ∷ engine_time_name
    ∷ flat_map object_names t.objects

-- a name whose value is asked for (unSpecified, RFC 3416 section 3)
abbrev pub unspecified : List ℕ → Binding
unspecified name = record { name = name; value = values.Null }

-- the poll: a GetRequest for these names (RFC 3416 section 4.2.1)
abbrev pub poll_message : Target → ℕ → Message
poll_message t id = record {
  community = t.community;
  body = Pdu (record {
    kind = pdu.Get;
    request_id = pos id;
    error_status = pos 0;
    error_index = pos
        0;
    bindings = map unspecified (poll_names t);
  });
}

-- its datagram
abbrev pub poll_octets : Target → ℕ → List ℕ
poll_octets t id = written_message (poll_message t id)

-- the variable bindings of a target's polls, as its datagrams have them
abbrev pub asked_octets : Target → List ℕ
asked_octets t = list_contents (map unspecified (poll_names t))

-- octets are these bindings; they are few enough for any datagram
pub record IsAsked (t : Target) (list : List ℕ) : Type 0 where
  pub asked : list ≡ asked_octets t
  pub few : length list ≤ 23205

-- octets for each target, in the targets' order
pub record AreAsked (targets : List Target) (lists : List (List ℕ)) : Type 0 where
  pub many : length lists ≡ length targets
  pub each : (k : ℕ) → k < length lists → IsAsked (target_at targets k) (slice_index_or lists k [])

-- a name as it is spelled in a datagram
abbrev pub spelled_name : List ℕ → List ℕ
spelled_name name = written (values.Name name)

-- octets for each of these names, which spell it
abbrev pub SpellNames : List (List ℕ) → List (List ℕ) → Type 0
SpellNames [] [] = Unit {0}
SpellNames [] (name ∷ names) = ⊥
SpellNames (text ∷ texts) [] = ⊥
SpellNames (text ∷ texts) (name ∷ names) = Spells text (values.Name name) × SpellNames texts names

-- spelled names of each target's polls, in the targets' order
pub record AreNamed (targets : List Target) (names : List (List (List ℕ))) : Type 0 where
  pub many : length names ≡ length targets
  pub each : (k : ℕ) → k < length names → SpellNames (slice_index_or names k [])
      (poll_names (target_at targets k))
