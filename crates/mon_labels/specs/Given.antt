-- Which labels are given for which instance.
use Rattle.std.specs.Prelude.{ℕ, ◌+◌, Bool, ◌==◌, List, [], ◌∷◌, Option, Some, None, option_map}
use Rattle.std.specs.Prelude.{option_and_then, slice_get, String, string_bytes, if◌then◌else◌}
use Rattle.std.specs.List.{find, list_any}
use Rattle.mon_display.specs.Interface.{interface_of}
use Rattle.mon_board.specs.declared.instance.Instance.{Instance}
use Rattle.mon_board.specs.declared.instance.Watched.{Watched}
use Rattle.mon_page.specs.declared.extras.InstanceLabels.{InstanceLabels}
use Rattle.mon_poller.specs.declared.target.Target.{Target}
use Rattle.mon_labels.specs.declared.interface.InterfaceLabels.{InterfaceLabels}
use Rattle.mon_labels.specs.Described.{described, is_of}

-- the labels of an instance, as texts
pub record Given : Type 0 where
  pub target : Option (List ℕ)
  pub device : Option (List ℕ)
  pub name : Option (List ℕ)
  pub alias : Option (List ℕ)
  pub speed : Option ℕ

-- the labels of an instance, as contracts compare them
abbrev pub given : InstanceLabels → Given
given l = record {
  target = option_map string_bytes l.target;
  device = option_map string_bytes l.device;
  name = option_map string_bytes l.if_name;
  alias = option_map string_bytes l.if_alias;
  speed = l.speed;
}

-- whether a target is polled for the instance of this number
abbrev pub polls : ℕ → Target → Bool
polls instance t = list_any (λ o. o.instance == instance) t.objects

-- the number of the first target that is polled for the instance of this number, of targets with
-- numbers from this one on
abbrev pub target_from : ℕ → ℕ → List Target → Option ℕ
target_from instance n [] = None
target_from instance n (t ∷ targets) = if polls instance t then Some n
    else target_from instance (n + 1) targets

-- the number of the first target that is polled for the instance of this number, from 0
abbrev pub target_for : List Target → ℕ → Option ℕ
target_for targets instance = target_from instance 0 targets

-- the address of the first target that is polled for the instance of this number, of the addresses
-- of the targets
abbrev pub address_of : {A : Type 0} → List Target → List (String A) → ℕ → Option (List ℕ)
address_of targets addresses instance = option_map string_bytes
    (option_and_then (slice_get addresses) (target_for targets instance))

-- the interface at the instance's engine that the instance's name is about, if there is one
abbrev pub interface_for : List InterfaceLabels → Instance → Option InterfaceLabels
interface_for all i = option_and_then (λ index. find (λ l. is_of i.engine index (described l)) all)
    (interface_of i.name)

-- a text that may be there
abbrev pub text_if : {A : Type 0} → Option (String A) → Option (List ℕ)
text_if text = option_map string_bytes text

-- the label of the first target that is polled for the instance of this number, of the labels of
-- the targets
abbrev pub device_of : {A : Type 0} → List Target → List (Option (String A)) → ℕ → Option (List ℕ)
device_of targets devices instance = option_and_then text_if
    (option_and_then (slice_get devices) (target_for targets instance))

-- the labels of a target's address and its own label, and of an interface, if there is one
abbrev pub labels_by : Option (List ℕ) → Option (List ℕ) → Option InterfaceLabels → Given
labels_by address device None = record {
  target = address;
  device = device;
  name = None;
  alias =
      None;
  speed = None;
}
labels_by address device (Some l) =
    record {
      target = address;
      device = device;
      name = (described l).name;
      alias =
          (described l).alias;
      speed = (described l).speed;
    }

-- the labels of an instance, of whose target these are the address and the label
abbrev pub labels_for : List InterfaceLabels → Option (List ℕ) → Option (List ℕ) → Instance → Given
labels_for all address device i = labels_by address device (interface_for all i)

-- the labels of instances with numbers from this one on
abbrev pub given_from : {A B : Type 0} → List InterfaceLabels → List Target → List (String A)
    → List (Option (String B)) → ℕ → List Watched → List Given
given_from all targets addresses devices n [] = []
given_from all targets addresses devices n (w ∷ ws) =
    labels_for all (address_of targets addresses n) (device_of targets devices n) w.instance
    ∷ given_from all targets addresses devices (n + 1) ws
