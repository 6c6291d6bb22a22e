-- What a text says of an interface.
use Rattle.std.specs.Prelude.{ℕ, Bool, ◌&&◌, ◌==◌, List, Option, option_map, string_bytes}
use Rattle.std.specs.Str.{bytes_eq}
use Rattle.mon_labels.specs.declared.interface.InterfaceLabels.{InterfaceLabels}

-- an interface: the engine id of its agent, its ifIndex, and its ifName, its ifAlias and its speed
-- in bits a second, if they are given
pub record Described : Type 0 where
  pub engine : List ℕ
  pub index : ℕ
  pub name : Option (List ℕ)
  pub alias : Option (List ℕ)
  pub speed : Option ℕ

-- labels as contracts compare them
abbrev pub described : InterfaceLabels → Described
described l = record {
  engine = l.engine.items;
  index = l.index;
  name = option_map string_bytes l.if_name;
  alias = option_map string_bytes l.if_alias;
  speed = l.speed;
}

-- it is the interface of this index at this engine
abbrev pub is_of : List ℕ → ℕ → Described → Bool
is_of engine index d = (d.index == index) && bytes_eq d.engine engine
