-- The keys of a text of labels.
use Rattle.std.specs.Prelude.{ℕ, List, codes}
use Rattle.mon_labels.specs.declared.key.Key.{Key}
use Rattle.mon_labels.specs.declared.key.Key.TheVariants.{Interface, Engine, Index, IfName, IfAlias}
use Rattle.mon_labels.specs.declared.key.Key.TheVariants.{Speed}

-- how a key is written
abbrev pub key_name : Key → List ℕ
key_name Interface = codes "interface"
key_name Engine = codes "engine"
key_name Index = codes "index"
key_name IfName = codes "ifName"
key_name IfAlias = codes "ifAlias"
key_name Speed = codes "speed"
