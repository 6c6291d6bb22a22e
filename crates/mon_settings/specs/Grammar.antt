-- The grammar of the settings: which keys each table may have. It is said here and nowhere else.
use Rattle.std.specs.Prelude.{List, [], ◌∷◌}
use Rattle.mon_settings.specs.declared.grammar.SettingsKind.{SettingsKind}
use Rattle.mon_settings.specs.declared.grammar.SettingsKind.TheVariants as kind
use Rattle.mon_settings.specs.declared.key.Key.{Key}
use Rattle.mon_settings.specs.declared.key.Key.TheVariants as key

-- the keys of an agent's settings
abbrev pub agent_keys : List Key
agent_keys =
    key.Listen ∷ key.Limit ∷ key.Engine ∷ key.Boots ∷ key.Descr ∷ key.ObjectId ∷ key.Contact
    ∷ key.Name ∷ key.Location
    ∷ key.Services ∷ key.Community ∷ key.Group ∷ key.Access ∷ key.View ∷ key.Interface ∷ []

-- the keys of a station's settings
abbrev pub station_keys : List Key
station_keys =
    key.Station ∷ key.Listen ∷ key.File ∷ key.Window ∷ key.Epoch ∷ key.WaitMs ∷ key.Label
    ∷ key.Modules ∷ key.Target ∷ key.Peer ∷ key.Alarm ∷ []

-- the keys of a count
abbrev pub growth_keys : List Key
growth_keys = key.Start ∷ key.Rate ∷ []

-- the keys of the tables at a key
abbrev pub table_keys : Key → List Key
table_keys key.Community = key.Community ∷ key.Security ∷ []
table_keys key.Group = key.Security ∷ key.Group ∷ []
table_keys key.Access = key.Group ∷ key.Model ∷ key.Read ∷ key.Write ∷ []
table_keys key.View = key.View ∷ key.Subtree ∷ key.Mask ∷ key.Included ∷ []
table_keys key.Interface =
    key.Index ∷ key.Descr ∷ key.Type ∷ key.Mtu ∷ key.Speed ∷ key.Phys ∷ key.Name ∷ key.Alias
    ∷ key.InOctets ∷ key.InPackets ∷ key.OutOctets ∷ key.OutPackets ∷ []
table_keys key.InOctets = growth_keys
table_keys key.InPackets = growth_keys
table_keys key.OutOctets = growth_keys
table_keys key.OutPackets = growth_keys
table_keys key.Target = key.Address ∷ key.Community ∷ key.Engine ∷ key.Tries ∷ key.Label
    ∷ key.Objects ∷ []
table_keys key.Objects = key.Name ∷ key.Mark ∷ key.Window ∷ key.Epoch ∷ []
table_keys key.Peer = key.Station ∷ key.Address ∷ []
table_keys key.Alarm = key.Engine ∷ key.Name ∷ key.Rising ∷ key.Falling ∷ []
table_keys _ = []

-- the keys of a text's top table
abbrev pub top_keys : SettingsKind → List Key
top_keys kind.Agent = agent_keys
top_keys kind.Station = station_keys
