-- How the keys of the settings are written.
use Rattle.std.specs.Prelude.{ℕ, List, [], codes}
use Rattle.mon_settings.specs.declared.key.Key.{Key}
use Rattle.mon_settings.specs.declared.key.Key.TheVariants as key

-- how a key is written that is in no top table, but only in the tables of lists; nothing for
-- another
abbrev pub inner_key_name : Key → List ℕ
inner_key_name key.Security = codes "security"
inner_key_name key.Model = codes "model"
inner_key_name key.Read = codes "read"
inner_key_name key.Write = codes "write"
inner_key_name key.Subtree = codes "subtree"
inner_key_name key.Mask = codes "mask"
inner_key_name key.Included = codes "included"
inner_key_name key.Index = codes "index"
inner_key_name key.Type = codes "type"
inner_key_name key.Mtu = codes "mtu"
inner_key_name key.Speed = codes "speed"
inner_key_name key.Phys = codes "phys"
inner_key_name key.Alias = codes "alias"
inner_key_name key.InOctets = codes "in_octets"
inner_key_name key.InPackets = codes "in_packets"
inner_key_name key.OutOctets = codes "out_octets"
inner_key_name key.OutPackets = codes "out_packets"
inner_key_name key.Start = codes "start"
inner_key_name key.Rate = codes "rate"
inner_key_name key.Address = codes "address"
inner_key_name key.Tries = codes "tries"
inner_key_name key.Objects = codes "objects"
inner_key_name key.Mark = codes "mark"
inner_key_name key.Rising = codes "rising"
inner_key_name key.Falling = codes "falling"
inner_key_name k = []

-- how a key is written
abbrev pub key_name : Key → List ℕ
key_name key.Listen = codes "listen"
key_name key.Limit = codes "limit"
key_name key.Engine = codes "engine"
key_name key.Boots = codes "boots"
key_name key.Descr = codes "descr"
key_name key.ObjectId = codes "object_id"
key_name key.Contact = codes "contact"
key_name key.Name = codes "name"
key_name key.Location = codes "location"
key_name key.Services = codes "services"
key_name key.Community = codes "community"
key_name key.Group = codes "group"
key_name key.Access = codes "access"
key_name key.View = codes "view"
key_name key.Interface = codes "interface"
key_name key.Station = codes "station"
key_name key.File = codes "file"
key_name key.Window = codes "window"
key_name key.Epoch = codes "epoch"
key_name key.WaitMs = codes "wait_ms"
key_name key.Label = codes "label"
key_name key.Modules = codes "modules"
key_name key.Target = codes "target"
key_name key.Peer = codes "peer"
key_name key.Alarm = codes "alarm"
key_name k = inner_key_name k
