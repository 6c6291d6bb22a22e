-- Which fault of an agent's tree comes first: the keys in the order of reading. What is accepted is
-- said in Accepted, and a law ties both.
use Rattle.std.specs.Prelude.{Result, Ok, pos}
use Rattle.toml.specs.Data.{Members}
use Rattle.mon_mib.specs.declared.sys_texts.SysTexts.{SysTexts}
use Rattle.mon_oid.specs.Steps.{◌>>=◌}
use Rattle.mon_settings.specs.Accepted.{Agent}
use Rattle.mon_settings.specs.declared.agent.System.{System}
use Rattle.mon_settings.specs.declared.key.Key.TheVariants as key
use Rattle.mon_settings.specs.declared.fault.SettingsFault.{SettingsFault}
use Rattle.mon_settings.specs.Grammar.{agent_keys}
use Rattle.mon_settings.specs.Keys.{only, needed_at, default_at}
use Rattle.mon_settings.specs.Leaf.{int_in, text_in, hex_in, oid_in, addr_in}
use Rattle.mon_settings.specs.Interfaces.{interfaces_in}
use Rattle.mon_settings.specs.Tables.{policy_in}

-- the texts that can be set
unfoldable pub set_texts_of : Members → Result SysTexts SettingsFault
set_texts_of t = do
  contact ← needed_at key.Contact (text_in 0 255) t
  name ← needed_at key.Name (text_in 0 255) t
  location ← needed_at key.Location (text_in 0 255) t
  Ok (record { contact = contact; name = name; location = location })

-- what is outside of the lists
unfoldable pub system_of : Members → Result System SettingsFault
system_of t = do
  listen ← needed_at key.Listen addr_in t
  max_message_size ← needed_at key.Limit (int_in 484 8192) t
  engine ← needed_at key.Engine (hex_in 5 32) t
  boots ← default_at key.Boots (pos 1) (int_in 1 2147483647) t
  descr ← needed_at key.Descr (text_in 0 255) t
  object_id ← needed_at key.ObjectId oid_in t
  texts ← set_texts_of t
  services ← needed_at key.Services (int_in 0 127) t
  Ok (record {
    listen = listen;
    settings = record {
      descr = descr;
      object_id = object_id;
      services = services;
      engine = engine;
      boots = boots;
      max_message_size = max_message_size;
    };
    texts = texts;
  })

-- what a tree gives: unknown keys are refused first, and then the keys are read in this order
unfoldable pub agent_of : Members → Result Agent SettingsFault
agent_of t = do
  known ← only agent_keys t
  system ← system_of t
  policy ← policy_in t
  interfaces ← interfaces_in t
  Ok (record {
    listen = system.listen;
    settings = system.settings;
    texts = system.texts;
    policy = policy;
    interfaces = interfaces;
  })
