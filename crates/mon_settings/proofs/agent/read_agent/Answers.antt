use Rattle.toml.specs.View.{table_view}
use Rattle.mon_settings.specs.Accepted.{IsAgent, agent_view}
use Rattle.mon_settings.specs.Agent.{agent_of}
use Rattle.mon_settings.specs.declared.fault.SettingsFault.TheVariants.{NotToml}
use Rattle.mon_settings.proofs.Accepted.{agent_of-is}
use Rattle.mon_settings.proofs.Named.{agent_of-own}
use Rattle.mon_settings.proofs.Texts.{said, refused, unsaid, unread}
use Rattle.mon_settings.proofs.agent.read_agent.Goals as goal

pub returns-in-Ok-clause-accepted : goal.returns-in-Ok-clause-accepted
returns-in-Ok-clause-accepted c =
    said agent_view agent_of c.args.text.now (table_view c.in-Ok.table) c.in-Ok.ensures.tree IsAgent agent_of-is c.read_tree.result c.read_tree.ensures.gives

pub returns-in-Ok-clause-refused : goal.returns-in-Ok-clause-refused
returns-in-Ok-clause-refused c =
    let tree = table_view c.in-Ok.table in
    refused agent_view agent_of c.args.text.now tree c.in-Ok.ensures.tree (λ from h. agent_of-own tree (NotToml from) h) c.read_tree.result c.read_tree.ensures.gives

pub returns-in-Err-clause-accepted : goal.returns-in-Err-clause-accepted
returns-in-Err-clause-accepted c = unsaid agent_view agent_of c.args.text.now IsAgent c.in-Err.fault c.in-Err.ensures.unread

pub returns-in-Err-clause-refused : goal.returns-in-Err-clause-refused
returns-in-Err-clause-refused c = unread agent_view agent_of c.args.text.now c.in-Err.fault c.in-Err.ensures.unread
