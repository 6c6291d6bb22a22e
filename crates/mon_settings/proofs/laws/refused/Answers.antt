use Rattle.mon_settings.proofs.Named.{agent_of-own}
use Rattle.mon_settings.proofs.laws.refused.Goals as goal

pub returns : goal.returns
returns c = agent_of-own
