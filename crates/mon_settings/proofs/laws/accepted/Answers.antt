use Rattle.mon_settings.proofs.Accepted.{agent_of-is}
use Rattle.mon_settings.proofs.laws.accepted.Goals as goal

pub returns : goal.returns
returns c = agent_of-is
