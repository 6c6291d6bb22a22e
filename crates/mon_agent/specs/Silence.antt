-- Why an agent is silent.
use Rattle.std.specs.Prelude.{ℕ, List, codes}
use Rattle.mon_agent.specs.declared.reply.Silence.{Silence}
use Rattle.mon_agent.specs.declared.reply.Silence.TheVariants.{BadMessage, BadVersion, BadCommunity}
use Rattle.mon_agent.specs.declared.reply.Silence.TheVariants.{NotARequest, TooBigTwice}

-- the number of a cause on a printed line
abbrev pub number_of : Silence → ℕ
number_of BadMessage = 1
number_of BadVersion = 2
number_of BadCommunity = 3
number_of NotARequest = 4
number_of TooBigTwice = 5

-- the name of a cause on a printed line
abbrev pub name_of : Silence → List ℕ
name_of BadMessage = codes "BadMessage"
name_of BadVersion = codes "BadVersion"
name_of BadCommunity = codes "BadCommunity"
name_of NotARequest = codes "NotARequest"
name_of TooBigTwice = codes "TooBigTwice"
