use Rattle.mon_settings.proofs.Resolution.{resolves}
use Rattle.mon_settings.proofs.laws.resolving.Goals as goal

pub returns : goal.returns
returns c = λ defs distinct. resolves defs (λ w q. c.parents.ensures defs w q distinct) (λ text p q. c.one_reading.ensures defs text p q distinct)
