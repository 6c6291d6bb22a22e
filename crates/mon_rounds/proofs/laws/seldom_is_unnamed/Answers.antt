use Rattle.std.proofs.Common.{refl}
use Rattle.mon_rounds.specs.Freshness.{new_peer}
use Rattle.mon_rounds.proofs.Seldom.{unnamed}
use Rattle.mon_rounds.proofs.laws.seldom_is_unnamed.Goals as goal

pub returns : goal.returns
returns c = λ slot station spells seldom. unnamed spells (new_peer slot station) seldom refl
