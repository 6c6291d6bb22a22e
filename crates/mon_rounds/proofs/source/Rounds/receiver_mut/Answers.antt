use Rattle.std.proofs.Common.{refl}
use Rattle.mon_rounds.proofs.Lent.{same_but_few}
use Rattle.mon_rounds.proofs.source.Rounds.receiver_mut.Goals as goal

pub returns : goal.returns
returns g c = ((refl, λ w. same_but_few c.args.self.now.round w c.args.self.now.alloc c.args.self.now.latest _ c.args.self.now.few), record { value = refl; writes_back = tt })
