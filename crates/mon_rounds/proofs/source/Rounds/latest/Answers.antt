use Rattle.mon_rounds.proofs.Few.{few_in_all}
use Rattle.mon_rounds.proofs.source.Rounds.latest.Goals as goal

pub returns-clause-few : goal.returns-clause-few
returns-clause-few g c = few_in_all c.args.self.now.latest.datagrams.items c.args.self.now.round.targets c.args.self.now.few
