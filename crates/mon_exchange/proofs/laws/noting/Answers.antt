use Rattle.std.proofs.lemmas.Bool.{eq-eqb, ne_eqb}
use Rattle.mon_exchange.proofs.Said.{now_told, other_told}
use Rattle.mon_exchange.proofs.laws.noting.Goals as goal

pub returns-clause-own : goal.returns-clause-own
returns-clause-own c = λ y windows claims known marked claim is was. now_told y windows claims known marked claim (eq-eqb claim.station y is) was

pub returns-clause-other : goal.returns-clause-other
returns-clause-other c = λ y windows claims known marked claim not was. other_told y windows claims known marked claim (ne_eqb claim.station y not) was
