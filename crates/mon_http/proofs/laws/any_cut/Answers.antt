use Rattle.mon_http.proofs.Talks.{rests, same_answers}
use Rattle.mon_http.proofs.laws.any_cut.Goals as goal

pub returns-clause-answered : goal.returns-clause-answered
returns-clause-answered c = rests

pub returns-clause-same : goal.returns-clause-same
returns-clause-same c = same_answers
