use Rattle.mon_http.proofs.Talks.{judged_unique, not_quiet}
use Rattle.mon_http.proofs.laws.one_verdict.Goals as goal

pub returns-clause-same : goal.returns-clause-same
returns-clause-same c = judged_unique

pub returns-clause-apart : goal.returns-clause-apart
returns-clause-apart c = not_quiet
