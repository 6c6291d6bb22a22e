use Rattle.mon_http.proofs.Grammar.{requests}
use Rattle.mon_http.proofs.laws.requests.Goals as goal

pub returns : goal.returns
returns c = requests
