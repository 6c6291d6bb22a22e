use Rattle.mon_console.proofs.Lines.{has_reason}
use Rattle.mon_console.proofs.failure.reason_line.Goals as goal

pub returns-in-Some : goal.returns-in-Some
returns-in-Some c = has_reason c.format.result c.args.place.now c.args.words c.in-Some.words c.ok.result c.in-Some.is c.format.ensures.ok c.ok.ensures.value
