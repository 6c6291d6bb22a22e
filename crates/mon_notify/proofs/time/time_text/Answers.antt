use Rattle.mon_notify.proofs.Clock.{time_of}
use Rattle.mon_notify.proofs.time.time_text.Goals as goal

pub returns : goal.returns
returns c = time_of c.args.date.now c.to_bytes-t.result c.month_digits.result c.to_bytes-t.ensures c.month_digits.ensures
