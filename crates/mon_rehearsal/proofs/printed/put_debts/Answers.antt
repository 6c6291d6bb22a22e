use Rattle.std.proofs.Common.{string_bytes}
use Rattle.mon_world.specs.Shows.{state_in}
use Rattle.mon_rehearsal.specs.Printed.{owed_line}
use Rattle.mon_rehearsal.proofs.Texts.{debts_more}
use Rattle.mon_rehearsal.proofs.printed.put_debts.Goals as goal

pub loop-place-preserved : goal.loop-place-preserved
loop-place-preserved c =
    debts_more (owed_line (state_in c.args.station.now)) c.args.number c.loop-place.place (string_bytes c.args.lines.now) (string_bytes c.loop-place.lines) (string_bytes c.put_debt.new.lines)
    c.loop-place.invariant c.in_ok-put_debt.ensures
