use Rattle.std.proofs.Common.{◌∙◌, sym}
use Rattle.mon_courier.specs.Turn.{begins}
use Rattle.mon_courier.proofs.courier.CourierBy.start.Goals as goal

pub returns-then-is_due : goal.returns-then-is_due
returns-then-is_due g c = begins (sym c.is_due.ensures ∙ c.if-is_due.true) c.begin.ensures
