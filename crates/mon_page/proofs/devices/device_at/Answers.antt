use Rattle.std.proofs.Common.{◌∙◌, ap, sym}
use Rattle.mon_page.specs.Devices.{cut}
use Rattle.mon_page.proofs.devices.device_at.Goals as goal

pub returns-in-None : goal.returns-in-None
returns-in-None c = ap (λ o. cut o c.args.rows.now) (sym c.in-None.is ∙ c.first_other.ensures.place)

pub returns-in-Some : goal.returns-in-Some
returns-in-Some c = ap (λ o. cut o c.args.rows.now) (sym c.in-Some.is ∙ c.first_other.ensures.place)
