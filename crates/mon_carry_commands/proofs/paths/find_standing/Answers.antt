use Rattle.std.proofs.Common.{false, refl}
use Rattle.mon_carry_commands.specs.Paths.{IsFinding, IsStandingAfter}
use Rattle.mon_carry_commands.proofs.Steps.{follows, found_as}
use Rattle.mon_carry_commands.proofs.paths.find_standing.Goals as goal

pub returns-in-Ok-false : goal.returns-in-Ok-false
returns-in-Ok-false g c =
    let start = g.H.Host.log c.args.host.now in
    let mid = g.H.Host.log c.is_there.new.host in
    let end = g.H.Host.log c.find_beside.new.host in
    follows (IsFinding c.args.path.now) (λ there. IsStandingAfter there c.args.path.now) false c.find_beside.result start mid end
    (found_as c.args.path.now c.args.path.now c.in-Ok-false.field-0 false start mid refl c.in-Ok-false.field-0-test c.in-Ok-false.ensures) c.find_beside.ensures
