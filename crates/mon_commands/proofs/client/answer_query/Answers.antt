use Rattle.std.proofs.Common.{inl}
use Rattle.mon_client.specs.Network.{agents_by}
use Rattle.mon_commands.proofs.Wires.{answered, unopened}
use Rattle.mon_commands.proofs.client.answer_query.Goals as goal

pub returns-in_err-wire : goal.returns-in_err-wire
returns-in_err-wire g c = unopened (agents_by (g.N.Opens.has_opened c.args.net.now) (g.N.Opens.has_failed c.args.net.now) g.N.Wire.Wire.log) c.args.agent _ _ c.from_residual.result c.in_err-wire.field-0.0 c.from_residual.ensures.1 c.in_err-wire.ensures.unopened
    c.in_err-wire.ensures.fault

pub returns : goal.returns
returns g c = answered (g.N.Opens.has_opened c.args.net.now) (g.N.Opens.has_failed c.args.net.now) g.N.Wire.Wire.log c.args.agent _ _ _ c.in_ok-wire.wire c.answer_text.new.wire
    c.in_ok-wire.ensures.opened c.answer_text.ensures.answer
