use Rattle.std.proofs.Common.{List, refl}
use Rattle.std.specs.Prelude.{Result}
use Rattle.mon_client.specs.Network.{agents_by}
use Rattle.mon_host.proofs.Promised.{then_fails}
use Rattle.mon_host.specs.Log.{GoesOnBy}
use Rattle.mon_commands.specs.Client.{IsSetting, PrintsAssigned}
use Rattle.mon_commands.specs.Query.{IsGivenValue, IsQuery}
use Rattle.mon_commands.proofs.Assigned.{assigned}
use Rattle.mon_commands.proofs.Steps.{failed, follows, silent_fails, silent_then}
use Rattle.mon_commands.proofs.client.set.Goals as goal

pub returns-in_err-query : goal.returns-in_err-query
returns-in_err-query g c =
    let failure = c.in_err-query.field-0.0 in
    failed (IsSetting (agents_by (g.N.Opens.has_opened c.args.net.now) (g.N.Opens.has_failed c.args.net.now) g.N.Wire.Wire.log) c.args.words) c.from_residual.result failure _ _ c.from_residual.ensures.1
    (then_fails (IsQuery c.args.words.request) _ failure _ _ c.in_err-query.ensures)

pub returns-in_err-value : goal.returns-in_err-value
returns-in_err-value g c =
    let failure = c.in_err-value.field-0.0 in
    failed (IsSetting (agents_by (g.N.Opens.has_opened c.args.net.now) (g.N.Opens.has_failed c.args.net.now) g.N.Wire.Wire.log) c.args.words) c.from_residual-in_err-value.result failure _ _ c.from_residual-in_err-value.ensures.1
    (follows (IsQuery c.args.words.request) _ c.in_ok-query.query _ _ _ _ c.in_ok-query.ensures
    (silent_fails (IsGivenValue c.args.words.kind.now c.args.words.value.now) _ failure _ c.in_err-value.ensures))

pub returns : goal.returns
returns g c = follows (IsQuery c.args.words.request) _ c.in_ok-query.query _ _ _ _ c.in_ok-query.ensures
    (silent_then (IsGivenValue c.args.words.kind.now c.args.words.value.now) (λ value. PrintsAssigned (agents_by (g.N.Opens.has_opened c.args.net.now) (g.N.Opens.has_failed c.args.net.now) g.N.Wire.Wire.log) c.in_ok-query.query value) c.in_ok-value.value _ _ _
    c.in_ok-value.ensures (assigned (agents_by (g.N.Opens.has_opened c.args.net.now) (g.N.Opens.has_failed c.args.net.now) g.N.Wire.Wire.log) c.in_ok-query.query c.in_ok-value.value _ _ _ _ refl c.print_answer.ensures))
