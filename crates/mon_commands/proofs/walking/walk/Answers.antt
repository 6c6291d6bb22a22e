use Rattle.std.proofs.Common.{List}
use Rattle.mon_client.specs.Network.{agents_by}
use Rattle.mon_commands.specs.Query.{IsQuery}
use Rattle.mon_commands.specs.Walking.{IsWalkBy, IsWalkOf, IsWalking}
use Rattle.mon_commands.proofs.Steps.{failed, follows}
use Rattle.mon_host.proofs.Promised.{then_fails, weaker}
use Rattle.mon_host.specs.AtHost.{AtHost}
use Rattle.mon_commands.proofs.walking.walk.Goals as goal

pub returns-in_err-query : goal.returns-in_err-query
returns-in_err-query g c =
    let failure = c.in_err-query.field-0.0 in
    failed (IsWalking (agents_by (g.N.Opens.has_opened c.args.net.now) (g.N.Opens.has_failed c.args.net.now) g.N.Wire.Wire.log) c.args.words) c.from_residual.result failure _ _ c.from_residual.ensures.1
    (then_fails (IsQuery c.args.words.request) _ failure _ _ c.in_err-query.ensures)

pub returns : goal.returns
returns g c =
    let agents = (agents_by (g.N.Opens.has_opened c.args.net.now) (g.N.Opens.has_failed c.args.net.now) g.N.Wire.Wire.log) in
    let words = c.args.words in
    let query = c.in_ok-query.query in
    follows (IsQuery words.request) (IsWalkBy agents words.bulk) query _ _ _ _ c.in_ok-query.ensures
    (weaker (λ (log : List AtHost). IsWalkOf agents query c.stride_of.result query.asked.items log c.walk_query.result)
    (λ log. IsWalkBy agents words.bulk query log c.walk_query.result) _ _ (λ log is. (c.stride_of.result, c.stride_of.ensures, is)) c.walk_query.ensures)
