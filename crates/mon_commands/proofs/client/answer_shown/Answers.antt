use Rattle.std.proofs.Common.{List, ℕ, inr, subst}
use Rattle.std.specs.Prelude.{Err}
use Rattle.mon_client.specs.Network.{agents_by}
use Rattle.mon_commands.specs.Client.{IsAnswerText, question_about}
use Rattle.mon_commands.proofs.client.answer_shown.Goals as goal

pub returns-in-Err : goal.returns-in-Err
returns-in-Err g c =
    let agents = (agents_by (g.N.Opens.has_opened c.args.net.now) (g.N.Opens.has_failed c.args.net.now) g.N.Wire.Wire.log) in
    let query = c.args.query.now in
    let why = subst (λ (names : List (List ℕ)). IsAnswerText agents query.agent.address (g.S.NameTexts.shown c.args.names.now) (question_about query c.args.asking names)
    (Err c.in-Err.fault)) c.as_slice.ensures.value c.in-Err.ensures in
    inr (c.in-Err.fault, c.answer_failure.ensures.fault, c.answer_failure.ensures.more, why)
