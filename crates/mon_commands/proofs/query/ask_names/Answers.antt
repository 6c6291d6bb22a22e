use Rattle.std.proofs.Common.{arith, inr, map, subst, sym}
use Rattle.mon_commands.specs.Query.{AreAsked, IsUnmeant}
use Rattle.mon_commands.proofs.Meant.{begins, ended, found, refused}
use Rattle.mon_commands.proofs.Steps.{failure_is}
use Rattle.mon_commands.proofs.query.ask_names.Goals as goal

pub loop-word-preserved : goal.loop-word-preserved
loop-word-preserved c = found c.args.known.now c.args.words.now c.loop-word.word-index _ (map (λ w. w.now) c.args.words.now) c.loop-word.asked.items
    c.push.new.self.items c.in_ok-asked_for.field-0 c.loop-word-test.true c.loop-word.invariant c.in_ok-asked_for.ensures.found c.in_ok-push.ensures.items

pub returns-in_err-asked_for : goal.returns-in_err-asked_for
returns-in_err-asked_for c =
    let failure = c.in_err-asked_for.field-0.0 in
    let why = c.in_err-asked_for.ensures.refused in
    let is : IsUnmeant c.args.known.now _ failure = record { fault = why.0; why = why.2; is = why.1; said = c.in_err-asked_for.ensures.more } in
    subst (AreAsked c.args.known.now (map (λ w. w.now) c.args.words.now)) (sym (failure_is c.from_residual.result failure c.from_residual.ensures.1))
    (inr (refused c.args.known.now c.args.words.now c.loop-word.word-index _ (map (λ w. w.now) c.args.words.now) c.loop-word.asked.items failure
    c.loop-word-test.true c.loop-word.invariant is))

pub returns : goal.returns
returns c = ended c.args.known.now c.args.words.now c.loop-word.word-index (map (λ w. w.now) c.args.words.now) c.loop-word.asked.items
    (omega (arith, c.loop-word-test.false)) c.loop-word.invariant
