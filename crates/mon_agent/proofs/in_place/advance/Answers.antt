use Rattle.mon_mib.specs.Search.{IsSeenIn, known_in}
use Rattle.mon_agent.proofs.InPlace.{next_shown, on_ok}
use Rattle.mon_agent.proofs.in_place.advance.Goals as goal

pub returns-clause-step : goal.returns-clause-step
returns-clause-step g c =
    let sought = c.args.search.now in
    on_ok c.step.result _ _ (λ found is. next_shown (known_in g.D.Device.held sought) (IsSeenIn sought) c.args.name.now c.step.new.name found is) c.step.ensures.next

pub returns-clause-only : goal.returns-clause-only
returns-clause-only g c = λ next steps.
    let sought = c.args.search.now in
    let known = known_in g.D.Device.held sought in
    on_ok c.step.result _ _
    (λ found is.
    c.one_step.ensures known sought.families sought.view c.args.name.now _ (next c.args.name.now) (next_shown known (IsSeenIn sought) c.args.name.now c.step.new.name found is) (steps c.args.name.now))
    c.step.ensures.next
