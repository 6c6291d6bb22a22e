use Rattle.std.proofs.Common.{◌≡◌, List, true, ap, subst, ◌∙◌, Some, Ok}
use Rattle.mon_pdu.specs.Framed.{framed}
use Rattle.mon_poller.specs.declared.target.Target.{Target}
use Rattle.mon_poller.specs.InPlace.{framed_pdu}
use Rattle.mon_poller.specs.Poller.{open_of, poll_in}
use Rattle.mon_poller.specs.Target.{poll_names, target_at}
use Rattle.mon_poller.specs.Verdict.{awaited, have_names, target_offers}
use Rattle.mon_poller.proofs.InPlace.{framed_answer}
use Rattle.mon_poller.proofs.in_place.in_place.Goals as goal

pub returns-clause-offered : goal.returns-clause-offered
returns-clause-offered c =
    let f = c.in_ok-frame.frame in
    let poll = c.in_ok-key.poll in
    let slots = c.args.polls.now.slots in
    let bindings = c.in_ok-offered.ensures.0 in
    let t = target_at c.args.asked.now poll.target in
    let target : c.at.result.now ≡ t = c.at.ensures ∙ ap (target_at c.args.asked.now) c.from-number.ensures in
    let named : have_names (poll_names t) bindings ≡ true = subst (λ (x : Target). have_names (poll_names x) bindings ≡ true) target c.in_ok-offered.ensures.2 in
    let offers : target_offers poll.target t bindings ≡ Ok c.in_ok-offered.offered = subst (λ (x : Target). target_offers poll.target x bindings ≡ Ok c.in_ok-offered.offered) target c.in_ok-offered.ensures.3 in (
      framed f bindings,
      framed_pdu f bindings,
      record {
        begins = c.in_ok-frame.ensures.found bindings c.in_ok-offered.ensures.1;
        response = c.in_ok-key.ensures.response bindings;
        named = c.in_ok-key.ensures.id;
        found = subst (λ (ts : List Target). awaited ts (open_of slots) c.args.from (Some (framed f bindings)) ≡ Ok (poll_in poll, framed_pdu f bindings)) c.as_slice.ensures (c.in_ok-key.ensures.awaited bindings);
        answer = framed_answer poll.target t f bindings c.in_ok-offered.offered c.in_ok-key.ensures.status named offers;
      },
    )
