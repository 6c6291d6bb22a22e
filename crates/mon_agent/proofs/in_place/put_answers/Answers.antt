use Rattle.std.proofs.Common.{◌≡◌, ◌∙◌, subst, length, arith}
use Rattle.std.proofs.lemmas.List.{nil_from_length}
use Rattle.mon_mib.specs.Search.{IsSeenIn, known_in}
use Rattle.mon_agent.specs.InPlace.{IsAnswerOf, IsPut}
use Rattle.mon_agent.proofs.InPlace.{none_left, one_less}
use Rattle.mon_agent.proofs.in_place.put_answers.Goals as goal

pub loop-rest-preserved : goal.loop-rest-preserved
loop-rest-preserved g c =
    let at = c.loop-rest in
    let kind = c.args.frame.now.kind in
    let sought = c.args.search.now in
    record {
      stays = c.put_answer.ensures.stays ∙ at.invariant.stays;
      left = one_less (IsAnswerOf (known_in g.D.Device.held sought) (IsSeenIn sought) kind) c.args.frame.now.list.now c.args.out.now.items at.rest.now at.out.items
          c.in-Some.after.now c.put_answer.new.out.items at.invariant.left
          (subst (λ s. IsPut (IsAnswerOf (known_in g.D.Device.held s) (IsSeenIn s) kind) at.rest.now c.in-Some.after.now at.out.items c.put_answer.new.out.items)
          at.invariant.stays c.in-Some.ensures.put);
    }

pub returns : goal.returns
returns g c =
    let at = c.loop-rest in
    let none : length at.rest.now ≡ 0 = grind arith in
    let sought = c.args.search.now in
    at.invariant.left.others at.out.items
    (none_left (IsAnswerOf (known_in g.D.Device.held sought) (IsSeenIn sought) c.args.frame.now.kind) at.rest.now at.out.items (nil_from_length at.rest.now none))
