use Rattle.std.proofs.Common.{◌≡◌, ◌∙◌, ◌<◌, ◌≤◌, ◌+◌, ◌&&◌, ℕ, List, length, take, set, get_or, ap, sym, subst, rules}
use Rattle.std.proofs.lemmas.List.{length-set}
use Rattle.mon_mib.specs.Search.{IsSeenIn, known_in}
use Rattle.mon_pdu.specs.declared.message.Binding.{Binding}
use Rattle.mon_agent.specs.Bulk.{IsStepper, is_end}
use Rattle.mon_agent.specs.Filling.{FitsIn, IsOnePut}
use Rattle.mon_agent.specs.InPlace.{answer_at}
use Rattle.mon_agent.proofs.Filling.{IsSoFar, one_answered, rest_kept, round_cut, round_ends}
use Rattle.mon_agent.proofs.Rounds.{moved}
use Rattle.mon_agent.proofs.bulk_in_place.put_round.Goals as goal
use Rattle.mon_agent.proofs.bulk_in_place.put_round.Goals.{then-all_end, else-all_end}

pub returns-then-not-branch-clause-put : goal.returns-then-not-branch-clause-put
returns-then-not-branch-clause-put g c = λ before is.
    let at = c.loop-name in
    let known = known_in g.D.Device.held c.args.search.now in
    let sees = IsSeenIn c.args.search.now in
    let answer = answer_at c.advance.new.name c.in-Ok.found in
    let lt : at.name-index < length at.names = search rules in
    let one : (next : List ℕ → Binding) → IsStepper known sees next → answer ≡ next (get_or at.names at.name-index c.name-item.result) =
    λ next steps. c.in-Ok.ensures.only next (moved g.D.Device.held next at.invariant.stays steps) in
    let so_far = at.invariant.put before is in
    let put = subst (λ b. IsOnePut (FitsIn c.args.plan.now) so_far.reply answer b c.put_fitting.new.list.items) c.if-not-branch.true (c.in_ok-put_fitting.ensures so_far.reply so_far.put) in
    round_cut known sees (FitsIn c.args.plan.now) before c.args.names.now at.names _ at.name-index c.name-item.result answer at.all_end at.list.items c.put_fitting.new.list.items lt
    at.invariant.long at.invariant.rest one so_far put.0 put.1

pub loop-name-preserved : goal.loop-name-preserved
loop-name-preserved g c =
    let at = c.loop-name in
    let known = known_in g.D.Device.held c.args.search.now in
    let sees = IsSeenIn c.args.search.now in
    let answer = answer_at c.advance.new.name c.in-Ok.found in
    let lt : at.name-index < length at.names = search rules in
    let one : (next : List ℕ → Binding) → IsStepper known sees next → answer ≡ next (get_or at.names at.name-index c.name-item.result) =
    λ next steps. c.in-Ok.ensures.only next (moved g.D.Device.held next at.invariant.stays steps) in
    let ended : at.all_end && is_end answer.value ≡ c.if-all_end.all_end =
    elim c.if-all_end.branch [
      | then-all_end w ↦ ap (λ b. b && is_end answer.value) w.if-all_end.true ∙ sym (w.all_end-is ∙ w.is_at_end-all_end.ensures)
      | else-all_end w ↦ ap (λ b. b && is_end answer.value) w.if-all_end.false ∙ sym (w.all_end-is ∙ w.if-all_end.false)
    ] in
    record {
      stays = c.advance.ensures.stays ∙ at.invariant.stays;
      long = length-set at.names at.name-index c.advance.new.name ∙ at.invariant.long;
      rest = rest_kept c.args.names.now at.names at.name-index c.name-item.result c.advance.new.name lt at.invariant.long at.invariant.rest;
      put = λ before is.
          let so_far = at.invariant.put before is in
          let put = subst (λ b. IsOnePut (FitsIn c.args.plan.now) so_far.reply answer b c.put_fitting.new.list.items) c.if-not-branch.false (c.in_ok-put_fitting.ensures so_far.reply so_far.put) in
          subst (λ b. IsSoFar known sees before (take (at.name-index + 1) c.args.names.now) (take (at.name-index + 1) (set at.names at.name-index c.advance.new.name)) b c.put_fitting.new.list.items) ended
          (one_answered known sees before c.args.names.now at.names at.name-index c.name-item.result answer at.all_end at.list.items c.put_fitting.new.list.items lt
          at.invariant.long at.invariant.rest one so_far put);
    }

pub returns-then-all_end-2-clause-put : goal.returns-then-all_end-2-clause-put
returns-then-all_end-2-clause-put g c = λ before is.
    let at = c.loop-name in
    let le : length at.names ≤ at.name-index = search rules in
    (round_ends (known_in g.D.Device.held c.args.search.now) (IsSeenIn c.args.search.now) (FitsIn c.args.plan.now) before c.args.names.now at.names at.name-index at.all_end at.list.items
    le at.invariant.long (at.invariant.put before is)).0 c.if-all_end-2.true

pub returns-else-all_end-2-clause-put : goal.returns-else-all_end-2-clause-put
returns-else-all_end-2-clause-put g c = λ before is.
    let at = c.loop-name in
    let le : length at.names ≤ at.name-index = search rules in
    (round_ends (known_in g.D.Device.held c.args.search.now) (IsSeenIn c.args.search.now) (FitsIn c.args.plan.now) before c.args.names.now at.names at.name-index at.all_end at.list.items
    le at.invariant.long (at.invariant.put before is)).1 c.if-all_end-2.false
