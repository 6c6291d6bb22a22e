use Rattle.std.proofs.Common.{◌≡◌, min, rules, length, take, drop, sym, ap, ◌∙◌}
use Rattle.mon_agent.specs.Reply.{count_of}
use Rattle.mon_agent.proofs.Rounds.{taken_first, dropped_first}
use Rattle.mon_agent.proofs.bulk.split.Goals as goal

pub returns-clause-once : goal.returns-clause-once
returns-clause-once c =
    let request = c.args.request.now in
    let k : c.min.result ≡ min (count_of request.non_repeaters) (length request.bindings) = search rules in
    c.split_at.ensures.front
    ∙ (ap (take c.min.result) c.as_slice-asked.ensures ∙ sym (taken_first (count_of request.non_repeaters) c.min.result request.bindings k))

pub returns-clause-repeated : goal.returns-clause-repeated
returns-clause-repeated c =
    let request = c.args.request.now in
    let k : c.min.result ≡ min (count_of request.non_repeaters) (length request.bindings) = search rules in
    c.split_at.ensures.back
    ∙ (ap (drop c.min.result) c.as_slice-asked.ensures ∙ sym (dropped_first (count_of request.non_repeaters) c.min.result request.bindings k))
