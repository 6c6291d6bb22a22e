use Rattle.std.proofs.Common.{List, arith, ap, ◌∙◌, ◌-◌, length, take, drop, length-drop}
use Rattle.std.proofs.lemmas.List.{take_all}
use Rattle.mon_survey.specs.declared.counter.Planned.{Planned}
use Rattle.mon_survey.proofs.planning.part_of.Goals as goal

pub returns : goal.returns
returns c =
    let rest : List Planned = drop c.args.from c.args.counters.now in
    c.front.ensures ∙ ap (λ (l : List Planned). take 256 l) (take_all (length c.args.counters.now - c.args.from) rest (omega (arith, length-drop c.args.from c.args.counters.now)))
