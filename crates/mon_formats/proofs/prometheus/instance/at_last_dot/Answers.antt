use Rattle.std.proofs.Common.{◌∙◌, [], arith, ap, sym, option_map}
use Rattle.std.specs.Option.{unwrap_or}
use Rattle.mon_formats.proofs.LastDot.{split-at-last}
use Rattle.mon_formats.specs.Prometheus.{at_last_dot}
use Rattle.mon_formats.proofs.prometheus.instance.at_last_dot.Goals as goal

pub returns-in-Some : goal.returns-in-Some
unfolding at_last_dot
returns-in-Some c =
    let split = split-at-last 46 c.args.name.now _ c.rsplit_once.ensures.cases (omega arith) in
    ap (λ o. unwrap_or o (c.args.name.now, [])) (ap (option_map (λ x. (x.0.now, x.1.now))) (sym c.in-Some.is) ∙ split)

pub returns-in-None : goal.returns-in-None
unfolding at_last_dot
returns-in-None c =
    let split = split-at-last 46 c.args.name.now _ c.rsplit_once.ensures.cases (omega arith) in
    ap (λ o. unwrap_or o (c.args.name.now, [])) (ap (option_map (λ x. (x.0.now, x.1.now))) (sym c.in-None.is) ∙ split)
