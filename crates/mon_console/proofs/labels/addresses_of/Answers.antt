use Rattle.std.proofs.Common.{arith, map, ap, ◌∙◌}
use Rattle.std.proofs.lemmas.Grind.{common_steps}
use Rattle.std.proofs.lemmas.List.{take_all}
use Rattle.mon_udp.specs.Addr.{addr_text}
use Rattle.mon_console.proofs.labels.addresses_of.Goals as goal

pub returns : goal.returns
returns c = c.loop-target.invariant ∙ ap (map (λ t. addr_text t.address)) (take_all c.loop-target.target-index c.args.targets.now c.loop-target-test.false)

pub loop-target-preserved : goal.loop-target-preserved
loop-target-preserved c = grind (arith, common_steps)
