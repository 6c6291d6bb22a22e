use Rattle.std.proofs.Common.{sym, ◌∙◌, ap, rules, arith}
use Rattle.std.specs.Prelude.{Some, not}
use Rattle.std.proofs.lemmas.Fn.{always_returns_same}
use Rattle.mon_mib.specs.declared.interface.Interface.{Interface}
use Rattle.mon_mib.specs.Sim.{is_over}
use Rattle.mon_mib.proofs.Searching.{over_none, over_first, partitioned}
use Rattle.mon_mib.proofs.sim_device.above.Goals as goal

pub returns-then-place-interfaces : goal.returns-then-place-interfaces
returns-then-place-interfaces c =
    let point = c.partition_point-place.ensures.partitioned (λ (p : Interface). not (is_over c.args.after p.index)) (always_returns_same _ _ _ (λ a r f called. search rules))
    (partitioned c.args.after c.args.interfaces.now c.requires.rising) in
    sym (over_none (λ (p : Interface). is_over c.args.after p.index) c.args.interfaces.now c.partition_point-place.result c.if-place-interfaces.true point.0)

pub returns : goal.returns
returns c =
    let point = c.partition_point-place.ensures.partitioned (λ (p : Interface). not (is_over c.args.after p.index)) (always_returns_same _ _ _ (λ a r f called. search rules))
    (partitioned c.args.after c.args.interfaces.now c.requires.rising) in
    ap Some c.index-interfaces-place.is ∙ sym (over_first (λ (p : Interface). is_over c.args.after p.index) c.args.interfaces.now c.partition_point-place.result c.index-interfaces-place.result
    c.if-place-interfaces.false point.0 (point.1 c.partition_point-place.result c.index-interfaces-place.result (omega arith) c.if-place-interfaces.false))
