use Rattle.std.proofs.Common.{ℕ, ◌-◌, ◌<◌, List, ◌++◌, length, length-append, is_ok, map, sym, ap, ◌∙◌, Bor, arith}
use Rattle.std.proofs.lemmas.List.{map-append}
use Rattle.std.proofs.ResultArms.{chosen}
use Rattle.mon_smi.specs.declared.definition.Definition.{Definition}
use Rattle.mon_smi.specs.Names.{chain_numbers}
use Rattle.mon_smi.proofs.Chains.{popped, too_long}
use Rattle.mon_smi.proofs.chain.join_parents.Goals as goal

pub returns-then-part-room-clause-fault : goal.returns-then-part-room-clause-fault
returns-then-part-room-clause-fault c =
    let all = ap (λ (l : List (Bor Definition)). map (λ (d : Bor Definition). d.now) l) c.in-Some.ensures.items ∙ map-append (λ (d : Bor Definition). d.now) c.pop.new.self.items _ in
    let whole = popped _ c.loop-definition.numbers.items c.as_slice-part.result.now _ _ c.in-Some.definition.now c.loop-definition.invariant.whole all c.as_slice-part.ensures in
    let long : 128 - length c.args.rest.now - length c.loop-definition.numbers.items < length c.as_slice-part.result.now = omega arith in
    too_long (chain_numbers (map (λ (d : Bor Definition). d.now) c.args.chain.items)) c.loop-definition.numbers.items c.as_slice-part.result.now (chain_numbers (map (λ (d : Bor Definition). d.now) c.pop.new.self.items)) c.args.rest.now (128 - length c.args.rest.now) whole long (omega arith)

pub loop-definition-preserved : goal.loop-definition-preserved
loop-definition-preserved c =
    let all = ap (λ (l : List (Bor Definition)). map (λ (d : Bor Definition). d.now) l) c.in-Some.ensures.items ∙ map-append (λ (d : Bor Definition). d.now) c.pop.new.self.items _ in
    let whole = popped _ c.loop-definition.numbers.items c.as_slice-part.result.now _ _ c.in-Some.definition.now c.loop-definition.invariant.whole all c.as_slice-part.ensures in
    let grown = chosen _ _ _ _ c.extend_from_slice.ensures.items (ap is_ok c.in_ok-extend_from_slice.was) in
    record {
      whole = whole ∙ ap (λ (l : List ℕ). l ++ chain_numbers (map (λ (d : Bor Definition). d.now) c.pop.new.self.items)) (sym grown);
      few = omega (arith, ap length grown, length-append c.loop-definition.numbers.items c.as_slice-part.result.now, c.loop-definition.invariant.few);
      room = omega arith;
    }
