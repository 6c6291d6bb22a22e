use Rattle.std.proofs.Common.{List, ℕ, ◌<◌, length, sym, ◌∙◌, arith}
use Rattle.std.specs.BTreeMap.{get_by}
use Rattle.std.specs.Ordering.{nat_cmp}
use Rattle.std.specs.Cmp.Lexicographic.{slice_cmp}
use Rattle.std.proofs.lemmas.Map.Text.{btree_map_updates_str}
use Rattle.mon_smi.proofs.Clashes.{clash_passed, no_clash, no_clashes, passed_below}
use Rattle.mon_smi.proofs.Nearness.{if_none}
use Rattle.mon_smi.proofs.places.first_clash.Goals as goal

pub overflow_add-earlier : goal.overflow_add-earlier
overflow_add-earlier c =
    let below : c.in-Some-2.before < length c.args.defs.now = passed_below (λ (q : List ℕ). get_by (λ k. slice_cmp nat_cmp q k.now) c.loop-added.passed) c.args.defs.now c.loop-added.added c.in-Some-2.before c.as_str-name.result.now
    c.loop-added.invariant.told (sym c.in_ok-before.ensures.old ∙ c.in-Some-2.is) in
    omega arith

pub returns-in-Some-2-clause-some : goal.returns-in-Some-2-clause-some
returns-in-Some-2-clause-some c =
    clash_passed (λ (q : List ℕ). get_by (λ k. slice_cmp nat_cmp q k.now) c.loop-added.passed) c.args.known.now c.args.defs.now c.loop-added.added c.in-Some-2.before c.index-defs-added.result c.as_str-name.result.now
    c.loop-added.invariant.told c.loop-added.invariant.distinct c.loop-added-test.true c.index-defs-added.is c.as_str-name.ensures (sym c.in_ok-before.ensures.old ∙ c.in-Some-2.is)

pub loop-added-preserved : goal.loop-added-preserved
loop-added-preserved c =
    let next = no_clash (λ (q : List ℕ). get_by (λ k. slice_cmp nat_cmp q k.now) c.loop-added.passed) (λ (q : List ℕ). get_by (λ k. slice_cmp nat_cmp q k.now) c.insert.new.self)
    c.args.known.now c.args.defs.now c.loop-added.added c.index-defs-added.result c.as_str-name.result.now c.loop-added.invariant.told c.loop-added.invariant.distinct c.loop-added-test.true c.index-defs-added.is c.as_str-name.ensures
    (if_none _ c.in_default.is c.position.ensures.none) (sym c.in_ok-before.ensures.old ∙ c.in_default-2.is) (btree_map_updates_str c.as_str-name.result.now c.loop-added.passed c.insert.new.self _ c.in_ok-before.ensures.updates) in
    record { told = next.0; distinct = next.1 }

pub returns-clause-none : goal.returns-clause-none
returns-clause-none c = no_clashes c.args.known.now c.args.defs.now c.loop-added.added c.loop-added-test.false c.loop-added.invariant.distinct
