use Rattle.std.proofs.Common.{List, ℕ, sym, ◌∙◌}
use Rattle.std.specs.BTreeMap.{get_by}
use Rattle.std.specs.Ordering.{nat_cmp}
use Rattle.std.specs.Cmp.Lexicographic.{slice_cmp}
use Rattle.std.proofs.lemmas.Map.Text.{btree_map_updates_str}
use Rattle.mon_smi.proofs.ForText.{all_distinct}
use Rattle.mon_smi.proofs.Indexed.{found_twice, found_new}
use Rattle.mon_smi.proofs.places.first_twice.Goals as goal

pub returns-then-is_some-clause-some : goal.returns-then-is_some-clause-some
returns-then-is_some-clause-some c = (
  c.index-defs-i.result,
  found_twice (λ (q : List ℕ). get_by (λ k. slice_cmp nat_cmp q k.now) c.loop-i.places) c.args.defs.now c.loop-i.i c.index-defs-i.result c.as_str.result.now c.in_ok-insert.field-0
      c.loop-i.invariant.told c.in_ok-insert.ensures.old (sym c.is_some.ensures ∙ c.if-is_some.true) c.loop-i-test.true c.index-defs-i.is c.as_str.ensures,
)

pub loop-i-preserved : goal.loop-i-preserved
loop-i-preserved c =
    let next = found_new (λ (q : List ℕ). get_by (λ k. slice_cmp nat_cmp q k.now) c.loop-i.places) (λ (q : List ℕ). get_by (λ k. slice_cmp nat_cmp q k.now) c.insert.new.self)
    c.args.defs.now c.loop-i.i c.index-defs-i.result c.as_str.result.now c.in_ok-insert.field-0 c.loop-i.invariant.told c.loop-i.invariant.distinct c.in_ok-insert.ensures.old
    (sym c.is_some.ensures ∙ c.if-is_some.false) (btree_map_updates_str c.as_str.result.now c.loop-i.places c.insert.new.self _ c.in_ok-insert.ensures.updates) c.loop-i-test.true c.index-defs-i.is c.as_str.ensures in
    record { told = next.0; distinct = next.1 }

pub returns-clause-none : goal.returns-clause-none
returns-clause-none c = all_distinct c.args.defs.now c.loop-i.i c.loop-i-test.false c.loop-i.invariant.distinct
