use Rattle.std.proofs.Common.{List, take, subst, ◌∙◌, ◌++◌, string_bytes}
use Rattle.std.specs.BTreeMap.{get_by_text}
use Rattle.std.proofs.lemmas.List.{take_all}
use Rattle.std.proofs.lemmas.Map.Text.{btree_map_updates_text}
use Rattle.mon_smi.specs.declared.definition.Definition.{Definition}
use Rattle.mon_smi.specs.Places.{AreFound}
use Rattle.mon_smi.proofs.Indexed.{found_front, found_more, found_unchanged}
use Rattle.mon_smi.proofs.places.add_places.Goals as goal

pub loop-i-preserved : goal.loop-i-preserved
loop-i-preserved c =
    found_more (λ q. get_by_text c.loop-i.places q) (λ q. get_by_text c.insert.new.self q) c.args.known.now c.args.defs.now c.loop-i.i c.index-defs-i.result (string_bytes c.in_ok-name.name)
    c.loop-i.invariant c.requires.distinct (btree_map_updates_text (string_bytes c.in_ok-name.name) c.loop-i.places c.insert.new.self _ c.in_ok-insert.ensures.updates)
    c.loop-i-test.true c.index-defs-i.is (c.in_ok-name.ensures.ok ∙ c.as_str.ensures)

pub returns-clause-found : goal.returns-clause-found
returns-clause-found c = subst (λ (l : List Definition). AreFound c.loop-i.places (c.args.known.now ++ l)) (take_all c.loop-i.i c.args.defs.now c.loop-i-test.false) c.loop-i.invariant

pub returns-clause-kept : goal.returns-clause-kept
returns-clause-kept c = found_front (λ q. get_by_text c.loop-i.places q) c.args.known.now (take c.loop-i.i c.args.defs.now) c.loop-i.invariant

pub returns-in_err-name-clause-kept : goal.returns-in_err-name-clause-kept
returns-in_err-name-clause-kept c = found_front (λ q. get_by_text c.loop-i.places q) c.args.known.now (take c.loop-i.i c.args.defs.now) c.loop-i.invariant

pub returns-in_err-insert-clause-kept : goal.returns-in_err-insert-clause-kept
returns-in_err-insert-clause-kept c =
    found_unchanged c.loop-i.places c.insert.new.self c.args.known.now c.in_err-insert.ensures.err
    (found_front (λ q. get_by_text c.loop-i.places q) c.args.known.now (take c.loop-i.i c.args.defs.now) c.loop-i.invariant)
