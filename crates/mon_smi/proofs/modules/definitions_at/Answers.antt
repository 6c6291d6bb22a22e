use Rattle.std.proofs.Common.{◌≡◌, ◌-◌, List, [], true, false, length, drop, Ok, Err, rules, refl, subst}
use Rattle.std.specs.Prelude.{option_to_list}
use Rattle.std.proofs.lemmas.Result.{err_from_is_err_and}
use Rattle.mon_smi.specs.Reading.{Fails, assignment_at, ends_module, definitions_at}
use Rattle.mon_smi.specs.Grammar.{IsAssignment}
use Rattle.mon_smi.specs.Lexemes.{Lexeme}
use Rattle.mon_smi.proofs.ForValues.{behind_next, behind_done, behind_failed, passed_on}
use Rattle.mon_smi.proofs.ForModules.{assignment_takes, assignment_some, definitions_are, definitions_none}
use Rattle.mon_smi.proofs.Begun.{all_next}
use Rattle.mon_smi.proofs.modules.definitions_at.Goals as goal

pub loop-alloc-preserved : goal.loop-alloc-preserved
loop-alloc-preserved c =
    let goes : ends_module (drop (length c.args.ls.now - c.loop-alloc.left) c.args.ls.now) ≡ false = search rules in
    let found : assignment_at (drop (length c.args.ls.now - c.loop-alloc.left) c.args.ls.now) ≡ Ok (c.in_ok-definition.definition, c.in_ok-definition.rest.now) = search rules in
    record {
      behind = (behind_next assignment_at option_to_list ends_module IsAssignment assignment_takes assignment_some c.args.ls.now c.loop-alloc.body.defs.items _ c.loop-alloc.left c.in_ok-definition.definition c.in_ok-definition.rest.now c.loop-alloc.invariant.behind goes found c.in_ok-keep.ensures.kept).0;
      begin = all_next c.args.ls.now c.loop-alloc.body.starts.items _ c.loop-alloc.body.defs.items _ c.loop-alloc.left c.in_ok-definition.definition c.in_ok-definition.rest.now c.loop-alloc.invariant.begin c.loop-alloc.invariant.behind.within found c.in_ok-keep.ensures.kept c.in_ok-keep.ensures.starts;
    }

pub loop-alloc-smaller : goal.loop-alloc-smaller
loop-alloc-smaller c =
    let goes : ends_module (drop (length c.args.ls.now - c.loop-alloc.left) c.args.ls.now) ≡ false = search rules in
    let found : assignment_at (drop (length c.args.ls.now - c.loop-alloc.left) c.args.ls.now) ≡ Ok (c.in_ok-definition.definition, c.in_ok-definition.rest.now) = search rules in
    (behind_next assignment_at option_to_list ends_module IsAssignment assignment_takes assignment_some c.args.ls.now c.loop-alloc.body.defs.items _ c.loop-alloc.left c.in_ok-definition.definition c.in_ok-definition.rest.now c.loop-alloc.invariant.behind goes found c.in_ok-keep.ensures.kept).1

empty : assignment_at [] ≡ Err []
unfolding assignment_at
empty = refl

pub returns-in_err-definition-clause-gives : goal.returns-in_err-definition-clause-gives
returns-in_err-definition-clause-gives c =
    let goes : ends_module (drop (length c.args.ls.now - c.loop-alloc.left) c.args.ls.now) ≡ false = search rules in
    let p = err_from_is_err_and c.from_residual.result c.from_residual.ensures.1 in
    rw (p.1, p.2) (passed_on c.in_err-definition.field-0.0 (assignment_at (drop (length c.args.ls.now - c.loop-alloc.left) c.args.ls.now)) (definitions_at c.args.ls.now)
    (λ left none. definitions_none c.args.ls.now left (behind_failed assignment_at option_to_list ends_module c.args.ls.now c.loop-alloc.body.defs.items c.loop-alloc.left left empty c.loop-alloc.invariant.behind goes none))
    (subst (λ (l : List Lexeme). Fails c.in_err-definition.field-0.0 (assignment_at l)) c.last-in-loop-alloc.ensures c.in_err-definition.ensures))

pub returns-clause-gives : goal.returns-clause-gives
returns-clause-gives c =
    let stops : ends_module (drop (length c.args.ls.now - c.loop-alloc.left) c.args.ls.now) ≡ true = search rules in
    definitions_are c.args.ls.now c.loop-alloc.body.defs.items _ (behind_done assignment_at option_to_list ends_module c.args.ls.now c.loop-alloc.body.defs.items c.loop-alloc.left c.loop-alloc.invariant.behind stops)
