use Rattle.std.proofs.Common.{rules, ◌+◌, ◌-◌, ◌≡◌, Some, sym, ap, ◌∙◌, arith}
use Rattle.mon_smi.specs.declared.definition.Definition.{Definition}
use Rattle.mon_smi.proofs.Missing.{ends_well, goes_on, goes_round}
use Rattle.mon_smi.proofs.chain.undefined_end.Goals as goal

pub returns-in_default-parent-clause-none : goal.returns-in_default-parent-clause-none
returns-in_default-parent-clause-none c =
    ends_well c.args.defs.now c.args.word.now c.loop-place.name.now c.loop-place.left c.in-Some.place c.index-defs-place.result c.loop-place.invariant.way c.in-Some.ensures.found c.index-defs-place.is c.requires.distinct (ap (λ (d : Definition). d.parent) c.index-defs-place.is ∙ c.in_default-parent.is)

pub returns-then-left-eq0-clause-none : goal.returns-then-left-eq0-clause-none
returns-then-left-eq0-clause-none c =
    goes_round c.args.defs.now c.args.word.now c.loop-place.name.now c.loop-place.left c.in-Some.place c.index-defs-place.result c.loop-place.invariant.way c.in-Some.ensures.found c.index-defs-place.is c.in-Some-parent.parent c.requires.distinct (ap (λ (d : Definition). d.parent) c.index-defs-place.is ∙ c.in-Some-parent.is) c.if-left-eq0.true

pub loop-place-preserved : goal.loop-place-preserved
loop-place-preserved c =
    let less : c.loop-place.left - 1 + 1 ≡ c.loop-place.left = let some = c.if-left-eq0.false in omega arith in
    record {
      text = search rules;
      way = goes_on c.args.defs.now c.args.word.now c.loop-place.name.now c.loop-place.left c.in-Some.place c.index-defs-place.result c.loop-place.invariant.way c.in-Some.ensures.found c.index-defs-place.is c.as_str-name.result.now (c.loop-place.left - 1)
          (ap (λ (d : Definition). d.parent) c.index-defs-place.is ∙ c.in-Some-parent.is ∙ ap Some (sym c.as_str-name.ensures)) less;
    }
