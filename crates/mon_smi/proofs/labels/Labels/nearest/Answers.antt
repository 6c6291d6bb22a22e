use Rattle.std.proofs.Common.{◌≡◌, ◌≤◌, ◌⊎◌, inl, inr, ⊎_elim, length, List, ℕ, take, Option, Some, None, Bor, ap, sym, subst, ◌∙◌, arith}
use Rattle.std.specs.Option.{option_copied, option_map}
use Rattle.mon_smi.specs.declared.definition.Definition.{Definition}
use Rattle.mon_smi.specs.Labels.{AreLabels, found_at, label_of}
use Rattle.std.proofs.lemmas.Bool.{cases_lt}
use Rattle.mon_smi.proofs.Labelled.{begins, longest_here, longest_less, longest_none, within_map}
use Rattle.mon_smi.proofs.labels.Labels.nearest.Goals as goal

pub loop-len-init : goal.loop-len-init
loop-len-init c =
    let parts = c.args.parts.now in
    let len = c.min-len.result in
    let bound = c.self.inside.longest in
    let le : len ≤ length parts = omega (arith, c.min-len.ensures) in
    let reach : (bound ≤ len) ⊎ (length parts ≤ len) =
    ⊎_elim (λ less. inr (omega (arith, less, c.min-len.ensures))) (λ more. inl (omega (arith, more, c.min-len.ensures))) (cases_lt (length parts) bound) in
    let labels : AreLabels c.args.self.now c.args.self.now c.self.inside.by_identifier = subst (λ (defs : List Definition). AreLabels defs defs c.self.inside.by_identifier) c.self.view_is c.self.invariant.1 in
    record {
      within = le;
      rest = within_map c.args.self.now c.self.inside.by_identifier parts bound len labels c.self.invariant.2 c.requires le reach;
    }

pub returns-in-Some-clause-longest : goal.returns-in-Some-clause-longest
returns-in-Some-clause-longest c =
    let part = take c.loop-len.len c.args.parts.now in
    let two : 2 ≤ c.loop-len.len = omega (arith, c.loop-len-test.true) in
    let labels : AreLabels c.args.self.now c.args.self.now c.self.inside.by_identifier = subst (λ (defs : List Definition). AreLabels defs defs c.self.inside.by_identifier) c.self.view_is c.self.invariant.1 in
    let found : found_at c.self.inside.by_identifier part ≡ Some c.in-Some.name.now.now = ap (λ (o : Option (Bor (List ℕ))). option_map (λ (w : Bor (List ℕ)). w.now) o) (sym c.get.ensures.value ∙ ap option_copied c.in-Some.is) in
    sym (c.loop-len.invariant.rest ∙ longest_here (label_of c.args.self.now) c.args.parts.now c.in-Some.name.now.now c.loop-len.len two
    (sym (labels part (begins c.args.parts.now c.loop-len.len c.requires two c.loop-len.invariant.within)) ∙ found))

pub loop-len-preserved : goal.loop-len-preserved
loop-len-preserved c =
    let part = take c.loop-len.len c.args.parts.now in
    let two : 2 ≤ c.loop-len.len = omega (arith, c.loop-len-test.true) in
    let labels : AreLabels c.args.self.now c.args.self.now c.self.inside.by_identifier = subst (λ (defs : List Definition). AreLabels defs defs c.self.inside.by_identifier) c.self.view_is c.self.invariant.1 in
    let found : found_at c.self.inside.by_identifier part ≡ None = ap (λ (o : Option (Bor (List ℕ))). option_map (λ (w : Bor (List ℕ)). w.now) o) (sym c.get.ensures.value ∙ ap option_copied c.in_default.is) in
    record {
      within = omega (arith, c.loop-len.invariant.within);
      rest = c.loop-len.invariant.rest ∙ longest_less (label_of c.args.self.now) c.args.parts.now c.loop-len.len two
          (sym (labels part (begins c.args.parts.now c.loop-len.len c.requires two c.loop-len.invariant.within)) ∙ found);
    }

pub returns-clause-longest : goal.returns-clause-longest
returns-clause-longest c =
    let few = c.loop-len-test.false in
    sym (c.loop-len.invariant.rest ∙ longest_none (label_of c.args.self.now) c.args.parts.now c.loop-len.len (omega (arith, few)))
