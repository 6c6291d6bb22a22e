use Rattle.std.proofs.Common.{◌≡◌, ◌+◌, ℕ, take, true, ap, sym, subst, rules}
use Rattle.std.specs.Prelude.{All}
use Rattle.std.proofs.lemmas.List.{take_more}
use Rattle.std.proofs.lemmas.List.Elements.{All-push}
use Rattle.mon_vacm.specs.declared.family.ViewTreeFamily.{ViewTreeFamily}
use Rattle.mon_vacm.proofs.Passing.{named_so}
use Rattle.mon_vacm.proofs.runs.run_len.Goals as goal

pub returns-then-not-is_named-clause-same : goal.returns-then-not-is_named-clause-same
returns-then-not-is_named-clause-same c =
    let view = c.as_slice-view.result.now in
    (view, subst (λ (n : ℕ). All (λ (f : ViewTreeFamily). f.view_name ≡ view) (take n c.args.families.now)) (sym c.loop-family.invariant.count) c.loop-family.invariant.same)

pub returns-clause-same : goal.returns-clause-same
returns-clause-same c =
    let view = c.as_slice-view.result.now in
    (view, subst (λ (n : ℕ). All (λ (f : ViewTreeFamily). f.view_name ≡ view) (take n c.args.families.now)) (sym c.loop-family.invariant.count) c.loop-family.invariant.same)

pub loop-family-preserved : goal.loop-family-preserved
loop-family-preserved c =
    let view = c.as_slice-view.result.now in
    let at = c.loop-family.family-index in
    let family = c.family-item.result in
    let yes_ : c.is_named.result ≡ true = search rules in
    let same : family.view_name ≡ view = named_so family.view_name view c.is_named.result (search rules) yes_ in
    record {
      count = ap (λ (n : ℕ). n + 1) c.loop-family.invariant.count;
      same = rw (take_more c.args.families.now at family c.loop-family-test.true)
          (All-push (λ (f : ViewTreeFamily). f.view_name ≡ view) (take at c.args.families.now) _ c.loop-family.invariant.same
          (subst (λ (f : ViewTreeFamily). f.view_name ≡ view) c.family-item.is same));
    }
