use Rattle.std.proofs.Common.{◌≡◌, true, List, [], ◌∷◌, ℕ, sym, ◌∙◌, ap, rules}
use Rattle.std.specs.Prelude.{nat_eq, ◌||◌}
use Rattle.std.specs.List.{starts_with}
use Rattle.mon_survey.specs.Plan.{has_part}
use Rattle.mon_survey.proofs.choice.has_part.Goals as goal

begun : (part rest : List ℕ) → starts_with nat_eq rest part ≡ true → has_part part rest ≡ true
begun part [] e = e
begun part (b ∷ bs) e = ap (λ t. t || has_part part bs) e

pub returns-then-starts_with : goal.returns-then-starts_with
returns-then-starts_with c =
    let is : starts_with nat_eq c.scan.rest.now c.args.part.now ≡ true = search rules in
    sym (begun c.args.part.now c.scan.rest.now is) ∙ c.scan.invariant
