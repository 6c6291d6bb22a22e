use Rattle.std.proofs.Common.{◌≡◌, ℕ, ◌+◌, ◌/◌, ◌%◌, ◌∷◌, ◌++◌, ◌∙◌, [], append_assoc, arith, subst, sym}
use Rattle.std.specs.Prelude.{decimal}
use Rattle.mon_report.proofs.Written.{text-then}
use Rattle.mon_report.specs.Written.{AppendsIf}
use Rattle.mon_report.proofs.line.write_rate.Goals as goal

hundreds : (q : ℕ) → q % 1000 / 100 ≡ q / 100 % 10
hundreds q = omega arith

tens : (q : ℕ) → q % 1000 / 10 % 10 ≡ q / 10 % 10
tens q = omega arith

ones : (q : ℕ) → q % 1000 % 10 ≡ q % 10
ones q = omega arith

pub returns : goal.returns
returns g c =
    let q = c.args.rate in
    subst (AppendsIf _ _ _ _)
    ((λ i. decimal (q / 1000) ++ (46 ∷ (48 + hundreds q i) ∷ (48 + tens q i) ∷ (48 + ones q i) ∷ [])) ∙ sym (append_assoc (decimal (q / 1000)) (46 ∷ []) ((48 + q / 100 % 10) ∷ (48 + q / 10 % 10) ∷ (48 + q % 10) ∷ [])))
    (text-then _ _ _ _ _ _ _ _ c.put_wide-ok.ensures c.put.ensures)
