use Rattle.std.proofs.Common.{◌≡◌, ℕ, ◌==◌, false, arith}
use Rattle.std.proofs.lemmas.Bool.Decides.{nat_tests}
use Rattle.mon_page.specs.Page.{failed_item}
use Rattle.mon_page.proofs.Chains.{join, unless, written}
use Rattle.mon_page.proofs.wrong.put_saves.Goals as goal

some : (n : ℕ) → (n ≡ 0 → ⊥) → (n == 0) ≡ false
some n more = grind (arith, nat_tests)

pub returns : goal.returns
unfolding failed_item
returns c =
    let start = c.args.text.now.items in
    unless c.extend_from_slice-2.result _ _ start _ (some _ c.if-failed-eq0.false) (written c.extend_from_slice-2.result start _ _ _ _ (join start _ _ _ _ c.in_ok-extend_from_slice.ensures.items
    c.in_ok-put_large.ensures)
    c.extend_from_slice-2.ensures.items)
