-- The order of subtrees.
use Rattle.std.proofs.Common.{◌≡◌, ℕ, List, length}
use Rattle.std.specs.Cmp.{IsTotalOrder}
use Rattle.std.specs.Cmp.Lexicographic.{slice_cmp}
use Rattle.std.specs.FinSet.{IsAntisymmetric, nat_cmp-IsAntisymmetric, slice_cmp-IsAntisymmetric}
use Rattle.std.specs.Ordering.{nat_cmp, ordering_then}
use Rattle.std.specs.declared.cmp.Ordering.TheVariants.{Less, Equal, Greater}
use Rattle.std.proofs.lemmas.Cmp.{nat_cmp_total, nat_list_cmp_total, on_total, then_total}
use Rattle.mon_vacm.specs.View.{subtree_cmp}

pub subtree_cmp_total : IsTotalOrder subtree_cmp
unfolding subtree_cmp
subtree_cmp_total = then_total (on_total (λ (xs : List ℕ). length xs) nat_cmp_total) nat_list_cmp_total

pub subtree_cmp-IsAntisymmetric : IsAntisymmetric subtree_cmp
unfolding subtree_cmp
subtree_cmp-IsAntisymmetric xs ys tied =
    elim (nat_cmp (length xs) (length ys)) as (λ o. ordering_then o (slice_cmp nat_cmp xs ys) ≡ Equal → xs ≡ ys) [
      | Less ↦ λ e. cc
      | Equal ↦ λ e. slice_cmp-IsAntisymmetric nat_cmp-IsAntisymmetric xs ys e
      | Greater ↦ λ e. cc
    ] tied
