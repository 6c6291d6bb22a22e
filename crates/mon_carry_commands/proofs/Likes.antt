-- Instances that are alike.
use Rattle.std.proofs.Common.{◌≡◌, Bool, List, ℕ, true, false, sym, ap, ◌∙◌}
use Rattle.std.specs.Cmp.{eq_by_cmp_equiv}
use Rattle.std.specs.Ordering.{is_eq}
use Rattle.std.specs.declared.cmp.Ordering.{Ordering}
use Rattle.std.proofs.lemmas.Bool.{true≢false}
use Rattle.std.proofs.lemmas.Map.Views.{tells_apart}
use Rattle.mon_board.proofs.Promised.{instance_cmp_total, instance_cmp-IsAntisymmetric}
use Rattle.mon_board.specs.Instance.{instance_cmp, named}
use Rattle.mon_board.specs.declared.instance.Instance.{Instance}
use Rattle.mon_board.specs.declared.instance.Watched.{Watched}
use Rattle.mon_carry_commands.specs.Alike.{IsAlike}

module _ (old new : Watched) (engine : List ℕ) (o : Ordering) (t : Bool) (same : engine ≡ new.instance.engine)
    (compared : o ≡ instance_cmp old.instance (named engine new.instance.name)) (is : t ≡ is_eq o) where
  told : t ≡ is_eq (instance_cmp old.instance new.instance)
  told = is ∙ ap is_eq compared ∙ ap (λ (e : List ℕ). is_eq (instance_cmp old.instance (named e new.instance.name))) same

  -- another instance is not alike
  pub not_alike : t ≡ false → IsAlike old new → ⊥
  not_alike differs like = true≢false (sym ((eq_by_cmp_equiv instance_cmp_total).refl old.instance) ∙ ap (λ (x : Instance). is_eq (instance_cmp old.instance x)) like.instance ∙ sym told ∙ differs)

  -- an instance of equal engine and name is alike, if the sizes are equal
  pub alike : t ≡ true → old.window ≡ new.window → old.epoch ≡ new.epoch → IsAlike old new
  alike equal window epoch = record { instance = tells_apart instance_cmp-IsAntisymmetric old.instance new.instance (sym told ∙ equal); window = window; epoch = epoch }
