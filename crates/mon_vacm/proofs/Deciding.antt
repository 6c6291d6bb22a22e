-- The family that decides, when one more is looked at.
use Rattle.std.proofs.Common.{◌≡◌, ℕ, true, false, List, [], ◌∷◌, ◌++◌, None, IsTrue, inl, inr, refl, sym, ap, ◌∙◌, subst}
use Rattle.std.specs.Ordering.{is_le, is_gt, is_ge, ordering_reverse}
use Rattle.std.specs.declared.cmp.Ordering.{Ordering}
use Rattle.std.specs.declared.cmp.Ordering.TheVariants.{Less, Equal, Greater}
use Rattle.std.proofs.lemmas.Cmp.{tied_itself, upto}
use Rattle.std.proofs.lemmas.List.Elements.{Contains-append_left, Contains-push, Contains-push_cases}
use Rattle.mon_vacm.specs.declared.family.ViewTreeFamily.{ViewTreeFamily}
use Rattle.mon_vacm.specs.Tables.{AreFamiliesDistinct}
use Rattle.mon_vacm.specs.View.{Applies, Decides, IsBest, subtree_cmp}
use Rattle.mon_vacm.proofs.Subtrees.{subtree_cmp_total, subtree_cmp-IsAntisymmetric}
use Rattle.mon_vacm.proofs.Distinct.{one_of_pairs}

le-gt : (o : Ordering) → is_le o ≡ true → is_gt o ≡ false
le-gt Less e = refl
le-gt Equal e = refl
le-gt Greater e = cc

gt-le : (o : Ordering) → is_gt o ≡ false → is_le o ≡ true
gt-le Less e = refl
gt-le Equal e = refl
gt-le Greater e = cc

-- f's subtree is not above g's
abbrev pub IsUpTo : ViewTreeFamily → ViewTreeFamily → Type 0
IsUpTo f g = IsTrue (is_le (subtree_cmp f.subtree g.subtree))

up_to_itself : (f : ViewTreeFamily) → IsUpTo f f
up_to_itself f = ap is_le (tied_itself subtree_cmp_total f.subtree)

up_to_trans : (f g h : ViewTreeFamily) → IsUpTo f g → IsUpTo g h → IsUpTo f h
up_to_trans f g h p q =
    gt-le (subtree_cmp f.subtree h.subtree) (upto subtree_cmp_total f.subtree g.subtree h.subtree (le-gt (subtree_cmp f.subtree g.subtree) p) (le-gt (subtree_cmp g.subtree h.subtree) q))

ge_back : (o : Ordering) → is_ge o ≡ true → is_le (ordering_reverse o) ≡ true
ge_back Less e = cc
ge_back Equal e = refl
ge_back Greater e = refl

lt-le : (o : Ordering) → is_ge o ≡ false → is_le o ≡ true
lt-le Less e = refl
lt-le Equal e = cc
lt-le Greater e = cc

pub not_below : (f g : ViewTreeFamily) → is_ge (subtree_cmp f.subtree g.subtree) ≡ true → IsUpTo g f
not_below f g e = ap is_le (subtree_cmp_total.antisymm g.subtree f.subtree) ∙ ge_back (subtree_cmp f.subtree g.subtree) e

pub below : (f g : ViewTreeFamily) → is_ge (subtree_cmp f.subtree g.subtree) ≡ false → IsUpTo f g
below f g e = lt-le (subtree_cmp f.subtree g.subtree) e

both_le : (o : Ordering) → is_le o ≡ true → is_le (ordering_reverse o) ≡ true → o ≡ Equal
both_le Less p q = cc
both_le Equal p q = refl
both_le Greater p q = cc

both_up_to : (f g : ViewTreeFamily) → IsUpTo f g → IsUpTo g f → f.subtree ≡ g.subtree
both_up_to f g p q =
    subtree_cmp-IsAntisymmetric f.subtree g.subtree (both_le (subtree_cmp f.subtree g.subtree) p (ap is_le (sym (subtree_cmp_total.antisymm g.subtree f.subtree)) ∙ q))

module _ (xs : List ViewTreeFamily) (view name : List ℕ) (x : ViewTreeFamily) where
  pub keeps : (best : ViewTreeFamily) → Decides xs view name best → IsUpTo x best → Decides (xs ++ x ∷ []) view name best
  keeps best is low = record {
    listed = Contains-append_left xs (x ∷ []) best is.listed;
    applies = is.applies;
    greatest = λ f at applies.
        elim (Contains-push_cases xs x f at) [
          | inl before ↦ is.greatest f before applies
          | inr same ↦ subst (λ (g : ViewTreeFamily). IsUpTo g best) same low
        ];
  }

  pub begins : IsBest xs view name None → Applies view name x → Decides (xs ++ x ∷ []) view name x
  begins none does = record {
    listed = Contains-push xs x;
    applies = does;
    greatest = λ f at applies.
        elim (Contains-push_cases xs x f at) [
          | inl before ↦ absurd (none f before applies)
          | inr same ↦ subst (λ (g : ViewTreeFamily). IsUpTo g x) same (up_to_itself x)
        ];
  }

  pub takes : (best : ViewTreeFamily) → Decides xs view name best → Applies view name x → IsUpTo best x → Decides (xs ++ x ∷ []) view name x
  takes best is does high = record {
    listed = Contains-push xs x;
    applies = does;
    greatest = λ f at applies.
        elim (Contains-push_cases xs x f at) [
          | inl before ↦ up_to_trans f best x (is.greatest f before applies) high
          | inr same ↦ subst (λ (g : ViewTreeFamily). IsUpTo g x) same (up_to_itself x)
        ];
  }

-- of families that are listed, no two of one subtree, at most one decides
pub one_decides : (xs : List ViewTreeFamily) (view name : List ℕ) (f g : ViewTreeFamily) → AreFamiliesDistinct xs → Decides xs view name f → Decides xs view name g → f ≡ g
one_decides xs view name f g distinct p q =
    let same : f.subtree ≡ g.subtree = both_up_to f g (q.greatest f p.listed p.applies) (p.greatest g q.listed q.applies) in
    one_of_pairs (λ (a b : ViewTreeFamily). (a.view_name ≡ b.view_name) × (a.subtree ≡ b.subtree)) xs f g distinct p.listed q.listed (p.applies.of_view ∙ sym q.applies.of_view, same) (q.applies.of_view ∙ sym p.applies.of_view, sym same)
