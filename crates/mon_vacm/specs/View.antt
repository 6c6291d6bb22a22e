-- Which names a view has (MIB views and view families, RFC 3415 sections 2.4 and 4).
use Rattle.std.specs.Prelude.{◌≡◌, ℕ, ◌-◌, ◌/◌, ◌%◌, ◌<◌, ◌≤◌, List, length, slice_index, Contains}
use Rattle.std.specs.Prelude.{IsTrue, IsBitSet, Option, Some, None}
use Rattle.std.specs.Borrow.{Bor}
use Rattle.std.specs.Cmp.Lexicographic.{slice_cmp}
use Rattle.std.specs.Ordering.{on, then_cmp, nat_cmp, is_le}
use Rattle.std.specs.declared.cmp.Ordering.{Ordering}
use Rattle.mon_vacm.specs.declared.family.ViewTreeFamily.{ViewTreeFamily}

-- A name must agree with a subtree at place i: bit i of the mask is 1, counted from the highest bit
-- of the first octet. A short mask is extended by ones (vacmViewTreeFamilyMask).
abbrev pub MustAgree : List ℕ → ℕ → Type 0
MustAgree mask i = i / 8 < length mask → IsBitSet (slice_index mask (i / 8)) (7 - i % 8)

-- the name is at least as long as the subtree, and equals it wherever it must agree
pub record IsMatch (family : ViewTreeFamily) (name : List ℕ) : Type 0 where
  pub long : length family.subtree ≤ length name
  pub agrees : (i : ℕ) → i < length family.subtree → MustAgree family.mask i
      → slice_index name i ≡ slice_index family.subtree i

-- the family is of the view, and the name matches it
pub record Applies (view name : List ℕ) (family : ViewTreeFamily) : Type 0 where
  pub of_view : family.view_name ≡ view
  pub matches : IsMatch family name

-- subtrees by their length, and those of one length lexicographically (vacmViewTreeFamilyTable)
unfoldable pub subtree_cmp : List ℕ → List ℕ → Ordering
subtree_cmp = then_cmp (on length nat_cmp) (slice_cmp nat_cmp)

-- of the families that apply, this one has the longest and then greatest subtree
pub record Decides (families : List ViewTreeFamily) (view name : List ℕ) (family : ViewTreeFamily) :
    Type 0 where
  pub listed : Contains families family
  pub applies : Applies view name family
  pub greatest : (other : ViewTreeFamily) → Contains families other → Applies view name other
      → IsTrue (is_le (subtree_cmp other.subtree family.subtree))

-- the family that decides is an included one
pub record IsInView (families : List ViewTreeFamily) (view name : List ℕ) : Type 0 where
  pub family : ViewTreeFamily
  pub decides : Decides families view name family
  pub included : IsTrue family.included

-- what a search over some families has found: the one that decides, or that none applies
abbrev pub IsBest : List ViewTreeFamily → List ℕ → List ℕ → Option (Bor ViewTreeFamily) → Type 0
IsBest families view name None = (family : ViewTreeFamily) → Contains families family
    → Applies view name family → ⊥
IsBest families view name (Some best) = Decides families view name best.now
