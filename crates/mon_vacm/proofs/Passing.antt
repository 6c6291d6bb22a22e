-- Families of another view are passed over.
use Rattle.std.proofs.Common.{◌≡◌, ◌≢◌, ℕ, ◌+◌, ◌<◌, ◌≤◌, List, [], ◌∷◌, ◌++◌, length, take, drop, get_or, Bool, true, false, Option, Some, None, inl, inr, sym, ap, ◌∙◌, subst, append_assoc, append-nil, arith}
use Rattle.std.specs.Prelude.{All, Contains}
use Rattle.std.specs.Borrow.{Bor}
use Rattle.std.proofs.lemmas.List.Elements.{Contains-append_left, Contains-append_cases}
use Rattle.std.proofs.lemmas.List.{drop_more, take-append-drop}
use Rattle.std.proofs.lemmas.Slice.Eq.{bytes_eq-Decides}
use Rattle.std.specs.Str.{bytes_eq}
use Rattle.mon_vacm.specs.declared.family.ViewTreeFamily.{ViewTreeFamily}
use Rattle.mon_vacm.specs.Runs.{AreOfOneView, AreRuns}
use Rattle.mon_vacm.specs.View.{Applies, IsBest}

-- what is among families that are all of one view is of it
pub of_view : (own : List ViewTreeFamily) (view : List ℕ) (f : ViewTreeFamily) → All (λ g. g.view_name ≡ view) own → Contains own f → f.view_name ≡ view
of_view own view f all (k, lt, is) = subst (λ (g : ViewTreeFamily). g.view_name ≡ view) is (all k f lt)

module _ (families own : List ViewTreeFamily) (view name : List ℕ) (other : (f : ViewTreeFamily) → Contains own f → Applies view name f → ⊥) where
  pub passed_none : IsBest families view name None → IsBest (families ++ own) view name None
  passed_none none f at applies = elim (Contains-append_cases families own f at) [ inl before ↦ none f before applies | inr here ↦ other f here applies ]

  pub passed_some : (best : Bor ViewTreeFamily) → IsBest families view name (Some best) → IsBest (families ++ own) view name (Some best)
  passed_some best is = record {
    listed = Contains-append_left families own best.now is.listed;
    applies = is.applies;
    greatest = λ f at applies.
        elim (Contains-append_cases families own f at) [ inl before ↦ is.greatest f before applies | inr here ↦ absurd (other f here applies) ];
  }

  pub passed : (best : Option (Bor ViewTreeFamily)) → IsBest families view name best → IsBest (families ++ own) view name best
  passed None is = passed_none is
  passed (Some best) is = passed_some best is

-- none of those that are of one view, as the first is, is of another
pub none_applies : (own : List ViewTreeFamily) (view name : List ℕ) (first : ViewTreeFamily) → AreOfOneView own → Contains own first → first.view_name ≢ view
    → (f : ViewTreeFamily) → Contains own f → Applies view name f → ⊥
none_applies own view name first one listed other f at applies =
    other (of_view own one.0 first one.1 listed ∙ sym (of_view own one.0 f one.1 at) ∙ applies.of_view)

pub none_in_none : (own : List ViewTreeFamily) (view name : List ℕ) → own ≡ [] → (f : ViewTreeFamily) → Contains own f → Applies view name f → ⊥
none_in_none own view name none f (k, lt, is) applies = absurd (omega (arith, ap length none, lt))

-- what compares as another name is another
pub not_named : (a b : List ℕ) (r : Bool) → r ≡ bytes_eq a b → r ≡ false → a ≢ b
not_named a b r is differs same = both (sym differs ∙ is ∙ (bytes_eq-Decides a b).1 same)
  where
    both : false ≡ true → ⊥
    both e = cc

-- of no families none applies
pub none_at_all : (view name : List ℕ) → IsBest [] view name None
none_at_all view name f (k, lt, is) applies = absurd (omega (arith, lt))

-- the families before those that are left, the best of them, and the runs that are left
pub record IsAt (families : List ViewTreeFamily) (view name : List ℕ) (runs : List ℕ) (rest : List ViewTreeFamily) (best : Option (Bor ViewTreeFamily)) : Type 0 where
  pub front : List ViewTreeFamily
  pub whole : families ≡ front ++ rest
  pub best_is : IsBest front view name best
  pub runs_are : AreRuns runs rest

-- the first of the runs that are left
pub next_run : (families : List ViewTreeFamily) (view name : List ℕ) (runs : List ℕ) (i n : ℕ) (rest : List ViewTreeFamily) (best : Option (Bor ViewTreeFamily)) → i < length runs → n ≡ get_or runs i n
    → IsAt families view name (drop i runs) rest best → IsAt families view name (n ∷ drop (i + 1) runs) rest best
next_run families view name runs i n rest best lt is at =
    subst (λ (ns : List ℕ). IsAt families view name ns rest best) (drop_more runs i n lt ∙ ap (λ (m : ℕ). m ∷ drop (i + 1) runs) (sym is)) at

pub one_run : (families : List ViewTreeFamily) (view name : List ℕ) (n : ℕ) (runs : List ℕ) (rest : List ViewTreeFamily) (best next : Option (Bor ViewTreeFamily))
    → IsAt families view name (n ∷ runs) rest best → ((front : List ViewTreeFamily) → IsBest front view name best → IsBest (front ++ take n rest) view name next)
    → IsAt families view name runs (drop n rest) next
one_run families view name n runs rest best next at looked = record {
  front = at.front ++ take n rest;
  whole = at.whole ∙ ap (λ (fs : List ViewTreeFamily). at.front ++ fs) (sym (take-append-drop n rest)) ∙ sym (append_assoc at.front (take n rest) (drop n rest));
  best_is = looked at.front at.best_is;
  runs_are = at.runs_are.2;
}

-- ---- runs that are counted

-- what is counted so far, and what is left
pub record AreCounted (families : List ViewTreeFamily) (runs : List ℕ) (rest : List ViewTreeFamily) : Type 0 where
  pub others : (more : List ℕ) → AreRuns more rest → AreRuns (runs ++ more) families

pub one_counted : (families : List ViewTreeFamily) (runs : List ℕ) (rest : List ViewTreeFamily) (n : ℕ) → AreCounted families runs rest → n ≤ length rest → AreOfOneView (take n rest)
    → AreCounted families (runs ++ n ∷ []) (drop n rest)
one_counted families runs rest n so_far within one = record {
  others = λ more are. subst (λ (ns : List ℕ). AreRuns ns families) (sym (append_assoc runs (n ∷ []) more)) (so_far.others (n ∷ more) (within, one, are));
}

pub counted_so : (families : List ViewTreeFamily) (runs : List ℕ) (rest : List ViewTreeFamily) → AreCounted families runs rest → AreRuns runs families
counted_so families runs rest so_far = subst (λ (ns : List ℕ). AreRuns ns families) (append-nil runs) (so_far.others [] tt)

-- what compares as a name is it
pub named_so : (a b : List ℕ) (r : Bool) → r ≡ bytes_eq a b → r ≡ true → a ≡ b
named_so a b r is same = (bytes_eq-Decides a b).0 (sym is ∙ same)
