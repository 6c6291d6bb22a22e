-- The name is under the object at the candidate's place, or under none.
use Rattle.std.proofs.Common.{◌≡◌, ◌≢◌, ℕ, ◌+◌, ◌<◌, List, ◌++◌, length, get_or, refl, sym, ◌∙◌, ap, subst, arith}
use Rattle.std.specs.Prelude.{Option, Some, None, Contains}
use Rattle.std.specs.Borrow.{Bor}
use Rattle.std.specs.List.{AllWithin}
use Rattle.std.specs.Option.{MatchOption}
use Rattle.std.specs.Ordering.{nat_cmp}
use Rattle.std.specs.declared.cmp.Ordering.TheVariants.{Less}
use Rattle.std.proofs.lemmas.Cmp.{by_ranked, ranked}
use Rattle.std.proofs.lemmas.List.{get_or_default}
use Rattle.std.proofs.lemmas.List.Elements.{Contains-get_or}
use Rattle.mon_mib.specs.declared.object.Object.{Object}
use Rattle.mon_mib.specs.Objects.{objects, prefix_of}
use Rattle.mon_mib.specs.Order.{name_cmp}
use Rattle.mon_mib.specs.Next.{IsServedName}
use Rattle.mon_mib.proofs.Candidates.{not_shorter}
use Rattle.mon_mib.proofs.Unique.{itself}

-- what taking a prefix off a name yields
abbrev pub IsStripped : List ℕ → List ℕ → Option (Bor (List ℕ)) → Type 0
IsStripped name prefix r = MatchOption r ((rest : List ℕ) → name ≢ prefix ++ rest) (λ x. name ≡ prefix ++ x.now)

pub found_at : (items : List Object) (place : ℕ) (d : Object) (p x : List ℕ) (r : Option (Bor (List ℕ))) (rest : Bor (List ℕ)) → items ≡ objects → place < length objects
    → p ≡ prefix_of (get_or items place d) → IsStripped x p r → r ≡ Some rest
    → Contains objects (get_or items place d) × (x ≡ prefix_of (get_or items place d) ++ rest.now)
found_at items place d p x r rest same within own stripped is = (
  subst (λ l. Contains l (get_or items place d)) same (Contains-get_or items place d (subst (λ l. place < length l) (sym same) within)),
  subst (λ q. x ≡ q ++ rest.now) own (subst (IsStripped x p) is stripped),
)

pub none_found : (items : List Object) (place : ℕ) (d : Object) (p x : List ℕ) (r : Option (Bor (List ℕ))) → items ≡ objects
    → p ≡ prefix_of (get_or items place d) → IsStripped x p r → r ≡ None
    → AllWithin (λ o. (rest : List ℕ) → name_cmp (prefix_of o ++ rest) x ≡ Less) objects 0 place
    → AllWithin (λ o. name_cmp x (prefix_of o) ≡ Less) objects (place + 1) (length objects) → ¬ (IsServedName x)
none_found items place d p x r same own stripped is before behind s = by_place s.listed
  where
    rest : List ℕ
    rest = s.under.0

    named : x ≡ prefix_of s.object ++ rest
    named = s.under.1

    elsewhere : (k : ℕ) → get_or objects k s.object ≡ s.object → x ≡ prefix_of (get_or objects k s.object) ++ rest
    elsewhere k at = named ∙ ap (λ o. prefix_of o ++ rest) (sym at)

    under : (k : ℕ) → k < length objects → get_or objects k s.object ≡ s.object → k ≡ place → ⊥
    under k within at e =
        let here : get_or items place d ≡ s.object =
        ap (λ l. get_or l place d) same ∙ (ap (λ n. get_or objects n d) (sym e) ∙ (get_or_default objects k d s.object within ∙ at)) in
        (subst (IsStripped x p) is stripped) rest (named ∙ ap (λ q. q ++ rest) (sym (own ∙ ap prefix_of here)))

    by_place : Contains objects s.object → ⊥
    by_place (k, within, at) = by_ranked (k < place) (k ≡ place) (place < k) (nat_cmp k place) (ranked k place (nat_cmp k place) refl)
        (λ o lt. itself x (subst (λ n. name_cmp n x ≡ Less) (sym (elsewhere k at)) (before k s.object (omega arith) lt rest)))
        (λ o e. under k within at e)
        (λ o gt. not_shorter (prefix_of (get_or objects k s.object)) rest
        (subst (λ n. name_cmp n (prefix_of (get_or objects k s.object)) ≡ Less) (elsewhere k at) (behind k s.object (omega arith) within)))
