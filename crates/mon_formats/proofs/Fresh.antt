-- Instances that are not stale, and the lines of ages, from a place on.
use Rattle.std.proofs.Common.{◌≡◌, ℕ, zero, suc, ◌+◌, ◌<◌, ◌≤◌, min, true, false, List, [], ◌∷◌, ◌++◌, length, drop, get_or, slice_get, refl, ◌∙◌, arith}
use Rattle.std.specs.Prelude.{if◌then◌else◌}
use Rattle.std.proofs.lemmas.List.{drop_all, drop_more}
use Rattle.mon_page.specs.Labelled.{Labelled}
use Rattle.mon_page.specs.Freshness.{fresh, is_fresh}
use Rattle.mon_formats.specs.Prometheus.{age_line, age_lines}

-- an instance that is not stale comes before the others
step_fresh : (limit : ℕ) (ages : List ℕ) (es : List Labelled) (i : ℕ) (e : Labelled) → i < length es → is_fresh limit (slice_get ages i) ≡ true
    → fresh limit (drop i ages) (drop i es) ≡ get_or es i e ∷ fresh limit (drop (suc i) ages) (drop (suc i) es)
step_fresh limit [] es i e lt h =
    (λ k. fresh limit (drop_all i [] (omega arith) k) (drop i es))
    ∙ drop_more es i e lt
    ∙ (λ k. get_or es i e ∷ drop (let on : i + 1 ≡ suc i = omega arith in on k) es)
step_fresh limit (a ∷ ages) [] i e lt h = absurd (omega arith)
step_fresh limit (a ∷ ages) (x ∷ es) zero e lt h = λ k. if h k then x ∷ fresh limit ages es else fresh limit ages es
step_fresh limit (a ∷ ages) (x ∷ es) (suc i) e lt h = step_fresh limit ages es i e (omega arith) h

-- a stale one is passed over
step_stale : (limit : ℕ) (ages : List ℕ) (es : List Labelled) (i : ℕ) → i < length es → is_fresh limit (slice_get ages i) ≡ false
    → fresh limit (drop i ages) (drop i es) ≡ fresh limit (drop (suc i) ages) (drop (suc i) es)
step_stale limit [] es i lt h = absurd cc
step_stale limit (a ∷ ages) [] i lt h = absurd (omega arith)
step_stale limit (a ∷ ages) (x ∷ es) zero lt h = λ k. if h k then x ∷ fresh limit ages es else fresh limit ages es
step_stale limit (a ∷ ages) (x ∷ es) (suc i) lt h = step_stale limit ages es i (omega arith) h

-- from the end on there is none
pub fresh_end : (limit : ℕ) (ages : List ℕ) (es : List Labelled) (i : ℕ) → length es ≤ i → fresh limit (drop i ages) (drop i es) ≡ []
fresh_end limit ages es i past = (λ k. fresh limit (drop i ages) (drop_all i es past k)) ∙ none (drop i ages) where
  none : (left : List ℕ) → fresh limit left [] ≡ []
  none [] = refl
  none (a ∷ left) = refl

pub one_fresh : (limit : ℕ) (ages : List ℕ) (es : List Labelled) (i : ℕ) (e : Labelled) → i < length es → is_fresh limit (slice_get ages i) ≡ true
    → fresh limit (drop i ages) (drop i es) ≡ get_or es i e ∷ fresh limit (drop (i + 1) ages) (drop (i + 1) es)
one_fresh limit ages es i e lt h =
    let on : suc i ≡ i + 1 = omega arith in step_fresh limit ages es i e lt h ∙ (λ k. get_or es i e ∷ fresh limit (drop (on k) ages) (drop (on k) es))

pub one_stale : (limit : ℕ) (ages : List ℕ) (es : List Labelled) (i : ℕ) → i < length es → is_fresh limit (slice_get ages i) ≡ false
    → fresh limit (drop i ages) (drop i es) ≡ fresh limit (drop (i + 1) ages) (drop (i + 1) es)
one_stale limit ages es i lt h =
    let on : suc i ≡ i + 1 = omega arith in step_stale limit ages es i lt h ∙ (λ k. fresh limit (drop (on k) ages) (drop (on k) es))

no_lines : (labels : Labelled → List ℕ) (ages : List ℕ) → age_lines labels ages [] ≡ []
no_lines labels [] = refl
no_lines labels (a ∷ ages) = refl

-- from the end on there are no ages
pub ages_end : (labels : Labelled → List ℕ) (ages : List ℕ) (es : List Labelled) (i : ℕ) → min (length es) (length ages) ≤ i
    → age_lines labels (drop i ages) (drop i es) ≡ []
ages_end labels [] es i past = λ k. age_lines labels (drop_all i [] (omega arith) k) (drop i es)
ages_end labels (a ∷ ages) [] i past = (λ k. age_lines labels (drop i (a ∷ ages)) (drop_all i [] (omega arith) k)) ∙ no_lines labels (drop i (a ∷ ages))
ages_end labels (a ∷ ages) (e ∷ es) zero past = absurd (omega (arith, past))
ages_end labels (a ∷ ages) (e ∷ es) (suc i) past = ages_end labels ages es i (omega (arith, past))

next_age : (labels : Labelled → List ℕ) (ages : List ℕ) (es : List Labelled) (i : ℕ) (e : Labelled) → i < length es → i < length ages
    → age_lines labels (drop i ages) (drop i es) ≡ age_line labels (get_or es i e) (get_or ages i 0) ++ age_lines labels (drop (suc i) ages) (drop (suc i) es)
next_age labels [] es i e lt inside = absurd (omega arith)
next_age labels (a ∷ ages) [] i e lt inside = absurd (omega arith)
next_age labels (a ∷ ages) (x ∷ es) zero e lt inside = refl
next_age labels (a ∷ ages) (x ∷ es) (suc i) e lt inside = next_age labels ages es i e (omega arith) (omega arith)

-- an instance's age comes before the others'
pub one_age : (labels : Labelled → List ℕ) (ages : List ℕ) (es : List Labelled) (i : ℕ) (e : Labelled) → i < length es → i < length ages
    → age_lines labels (drop i ages) (drop i es) ≡ age_line labels (get_or es i e) (get_or ages i 0) ++ age_lines labels (drop (i + 1) ages) (drop (i + 1) es)
one_age labels ages es i e lt inside =
    let on : suc i ≡ i + 1 = omega arith in
    next_age labels ages es i e lt inside
    ∙ (λ k. age_line labels (get_or es i e) (get_or ages i 0) ++ age_lines labels (drop (on k) ages) (drop (on k) es))
