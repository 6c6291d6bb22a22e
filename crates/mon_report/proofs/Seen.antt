-- Windows brought up to what is seen, one after another.
use Rattle.std.proofs.Common.{◌≡◌, ◌≢◌, ℕ, ◌+◌, ◌<◌, ◌≤◌, List, length, get_or, set, map, sym, ap, ◌∙◌, subst, arith, inl, inr}
use Rattle.std.specs.Global.{Vec}
use Rattle.std.proofs.lemmas.Bool.{cases_eq}
use Rattle.std.proofs.lemmas.List.{get_or-map, get_or-set_same, get_or-set_other, length-map, length-set, map-set, same_lists}
use Rattle.mon_alarms.specs.Rule.{Rule}
use Rattle.mon_board.specs.Board.{Board}
use Rattle.mon_report.specs.Alarms.{samples_for}

-- what holds of each number below i and of i
one_more : (P : ℕ → Type 0) (i : ℕ) → ((j : ℕ) → j < i → P j) → P i → (j : ℕ) → j < i + 1 → P j
one_more P i below here j lt = elim (cases_eq j i) [
  | inl e ↦ subst P (sym e) here
  | inr ne ↦ below j (omega (arith, ne))
]

-- the samples of windows
abbrev pub samples_in : List (Vec ℕ) → List (List ℕ)
samples_in windows = map (λ (w : Vec ℕ). w.items) windows

-- the windows below i are as they are seen, and the others as they were
pub record AreSeenTo (b : Board) (rules : List Rule) (old new : List (Vec ℕ)) (i : ℕ) : Type 0 where
  pub number : length new ≡ length old
  pub done : (j : ℕ) → j < i → (d : List ℕ) → get_or (samples_in new) j d ≡ get_or (map (samples_for b) rules) j d
  pub left : (j : ℕ) (w : Vec ℕ) → i ≤ j → get_or new j w ≡ get_or old j w

module _ (b : Board) (rules : List Rule) (old new : List (Vec ℕ)) where
  pub one_seen : (i : ℕ) (r : Rule) (w : Vec ℕ) → AreSeenTo b rules old new i → i < length new → i < length rules → r ≡ get_or rules i r → w.items ≡ samples_for b r
      → AreSeenTo b rules old (set new i w) (i + 1)
  one_seen i r w seen lt ruled is step =
      let put : samples_in (set new i w) ≡ set (samples_in new) i w.items = map-set (λ (v : Vec ℕ). v.items) new i w in
      let there : i < length (samples_in new) = omega (arith, lt, length-map new (λ (v : Vec ℕ). v.items)) in
      record {
        number = length-set new i w ∙ seen.number;
        done = one_more (λ j. (d : List ℕ) → get_or (samples_in (set new i w)) j d ≡ get_or (map (samples_for b) rules) j d) i
            (λ j below d. let ne : j ≢ i = (λ e. absurd (omega (arith, e, below))) in
            ap (λ l. get_or l j d) put ∙ get_or-set_other (samples_in new) i j w.items d ne ∙ seen.done j below d)
            (λ d. ap (λ l. get_or l i d) put ∙ get_or-set_same (samples_in new) i w.items d there ∙ step ∙ ap (samples_for b) is ∙ sym (get_or-map (samples_for b) rules i r d ruled));
        left = λ j v above. let ne : j ≢ i = (λ e. absurd (omega (arith, e, above))) in get_or-set_other new i j w v ne ∙ seen.left j v (omega arith);
      }

  pub all_seen : (i : ℕ) → AreSeenTo b rules old new i → length rules ≤ i → length old ≡ length rules → samples_in new ≡ map (samples_for b) rules
  all_seen i seen past same =
      let many : length (samples_in new) ≡ length rules = length-map new (λ (v : Vec ℕ). v.items) ∙ seen.number ∙ same in
      same_lists _ _ (many ∙ sym (length-map rules (samples_for b)))
      (λ j d lt. seen.done j (omega (arith, lt, many, past)) d)
