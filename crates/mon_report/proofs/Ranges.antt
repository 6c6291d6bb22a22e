-- The rules on an instance, among rules that rise by instance.
use Rattle.std.proofs.Common.{◌≡◌, ℕ, zero, suc, ◌+◌, ◌-◌, ◌<◌, ◌≤◌, List, [], ◌∷◌, length, take, drop, get_or, refl, sym, ap, ◌∙◌, arith, ◌==◌, inl, inr}
use Rattle.std.specs.Prelude.{if◌then◌else◌, slice_get, min}
use Rattle.std.specs.declared.cmp.Ordering.{Ordering}
use Rattle.std.specs.declared.cmp.Ordering.TheVariants.{Less, Equal, Greater}
use Rattle.std.specs.List.{AllWithin}
use Rattle.std.specs.List.Sorted.{IsStrictlySortedBy, IsNonDecreasingBy}
use Rattle.std.specs.Ordering.{nat_cmp, ordering_then, is_lt}
use Rattle.std.proofs.lemmas.Bool.{true≢false, cases_lt}
use Rattle.std.proofs.lemmas.Cmp.{ranked}
use Rattle.std.proofs.lemmas.List.{drop_all, take_all, get_or-drop, length-drop}
use Rattle.std.proofs.lemmas.List.Sorted.{IsNonDecreasingBy-from_all_adjacent}
use Rattle.std.proofs.lemmas.Map.Keys.{Less-from_sorted}
use Rattle.mon_alarms.specs.Rule.{Rule}
use Rattle.mon_alarms.specs.declared.alarm.AlarmState.{AlarmState}
use Rattle.mon_board.specs.RuleOrder.{rule_cmp}
use Rattle.mon_report.specs.Report.{alarm_of, alarms_from, rules_on}
use Rattle.mon_report.proofs.Loops.{other-number}

not_later : (x y : ℕ) (o p q : Ordering) → o ≡ nat_cmp x y → ordering_then (ordering_then o p) q ≡ Less → x ≤ y
not_later x y Less p q is e = let lt : x < y = ranked x y Less is in omega arith
not_later x y Equal p q is e = let same : x ≡ y = ranked x y Equal is in omega (arith, same)
not_later x y Greater p q is e = absurd (true≢false (sym (ap is_lt e)))

instance-rises : (a b : Rule) → rule_cmp a b ≡ Less → a.instance ≤ b.instance
unfolding rule_cmp
instance-rises a b e = not_later a.instance b.instance (nat_cmp a.instance b.instance) _ _ refl e

pub instances-rise : (rules : List Rule) → IsStrictlySortedBy rule_cmp rules → IsNonDecreasingBy (λ r. r.instance) rules
instances-rise rules s =
    IsNonDecreasingBy-from_all_adjacent (λ r. r.instance) rules
    (λ k d low. instance-rises (get_or rules k d) (get_or rules (k + 1) d) (Less-from_sorted rule_cmp rules k (k + 1) d s (omega arith) (omega arith)))

-- rules on other instances, at the places from one on to another
abbrev AreOthers : ℕ → List Rule → ℕ → ℕ → Type 0
AreOthers i rules low high = (k : ℕ) (d : Rule) → low ≤ k → k < high → (get_or rules k d).instance ≡ i → ⊥

module _ (i : ℕ) where
  rules-after : (n : ℕ) (rules : List Rule) → n ≤ length rules → AreOthers i rules 0 n → rules_on i (drop n rules) ≡ rules_on i rules
  rules-after zero rules le others = refl
  rules-after (suc n) [] le others = absurd (omega arith)
  rules-after (suc n) (r ∷ rules) le others =
      rules-after n rules (omega arith) (λ k d low high. others (suc k) d (omega arith) (omega arith))
      ∙ sym (ap (λ b. if b then r ∷ rules_on i rules else rules_on i rules) (other-number r.instance i (others 0 r (omega arith) (omega arith))))

  rules-until : (n : ℕ) (rules : List Rule) → AreOthers i rules n (length rules) → rules_on i (take n rules) ≡ rules_on i rules
  rules-until zero [] others = refl
  rules-until (suc n) [] others = refl
  rules-until zero (r ∷ rules) others =
      rules-until zero rules (λ k d low high. others (suc k) d (omega arith) (omega arith))
      ∙ sym (ap (λ b. if b then r ∷ rules_on i rules else rules_on i rules) (other-number r.instance i (others 0 r (omega arith) (omega arith))))
  rules-until (suc n) (r ∷ rules) others =
      ap (λ l. if r.instance == i then r ∷ l else l) (rules-until n rules (λ k d low high. others (suc k) d (omega arith) (omega arith)))

  module _ (states : List AlarmState) (items : List ℕ) where
    alarms-after : (n place : ℕ) (rules : List Rule) → n ≤ length rules → AreOthers i rules 0 n
        → alarms_from states i items (place + n) (drop n rules) ≡ alarms_from states i items place rules
    alarms-after zero place rules le others = ap (λ p. alarms_from states i items p rules) (let same : place + 0 ≡ place = omega arith in same)
    alarms-after (suc n) place [] le others = absurd (omega arith)
    alarms-after (suc n) place (r ∷ rules) le others =
        let l = alarms_from states i items (place + 1) rules in
        ap (λ p. alarms_from states i items p (drop n rules)) (let same : place + suc n ≡ (place + 1) + n = omega arith in same)
        ∙ alarms-after n (place + 1) rules (omega arith) (λ k d low high. others (suc k) d (omega arith) (omega arith))
        ∙ sym (ap (λ b. if b then alarm_of items r (slice_get states place) ∷ l else l) (other-number r.instance i (others 0 r (omega arith) (omega arith))))

    alarms-until : (n place : ℕ) (rules : List Rule) → AreOthers i rules n (length rules)
        → alarms_from states i items place (take n rules) ≡ alarms_from states i items place rules
    alarms-until zero place [] others = refl
    alarms-until (suc n) place [] others = refl
    alarms-until zero place (r ∷ rules) others =
        let l = alarms_from states i items (place + 1) rules in
        alarms-until zero (place + 1) rules (λ k d low high. others (suc k) d (omega arith) (omega arith))
        ∙ sym (ap (λ b. if b then alarm_of items r (slice_get states place) ∷ l else l) (other-number r.instance i (others 0 r (omega arith) (omega arith))))
    alarms-until (suc n) place (r ∷ rules) others =
        ap (λ l. if r.instance == i then alarm_of items r (slice_get states place) ∷ l else l)
        (alarms-until n (place + 1) rules (λ k d low high. others (suc k) d (omega arith) (omega arith)))

-- the states from a place on, by their places
slice_get-drop : (states : List AlarmState) (n k : ℕ) → slice_get (drop n states) k ≡ slice_get states (n + k)
slice_get-drop states zero k = ap (slice_get states) (let same : k ≡ 0 + k = omega arith in same)
slice_get-drop [] (suc n) k = refl
slice_get-drop (s ∷ states) (suc n) k = slice_get-drop states n k ∙ ap (slice_get (s ∷ states)) (let same : suc (n + k) ≡ suc n + k = omega arith in same)

states-after : (states : List AlarmState) (i : ℕ) (items : List ℕ) (n place : ℕ) (rules : List Rule)
    → alarms_from (drop n states) i items place rules ≡ alarms_from states i items (n + place) rules
states-after states i items n place [] = refl
states-after states i items n place (r ∷ rules) =
    (λ j. if r.instance == i then alarm_of items r (slice_get-drop states n place j) ∷ states-after states i items n (place + 1) rules j else states-after states i items n (place + 1) rules j)
    ∙ ap (λ p. if r.instance == i then alarm_of items r (slice_get states (n + place)) ∷ alarms_from states i items p rules else alarms_from states i items p rules)
    (let same : n + (place + 1) ≡ (n + place) + 1 = omega arith in same)

-- the states from a place on, or none if it is past the end
pub states-from : (states : List AlarmState) (n m : ℕ) → m ≡ min n (length states) → take (length states - m) (drop m states) ≡ drop n states
states-from states n m is = take_all (length states - m) (drop m states) (omega (arith, length-drop m states)) ∙ elim (cases_lt (length states) n) [
  | inl lt ↦
      let all : m ≡ length states = omega (arith, is, lt) in
      ap (λ k. drop k states) all ∙ drop_all (length states) states (omega arith) ∙ sym (drop_all n states (omega arith))
  | inr le ↦ ap (λ k. drop k states) (let same : m ≡ n = omega (arith, is, le) in same)
]

-- those on an instance begin no later than those on later ones
pub ordered : (rules : List Rule) (i first end : ℕ) → first ≤ length rules → AllWithin (λ r. r.instance < i) rules 0 first
    → AllWithin (λ r. i < r.instance) rules end (length rules) → first ≤ end
ordered [] i first end bound before past = omega arith
ordered (r ∷ rules) i first end bound before past = elim (cases_lt end first) [
  | inl lt ↦ absurd (omega (arith, before end r (omega arith) lt, past end r (omega arith) (omega (arith, lt, bound))))
  | inr le ↦ le
]

-- the rules from the first on an instance to the first on a later one
module _ (rules : List Rule) (i first end : ℕ) (bound : first ≤ length rules)
    (before : AllWithin (λ r. r.instance < i) rules 0 first)
    (past : AllWithin (λ r. i < r.instance) rules end (length rules)) where
  earlier : AreOthers i rules 0 first
  earlier k d low high same = absurd (omega (arith, before k d low high, same))

  later : AreOthers i (drop first rules) (end - first) (length (drop first rules))
  later k d low high same =
      let at : (get_or rules (first + k) d).instance ≡ i = sym (ap (λ r. r.instance) (get_or-drop first rules k d)) ∙ same in
      absurd (omega (arith, past (first + k) d (omega arith) (omega (arith, high, length-drop first rules)), at))

  pub rules-between : rules_on i (take (end - first) (drop first rules)) ≡ rules_on i rules
  rules-between = rules-until i (end - first) (drop first rules) later ∙ rules-after i first rules bound earlier

  pub alarms-between : (states : List AlarmState) (items : List ℕ)
      → alarms_from (drop first states) i items 0 (take (end - first) (drop first rules)) ≡ alarms_from states i items 0 rules
  alarms-between states items =
      states-after states i items first 0 (take (end - first) (drop first rules))
      ∙ ap (λ p. alarms_from states i items p (take (end - first) (drop first rules))) (let same : first + 0 ≡ 0 + first = omega arith in same)
      ∙ alarms-until i states items (end - first) (0 + first) (drop first rules) later
      ∙ alarms-after i states items first 0 rules bound earlier
