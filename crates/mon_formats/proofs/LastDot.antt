-- What `rsplit_once` answers at an ASCII character.
use Rattle.std.proofs.Common.{◌≡◌, ◌≢◌, ◌∙◌, ℕ, zero, suc, ◌+◌, ◌-◌, ◌<◌, ◌≤◌, List, Option, Some, None, arith, ap, sym, refl, length, take, drop, get_or, option_map, Bor, ⊎_elim}
use Rattle.std.specs.Prelude.{MatchOption}
use Rattle.std.specs.Str.Pattern.{RFindsChar}
use Rattle.std.specs.Path.{rfind_below, rsplit_once}
use Rattle.std.proofs.lemmas.Bool.{cond-true, cond-false, cases_eq}
use Rattle.std.proofs.lemmas.Bool.{ne_eqb, eq-eqb}
use Rattle.std.proofs.lemmas.List.{get_or-drop, length-drop}
use Rattle.std.proofs.lemmas.Str.{len_utf8_ascii}
use Rattle.std.proofs.lemmas.Str.Pattern.{NoCharPasses-char}

none-below : (c : ℕ) (text : List ℕ) (n : ℕ) → ((i : ℕ) → i < n → get_or text i 0 ≢ c) → rfind_below c text n ≡ None
none-below c text zero other = refl
none-below c text (suc n) other = cond-false _ _ _ (ne_eqb _ c (other n (omega arith))) ∙ none-below c text n (λ i l. other i (omega arith))

found-below : (c : ℕ) (text : List ℕ) (k n : ℕ) → k < n → get_or text k 0 ≡ c → ((i : ℕ) → k < i → i < n → get_or text i 0 ≢ c)
    → rfind_below c text n ≡ Some k
found-below c text k zero l e later = absurd (omega arith)
found-below c text k (suc n) l e later = ⊎_elim
    (λ here. cond-true _ _ _ (eq-eqb _ c ((λ j. get_or text (sym here j) 0) ∙ e)) ∙ ap Some (sym here))
    (λ other. cond-false _ _ _ (ne_eqb _ c (later n (omega (arith, l, other)) (omega arith)))
    ∙ found-below c text k n (omega (arith, l, other)) e (λ i a b. later i a (omega arith)))
    (cases_eq k n)

pub split-at-last : (c : ℕ) (text : List ℕ) (r : Option (Bor (List ℕ) × Bor (List ℕ)))
    → MatchOption r (RFindsChar c text None) (λ x. (i : ℕ) × (j : ℕ) × RFindsChar c text (Some (i, j)) × (x.0.now ≡ take i text) × (x.1.now ≡ drop j text) × (i ≤ j) × (length x.0.now ≡ i) × (length x.1.now + j ≡ length text))
    → c < 128 → option_map (λ x. (x.0.now, x.1.now)) r ≡ rsplit_once c text
unfolding rsplit_once
split-at-last c text None h low =
    sym (ap (option_map (λ i. (take i text, drop (i + 1) text))) (none-below c text (length text) (λ i. NoCharPasses-char c text i h low)))
split-at-last c text (Some x) h low =
    let i = h.0 in
    let j = h.1 in
    let next : j ≡ i + 1 = omega (arith, h.2.1.ends, len_utf8_ascii c low) in
    let later : (k : ℕ) → i < k → k < length text → get_or text k 0 ≢ c = λ k a l e.
    let back : j + (k - j) ≡ k = omega arith in
    NoCharPasses-char c (drop j text) (k - j) h.2.0 low (omega (arith, length-drop j text)) (get_or-drop j text (k - j) 0 ∙ ap (λ n. get_or text n 0) back ∙ e) in
    let found = found-below c text i (length text) (omega (arith, h.7)) (h.2.1.byte low) later in
    let second = h.4 ∙ ap (λ n. drop n text) next in
    (λ t. Some (h.3 t, second t)) ∙ sym (ap (option_map (λ k. (take k text, drop (k + 1) text))) found)
