-- Texts that grow in a loop.
use Rattle.std.proofs.Common.{◌≡◌, ◌≤◌, ◌+◌, ◌++◌, ◌∙◌, ℕ, suc, List, append_assoc, ap, arith, sym}
use Rattle.std.specs.Prelude.{OnOk, Result, Ok, Err}

-- one piece more
pub more_text : (of : ℕ → List ℕ) (piece : List ℕ) (k : ℕ) (start before after : List ℕ) → before ≡ start ++ of k → after ≡ before ++ piece → of (suc k) ≡ of k ++ piece
    → after ≡ start ++ of (k + 1)
more_text of piece k start before after was now next =
    let one : suc k ≡ k + 1 = omega arith in
    now ∙ (ap (λ b. b ++ piece) was ∙ (append_assoc start (of k) piece ∙ (ap (λ e. start ++ e) (sym next) ∙ ap (λ n. start ++ of n) one)))

-- all pieces
pub whole_text : (of : ℕ → List ℕ) (k count : ℕ) (start text : List ℕ) → text ≡ start ++ of k → count ≤ k → k ≤ count → text ≡ start ++ of count
whole_text of k count start text is past fits = let same : k ≡ count = omega (arith, past, fits) in is ∙ ap (λ n. start ++ of n) same

nested : (start a b c d : List ℕ) → start ++ a ++ b ++ c ++ d ≡ start ++ (a ++ (b ++ (c ++ d)))
nested start a b c d = simp append_assoc

-- four pieces, of which the last may have found no memory
pub four_texts : {E : Type 0} → (a b c d : List ℕ) (start first second third end : List ℕ) (r : Result (Unit {0}) E) → first ≡ start ++ a → second ≡ first ++ b → third ≡ second ++ c
    → OnOk r (end ≡ third ++ d) → OnOk r (end ≡ start ++ (a ++ (b ++ (c ++ d))))
four_texts a b c d start first second third end (Err e) one two three four = tt
four_texts a b c d start first second third end (Ok done) one two three four =
    four ∙ (ap (λ t. t ++ d) (three ∙ ap (λ t. t ++ c) (two ∙ ap (λ t. t ++ b) one)) ∙ nested start a b c d)
