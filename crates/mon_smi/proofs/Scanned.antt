-- The longest word at the front of a text.
use Rattle.std.proofs.Common.{◌≡◌, ℕ, ◌+◌, ◌<◌, ◌≤◌, List, length, get_or, take, sym, ap, ◌∙◌, subst, arith, ⊎_elim, inl, inr}
use Rattle.std.specs.Prelude.{IsTrue}
use Rattle.std.specs.Char.{is_ascii_alphabetic, is_ascii_digit}
use Rattle.std.specs.Prelude.{◌||◌, ◌==◌}
use Rattle.std.proofs.Math.ListN.{get_or-eq_default}
use Rattle.std.proofs.lemmas.List.{get_or-take, length-take-le}
use Rattle.std.proofs.str.Laws.{order}
use Rattle.mon_smi.specs.Words.{is_part, GoesOn, IsWord}

-- past the end is no part of a word
not_past : (w : List ℕ) (i : ℕ) → length w ≤ i → IsTrue (is_part (get_or w i 0)) → ⊥
not_past w i past part =
    let nothing : get_or w i 0 ≡ 0 = get_or-eq_default w 0 past in
    let wrong : IsTrue (is_part 0) = subst (λ b. IsTrue (is_part b)) nothing part in
    absurd (cc)

-- what goes on in a front goes on in the whole
goes_on_whole : (text : List ℕ) (m i : ℕ) → m ≤ length text → i < m → GoesOn (take m text) i → GoesOn text i
goes_on_whole text m i within below goes =
    ⊎_elim
    (λ part. inl (subst (λ b. IsTrue (is_part b)) (get_or-take m text i 0 below) part))
    (λ hyphen. inr (
      sym (get_or-take m text i 0 below) ∙ hyphen.0,
      ⊎_elim
          (λ lt. subst (λ b. IsTrue (is_part b)) (get_or-take m text (i + 1) 0 lt) hyphen.1)
          (λ le. absurd (not_past (take m text) (i + 1) (omega (arith, length-take-le m text within)) hyphen.1))
          (order (i + 1) m),
    ))
    goes

-- what goes on in the whole goes on in a front at whose end nothing does
goes_on_front : (text : List ℕ) (n i : ℕ) → i < n → (GoesOn text n → ⊥) → GoesOn text i → GoesOn (take n text) i
goes_on_front text n i below stops goes =
    ⊎_elim
    (λ part. inl (subst (λ b. IsTrue (is_part b)) (sym (get_or-take n text i 0 below)) part))
    (λ hyphen. inr (
      get_or-take n text i 0 below ∙ hyphen.0,
      ⊎_elim
          (λ lt. subst (λ b. IsTrue (is_part b)) (sym (get_or-take n text (i + 1) 0 lt)) hyphen.1)
          (λ le. let here : i + 1 ≡ n = omega arith in
          absurd (stops (inl (subst (λ k. IsTrue (is_part (get_or text k 0))) here hyphen.1))))
          (order (i + 1) n),
    ))
    goes

-- the bytes up to the first place where a word doesn't go on are a word
pub is_word : (text : List ℕ) (n : ℕ) → n ≤ length text → 0 < n → IsTrue (is_ascii_alphabetic (get_or text 0 0)) → ((i : ℕ) → i < n → GoesOn text i) → (GoesOn text n → ⊥) → IsWord (take n text)
is_word text n within some letter goes stops = record {
  letter = subst (λ b. IsTrue (is_ascii_alphabetic b)) (sym (get_or-take n text 0 0 some)) letter;
  goes_on = λ i below. let lt : i < n = omega (arith, length-take-le n text within) in goes_on_front text n i lt stops (goes i lt);
}

-- and no more bytes are one
pub is_longest : (text : List ℕ) (n m : ℕ) → (GoesOn text n → ⊥) → m ≤ length text → IsWord (take m text) → m ≤ n
is_longest text n m stops within word =
    ⊎_elim
    (λ lt. absurd (stops (goes_on_whole text m n within lt (word.goes_on n (omega (arith, length-take-le m text within))))))
    (λ le. le)
    (order n m)

-- a word begins where a letter is
pub begins : (text : List ℕ) → IsTrue (is_ascii_alphabetic (get_or text 0 0)) → GoesOn text 0
begins text letter = inl (ap (λ t. (t || is_ascii_digit (get_or text 0 0)) || get_or text 0 0 == 95) letter)

-- nothing goes on at the end
pub ends : (text : List ℕ) (n : ℕ) → length text ≤ n → GoesOn text n → ⊥
ends text n past goes =
    ⊎_elim (λ part. not_past text n past part)
    (λ hyphen. let nothing : get_or text n 0 ≡ 0 = get_or-eq_default text 0 past in
    let is : get_or text n 0 ≡ 45 = hyphen.0 in omega arith)
    goes

-- so the word has a byte at least
pub some_byte : (text : List ℕ) (n : ℕ) → IsTrue (is_ascii_alphabetic (get_or text 0 0)) → (GoesOn text n → ⊥) → 0 < n
some_byte text n letter stops =
    ⊎_elim (λ lt. lt) (λ le. let none : 0 ≡ n = omega arith in absurd (stops (subst (λ k. GoesOn text k) none (begins text letter)))) (order 0 n)
