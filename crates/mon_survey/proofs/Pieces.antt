-- The first piece of a text, and what becomes of the rest.
use Rattle.std.proofs.Common.{◌≡◌, ℕ, suc, ◌+◌, ◌≤◌, Bool, true, false, List, [], ◌∷◌, ◌++◌, length, take, drop, sym, ap, subst, ◌∙◌, refl, arith}
use Rattle.std.specs.Prelude.{◌==◌, ◌&&◌, if◌then◌else◌}
use Rattle.std.specs.List.{flat_map}
use Rattle.std.proofs.lemmas.Bool.Decides.{nat_tests}
use Rattle.std.proofs.lemmas.List.{append_assoc}
use Rattle.mon_survey.specs.Edited.{ends_block, ends_line, first_piece, line_length, pieces, put_first}

module _ (ends : ℕ → ℕ → List ℕ → Bool) (feeds : (p b : ℕ) (r : List ℕ) → ends p b r ≡ true → b ≡ 10) where
  -- whether the first octet ends its only piece
  only : (p b : ℕ) (t : Bool) → ends p b [] ≡ t → (k : ℕ) → k ≡ (if t then 1 else (1 + 0))
      → (if t then (b ∷ []) ∷ [] else ((b ∷ []) ∷ [])) ≡ take k (b ∷ []) ∷ pieces ends 10 (drop k (b ∷ []))
  only p b true e k is = subst (λ (n : ℕ). (b ∷ []) ∷ [] ≡ take n (b ∷ []) ∷ pieces ends 10 (drop n (b ∷ []))) (sym is) refl
  only p b false e k is = subst (λ (n : ℕ). (b ∷ []) ∷ [] ≡ take n (b ∷ []) ∷ pieces ends 10 (drop n (b ∷ []))) (sym is) refl

  -- whether it ends a piece before others
  more : (p b c : ℕ) (cs : List ℕ) (t : Bool) → ends p b (c ∷ cs) ≡ t → (k : ℕ) → k ≡ (if t then 1 else (1 + first_piece ends b (c ∷ cs)))
      → pieces ends b (c ∷ cs) ≡ take (first_piece ends b (c ∷ cs)) (c ∷ cs) ∷ pieces ends 10 (drop (first_piece ends b (c ∷ cs)) (c ∷ cs))
      → (if t then (b ∷ []) ∷ pieces ends b (c ∷ cs) else put_first b (pieces ends b (c ∷ cs))) ≡ take k (b ∷ c ∷ cs) ∷ pieces ends 10 (drop k (b ∷ c ∷ cs))
  more p b c cs true e k is rest =
      subst (λ (n : ℕ). (b ∷ []) ∷ pieces ends b (c ∷ cs) ≡ take n (b ∷ c ∷ cs) ∷ pieces ends 10 (drop n (b ∷ c ∷ cs))) (sym is)
      (ap (λ (n : ℕ). (b ∷ []) ∷ pieces ends n (c ∷ cs)) (feeds p b (c ∷ cs) e))
  more p b c cs false e k is rest =
      let next : (1 + first_piece ends b (c ∷ cs)) ≡ suc (first_piece ends b (c ∷ cs)) = omega arith in
      subst (λ (n : ℕ). put_first b (pieces ends b (c ∷ cs)) ≡ take n (b ∷ c ∷ cs) ∷ pieces ends 10 (drop n (b ∷ c ∷ cs))) (sym (is ∙ next)) (ap (put_first b) rest)

  -- a text of at least one octet is its first piece and those of the rest
  pub cut : (p b : ℕ) (bs : List ℕ) → pieces ends p (b ∷ bs) ≡ take (first_piece ends p (b ∷ bs)) (b ∷ bs) ∷ pieces ends 10 (drop (first_piece ends p (b ∷ bs)) (b ∷ bs))
  cut p b [] = only p b (ends p b []) refl (first_piece ends p (b ∷ [])) refl
  cut p b (c ∷ cs) = more p b c cs (ends p b (c ∷ cs)) refl (first_piece ends p (b ∷ c ∷ cs)) refl (cut b c cs)

  -- the rest of a text, once its first piece is done
  module _ (f : List ℕ → List ℕ) where
    step : (b : ℕ) (bs out : List ℕ) → (out ++ f (take (first_piece ends 10 (b ∷ bs)) (b ∷ bs))) ++ flat_map f (pieces ends 10 (drop (first_piece ends 10 (b ∷ bs)) (b ∷ bs))) ≡ out ++ flat_map f (pieces ends 10 (b ∷ bs))
    step b bs out =
        append_assoc out (f (take (first_piece ends 10 (b ∷ bs)) (b ∷ bs))) (flat_map f (pieces ends 10 (drop (first_piece ends 10 (b ∷ bs)) (b ∷ bs))))
        ∙ ap (λ (l : List (List ℕ)). out ++ flat_map f l) (sym (cut 10 b bs))

    pub one_more : (rest line after out out2 all : List ℕ) (k : ℕ) → 1 ≤ length rest → k ≡ first_piece ends 10 rest → line ≡ take k rest → after ≡ drop k rest → out2 ≡ out ++ f line
        → out ++ flat_map f (pieces ends 10 rest) ≡ all → out2 ++ flat_map f (pieces ends 10 after) ≡ all
    one_more [] line after out out2 all k some is_k is_line is_after added before = absurd (omega arith)
    one_more (b ∷ bs) line after out out2 all k some is_k is_line is_after added before =
        ap (λ (l : List ℕ). l ++ flat_map f (pieces ends 10 after)) (added ∙ ap (λ (l : List ℕ). out ++ f l) (is_line ∙ ap (λ (n : ℕ). take n (b ∷ bs)) is_k))
        ∙ ap (λ (l : List ℕ). (out ++ f (take (first_piece ends 10 (b ∷ bs)) (b ∷ bs))) ++ flat_map f (pieces ends 10 l)) (is_after ∙ ap (λ (n : ℕ). drop n (b ∷ bs)) is_k)
        ∙ step b bs out ∙ before

-- a line ends with a line feed
pub feeds_line : (p b : ℕ) (r : List ℕ) → ends_line p b r ≡ true → b ≡ 10
feeds_line p b r e = grind (arith, nat_tests)

both : (x y : Bool) → (x && y) ≡ true → x ≡ true
both true y e = refl
both false y e = e

-- and so does a block
pub feeds_block : (p b : ℕ) (r : List ℕ) → ends_block p b r ≡ true → b ≡ 10
feeds_block p b r e = feeds_line p b r (both (b == 10) _ e)

-- the first line is the first piece that ends so, whatever is before
pub first_line : (p : ℕ) (text : List ℕ) → line_length text ≡ first_piece ends_line p text
first_line p [] = refl
first_line p (b ∷ bs) = ap (λ (n : ℕ). if b == 10 then 1 else (1 + n)) (first_line b bs)
