-- What is at the front of a text is spelled there.
use Rattle.std.proofs.Common.{◌≡◌, ℕ, zero, suc, ◌+◌, ◌<◌, ◌≤◌, Bool, true, false, List, [], ◌∷◌, ◌++◌, length, get_or, take, drop, Option, Some, None, sym, refl, ap, ◌∙◌, subst, arith, length-take-le, length-append, ◌⊎◌, inl, inr}
use Rattle.std.specs.Prelude.{IsTrue, IfSome, ◌||◌, ◌&&◌, ◌==◌}
use Rattle.std.specs.Char.{is_ascii_alphabetic, is_ascii_digit, is_ascii_hexdigit}
use Rattle.std.proofs.lemmas.Bool.{eqb-true}
use Rattle.std.proofs.lemmas.List.{take_at, drop_at}
use Rattle.mon_smi.specs.Words.{GoesOn}
use Rattle.mon_smi.specs.Tokens.{AreAll, AreDigits, IsSpelled, is_space, is_bit, IsPassed, IsComment}
use Rattle.mon_smi.specs.Scan.{run_at, word_at, closes_at, comment_at, token, passed, signed, hyphen_at, quoted_at, closed_bits, quoted_bits_at, assign_at, dot_at, punctuation_at, behind_at, piece_at}
use Rattle.mon_smi.specs.declared.kind.TokenKind.{TokenKind}
use Rattle.mon_smi.specs.declared.kind.TokenKind.TheVariants.{Word, Number, Quoted, Hex, Binary, Assign, Range, LeftBrace, RightBrace, LeftParen, RightParen, LeftBracket, RightBracket, Comma, Semicolon, Dot, Bar}
use Rattle.mon_smi.specs.declared.token.Piece.{Piece}
use Rattle.mon_smi.proofs.Scanned.{is_word, some_byte}
use Rattle.mon_smi.proofs.Runs.{by_test, run_within, run_all, word_within, word_goes, word_stops}
use Rattle.mon_smi.proofs.Quoted.{Closes, closes_takes}
use Rattle.mon_smi.proofs.Comments.{comment_takes}

abbrev pub TakenAs : Option TokenKind → ℕ → List ℕ → Type 0
TakenAs None n text = IsPassed n text
TakenAs (Some kind) n text = (n ≤ length text) × IsSpelled kind (take n text)

-- the piece is spelled at the front
abbrev pub Taken : List ℕ → Piece → Type 0
Taken text p = TakenAs p.kind p.len text

or_true : (t u : Bool) → (t || u) ≡ true → (t ≡ true) ⊎ (u ≡ true)
or_true true u is = inl refl
or_true false u is = inr is

and_true : (t u : Bool) → (t && u) ≡ true → (t ≡ true) × (u ≡ true)
and_true true u is = (refl, is)
and_true false u is = absurd (cc)

either_is : (x a b : ℕ) → (x == a || x == b) ≡ true → (x ≡ a) ⊎ (x ≡ b)
either_is x a b is = go (x == a) (x == b) refl refl is
  where
    go : (t u : Bool) → (x == a) ≡ t → (x == b) ≡ u → (t || u) ≡ true → (x ≡ a) ⊎ (x ≡ b)
    go true u e f h = inl (eqb-true x a e)
    go false true e f h = inr (eqb-true x b f)
    go false false e f h = absurd (cc)

word_taken : (text : List ℕ) → IsTrue (is_ascii_alphabetic (get_or text 0 0)) → TakenAs (Some Word) (word_at text) text
word_taken text letter =
    let stops : GoesOn text (word_at text) → ⊥ = word_stops text in
    (word_within text, is_word text (word_at text) (word_within text) (some_byte text (word_at text) letter stops) letter (word_goes text) stops)

digits_taken : (text : List ℕ) → 0 < run_at is_ascii_digit text → AreDigits (take (run_at is_ascii_digit text) text)
digits_taken text some = (
  (let len : length (take (run_at is_ascii_digit text) text) ≡ run_at is_ascii_digit text = length-take-le (run_at is_ascii_digit text) text (run_within is_ascii_digit text) in omega arith),
  run_all is_ascii_digit text,
)

number_taken : (b : ℕ) (bs : List ℕ) → is_ascii_digit b ≡ true → TakenAs (Some Number) (run_at is_ascii_digit (b ∷ bs)) (b ∷ bs)
number_taken b bs is =
    let some : 0 < run_at is_ascii_digit (b ∷ bs) = rw is (omega arith) in
    (run_within is_ascii_digit (b ∷ bs), inl (digits_taken (b ∷ bs) some))

signed_taken : (bs : List ℕ) → IfSome (signed (run_at is_ascii_digit bs)) (Taken (45 ∷ bs))
signed_taken bs =
    by_test (λ r. IfSome r (Taken (45 ∷ bs))) (run_at is_ascii_digit bs == 0) None (token Number (suc (run_at is_ascii_digit bs))) (λ none. tt)
    (λ no_zero.
    let within : run_at is_ascii_digit bs ≤ length bs = run_within is_ascii_digit bs in
    (omega arith, inr (take (run_at is_ascii_digit bs) bs, refl, digits_taken bs (positive (run_at is_ascii_digit bs) no_zero))))
  where
    positive : (n : ℕ) → (n == 0) ≡ false → 0 < n
    positive zero is = absurd (cc)
    positive (suc n) is = omega arith

comment_taken : (bs : List ℕ) → get_or bs 0 0 ≡ 45 → TakenAs None (suc (comment_at bs)) (45 ∷ bs)
comment_taken bs hyphen =
    let p = comment_takes bs hyphen in
    let front : take (comment_at bs) bs ≡ p.comment = ap (λ (l : List ℕ). take (comment_at bs) l) p.whole ∙ take_at p.comment p.rest (comment_at bs) (sym p.len) in
    let back : drop (comment_at bs) bs ≡ p.rest = ap (λ (l : List ℕ). drop (comment_at bs) l) p.whole ∙ drop_at p.comment p.rest (comment_at bs) (sym p.len) in
    let lens : length bs ≡ length p.comment + length p.rest = ap (λ (l : List ℕ). length l) p.whole ∙ length-append p.comment p.rest in
    let len = p.len in
    (omega arith, inr (subst (λ (l : List ℕ). IsComment (45 ∷ take (comment_at bs) bs) l) (sym back) (subst (λ (l : List ℕ). IsComment (45 ∷ l) p.rest) (sym front) p.is)))

hyphen_taken : (bs : List ℕ) → IfSome (hyphen_at bs) (Taken (45 ∷ bs))
hyphen_taken bs =
    by_test (λ r. IfSome r (Taken (45 ∷ bs))) (get_or bs 0 0 == 45) (passed (suc (comment_at bs))) (signed (run_at is_ascii_digit bs))
    (λ is. comment_taken bs (eqb-true (get_or bs 0 0) 45 is)) (λ is. signed_taken bs)

quoted_taken : (bs : List ℕ) → IfSome (quoted_at bs) (Taken (34 ∷ bs))
quoted_taken bs = go (closes_at bs) (closes_takes bs)
  where
    go : (r : Option ℕ) → IfSome r (Closes bs) → IfSome (elim r [ Some n ↦ token Quoted (suc n) | None ↦ None ]) (Taken (34 ∷ bs))
    go None is = tt
    go (Some n) is = let below : n ≤ length bs = is.2 in (omega arith, (is.0, ap (λ (l : List ℕ). 34 ∷ l) is.1))

-- two bytes more
take_two : (d : ℕ) (bs : List ℕ) (x y : ℕ) (rest : List ℕ) → drop d bs ≡ x ∷ y ∷ rest → (take (suc (suc d)) bs ≡ take d bs ++ x ∷ y ∷ []) × (suc (suc d) ≤ length bs)
take_two zero bs x y rest is = let lens : length bs ≡ length (x ∷ y ∷ rest) = ap (λ (l : List ℕ). length l) is in (ap (λ (l : List ℕ). take 2 l) is, omega arith)
take_two (suc d) [] x y rest is = let lens : 0 ≡ length (x ∷ y ∷ rest) = ap (λ (l : List ℕ). length l) is in absurd (omega arith)
take_two (suc d) (b ∷ bs) x y rest is = let more = take_two d bs x y rest is in let below : suc (suc d) ≤ length bs = more.1 in (ap (λ (l : List ℕ). b ∷ l) more.0, omega arith)

bits_taken : (bs : List ℕ) → IfSome (quoted_bits_at bs) (Taken (39 ∷ bs))
bits_taken bs = go (drop d bs) refl
  where
    d : ℕ
    d = run_at is_ascii_hexdigit bs

    spelled : (x letter : ℕ) (rest : List ℕ) → drop d bs ≡ x ∷ letter ∷ rest → x ≡ 39 → (suc (suc (suc d)) ≤ length (39 ∷ bs)) × (take (suc (suc (suc d))) (39 ∷ bs) ≡ 39 ∷ take d bs ++ 39 ∷ letter ∷ [])
    spelled x letter rest is quote =
        let two = take_two d bs x letter rest is in
        let below : suc (suc d) ≤ length bs = two.1 in
        (omega arith, ap (λ (l : List ℕ). 39 ∷ l) two.0 ∙ ap (λ (y : ℕ). 39 ∷ take d bs ++ y ∷ letter ∷ []) quote)

    binary : (x letter : ℕ) (rest : List ℕ) → drop d bs ≡ x ∷ letter ∷ rest → x ≡ 39 → (letter ≡ 98) ⊎ (letter ≡ 66) → run_at is_bit bs ≡ d → TakenAs (Some Binary) (suc (suc (suc d))) (39 ∷ bs)
    binary x letter rest is quote which bits =
        let s = spelled x letter rest is quote in
        (s.0, (take d bs, letter, s.1, subst (λ k. AreAll is_bit (take k bs)) bits (run_all is_bit bs), which))

    hex : (x letter : ℕ) (rest : List ℕ) → drop d bs ≡ x ∷ letter ∷ rest → x ≡ 39 → (letter ≡ 104) ⊎ (letter ≡ 72) → TakenAs (Some Hex) (suc (suc (suc d))) (39 ∷ bs)
    hex x letter rest is quote which =
        let s = spelled x letter rest is quote in
        (s.0, (take d bs, letter, s.1, run_all is_ascii_hexdigit bs, which))

    go : (l : List ℕ) → drop d bs ≡ l → IfSome (closed_bits d (run_at is_bit bs) l) (Taken (39 ∷ bs))
    go [] is = tt
    go (x ∷ []) is = tt
    go (x ∷ letter ∷ rest) is =
        by_test (λ r. IfSome r (Taken (39 ∷ bs))) (x == 39) _ None
        (λ e. by_test (λ r. IfSome r (Taken (39 ∷ bs))) (letter == 104 || letter == 72) (token Hex (suc (suc (suc d)))) _
        (λ h. hex x letter rest is (eqb-true x 39 e) (either_is letter 104 72 h))
        (λ h. by_test (λ r. IfSome r (Taken (39 ∷ bs))) ((letter == 98 || letter == 66) && run_at is_bit bs == d) (token Binary (suc (suc (suc d)))) None
        (λ both. let parts = and_true (letter == 98 || letter == 66) (run_at is_bit bs == d) both in
        binary x letter rest is (eqb-true x 39 e) (either_is letter 98 66 parts.0) (eqb-true (run_at is_bit bs) d parts.1))
        (λ other. tt)))
        (λ e. tt)

assign_taken : (bs : List ℕ) → IfSome (assign_at bs) (Taken (58 ∷ bs))
assign_taken bs =
    by_test (λ r. IfSome r (Taken (58 ∷ bs))) (get_or bs 0 0 == 58 && get_or bs 1 0 == 61) (token Assign 3) None
    (λ both. let parts = and_true (get_or bs 0 0 == 58) (get_or bs 1 0 == 61) both in spelled bs (eqb-true (get_or bs 0 0) 58 parts.0) (eqb-true (get_or bs 1 0) 61 parts.1))
    (λ other. tt)
  where
    spelled : (l : List ℕ) → get_or l 0 0 ≡ 58 → get_or l 1 0 ≡ 61 → TakenAs (Some Assign) 3 (58 ∷ l)
    spelled [] first second = absurd (omega arith)
    spelled (x ∷ []) first second = absurd (omega arith)
    spelled (x ∷ y ∷ l) first second = (omega arith, ap (λ (z : ℕ). 58 ∷ z ∷ y ∷ []) first ∙ ap (λ (z : ℕ). 58 ∷ 58 ∷ z ∷ []) second)

dot_taken : (bs : List ℕ) → IfSome (dot_at bs) (Taken (46 ∷ bs))
dot_taken bs =
    by_test (λ r. IfSome r (Taken (46 ∷ bs))) (get_or bs 0 0 == 46) (token Range 2) (token Dot 1)
    (λ is. spelled bs (eqb-true (get_or bs 0 0) 46 is))
    (λ is. (omega arith, refl))
  where
    spelled : (l : List ℕ) → get_or l 0 0 ≡ 46 → TakenAs (Some Range) 2 (46 ∷ l)
    spelled [] first = absurd (omega arith)
    spelled (x ∷ l) first = (omega arith, ap (λ (z : ℕ). 46 ∷ z ∷ []) first)

one_byte : (b c : ℕ) → (b == c) ≡ true → b ∷ [] ≡ c ∷ []
one_byte b c is = ap (λ (x : ℕ). x ∷ []) (eqb-true b c is)

punctuation_taken : (b : ℕ) (bs : List ℕ) → IfSome (punctuation_at b) (Taken (b ∷ bs))
punctuation_taken b bs =
    by_test (λ r. IfSome r (Taken (b ∷ bs))) (b == 123) (token LeftBrace 1) _ (λ is. (omega arith, one_byte b 123 is)) (λ n1.
    by_test (λ r. IfSome r (Taken (b ∷ bs))) (b == 125) (token RightBrace 1) _ (λ is. (omega arith, one_byte b 125 is)) (λ n2.
    by_test (λ r. IfSome r (Taken (b ∷ bs))) (b == 40) (token LeftParen 1) _ (λ is. (omega arith, one_byte b 40 is)) (λ n3.
    by_test (λ r. IfSome r (Taken (b ∷ bs))) (b == 41) (token RightParen 1) _ (λ is. (omega arith, one_byte b 41 is)) (λ n4.
    by_test (λ r. IfSome r (Taken (b ∷ bs))) (b == 91) (token LeftBracket 1) _ (λ is. (omega arith, one_byte b 91 is)) (λ n5.
    by_test (λ r. IfSome r (Taken (b ∷ bs))) (b == 93) (token RightBracket 1) _ (λ is. (omega arith, one_byte b 93 is)) (λ n6.
    by_test (λ r. IfSome r (Taken (b ∷ bs))) (b == 44) (token Comma 1) _ (λ is. (omega arith, one_byte b 44 is)) (λ n7.
    by_test (λ r. IfSome r (Taken (b ∷ bs))) (b == 59) (token Semicolon 1) _ (λ is. (omega arith, one_byte b 59 is)) (λ n8.
    by_test (λ r. IfSome r (Taken (b ∷ bs))) (b == 124) (token Bar 1) None (λ is. (omega arith, one_byte b 124 is)) (λ n9. tt)))))))))

-- a byte that the test finds
found_byte : (b c : ℕ) (bs : List ℕ) (r : Option Piece) → IfSome r (Taken (c ∷ bs)) → (b == c) ≡ true → IfSome r (Taken (b ∷ bs))
found_byte b c bs r taken is = subst (λ (x : ℕ). IfSome r (Taken (x ∷ bs))) (sym (eqb-true b c is)) taken

behind_taken : (b : ℕ) (bs : List ℕ) → IfSome (behind_at b bs) (Taken (b ∷ bs))
behind_taken b bs =
    by_test (λ r. IfSome r (Taken (b ∷ bs))) (b == 45) (hyphen_at bs) _ (λ is. found_byte b 45 bs (hyphen_at bs) (hyphen_taken bs) is) (λ n1.
    by_test (λ r. IfSome r (Taken (b ∷ bs))) (b == 34) (quoted_at bs) _ (λ is. found_byte b 34 bs (quoted_at bs) (quoted_taken bs) is) (λ n2.
    by_test (λ r. IfSome r (Taken (b ∷ bs))) (b == 39) (quoted_bits_at bs) _ (λ is. found_byte b 39 bs (quoted_bits_at bs) (bits_taken bs) is) (λ n3.
    by_test (λ r. IfSome r (Taken (b ∷ bs))) (b == 58) (assign_at bs) _ (λ is. found_byte b 58 bs (assign_at bs) (assign_taken bs) is) (λ n4.
    by_test (λ r. IfSome r (Taken (b ∷ bs))) (b == 46) (dot_at bs) (punctuation_at b) (λ is. found_byte b 46 bs (dot_at bs) (dot_taken bs) is) (λ n5. punctuation_taken b bs)))))

pub spelled_at : (text : List ℕ) → IfSome (piece_at text) (Taken text)
unfolding piece_at
spelled_at [] = tt
spelled_at (b ∷ bs) =
    by_test (λ r. IfSome r (Taken (b ∷ bs))) (is_space b) (passed 1) _ (λ is. (omega arith, inl (b, refl, is))) (λ n1.
    by_test (λ r. IfSome r (Taken (b ∷ bs))) (is_ascii_alphabetic b) (token Word (word_at (b ∷ bs))) _ (λ is. word_taken (b ∷ bs) is) (λ n2.
    by_test (λ r. IfSome r (Taken (b ∷ bs))) (is_ascii_digit b) (token Number (run_at is_ascii_digit (b ∷ bs))) (behind_at b bs) (λ is. number_taken b bs is) (λ n3. behind_taken b bs)))
