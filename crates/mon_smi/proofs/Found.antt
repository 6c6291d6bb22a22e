-- What is spelled at the front of a text is found there, whatever follows.
use Rattle.std.proofs.Common.{◌≡◌, ℕ, suc, ◌+◌, ◌<◌, ◌≤◌, Bool, true, false, List, [], ◌∷◌, ◌++◌, length, get_or, take, drop, Option, Some, None, sym, refl, ap, ◌∙◌, subst, arith, length-append, append_assoc, take-append-drop, length-take-le, ⊎_elim}
use Rattle.std.specs.Prelude.{IsTrue, ◌==◌}
use Rattle.std.specs.List.{flat_map}
use Rattle.std.specs.Char.{is_ascii_alphabetic, is_ascii_digit, is_ascii_hexdigit}
use Rattle.std.proofs.lemmas.Bool.{eqb-true}
use Rattle.std.proofs.lemmas.Bool.Decides.{nat_tests}
use Rattle.std.proofs.lemmas.List.{drop_at}
use Rattle.mon_smi.specs.Words.{IsWord}
use Rattle.mon_smi.specs.Tokens.{AreAll, AreDigits, IsQuoted, IsBits, doubled, IsSpelled, is_space, is_bit, is_hyphen, IsPassed, IsComment}
use Rattle.mon_smi.specs.Scan.{run_at, word_at, closes_at, comment_at, closed_bits, token, piece_at}
use Rattle.mon_smi.specs.declared.kind.TokenKind.{TokenKind}
use Rattle.mon_smi.specs.declared.kind.TokenKind.TheVariants.{Word, Number, Quoted, Hex, Binary, Assign, Range, LeftBrace, RightBrace, LeftParen, RightParen, LeftBracket, RightBracket, Comma, Semicolon, Dot, Bar}
use Rattle.mon_smi.specs.declared.token.Piece.{Piece}
use Rattle.mon_smi.proofs.Runs.{run_longest, run_front, word_longest}
use Rattle.mon_smi.proofs.Quoted.{closes_again}
use Rattle.mon_smi.proofs.Comments.{comment_again}

abbrev pub piece : TokenKind → ℕ → Piece
piece kind n = record { kind = Some kind; len = n }

abbrev pub nothing : ℕ → Piece
nothing n = record { kind = None; len = n }

-- a token is there, at least as long, and of this kind if it is no longer
pub record FoundAt (kind : TokenKind) (front rest : List ℕ) : Type 0 where
  pub found : TokenKind
  pub len : ℕ
  pub is : piece_at (front ++ rest) ≡ Some (piece found len)
  pub most : length front ≤ len
  pub same : length front ≡ len → found ≡ kind

letter_no_space : (b : ℕ) → is_ascii_alphabetic b ≡ true → is_space b ≡ false
letter_no_space b letter = grind (arith, nat_tests)

digit_no_space : (b : ℕ) → is_ascii_digit b ≡ true → is_space b ≡ false
digit_no_space b digit = grind (arith, nat_tests)

digit_no_letter : (b : ℕ) → is_ascii_digit b ≡ true → is_ascii_alphabetic b ≡ false
digit_no_letter b digit = grind (arith, nat_tests)

digit_no_hyphen : (b : ℕ) → is_ascii_digit b ≡ true → (b == 45) ≡ false
digit_no_hyphen b digit = grind (arith, nat_tests)

not_zero : (n : ℕ) → 0 < n → (n == 0) ≡ false
not_zero n some = grind (arith, nat_tests)

bit_is_hex : (b : ℕ) → is_bit b ≡ true → is_ascii_hexdigit b ≡ true
bit_is_hex b bit = grind (arith, nat_tests)

same_number : (n : ℕ) → (n == n) ≡ true
same_number n = grind (arith, nat_tests)

found_word : (front rest : List ℕ) → IsWord front → FoundAt Word front rest
unfolding piece_at
found_word [] rest word = let no_letter : is_ascii_alphabetic 0 ≡ true = word.letter in absurd (cc)
found_word (b ∷ bs) rest word =
    let letter : is_ascii_alphabetic b ≡ true = word.letter in
    record { found = Word; len = word_at (b ∷ (bs ++ rest)); is = rw (letter_no_space b letter, letter) refl; most = word_longest (b ∷ bs) rest word; same = λ e. refl }

found_digits : (front rest : List ℕ) → AreDigits front → FoundAt Number front rest
unfolding piece_at
found_digits [] rest digits = let some : 0 < 0 = digits.0 in absurd (omega arith)
found_digits (b ∷ bs) rest digits =
    let digit : is_ascii_digit b ≡ true = digits.1.0 in
    record {
      found = Number;
      len = run_at is_ascii_digit (b ∷ (bs ++ rest));
      is = rw (digit_no_space b digit, digit_no_letter b digit, digit) refl;
      most = run_longest is_ascii_digit (b ∷ bs) rest digits.1;
      same = λ e. refl;
    }

found_signed : (digits rest : List ℕ) → AreDigits digits → FoundAt Number (45 ∷ digits) rest
unfolding piece_at
found_signed [] rest digits = let some : 0 < 0 = digits.0 in absurd (omega arith)
found_signed (b ∷ bs) rest digits =
    let digit : is_ascii_digit b ≡ true = digits.1.0 in
    let most : length (b ∷ bs) ≤ run_at is_ascii_digit (b ∷ (bs ++ rest)) = run_longest is_ascii_digit (b ∷ bs) rest digits.1 in
    let some : (run_at is_ascii_digit (b ∷ (bs ++ rest)) == 0) ≡ false = not_zero (run_at is_ascii_digit (b ∷ (bs ++ rest))) (omega arith) in
    record {
      found = Number;
      len = suc (run_at is_ascii_digit (b ∷ (bs ++ rest)));
      is = rw (digit_no_hyphen b digit) (rw some refl);
      most = omega arith;
      same = λ e. refl;
    }

found_quoted : (front rest : List ℕ) → IsQuoted front → FoundAt Quoted front rest
unfolding piece_at
found_quoted front rest quoted =
    let again = closes_again quoted.0 rest in
    let closes : closes_at ((flat_map doubled quoted.0 ++ 34 ∷ []) ++ rest) ≡ Some again.0 = again.1 in
    let below : length (flat_map doubled quoted.0 ++ 34 ∷ []) ≤ again.0 = again.2 in
    subst (λ (f : List ℕ). FoundAt Quoted f rest) (sym quoted.1)
    (record { found = Quoted; len = suc again.0; is = go (closes_at ((flat_map doubled quoted.0 ++ 34 ∷ []) ++ rest)) again.0 closes; most = omega arith; same = λ e. refl })
  where
    go : (r : Option ℕ) (n : ℕ) → r ≡ Some n → (elim r [ Some k ↦ token Quoted (suc k) | None ↦ None ]) ≡ Some (piece Quoted (suc n))
    go r n is = rw is refl

-- behind the digits the rest closes them
bits_len : (digits : List ℕ) (letter : ℕ) → length (39 ∷ digits ++ 39 ∷ letter ∷ []) ≡ suc (suc (suc (length digits)))
bits_len digits letter = let more : length (digits ++ 39 ∷ letter ∷ []) ≡ length digits + 2 = length-append digits (39 ∷ letter ∷ []) in omega arith

all_hex : (digits : List ℕ) → AreAll is_bit digits → AreAll is_ascii_hexdigit digits
all_hex [] all = tt
all_hex (b ∷ bs) all = (bit_is_hex b all.0, all_hex bs all.1)

at_letter : (kind : TokenKind) (digits : List ℕ) (letter : ℕ) (rest : List ℕ) → AreAll is_ascii_hexdigit digits
    → closed_bits (length digits) (run_at is_bit (digits ++ (39 ∷ letter ∷ rest))) (39 ∷ letter ∷ rest) ≡ Some (piece kind (suc (suc (suc (length digits))))) → FoundAt kind (39 ∷ digits ++ 39 ∷ letter ∷ []) rest
unfolding piece_at
at_letter kind digits letter rest all closed =
    let whole : (digits ++ 39 ∷ letter ∷ []) ++ rest ≡ digits ++ (39 ∷ letter ∷ rest) = append_assoc digits (39 ∷ letter ∷ []) rest in
    let run : run_at is_ascii_hexdigit (digits ++ (39 ∷ letter ∷ rest)) ≡ length digits = run_front is_ascii_hexdigit digits (39 ∷ letter ∷ rest) all refl in
    let left : drop (length digits) (digits ++ (39 ∷ letter ∷ rest)) ≡ 39 ∷ letter ∷ rest = drop_at digits (39 ∷ letter ∷ rest) (length digits) refl in
    let lens = bits_len digits letter in
    record { found = kind; len = suc (suc (suc (length digits))); is = rw (whole, run, left) closed; most = omega arith; same = λ e. refl }

found_hex : (front rest : List ℕ) → IsBits is_ascii_hexdigit 104 72 front → FoundAt Hex front rest
found_hex front rest bits =
    subst (λ (f : List ℕ). FoundAt Hex f rest) (sym bits.2)
    (at_letter Hex bits.0 bits.1 rest bits.3
    (⊎_elim
    (λ small. subst (λ (x : ℕ). closed_bits (length bits.0) (run_at is_bit (bits.0 ++ (39 ∷ x ∷ rest))) (39 ∷ x ∷ rest) ≡ Some (piece Hex (suc (suc (suc (length bits.0)))))) (sym small) refl)
    (λ capital. subst (λ (x : ℕ). closed_bits (length bits.0) (run_at is_bit (bits.0 ++ (39 ∷ x ∷ rest))) (39 ∷ x ∷ rest) ≡ Some (piece Hex (suc (suc (suc (length bits.0)))))) (sym capital) refl)
    bits.4))

found_binary : (front rest : List ℕ) → IsBits is_bit 98 66 front → FoundAt Binary front rest
found_binary front rest bits =
    subst (λ (f : List ℕ). FoundAt Binary f rest) (sym bits.2)
    (at_letter Binary bits.0 bits.1 rest (all_hex bits.0 bits.3)
    (⊎_elim
    (λ small. subst (λ (x : ℕ). closed_bits (length bits.0) (run_at is_bit (bits.0 ++ (39 ∷ x ∷ rest))) (39 ∷ x ∷ rest) ≡ Some (piece Binary (suc (suc (suc (length bits.0)))))) (sym small) (rw (run 98, same_number (length bits.0)) refl))
    (λ capital. subst (λ (x : ℕ). closed_bits (length bits.0) (run_at is_bit (bits.0 ++ (39 ∷ x ∷ rest))) (39 ∷ x ∷ rest) ≡ Some (piece Binary (suc (suc (suc (length bits.0)))))) (sym capital) (rw (run 66, same_number (length bits.0)) refl))
    bits.4))
  where
    run : (letter : ℕ) → run_at is_bit (bits.0 ++ (39 ∷ letter ∷ rest)) ≡ length bits.0
    run letter = run_front is_bit bits.0 (39 ∷ letter ∷ rest) bits.3 refl

found_punctuation : (kind : TokenKind) (front text rest : List ℕ) → front ≡ text → piece_at (text ++ rest) ≡ Some (piece kind (length text)) → FoundAt kind front rest
found_punctuation kind front text rest is found = subst (λ (f : List ℕ). FoundAt kind f rest) (sym is) (record { found = kind; len = length text; is = found; most = omega arith; same = λ e. refl })

found_dot : (front rest : List ℕ) → front ≡ 46 ∷ [] → FoundAt Dot front rest
unfolding piece_at
found_dot front rest is = subst (λ (f : List ℕ). FoundAt Dot f rest) (sym is) (go (get_or rest 0 0 == 46) refl)
  where
    go : (t : Bool) → (get_or rest 0 0 == 46) ≡ t → FoundAt Dot (46 ∷ []) rest
    go true second = record { found = Range; len = 2; is = rw second refl; most = omega arith; same = λ (e : 1 ≡ 2). absurd (omega arith) }
    go false second = record { found = Dot; len = 1; is = rw second refl; most = omega arith; same = λ e. refl }

pub found_at : (kind : TokenKind) (front rest : List ℕ) → IsSpelled kind front → FoundAt kind front rest
unfolding piece_at
found_at Word front rest is = found_word front rest is
found_at Number front rest is = ⊎_elim (λ digits. found_digits front rest digits) (λ signed. subst (λ (f : List ℕ). FoundAt Number f rest) (sym signed.1) (found_signed signed.0 rest signed.2)) is
found_at Quoted front rest is = found_quoted front rest is
found_at Hex front rest is = found_hex front rest is
found_at Binary front rest is = found_binary front rest is
found_at Assign front rest is = found_punctuation Assign front (58 ∷ 58 ∷ 61 ∷ []) rest is refl
found_at Range front rest is = found_punctuation Range front (46 ∷ 46 ∷ []) rest is refl
found_at LeftBrace front rest is = found_punctuation LeftBrace front (123 ∷ []) rest is refl
found_at RightBrace front rest is = found_punctuation RightBrace front (125 ∷ []) rest is refl
found_at LeftParen front rest is = found_punctuation LeftParen front (40 ∷ []) rest is refl
found_at RightParen front rest is = found_punctuation RightParen front (41 ∷ []) rest is refl
found_at LeftBracket front rest is = found_punctuation LeftBracket front (91 ∷ []) rest is refl
found_at RightBracket front rest is = found_punctuation RightBracket front (93 ∷ []) rest is refl
found_at Comma front rest is = found_punctuation Comma front (44 ∷ []) rest is refl
found_at Semicolon front rest is = found_punctuation Semicolon front (59 ∷ []) rest is refl
found_at Dot front rest is = found_dot front rest is
found_at Bar front rest is = found_punctuation Bar front (124 ∷ []) rest is refl

found_space : (b : ℕ) (rest : List ℕ) → is_space b ≡ true → piece_at (b ∷ rest) ≡ Some (nothing 1)
unfolding piece_at
found_space b rest is = rw is refl

found_comment : (comment rest : List ℕ) → IsComment comment rest → piece_at (comment ++ rest) ≡ Some (nothing (length comment))
unfolding piece_at
found_comment comment rest is = subst (λ (c : List ℕ). piece_at (c ++ rest) ≡ Some (nothing (length c))) (sym is.whole) (go is.opening is.opens.0 is.opens.1)
  where
    at_hyphens : (more : List ℕ) → AreAll is_hyphen more → piece_at ((45 ∷ 45 ∷ more ++ (is.remark ++ is.closing)) ++ rest) ≡ Some (nothing (length (45 ∷ 45 ∷ more ++ (is.remark ++ is.closing))))
    at_hyphens more all =
        let assoc : (more ++ (is.remark ++ is.closing)) ++ rest ≡ more ++ (is.remark ++ (is.closing ++ rest)) = append_assoc more (is.remark ++ is.closing) rest ∙ ap (λ (l : List ℕ). more ++ l) (append_assoc is.remark is.closing rest) in
        let len : comment_at (45 ∷ more ++ (is.remark ++ (is.closing ++ rest))) ≡ length (45 ∷ more) + (length is.remark + length is.closing) =
        comment_again (45 ∷ more) is.remark is.closing rest (refl, all) is.says is.follows is.closes in
        let lens : length (more ++ (is.remark ++ is.closing)) ≡ length more + (length is.remark + length is.closing) =
        length-append more (is.remark ++ is.closing) ∙ ap (λ n. length more + n) (length-append is.remark is.closing) in
        let total : suc (comment_at (45 ∷ more ++ (is.remark ++ (is.closing ++ rest)))) ≡ suc (suc (length (more ++ (is.remark ++ is.closing)))) = omega arith in
        rw assoc (ap (λ n. Some (nothing n)) total)

    go : (opening : List ℕ) → 2 ≤ length opening → AreAll is_hyphen opening → piece_at ((opening ++ (is.remark ++ is.closing)) ++ rest) ≡ Some (nothing (length (opening ++ (is.remark ++ is.closing))))
    go [] some all = absurd (omega arith)
    go (a ∷ []) some all = absurd (omega arith)
    go (a ∷ b ∷ more) some all =
        let first : a ≡ 45 = eqb-true a 45 all.0 in
        let second : b ≡ 45 = eqb-true b 45 all.1.0 in
        subst (λ (x : ℕ). piece_at ((x ∷ b ∷ more ++ (is.remark ++ is.closing)) ++ rest) ≡ Some (nothing (length (x ∷ b ∷ more ++ (is.remark ++ is.closing))))) (sym first)
        (subst (λ (x : ℕ). piece_at ((45 ∷ x ∷ more ++ (is.remark ++ is.closing)) ++ rest) ≡ Some (nothing (length (45 ∷ x ∷ more ++ (is.remark ++ is.closing))))) (sym second) (at_hyphens more all.1.1))

pub passed_at : (n : ℕ) (text : List ℕ) → IsPassed n text → piece_at text ≡ Some (nothing n)
passed_at n text is =
    let whole : take n text ++ drop n text ≡ text = take-append-drop n text in
    let len : length (take n text) ≡ n = length-take-le n text is.0 in
    ⊎_elim
    (λ (space : (b : ℕ) × (take n text ≡ b ∷ []) × IsTrue (is_space b)).
    let one : length (take n text) ≡ 1 = ap (λ (l : List ℕ). length l) space.1 in
    let n_is : 1 ≡ n = omega arith in
    let split : space.0 ∷ drop n text ≡ text = ap (λ (l : List ℕ). l ++ drop n text) (sym space.1) ∙ whole in
    subst (λ (t : List ℕ). piece_at t ≡ Some (nothing n)) split (subst (λ k. piece_at (space.0 ∷ drop n text) ≡ Some (nothing k)) n_is (found_space space.0 (drop n text) space.2)))
    (λ comment.
    subst (λ (t : List ℕ). piece_at t ≡ Some (nothing n)) whole (subst (λ k. piece_at (take n text ++ drop n text) ≡ Some (nothing k)) len (found_comment (take n text) (drop n text) comment)))
    is.1
