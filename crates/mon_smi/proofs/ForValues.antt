-- Readers of one after the other, and of values.
use Rattle.std.proofs.Common.{◌≡◌, ℕ, zero, suc, ◌+◌, ◌-◌, ◌*◌, ◌<◌, ◌≤◌, ◌^◌, Bool, true, false, cond, List, [], ◌∷◌, ◌++◌, length, take, drop, Option, Some, None, Ok, Err, sym, refl, ap, ◌∙◌, subst, arith, append_assoc, append-nil, length-append, length-take-le, take-append-drop, ◌⊎◌, ⊎_elim, inl, inr}
use Rattle.std.specs.Prelude.{nat_lt, nat_le}
use Rattle.std.specs.List.{flat_map}
use Rattle.std.specs.Char.{is_ascii_digit}
use Rattle.std.proofs.lemmas.Bool.Decides.{nat_tests}
use Rattle.std.proofs.lemmas.List.{drop_at}
use Rattle.mon_smi.specs.declared.read_fault.ReadFault.{ReadFault}
use Rattle.mon_smi.specs.declared.read_fault.ReadFault.TheVariants.{OutOfMemory, BrokenOff}
use Rattle.mon_smi.specs.declared.kind.TokenKind.{TokenKind}
use Rattle.mon_smi.specs.declared.kind.TokenKind.TheVariants.{LeftBrace, RightBrace, LeftParen, RightParen}
use Rattle.mon_smi.specs.Tokens.{AreAll}
use Rattle.mon_smi.specs.Lexemes.{Lexeme, word, number, punctuation}
use Rattle.mon_oid.specs.Steps.{◌>>=◌}
use Rattle.mon_smi.specs.Reading.{Read, Fails, or_left, punctuation_at, begins, many, with_front, number_from, number_of, sub_at, in_parens_at, component_at, parent_at, enough, single, numbers_at, value_at}
use Rattle.mon_smi.specs.Grammar.{Are, spelled_from, IsSub, IsComponent, AreParts, IsValue}
use Rattle.mon_smi.proofs.ForRules.{bind_ok, ok_is, wanted, chosen, punctuation_takes, Any}

-- a fault passed on
pub passed_on : {Y Z : Type 0} (e : ReadFault) (r : Read Y) (q : Read Z) → ((rest : List Lexeme) → r ≡ Err rest → q ≡ Err rest) → Fails e r → Fails e q
passed_on OutOfMemory r q none fault = tt
passed_on (BrokenOff rest) r q none fault = none rest.now fault

abbrev pub ok_pair : {A B : Type 0} → A → B → Read (A × B)
ok_pair a b = Ok (a, b)

pub pair_parts : {A B : Type 0} (a c : A) (b d : B) → ok_pair a b ≡ ok_pair c d → (a ≡ c) × (b ≡ d)
pair_parts {A = A} {B = B} a c b d is =
    let p : A × B = (a, b) in
    let q : A × B = (c, d) in
    let same : p ≡ q = ok_is p q is in
    (ap (λ (x : A × B). x.0) same, ap (λ (x : A × B). x.1) same)

abbrev pub TakesOne : {X : Type 0} → (List Lexeme → X → Type 0) → (List Lexeme → Read (X × List Lexeme)) → Type 0
TakesOne {X} Is read = (ls : List Lexeme) (x : X) (rest : List Lexeme) → read ls ≡ Ok (x, rest) → (text : List Lexeme) × Is text x × (ls ≡ text ++ rest)

abbrev pub err_of : {A : Type 0} → List Lexeme → Read A
err_of left = Err left

err_is : {A : Type 0} (x y : List Lexeme) → err_of {A = A} x ≡ Err y → x ≡ y
err_is x y is = cc

pub suffix : (ls front back : List Lexeme) → ls ≡ front ++ back → drop (length ls - length back) ls ≡ back
suffix ls front back is =
    let lens : length ls ≡ length front + length back = ap (λ (l : List Lexeme). length l) is ∙ length-append front back in
    let at : length front ≡ length ls - length back = omega arith in
    ap (λ (l : List Lexeme). drop (length ls - length back) l) is ∙ drop_at front back (length ls - length back) at

module _ {X A : Type 0} (read : List Lexeme → Read (X × List Lexeme)) (emit : X → List A) (stop : List Lexeme → Bool) where
  many_stop : (room : ℕ) (ls : List Lexeme) → stop ls ≡ true → many read emit stop room ls ≡ Ok ([], ls)
  unfolding many
  many_stop zero ls is = rw is refl
  many_stop (suc room) ls is = rw is refl

  many_more : (room : ℕ) (ls : List Lexeme) → stop ls ≡ false → many read emit stop (suc room) ls ≡ (read ls >>= λ x. many read emit stop room x.1 >>= λ ys. Ok (emit x.0 ++ ys.0, ys.1))
  unfolding many
  many_more room ls is = rw is refl

  many_none : (ls : List Lexeme) → stop ls ≡ false → many read emit stop zero ls ≡ Err ls
  unfolding many
  many_none ls is = rw is refl

  regroup : (front : List A) (x : X) (r : Read (List A × List Lexeme)) → with_front front (r >>= λ ys. Ok (emit x ++ ys.0, ys.1)) ≡ with_front (front ++ emit x) r
  regroup front x (Ok ys) = ap (λ (l : List A). Ok (l, ys.1)) (sym (append_assoc front (emit x) ys.0))
  regroup front x (Err left) = refl

  -- how far reading has come: these are emitted, and this many tokens are left
  pub record IsBehind (ls : List Lexeme) (front : List A) (left : ℕ) : Type 0 where
    pub room : ℕ
    pub fits : left ≤ room
    pub within : left ≤ length ls
    pub so_far : with_front front (many read emit stop room (drop (length ls - left) ls)) ≡ many read emit stop (length ls) ls

  pub behind_start : (ls : List Lexeme) → IsBehind ls [] (length ls)
  behind_start ls =
      let none : length ls - length ls ≡ 0 = omega arith in
      record {
        room = length ls;
        fits = omega arith;
        within = omega arith;
        so_far = ap (λ n. with_front [] (many read emit stop (length ls) (drop n ls))) none ∙ plain (many read emit stop (length ls) ls);
      }
    where
      plain : (r : Read (List A × List Lexeme)) → with_front [] r ≡ r
      plain (Err left) = refl
      plain (Ok x) = refl

  pub behind_next : (Is : List Lexeme → X → Type 0) → TakesOne Is read → ((text : List Lexeme) (x : X) → Is text x → 0 < length text)
      → (ls : List Lexeme) (front more : List A) (left : ℕ) (x : X) (after : List Lexeme) → IsBehind ls front left → stop (drop (length ls - left) ls) ≡ false
      → read (drop (length ls - left) ls) ≡ Ok (x, after) → more ≡ front ++ emit x → IsBehind ls more (length after) × (length after < left)
  behind_next Is takes some ls front more left x after so goes found is =
      let rest = drop (length ls - left) ls in
      let t = takes rest x after found in
      let text_some : 0 < length t.0 = some t.0 x t.1 in
      let whole : ls ≡ (take (length ls - left) ls ++ t.0) ++ after = sym (take-append-drop (length ls - left) ls) ∙ ap (λ (l : List Lexeme). take (length ls - left) ls ++ l) t.2 ∙ sym (append_assoc (take (length ls - left) ls) t.0 after) in
      let place : drop (length ls - length after) ls ≡ after = suffix ls (take (length ls - left) ls ++ t.0) after whole in
      let lens : length ls ≡ (length (take (length ls - left) ls) + length t.0) + length after = ap (λ (l : List Lexeme). length l) whole ∙ length-append (take (length ls - left) ls ++ t.0) after ∙ ap (λ n. n + length after) (length-append (take (length ls - left) ls) t.0) in
      let rest_len : length rest ≡ length t.0 + length after = ap (λ (l : List Lexeme). length l) t.2 ∙ length-append t.0 after in
      let left_len : length rest ≡ left = dropped ls left so.within in
      let fits = so.fits in
      let room_is : so.room ≡ suc (so.room - 1) = omega arith in
      let one : with_front front (many read emit stop so.room rest) ≡ with_front (front ++ emit x) (many read emit stop (so.room - 1) after) =
      ap (λ n. with_front front (many read emit stop n rest)) room_is ∙ ap (λ r. with_front front r) (many_more (so.room - 1) rest goes)
      ∙ ap (λ (r : Read (X × List Lexeme)). with_front front (r >>= λ y. many read emit stop (so.room - 1) y.1 >>= λ ys. Ok (emit y.0 ++ ys.0, ys.1))) found
      ∙ regroup front x (many read emit stop (so.room - 1) after) in (
        record {
          room = so.room - 1;
          fits = omega arith;
          within = omega arith;
          so_far = ap (λ (l : List Lexeme). with_front more (many read emit stop (so.room - 1) l)) place ∙ ap (λ (f : List A). with_front f (many read emit stop (so.room - 1) after)) is ∙ sym one ∙ so.so_far;
        },
        omega arith,
      )
    where
      dropped : (l : List Lexeme) (n : ℕ) → n ≤ length l → length (drop (length l - n) l) ≡ n
      dropped l n le =
          let split : length (take (length l - n) l) + length (drop (length l - n) l) ≡ length l = sym (length-append (take (length l - n) l) (drop (length l - n) l)) ∙ ap (λ (k : List Lexeme). length k) (take-append-drop (length l - n) l) in
          let front_len : length (take (length l - n) l) ≡ length l - n = length-take-le (length l - n) l (omega arith) in
          omega arith

  pub behind_done : (ls : List Lexeme) (front : List A) (left : ℕ) → IsBehind ls front left → stop (drop (length ls - left) ls) ≡ true → many read emit stop (length ls) ls ≡ Ok (front, drop (length ls - left) ls)
  behind_done ls front left so stops =
      sym so.so_far ∙ ap (λ (r : Read (List A × List Lexeme)). with_front front r) (many_stop so.room (drop (length ls - left) ls) stops) ∙ ap (λ (f : List A). Ok (f, drop (length ls - left) ls)) (append-nil front)

  pub behind_failed : (ls : List Lexeme) (front : List A) (left : ℕ) (rest : List Lexeme) → read [] ≡ Err [] → IsBehind ls front left → stop (drop (length ls - left) ls) ≡ false → read (drop (length ls - left) ls) ≡ Err rest → many read emit stop (length ls) ls ≡ Err rest
  behind_failed ls front left rest empty so goes failed = sym so.so_far ∙ ap (λ (r : Read (List A × List Lexeme)). with_front front r) (fails so.room so.fits)
    where
      dropped_all : (l : List Lexeme) → drop (length l) l ≡ []
      dropped_all [] = refl
      dropped_all (x ∷ l) = dropped_all l

      same_left : (l : List Lexeme) → read l ≡ Err rest → l ≡ [] → rest ≡ l
      same_left l is nil =
          let there : read [] ≡ Err rest = subst (λ (k : List Lexeme). read k ≡ Err rest) nil is in
          (let both : err_of {A = X × List Lexeme} rest ≡ Err [] = sym there ∙ empty in err_is rest [] both) ∙ sym nil

      fails : (room : ℕ) → left ≤ room → many read emit stop room (drop (length ls - left) ls) ≡ Err rest
      fails zero fits =
          let all : length ls - left ≡ length ls = omega arith in
          let nil : drop (length ls - left) ls ≡ [] = ap (λ n. drop n ls) all ∙ dropped_all ls in
          many_none (drop (length ls - left) ls) goes ∙ ap (λ (l : List Lexeme). err_of {A = List A × List Lexeme} l) (sym (same_left (drop (length ls - left) ls) failed nil))
      fails (suc room) fits = many_more room (drop (length ls - left) ls) goes ∙ ap (λ (r : Read (X × List Lexeme)). r >>= λ y. many read emit stop room y.1 >>= λ ys. Ok (emit y.0 ++ ys.0, ys.1)) failed

  pub many_takes : (Is : List Lexeme → X → Type 0) → TakesOne Is read → (room : ℕ) (ls : List Lexeme) (ys : List A) (rest : List Lexeme) → many read emit stop room ls ≡ Ok (ys, rest)
      → (text : List Lexeme) × (xs : List X) × Are Is text xs × (ys ≡ flat_map emit xs) × (ls ≡ text ++ rest) × (stop rest ≡ true)
  unfolding many
  many_takes Is takes zero ls ys rest is =
      let w = wanted (stop ls) (Ok ([], ls)) ls (ys, rest) is in
      let p = pair_parts [] ys ls rest w.1 in
      ([], [], refl, sym p.0, p.1, subst (λ (l : List Lexeme). stop l ≡ true) p.1 w.0)
  many_takes Is takes (suc room) ls ys rest is =
      ⊎_elim
      (λ (last : (stop ls ≡ true) × (Ok ([], ls) ≡ Ok (ys, rest))).
      let p = pair_parts [] ys ls rest last.1 in
      ([], [], refl, sym p.0, p.1, subst (λ (l : List Lexeme). stop l ≡ true) p.1 last.0))
      (λ (more : (stop ls ≡ false) × ((read ls >>= λ x. many read emit stop room x.1 >>= λ zs. Ok (emit x.0 ++ zs.0, zs.1)) ≡ Ok (ys, rest))).
      let x = bind_ok (read ls) (λ y. many read emit stop room y.1 >>= λ zs. Ok (emit y.0 ++ zs.0, zs.1)) (ys, rest) more.1 in
      let y = bind_ok (many read emit stop room x.0.1) (λ zs. Ok (emit x.0.0 ++ zs.0, zs.1)) (ys, rest) x.2 in
      let p = pair_parts (emit x.0.0 ++ y.0.0) ys y.0.1 rest y.2 in
      let t = takes ls x.0.0 x.0.1 x.1 in
      let others = many_takes Is takes room x.0.1 y.0.0 y.0.1 y.1 in (
        t.0 ++ others.0,
        x.0.0 ∷ others.1,
        (t.0, others.0, refl, t.1, others.2),
        sym p.0 ∙ ap (λ (l : List A). emit x.0.0 ++ l) others.3,
        t.2 ∙ ap (λ (l : List Lexeme). t.0 ++ l) (others.4 ∙ ap (λ (l : List Lexeme). others.0 ++ l) p.1) ∙ sym (append_assoc t.0 others.0 rest),
        subst (λ (l : List Lexeme). stop l ≡ true) p.1 others.5,
      ))
      (chosen (stop ls) (Ok ([], ls)) (read ls >>= λ x. many read emit stop room x.1 >>= λ zs. Ok (emit x.0 ++ zs.0, zs.1)) (ys, rest) is)

  pub many_again : (Is : List Lexeme → X → Type 0) (F : List Lexeme → Type 0)
      → ((text : List Lexeme) (x : X) (rest : List Lexeme) → Is text x → F rest → read (text ++ rest) ≡ Ok (x, rest))
      → ((text : List Lexeme) (x : X) (rest : List Lexeme) → Is text x → F rest → F (text ++ rest))
      → ((text : List Lexeme) (x : X) → Is text x → 0 < length text)
      → ((text : List Lexeme) (x : X) (rest : List Lexeme) → Is text x → F rest → stop (text ++ rest) ≡ false)
      → (room : ℕ) (text : List Lexeme) (xs : List X) (rest : List Lexeme) → Are Is text xs → F rest → stop rest ≡ true → length text ≤ room → many read emit stop room (text ++ rest) ≡ Ok (flat_map emit xs, rest)
  many_again Is F again leads some goes room text [] rest are follows stops fits =
      ap (λ (l : List Lexeme). many read emit stop room (l ++ rest)) are ∙ many_stop room rest stops
  many_again Is F again leads some goes zero text (x ∷ xs) rest are follows stops fits =
      let text_some : 0 < length are.0 = some are.0 x are.3 in
      let lens : length text ≡ length are.0 + length are.1 = ap (λ (l : List Lexeme). length l) are.2 ∙ length-append are.0 are.1 in
      absurd (omega arith)
  many_again Is F again leads some goes (suc room) text (x ∷ xs) rest are follows stops fits =
      let text_some : 0 < length are.0 = some are.0 x are.3 in
      let lens : length text ≡ length are.0 + length are.1 = ap (λ (l : List Lexeme). length l) are.2 ∙ length-append are.0 are.1 in
      let others : many read emit stop room (are.1 ++ rest) ≡ Ok (flat_map emit xs, rest) = many_again Is F again leads some goes room are.1 xs rest are.4 follows stops (omega arith) in
      let behind_ok : F (are.1 ++ rest) = follow_all are.1 xs are.4 in
      let whole : text ++ rest ≡ are.0 ++ (are.1 ++ rest) = ap (λ (l : List Lexeme). l ++ rest) are.2 ∙ append_assoc are.0 are.1 rest in
      ap (λ (l : List Lexeme). many read emit stop (suc room) l) whole ∙ many_more room (are.0 ++ (are.1 ++ rest)) (goes are.0 x (are.1 ++ rest) are.3 behind_ok)
      ∙ ap (λ (r : Read (X × List Lexeme)). r >>= λ y. many read emit stop room y.1 >>= λ ys. Ok (emit y.0 ++ ys.0, ys.1)) (again are.0 x (are.1 ++ rest) are.3 behind_ok)
      ∙ ap (λ (r : Read (List A × List Lexeme)). r >>= λ ys. Ok (emit x ++ ys.0, ys.1)) others
    where
      follow_all : (back : List Lexeme) (zs : List X) → Are Is back zs → F (back ++ rest)
      follow_all back [] is = subst (λ (l : List Lexeme). F (l ++ rest)) (sym is) follows
      follow_all back (z ∷ zs) is = subst (λ (l : List Lexeme). F l) (sym (ap (λ (l : List Lexeme). l ++ rest) is.2 ∙ append_assoc is.0 is.1 rest)) (leads is.0 z (is.1 ++ rest) is.3 (follow_all is.1 zs is.4))

-- ---- numbers

some_is : {A : Type 0} (x y : A) → Some x ≡ Some y → x ≡ y
some_is x y is = cc

abbrev pub some_pair : {A B : Type 0} → A → B → Option (A × B)
some_pair a b = Some (a, b)

pub some_parts : {A B : Type 0} (a c : A) (b d : B) → some_pair a b ≡ some_pair c d → (a ≡ c) × (b ≡ d)
some_parts {A = A} {B = B} a c b d is =
    let p : A × B = (a, b) in
    let q : A × B = (c, d) in
    let same : p ≡ q = some_is p q is in
    (ap (λ (x : A × B). x.0) same, ap (λ (x : A × B). x.1) same)

-- a test that must have been true
had : {A : Type 0} (t : Bool) (x : Option A) (y : A) → cond t x None ≡ Some y → (t ≡ true) × (x ≡ Some y)
had true x y is = (refl, is)
had false x y is = absurd (cc)

pub from_left : {A : Type 0} (ls : List Lexeme) (o : Option A) (x : A) → or_left ls o ≡ Ok x → o ≡ Some x
from_left ls None x is = absurd (cc)
from_left ls (Some y) x is = ap (λ z. Some z) (ok_is y x is)

below_is : (a b : ℕ) → nat_lt a b ≡ true → a < b
below_is a b is = grind (arith, nat_tests)

below_again : (a b : ℕ) → a < b → nat_lt a b ≡ true
below_again a b is = grind (arith, nat_tests)

number_takes : (n : ℕ) (bs : List ℕ) (m : ℕ) → n < 2 ^ 32 → number_from n bs ≡ Some m → AreAll is_ascii_digit bs × (m ≡ spelled_from n bs) × (m < 2 ^ 32)
number_takes n [] m below is = let same : n ≡ m = some_is n m is in (tt, sym same, omega arith)
number_takes n (b ∷ bs) m below is =
    let w = had (is_ascii_digit b) (cond (nat_lt (10 * n + (b - 48)) (2 ^ 32)) (number_from (10 * n + (b - 48)) bs) None) m is in
    let v = had (nat_lt (10 * n + (b - 48)) (2 ^ 32)) (number_from (10 * n + (b - 48)) bs) m w.1 in
    let more = number_takes (10 * n + (b - 48)) bs m (below_is (10 * n + (b - 48)) (2 ^ 32) v.0) v.1 in
    ((w.0, more.0), more.1, more.2)

spelled_more : (n : ℕ) (bs : List ℕ) → n ≤ spelled_from n bs
spelled_more n [] = omega arith
spelled_more n (b ∷ bs) = let more : 10 * n + (b - 48) ≤ spelled_from (10 * n + (b - 48)) bs = spelled_more (10 * n + (b - 48)) bs in omega arith

number_again : (n : ℕ) (bs : List ℕ) → AreAll is_ascii_digit bs → spelled_from n bs < 2 ^ 32 → number_from n bs ≡ Some (spelled_from n bs)
number_again n [] all below = refl
number_again n (b ∷ bs) all below =
    let more : 10 * n + (b - 48) ≤ spelled_from (10 * n + (b - 48)) bs = spelled_more (10 * n + (b - 48)) bs in
    let fits : nat_lt (10 * n + (b - 48)) (2 ^ 32) ≡ true = below_again (10 * n + (b - 48)) (2 ^ 32) (omega arith) in
    rw (all.0, fits) (number_again (10 * n + (b - 48)) bs all.1 below)

sub_is : (digits : List ℕ) (n : ℕ) → number_of digits ≡ Some n → IsSub digits n
sub_is [] n is = absurd (cc)
sub_is (b ∷ bs) n is = let t = number_takes 0 (b ∷ bs) n (omega arith) is in ((omega arith, t.0), t.1, t.2)

sub_back : (digits : List ℕ) (n : ℕ) → IsSub digits n → number_of digits ≡ Some n
sub_back [] n is = let some : 0 < 0 = is.0.0 in absurd (omega arith)
sub_back (b ∷ bs) n is =
    let below : n < 2 ^ 32 = is.2 in
    let same : n ≡ spelled_from 0 (b ∷ bs) = is.1 in
    number_again 0 (b ∷ bs) is.0.1 (omega arith) ∙ ap (λ k. Some k) (sym same)

sub_takes : (ls : List Lexeme) (n : ℕ) (rest : List Lexeme) → sub_at ls ≡ Ok (n, rest) → (digits : List ℕ) × IsSub digits n × (ls ≡ number digits ∷ rest)
unfolding sub_at
sub_takes [] n rest is = absurd (cc)
sub_takes (word w ∷ ls) n rest is = absurd (cc)
sub_takes (punctuation k ∷ ls) n rest is = absurd (cc)
sub_takes (number d ∷ ls) n rest is =
    let x = bind_ok (or_left (number d ∷ ls) (number_of d)) (λ m. Ok (m, ls)) (n, rest) is in
    let p = pair_parts x.0 n ls rest x.2 in
    (d, sub_is d n (from_left (number d ∷ ls) (number_of d) x.0 x.1 ∙ ap (λ k. Some k) p.0), ap (λ (l : List Lexeme). number d ∷ l) p.1)

sub_again : (digits : List ℕ) (n : ℕ) (rest : List Lexeme) → IsSub digits n → sub_at (number digits ∷ rest) ≡ Ok (n, rest)
unfolding sub_at
sub_again digits n rest is = rw (sub_back digits n is) refl

parens_takes : (ls : List Lexeme) (n : ℕ) (rest : List Lexeme) → in_parens_at ls ≡ Ok (n, rest) → (digits : List ℕ) × IsSub digits n × (ls ≡ punctuation LeftParen ∷ number digits ∷ punctuation RightParen ∷ rest)
unfolding in_parens_at
parens_takes ls n rest is =
    let x = bind_ok (punctuation_at LeftParen ls) (λ inner. sub_at inner >>= λ m. punctuation_at RightParen m.1 >>= λ r. Ok (m.0, r)) (n, rest) is in
    let y = bind_ok (sub_at x.0) (λ m. punctuation_at RightParen m.1 >>= λ r. Ok (m.0, r)) (n, rest) x.2 in
    let z = bind_ok (punctuation_at RightParen y.0.1) (λ r. Ok (y.0.0, r)) (n, rest) y.2 in
    let p = pair_parts y.0.0 n z.0 rest z.2 in
    let first = punctuation_takes LeftParen ls x.0 x.1 in
    let middle = sub_takes x.0 y.0.0 y.0.1 y.1 in
    let last = punctuation_takes RightParen y.0.1 z.0 z.1 in (
      middle.0,
      subst (λ k. IsSub middle.0 k) p.0 middle.1,
      first.2 ∙ ap (λ (l : List Lexeme). l ++ x.0) first.1 ∙ ap (λ (l : List Lexeme). punctuation LeftParen ∷ l) (middle.2 ∙ ap (λ (l : List Lexeme). number middle.0 ∷ l) (last.2 ∙ ap (λ (l : List Lexeme). l ++ z.0) last.1 ∙ ap (λ (l : List Lexeme). punctuation RightParen ∷ l) p.1)),
    )

pub component_takes : TakesOne IsComponent component_at
unfolding component_at sub_at
component_takes [] n rest is = absurd (cc)
component_takes (word w ∷ ls) n rest is =
    let t = parens_takes ls n rest is in
    (word w ∷ punctuation LeftParen ∷ number t.0 ∷ punctuation RightParen ∷ [], (t.0, t.1, inr (w, refl)), ap (λ (l : List Lexeme). word w ∷ l) t.2)
component_takes (number d ∷ ls) n rest is = let t = sub_takes (number d ∷ ls) n rest is in (number t.0 ∷ [], (t.0, t.1, inl refl), t.2)
component_takes (punctuation k ∷ ls) n rest is = absurd (cc)

pub component_again : (text : List Lexeme) (n : ℕ) (rest : List Lexeme) → IsComponent text n → Any rest → component_at (text ++ rest) ≡ Ok (n, rest)
unfolding component_at in_parens_at
component_again text n rest is follows =
    ⊎_elim
    (λ plain. subst (λ (t : List Lexeme). component_at (t ++ rest) ≡ Ok (n, rest)) (sym plain) (sub_again is.0 n rest is.1))
    (λ named. subst (λ (t : List Lexeme). component_at (t ++ rest) ≡ Ok (n, rest)) (sym named.1) (rw (sub_again is.0 n (punctuation RightParen ∷ rest) is.1) refl))
    is.2

pub component_some : (text : List Lexeme) (n : ℕ) → IsComponent text n → 0 < length text
component_some text n is =
    ⊎_elim (λ plain. let len : length text ≡ 1 = ap (λ (l : List Lexeme). length l) plain in omega arith)
    (λ named. let len : length text ≡ 4 = ap (λ (l : List Lexeme). length l) named.1 in omega arith)
    is.2

-- a component begins with a number or a word
component_begins : (k : TokenKind) (text : List Lexeme) (n : ℕ) (rest : List Lexeme) → IsComponent text n → begins k (text ++ rest) ≡ false
component_begins k text n rest is =
    ⊎_elim (λ plain. ap (λ (t : List Lexeme). begins k (t ++ rest)) plain) (λ named. ap (λ (t : List Lexeme). begins k (t ++ rest)) named.1) is.2

all_single : (xs : List ℕ) → flat_map single xs ≡ xs
all_single [] = refl
all_single (x ∷ xs) = ap (λ (l : List ℕ). x ∷ l) (all_single xs)

numbers_takes : (ls : List Lexeme) (ns : List ℕ) (rest : List Lexeme) → numbers_at ls ≡ Ok (ns, rest) → (text : List Lexeme) × Are IsComponent text ns × (ls ≡ text ++ rest)
unfolding numbers_at
numbers_takes ls ns rest is =
    let t = many_takes component_at single (begins RightBrace) IsComponent component_takes (length ls) ls ns rest is in
    (t.0, subst (λ (l : List ℕ). Are IsComponent t.0 l) (sym (t.3 ∙ all_single t.1)) t.2, t.4)

numbers_again : (text : List Lexeme) (ns : List ℕ) (rest : List Lexeme) → Are IsComponent text ns → begins RightBrace rest ≡ true → numbers_at (text ++ rest) ≡ Ok (ns, rest)
unfolding numbers_at
numbers_again text ns rest are stops =
    let lens : length (text ++ rest) ≡ length text + length rest = length-append text rest in
    many_again component_at single (begins RightBrace) IsComponent Any component_again (λ t x r i f. tt) component_some (λ t x r i f. component_begins RightBrace t x r i) (length (text ++ rest)) text ns rest are tt stops (omega arith)
    ∙ ap (λ (l : List ℕ). Ok (l, rest)) (all_single ns)

-- ---- values

abbrev Splits : List Lexeme → Option (List ℕ) × List Lexeme → Type 0
Splits inner p = ((p.0 ≡ None) × (p.1 ≡ inner)) ⊎ ((w : List ℕ) × (p.0 ≡ Some w) × (inner ≡ word w ∷ p.1))

parent_split : (inner : List Lexeme) → Splits inner (parent_at inner)
parent_split [] = inl (refl, refl)
parent_split (number d ∷ ls) = inl (refl, refl)
parent_split (punctuation k ∷ ls) = inl (refl, refl)
parent_split (word w ∷ ls) = go (begins LeftParen ls)
  where
    go : (t : Bool) → Splits (word w ∷ ls) (cond t (None, word w ∷ ls) (Some w, ls))
    go true = inl (refl, refl)
    go false = inr (w, refl, refl)

at_least : (m n : ℕ) → nat_le m n ≡ true → m ≤ n
at_least m n is = grind (arith, nat_tests)

at_least_again : (m n : ℕ) → m ≤ n → nat_le m n ≡ true
at_least_again m n is = grind (arith, nat_tests)

are_parts : (inner : List Lexeme) (p : Option (List ℕ) × List Lexeme) (ns : List ℕ) (text rest : List Lexeme) → Splits inner p → enough p.0 ns ≡ true → Are IsComponent text ns → p.1 ≡ text ++ rest → (front : List Lexeme) × AreParts p.0 front ns × (inner ≡ front ++ rest)
are_parts inner p ns text rest splits many_enough are is =
    ⊎_elim
    (λ none. (text, subst (λ (o : Option (List ℕ)). AreParts o text ns) (sym none.0) (at_least 2 (length ns) (subst (λ (o : Option (List ℕ)). enough o ns ≡ true) none.0 many_enough), are), sym none.1 ∙ is))
    (λ some. (word some.0 ∷ text, subst (λ (o : Option (List ℕ)). AreParts o (word some.0 ∷ text) ns) (sym some.1) (text, refl, at_least 1 (length ns) (subst (λ (o : Option (List ℕ)). enough o ns ≡ true) some.1 many_enough), are), some.2 ∙ ap (λ (l : List Lexeme). word some.0 ∷ l) is))
    splits

abbrev pub IsValueOf : List Lexeme → Option (List ℕ) × List ℕ → Type 0
IsValueOf ls v = IsValue v.0 v.1 ls

pub value_takes : TakesOne IsValueOf value_at
unfolding value_at
value_takes ls v rest is =
    let x = bind_ok (punctuation_at LeftBrace ls) (λ inner. numbers_at (parent_at inner).1 >>= λ ns. cond (enough (parent_at inner).0 ns.0) (punctuation_at RightBrace ns.1 >>= λ r. Ok (((parent_at inner).0, ns.0), r)) (Err ns.1)) (v, rest) is in
    let inner = x.0 in
    let p = parent_at inner in
    let y = bind_ok (numbers_at p.1) (λ ns. cond (enough p.0 ns.0) (punctuation_at RightBrace ns.1 >>= λ r. Ok ((p.0, ns.0), r)) (Err ns.1)) (v, rest) x.2 in
    let w = wanted (enough p.0 y.0.0) (punctuation_at RightBrace y.0.1 >>= λ r. Ok ((p.0, y.0.0), r)) y.0.1 (v, rest) y.2 in
    let z = bind_ok (punctuation_at RightBrace y.0.1) (λ r. Ok ((p.0, y.0.0), r)) (v, rest) w.1 in
    let same = pair_parts (p.0, y.0.0) v z.0 rest z.2 in
    let first = punctuation_takes LeftBrace ls inner x.1 in
    let numbers = numbers_takes p.1 y.0.0 y.0.1 y.1 in
    let last = punctuation_takes RightBrace y.0.1 z.0 z.1 in
    let parts = are_parts inner p y.0.0 numbers.0 y.0.1 (parent_split inner) w.0 numbers.1 numbers.2 in
    let end : y.0.1 ≡ punctuation RightBrace ∷ rest = last.2 ∙ ap (λ (l : List Lexeme). l ++ z.0) last.1 ∙ ap (λ (l : List Lexeme). punctuation RightBrace ∷ l) same.1 in (
      punctuation LeftBrace ∷ parts.0 ++ punctuation RightBrace ∷ [],
      subst (λ (u : Option (List ℕ) × List ℕ). IsValueOf (punctuation LeftBrace ∷ parts.0 ++ punctuation RightBrace ∷ []) u) same.0 (parts.0, refl, parts.1),
      first.2 ∙ ap (λ (l : List Lexeme). l ++ inner) first.1 ∙ ap (λ (l : List Lexeme). punctuation LeftBrace ∷ l) (parts.2 ∙ ap (λ (l : List Lexeme). parts.0 ++ l) end ∙ sym (append_assoc parts.0 (punctuation RightBrace ∷ []) rest)),
    )

-- where at least two components are, the first with a number, no parent is read
no_parent : (text : List Lexeme) (ns : List ℕ) (rest : List Lexeme) → 2 ≤ length ns → Are IsComponent text ns → parent_at (text ++ rest) ≡ (None, text ++ rest)
no_parent text [] rest some are = absurd (omega arith)
no_parent text (n ∷ ns) rest some are =
    ⊎_elim
    (λ plain. subst (λ (t : List Lexeme). parent_at t ≡ (None, t)) (sym (whole (number are.3.0 ∷ []) plain)) refl)
    (λ named. subst (λ (t : List Lexeme). parent_at t ≡ (None, t)) (sym (whole (word named.0 ∷ punctuation LeftParen ∷ number are.3.0 ∷ punctuation RightParen ∷ []) named.1)) refl)
    are.3.2
  where
    whole : (front : List Lexeme) → are.0 ≡ front → text ++ rest ≡ front ++ (are.1 ++ rest)
    whole front is = ap (λ (l : List Lexeme). l ++ rest) are.2 ∙ append_assoc are.0 are.1 rest ∙ ap (λ (l : List Lexeme). l ++ (are.1 ++ rest)) is

a_parent : (w : List ℕ) (others : List Lexeme) (ns : List ℕ) (rest : List Lexeme) → 1 ≤ length ns → Are IsComponent others ns → parent_at (word w ∷ (others ++ rest)) ≡ (Some w, others ++ rest)
a_parent w others [] rest some are = absurd (omega arith)
a_parent w others (n ∷ ns) rest some are =
    let whole : others ++ rest ≡ are.0 ++ (are.1 ++ rest) = ap (λ (l : List Lexeme). l ++ rest) are.2 ∙ append_assoc are.0 are.1 rest in
    let first : begins LeftParen (others ++ rest) ≡ false = ap (begins LeftParen) whole ∙ component_begins LeftParen are.0 n (are.1 ++ rest) are.3 in
    rw first refl

value_inside : (parent : Option (List ℕ)) (ns : List ℕ) (inner rest : List Lexeme) → AreParts parent inner ns → (tail : List Lexeme) × (parent_at (inner ++ punctuation RightBrace ∷ rest) ≡ (parent, tail)) × (numbers_at tail ≡ Ok (ns, punctuation RightBrace ∷ rest)) × (enough parent ns ≡ true)
value_inside None ns inner rest is = (inner ++ punctuation RightBrace ∷ rest, no_parent inner ns (punctuation RightBrace ∷ rest) is.0 is.1, numbers_again inner ns (punctuation RightBrace ∷ rest) is.1 refl, at_least_again 2 (length ns) is.0)
value_inside (Some w) ns inner rest is =
    (is.0 ++ punctuation RightBrace ∷ rest, ap (λ (l : List Lexeme). parent_at (l ++ punctuation RightBrace ∷ rest)) is.1 ∙ a_parent w is.0 ns (punctuation RightBrace ∷ rest) is.2 is.3, numbers_again is.0 ns (punctuation RightBrace ∷ rest) is.3 refl, at_least_again 1 (length ns) is.2)

pub value_again : (text : List Lexeme) (v : Option (List ℕ) × List ℕ) (rest : List Lexeme) → IsValueOf text v → value_at (text ++ rest) ≡ Ok (v, rest)
unfolding value_at
value_again text v rest is =
    let inside = value_inside v.0 v.1 is.0 rest is.2 in
    let whole : text ++ rest ≡ punctuation LeftBrace ∷ (is.0 ++ punctuation RightBrace ∷ rest) = ap (λ (l : List Lexeme). l ++ rest) is.1 ∙ ap (λ (l : List Lexeme). punctuation LeftBrace ∷ l) (append_assoc is.0 (punctuation RightBrace ∷ []) rest) in
    ap (λ (l : List Lexeme). value_at l) whole
    ∙ ap (λ (p : Option (List ℕ) × List Lexeme). numbers_at p.1 >>= λ ns. cond (enough p.0 ns.0) (punctuation_at RightBrace ns.1 >>= λ r. Ok ((p.0, ns.0), r)) (Err ns.1)) inside.1
    ∙ ap (λ (o : Read (List ℕ × List Lexeme)). o >>= λ ns. cond (enough v.0 ns.0) (punctuation_at RightBrace ns.1 >>= λ r. Ok ((v.0, ns.0), r)) (Err ns.1)) inside.2
    ∙ ap (λ (t : Bool). cond t (Ok (v, rest)) (Err (punctuation RightBrace ∷ rest))) inside.3

pub numbers_is : (ls : List Lexeme) (r : Read (List ℕ × List Lexeme)) → many component_at single (begins RightBrace) (length ls) ls ≡ r → numbers_at ls ≡ r
unfolding numbers_at
numbers_is ls r is = is
