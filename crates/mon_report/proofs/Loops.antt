-- Texts of the elements of a list, one after another.
use Rattle.std.proofs.Common.{◌≡◌, ℕ, Bool, true, false, cond, ◌+◌, ◌-◌, ◌<◌, ◌≤◌, List, [], ◌∷◌, ◌++◌, length, take, drop, get_or, ◌==◌, sym, ap, refl, ◌∙◌, arith, append-nil, Option}
use Rattle.std.proofs.lemmas.Bool.Decides.{nat_tests}
use Rattle.std.specs.Prelude.{decimal, filter}
use Rattle.std.specs.List.{flat_map}
use Rattle.std.proofs.lemmas.List.{take_more, take_all}
use Rattle.std.proofs.lemmas.Grind.{flat_map-append}
use Rattle.hex.specs.Hex.{encode_with, encode_lower}
use Rattle.mon_oid.specs.Oid.{dotted}
use Rattle.mon_report.specs.Report.{dot_text}
use Rattle.mon_report.specs.Written.{AppendsIf}
use Rattle.mon_report.proofs.Written.{text-then, text-as}

-- the text of one element more
pub text-more : {X : Type 0} (f : X → List ℕ) (xs : List X) (i : ℕ) (d : X) (a b c : Option (List ℕ)) (p q r : Bool) → i < length xs
    → AppendsIf a p b q (flat_map f (take i xs)) → AppendsIf b q c r (f (get_or xs i d)) → AppendsIf a p c r (flat_map f (take (i + 1) xs))
text-more f xs i d a b c p q r lt h g =
    let one : flat_map f (take (i + 1) xs) ≡ flat_map f (take i xs) ++ f (get_or xs i d) =
    ap (flat_map f) (take_more xs i d lt) ∙ flat_map-append f (take i xs) (get_or xs i d ∷ []) ∙ ap (λ t. flat_map f (take i xs) ++ t) (append-nil (f (get_or xs i d))) in
    text-as a c p r _ _ (sym one) (text-then a b c p q r _ _ h g)

-- two hex digits for each octet
abbrev pub octet_text : ℕ → List ℕ
octet_text b = encode_lower (b ∷ [])

pub hex-each : (bs : List ℕ) → flat_map octet_text bs ≡ encode_lower bs
unfolding encode_with
hex-each [] = refl
hex-each (b ∷ bs) = ap (λ t. octet_text b ++ t) (hex-each bs)

pub dotted-each : (x : ℕ) (xs : List ℕ) → dotted (x ∷ xs) ≡ decimal x ++ flat_map dot_text xs
dotted-each x [] = sym (append-nil (decimal x))
dotted-each x (y ∷ ys) = ap (λ t. decimal x ++ (46 ∷ t)) (dotted-each y ys)

-- the text of an element where it passes a test, else none
abbrev pub text_where : {X : Type 0} → (X → Bool) → (X → List ℕ) → X → List ℕ
text_where test f x = cond (test x) (f x) []

pub filter-each : {X : Type 0} (test : X → Bool) (f : X → List ℕ) (xs : List X) → flat_map (text_where test f) xs ≡ flat_map f (filter test xs)
filter-each test f [] = refl
filter-each test f (x ∷ xs) = ap (λ t. text_where test f x ++ t) (filter-each test f xs) ∙ by (test x)
  where
    by : (b : Bool) → cond b (f x) [] ++ flat_map f (filter test xs) ≡ flat_map f (cond b (x ∷ filter test xs) (filter test xs))
    by true = refl
    by false = refl

-- the text of all elements, when a loop is past the last
pub text-all : {X : Type 0} (f : X → List ℕ) (xs : List X) (i : ℕ) (a b : Option (List ℕ)) (p q : Bool) → length xs ≤ i
    → AppendsIf a p b q (flat_map f (take i xs)) → AppendsIf a p b q (flat_map f xs)
text-all f xs i a b p q past h = text-as a b p q _ _ (ap (flat_map f) (take_all i xs past)) h

-- what follows the first of some elements, as a pattern gives it
pub others-are : {X : Type 0} (x : X) (xs : List X) → take (length (x ∷ xs) - 1) xs ≡ xs
others-are x xs = take_all (length (x ∷ xs) - 1) xs (omega arith)

pub dotted-split : (xs : List ℕ) → 1 ≤ length xs → decimal (get_or xs 0 0) ++ flat_map dot_text (take (length xs - 1) (drop 1 xs)) ≡ dotted xs
dotted-split [] some = absurd (omega arith)
dotted-split (x ∷ xs) some = ap (λ l. decimal x ++ flat_map dot_text l) (others-are x xs) ∙ sym (dotted-each x xs)

-- the text of an element that passes, or that does not
pub text_where-yes : {X : Type 0} (test : X → Bool) (f : X → List ℕ) (x y : X) → x ≡ y → test x ≡ true → f x ≡ text_where test f y
text_where-yes test f x y e h = sym (ap (λ b. cond b (f x) []) h) ∙ ap (text_where test f) e

pub text_where-not : {X : Type 0} (test : X → Bool) (f : X → List ℕ) (x y : X) → x ≡ y → test x ≡ false → [] ≡ text_where test f y
text_where-not test f x y e h = sym (ap (λ b. cond b (f x) []) h) ∙ ap (text_where test f) e

pub same-number : (i j : ℕ) → i ≡ j → (i == j) ≡ true
same-number i j e = grind (arith, nat_tests)

pub other-number : (i j : ℕ) → (i ≡ j → ⊥) → (i == j) ≡ false
other-number i j e = grind (arith, nat_tests)
