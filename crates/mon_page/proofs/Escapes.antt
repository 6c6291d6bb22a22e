-- An escaped text has no character that ends a text, and is read as the text that was escaped.
use Rattle.std.proofs.Common.{◌≡◌, ℕ, List, [], ◌∷◌, ◌++◌, Bool, true, false, Some, None, refl, ap, ◌∙◌, codes, cond}
use Rattle.std.specs.Prelude.{◌==◌, ◌&&◌, not, All}
use Rattle.std.specs.List.{flat_map, list_all}
use Rattle.std.proofs.lemmas.Bool.{eqb-true}
use Rattle.std.proofs.lemmas.List.Elements.{All-nil, All-cons, All-append}
use Rattle.mon_page.specs.Escape.{escaped, text_read, IsLineOf, IsPlain}
use Rattle.mon_page.specs.Page.{label_line, label_start}

-- an octet is read as itself
one_read : (c : ℕ) (rest : List ℕ) → text_read None (escaped c ++ rest) ≡ c ∷ text_read None rest
one_read c rest = by_less (c == 60) refl
  where
    by_quote : (b : Bool) → (c == 34) ≡ b → (c == 60) ≡ false → (c == 62) ≡ false → (c == 38) ≡ false → text_read None (escaped c ++ rest) ≡ c ∷ text_read None rest
    by_quote true quote less more and = rw (less, more, and, quote, eqb-true c 34 quote) refl
    by_quote false quote less more and = rw (less, more, and, quote) (ap (λ (b : Bool). cond b (text_read (Some []) rest) (c ∷ text_read None rest)) and)

    by_and : (b : Bool) → (c == 38) ≡ b → (c == 60) ≡ false → (c == 62) ≡ false → text_read None (escaped c ++ rest) ≡ c ∷ text_read None rest
    by_and true and less more = rw (less, more, and, eqb-true c 38 and) refl
    by_and false and less more = by_quote (c == 34) refl less more and

    by_more : (b : Bool) → (c == 62) ≡ b → (c == 60) ≡ false → text_read None (escaped c ++ rest) ≡ c ∷ text_read None rest
    by_more true more less = rw (less, more, eqb-true c 62 more) refl
    by_more false more less = by_and (c == 38) refl less more

    by_less : (b : Bool) → (c == 60) ≡ b → text_read None (escaped c ++ rest) ≡ c ∷ text_read None rest
    by_less true less = rw (less, eqb-true c 60 less) refl
    by_less false less = by_more (c == 62) refl less

pub read_back : (text : List ℕ) → text_read None (flat_map escaped text) ≡ text
read_back [] = refl
read_back (c ∷ text) = one_read c (flat_map escaped text) ∙ ap (λ (t : List ℕ). c ∷ t) (read_back text)

-- octets of which each is none of these, as a test
abbrev are_plain : List ℕ → Bool
are_plain octets = list_all (λ c. not (c == 60) && (not (c == 62) && not (c == 34))) octets

not_true : (b : Bool) → not b ≡ true → b ≡ false
not_true true e = cc
not_true false e = refl

and_true : (b c : Bool) → (b && c) ≡ true → (b ≡ true) × (c ≡ true)
and_true true c e = (refl, e)
and_true false c e = cc

none : All IsPlain []
none = All-nil IsPlain

by_test : (octets : List ℕ) → are_plain octets ≡ true → All IsPlain octets
by_test [] e = none
by_test (c ∷ octets) e =
    let (first, rest) = and_true (not (c == 60) && (not (c == 62) && not (c == 34))) (are_plain octets) e in
    let (less, others) = and_true (not (c == 60)) (not (c == 62) && not (c == 34)) first in
    let (more, quote) = and_true (not (c == 62)) (not (c == 34)) others in
    All-cons IsPlain c octets (not_true (c == 60) less, not_true (c == 62) more, not_true (c == 34) quote) (by_test octets rest)

one_plain : (c : ℕ) → All IsPlain (escaped c)
one_plain c = by_less (c == 60) refl
  where
    by_quote : (b : Bool) → (c == 34) ≡ b → (c == 60) ≡ false → (c == 62) ≡ false → (c == 38) ≡ false → All IsPlain (escaped c)
    by_quote true quote less more and = rw (less, more, and, quote) (by_test (38 ∷ 113 ∷ 117 ∷ 111 ∷ 116 ∷ 59 ∷ []) refl)
    by_quote false quote less more and = rw (less, more, and, quote) (All-cons IsPlain c [] (less, more, quote) none)

    by_and : (b : Bool) → (c == 38) ≡ b → (c == 60) ≡ false → (c == 62) ≡ false → All IsPlain (escaped c)
    by_and true and less more = rw (less, more, and) (by_test (38 ∷ 97 ∷ 109 ∷ 112 ∷ 59 ∷ []) refl)
    by_and false and less more = by_quote (c == 34) refl less more and

    by_more : (b : Bool) → (c == 62) ≡ b → (c == 60) ≡ false → All IsPlain (escaped c)
    by_more true more less = rw (less, more) (by_test (38 ∷ 103 ∷ 116 ∷ 59 ∷ []) refl)
    by_more false more less = by_and (c == 38) refl less more

    by_less : (b : Bool) → (c == 60) ≡ b → All IsPlain (escaped c)
    by_less true less = rw less (by_test (38 ∷ 108 ∷ 116 ∷ 59 ∷ []) refl)
    by_less false less = by_more (c == 62) refl less

pub plain : (text : List ℕ) → All IsPlain (flat_map escaped text)
plain [] = none
plain (c ∷ text) = All-append IsPlain (escaped c) (flat_map escaped text) (one_plain c) (plain text)

-- the lines of labels
pub if_name : (text : List ℕ) → IsLineOf (label_line (codes "ifName") text) (codes "ifName " ++ text)
unfolding label_line label_start
if_name text = (
  codes "ifName " ++ flat_map escaped text,
  refl,
  All-append IsPlain (codes "ifName ") (flat_map escaped text) (by_test (codes "ifName ") refl) (plain text),
  ap (λ (t : List ℕ). codes "ifName " ++ t) (read_back text),
)

pub if_alias : (text : List ℕ) → IsLineOf (label_line (codes "ifAlias") text) (codes "ifAlias " ++ text)
unfolding label_line label_start
if_alias text = (
  codes "ifAlias " ++ flat_map escaped text,
  refl,
  All-append IsPlain (codes "ifAlias ") (flat_map escaped text) (by_test (codes "ifAlias ") refl) (plain text),
  ap (λ (t : List ℕ). codes "ifAlias " ++ t) (read_back text),
)
