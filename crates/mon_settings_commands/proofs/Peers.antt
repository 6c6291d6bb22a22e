-- Texts that name no peer.
use Rattle.std.proofs.Common.{◌≡◌, ◌≢◌, ◌∙◌, ◌<◌, ◌^◌, ◌++◌, ◌∷◌, ℕ, zero, suc, Bool, true, false, cond, List, [], Bor, ap, arith, drop, get_or, length, lit<, refl, subst, sym}
use Rattle.std.specs.Prelude.{◌==◌, MatchOption, Option, Some, Result, Err}
use Rattle.std.specs.Str.Parse.{AllDigits, IsNumeral, ParsesUnsigned, digits_value, without_leading_plus}
use Rattle.std.proofs.lemmas.Bool.{eqb-true}
use Rattle.std.proofs.lemmas.List.{append_assoc}
use Rattle.std.proofs.lemmas.Str.Parse.{digit_at}
use Rattle.std.proofs.lemmas.Str.Pattern.{IsSplitOnceResult, split_after}
use Rattle.mon_settings_commands.specs.Named.{NamesSome}

-- digits are no equals sign
digits_no : (ds : List ℕ) → AllDigits 10 ds → (i : ℕ) → i < length ds → get_or ds i 0 ≢ 61
digits_no ds all i inside = λ same. let at = digit_at ds i all inside in omega (arith, at.0, at.1, same)

-- nor are they with a plus before them
with_sign : (plus : Bool) (b : ℕ) (bs : List ℕ) → (b == 43) ≡ plus → AllDigits 10 (drop (cond plus 1 0) (b ∷ bs)) → (i : ℕ) → i < length (b ∷ bs) → get_or (b ∷ bs) i 0 ≢ 61
with_sign true b bs is all zero inside = λ same. let plus = eqb-true b 43 is in omega (arith, plus, same)
with_sign true b bs is all (suc i) inside = digits_no bs all i (omega (arith, inside))
with_sign false b bs is all i inside = digits_no (b ∷ bs) all i inside

number_no : (number : List ℕ) → AllDigits 10 (without_leading_plus number) → (i : ℕ) → i < length number → get_or number i 0 ≢ 61
number_no [] all i inside = absurd (omega (arith, inside))
number_no (b ∷ bs) all i inside = with_sign (b == 43) b bs refl all i inside

sign_at : (front rest : List ℕ) → get_or (front ++ 61 ∷ rest) (length front) 0 ≡ 61
sign_at [] rest = refl
sign_at (b ∷ bs) rest = sign_at bs rest

sign_inside : (front rest : List ℕ) → length front < length (front ++ 61 ∷ rest)
sign_inside [] rest = omega arith
sign_inside (b ∷ bs) rest = omega (arith, sign_inside bs rest)

-- a text without an equals sign names no peer
pub unsigned_no_peer : (text : List ℕ) → ((i : ℕ) → i < length text → get_or text i 0 ≢ 61) → NamesSome text → ⊥
unsigned_no_peer text none (station, address, named) =
    let is : text ≡ named.number ++ 61 ∷ address = named.joined ∙ append_assoc named.number (61 ∷ []) address in
    none (length named.number) (subst (λ (t : List ℕ). length named.number < length t) (sym is) (sign_inside named.number address))
    (ap (λ (t : List ℕ). get_or t (length named.number) 0) is ∙ sign_at named.number address)

-- nor does one whose number is not read
pub unread_no_peer : {E : Type 0} → (text : List ℕ) (split : Option (Bor (List ℕ) × Bor (List ℕ))) (front rest : Bor (List ℕ)) (read : Result ℕ E) (fault : E) → IsSplitOnceResult 61 text split
    → split ≡ Some (front, rest) → ParsesUnsigned 32 10 front.now read → read ≡ Err fault → NamesSome text → ⊥
unread_no_peer {E} text split front rest read fault cuts is parses unread (station, address, named) =
    let joined : text ≡ named.number ++ 61 ∷ address = named.joined ∙ append_assoc named.number (61 ∷ []) address in
    let at = split_after 61 text named.number address split cuts (lit< tt) joined (number_no named.number named.digits.1) in
    let same = subst (λ (o : Option (Bor (List ℕ) × Bor (List ℕ))). MatchOption o ⊥ (λ x. (x.0.now ≡ named.number) × (x.1.now ≡ address))) is at in
    let not = subst (λ (r : Result ℕ E). ParsesUnsigned 32 10 front.now r) unread parses in
    not (subst (λ (n : List ℕ). IsNumeral 10 (without_leading_plus n) × (digits_value 10 (without_leading_plus n) < 2 ^ 32)) (sym same.0)
    (named.digits, subst (λ (v : ℕ). v < 2 ^ 32) named.value named.small))
