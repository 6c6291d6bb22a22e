-- The text of a sample.
use Rattle.std.proofs.Common.{◌≡◌, ◌≤◌, ◌<◌, ℕ, ℤ, pos, negsuc, suc, ◌^◌, List, [], ◌∷◌, ◌++◌, codes, decimal, refl, ap, ap₂, ◌∙◌, arith, append_assoc, le-leb, lt-ltb}
use Rattle.std.proofs.lemmas.Bool.{le-ltb, lt-leb}
use Rattle.std.proofs.lemmas.Fmt.{decimal_is_IsNumeral_wide}
use Rattle.std.proofs.lemmas.Str.Parse.{digit_from_value}
use Rattle.std.specs.Fmt.{signed_decimal}
use Rattle.std.specs.Prelude.{unsigned_abs}
use Rattle.std.specs.Str.Parse.{AllDigits}
use Rattle.json.specs.Print.{escape, escape_byte}
use Rattle.json.proofs.Printed.Strings.{escape_byte_plain}
use Rattle.serde_json.specs.Written.{compact_text}
use Rattle.mon_sample.specs.Kind.{kind_name}
use Rattle.mon_sample.specs.declared.kind.Kind.{Kind}
use Rattle.mon_sample.specs.declared.kind.Kind.TheVariants.{Integer, Counter32, Gauge32, TimeTicks, Counter64}
use Rattle.mon_sample.specs.Key.{boots_of, time_of, discontinuity_of, kind_of}
use Rattle.mon_page.specs.Cells.{value_of}
use Rattle.mon_formats.specs.Json.{exact_signed, sample_data}

-- no digit is escaped
plain_digits : (ds : List ℕ) → AllDigits 10 ds → escape ds ≡ ds
plain_digits [] h = refl
plain_digits (d ∷ ds) h =
    let digit = digit_from_value d h.0 in
    ap₂ (λ (a b : List ℕ). a ++ b) (escape_byte_plain d (λ e. omega (arith, digit)) (λ e. omega (arith, digit)) (omega (arith, digit))) (plain_digits ds h.1)

plain_decimal : (n : ℕ) → n < 10 ^ 64 → escape (decimal n) ≡ decimal n
plain_decimal n h = plain_digits (decimal n) (decimal_is_IsNumeral_wide n h).0.1

-- nor any letter of a kind's name
plain_kind : (k : Kind) → escape (kind_name k) ≡ kind_name k
unfolding escape_byte
plain_kind Integer = refl
plain_kind Counter32 = refl
plain_kind Gauge32 = refl
plain_kind TimeTicks = refl
plain_kind Counter64 = refl

-- a number that is written as a number
pub small_text : (z : ℤ) → unsigned_abs z ≤ 2 ^ 53 → compact_text (exact_signed z) ≡ signed_decimal z
small_text (pos n) h = rw (le-leb n (2 ^ 53) h) refl
small_text (negsuc n) h = rw (lt-ltb n (2 ^ 53) (omega (arith, h))) refl

-- and one that is written as a text
pub large_text : (z : ℤ) → 2 ^ 53 < unsigned_abs z → unsigned_abs z ≤ 2 ^ 127 → compact_text (exact_signed z) ≡ codes "\"" ++ (signed_decimal z ++ codes "\"")
unfolding escape_byte
large_text (pos n) h bound = rw (lt-leb n (2 ^ 53) h) (ap (λ s. 34 ∷ (s ++ 34 ∷ [])) (plain_decimal n (omega (arith, bound))))
large_text (negsuc n) h bound = rw (le-ltb n (2 ^ 53) (omega (arith, h))) (ap (λ s. 34 ∷ 45 ∷ (s ++ 34 ∷ [])) (plain_decimal (suc n) (omega (arith, bound))))

-- the pieces of a sample, one behind another
pub joined : (old key boots kind name mark_key mark time_key time value_key value end a b c d e f g : List ℕ) → a ≡ old ++ (key ++ boots) → b ≡ a ++ kind → c ≡ b ++ name → d ≡ c ++ (mark_key ++ mark)
    → e ≡ d ++ (time_key ++ time) → f ≡ e ++ (value_key ++ value) → g ≡ f ++ end
    → g ≡ old ++ (key ++ (boots ++ (kind ++ (name ++ (mark_key ++ (mark ++ (time_key ++ (time ++ (value_key ++ (value ++ end))))))))))
joined old key boots kind name mark_key mark time_key time value_key value end a b c d e f g first second third fourth fifth sixth seventh =
    seventh
    ∙ ap (λ l. l ++ end)
    (sixth
    ∙ ap (λ l. l ++ (value_key ++ value))
    (fifth ∙ ap (λ l. l ++ (time_key ++ time)) (fourth ∙ ap (λ l. l ++ (mark_key ++ mark)) (third ∙ ap (λ l. l ++ name) (second ∙ ap (λ l. l ++ kind) first)))))
    ∙ simp append_assoc

-- they are the text of the sample
pub sample_pieces : (s : ℕ)
    → compact_text (sample_data s)
    ≡ codes "{\"boots\":"
    ++ (decimal (boots_of s)
    ++ (codes ",\"kind\":\""
    ++ (kind_name (kind_of s)
    ++ (codes "\",\"mark\":"
    ++ (decimal (discontinuity_of s) ++ (codes ",\"time\":" ++ (decimal (time_of s) ++ (codes ",\"value\":" ++ (compact_text (exact_signed (value_of s)) ++ codes "}")))))))))
unfolding escape_byte
sample_pieces s =
    let name = kind_name (kind_of s) in
    let rest = codes ",\"mark\":" ++ (decimal (discontinuity_of s) ++ (codes ",\"time\":" ++ (decimal (time_of s) ++ (codes ",\"value\":" ++ (compact_text (exact_signed (value_of s)) ++ codes "}"))))) in
    ap (λ l. codes "{\"boots\":" ++ (decimal (boots_of s) ++ (codes ",\"kind\":\"" ++ l)))
    (ap (λ l. (l ++ codes "\"") ++ rest) (plain_kind (kind_of s)) ∙ append_assoc name (codes "\"") rest)
