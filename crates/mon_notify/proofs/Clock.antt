-- The parts of a date, cut from its text.
use native.Mathlib.Omega.{arith}
use Rattle.std.proofs.Common.{◌≡◌, ◌≤◌, ◌∙◌, ap, refl, ℕ, zero, suc, List, [], ◌∷◌, ◌++◌, length, take, drop, slice_index_or}
use Rattle.std.specs.Prelude.{codes}
use Rattle.httpdate.specs.declared.parts.Parts.{Parts}
use Rattle.httpdate.specs.declared.date.HttpDate.{HttpDate as Date}
use Rattle.httpdate.specs.Text.{day_name, month_name, two_digits, four_digits, time_of_day}
use Rattle.httpdate.specs.Date.{date_text}
use Rattle.mon_notify.specs.Times.{month_digits, parts_text, time_text}

-- the octets of a time, from those of a date and the digits of its month
abbrev pub cut : List ℕ → List ℕ → List ℕ
cut t m =
    slice_index_or t 12 0 ∷ slice_index_or t 13 0 ∷ slice_index_or t 14 0 ∷ slice_index_or t 15 0 ∷ 45
    ∷ slice_index_or m 0 0 ∷ slice_index_or m 1 0 ∷ 45 ∷ slice_index_or t 5 0 ∷ slice_index_or t 6 0 ∷ 84
    ∷ slice_index_or t 17 0 ∷ slice_index_or t 18 0 ∷ slice_index_or t 19 0 ∷ slice_index_or t 20 0
    ∷ slice_index_or t 21 0 ∷ slice_index_or t 22 0 ∷ slice_index_or t 23 0 ∷ slice_index_or t 24 0 ∷ 90 ∷ []

-- the text of a date with these names of its day and its month
abbrev named : Parts → List ℕ → List ℕ → List ℕ
named p w m =
    w ++ codes ", " ++ two_digits p.day ++ codes " " ++ m ++ codes " "
    ++ four_digits p.year ++ codes " " ++ time_of_day p ++ codes " GMT"

month_cut : (p : Parts) (w m : List ℕ) → length w ≡ 3 → length m ≡ 3 → take 3 (drop 8 (named p w m)) ≡ m
month_cut p (a ∷ b ∷ c ∷ []) (x ∷ y ∷ z ∷ []) e f = refl
month_cut p [] m e f = absurd (omega arith)
month_cut p (a ∷ []) m e f = absurd (omega arith)
month_cut p (a ∷ b ∷ []) m e f = absurd (omega arith)
month_cut p (a ∷ b ∷ c ∷ d ∷ w) m e f = absurd (omega arith)
month_cut p (a ∷ b ∷ c ∷ []) [] e f = absurd (omega arith)
month_cut p (a ∷ b ∷ c ∷ []) (x ∷ []) e f = absurd (omega arith)
month_cut p (a ∷ b ∷ c ∷ []) (x ∷ y ∷ []) e f = absurd (omega arith)
month_cut p (a ∷ b ∷ c ∷ []) (x ∷ y ∷ z ∷ u ∷ m) e f = absurd (omega arith)

time_cut : (p : Parts) (w m : List ℕ) → length w ≡ 3 → length m ≡ 3 → cut (named p w m) (two_digits p.mon) ≡ parts_text p
time_cut p (a ∷ b ∷ c ∷ []) (x ∷ y ∷ z ∷ []) e f = refl
time_cut p [] m e f = absurd (omega arith)
time_cut p (a ∷ []) m e f = absurd (omega arith)
time_cut p (a ∷ b ∷ []) m e f = absurd (omega arith)
time_cut p (a ∷ b ∷ c ∷ d ∷ w) m e f = absurd (omega arith)
time_cut p (a ∷ b ∷ c ∷ []) [] e f = absurd (omega arith)
time_cut p (a ∷ b ∷ c ∷ []) (x ∷ []) e f = absurd (omega arith)
time_cut p (a ∷ b ∷ c ∷ []) (x ∷ y ∷ []) e f = absurd (omega arith)
time_cut p (a ∷ b ∷ c ∷ []) (x ∷ y ∷ z ∷ u ∷ m) e f = absurd (omega arith)

-- the names of days and months have three letters
day_letters : (n : ℕ) → 1 ≤ n → n ≤ 7 → length (day_name n) ≡ 3
day_letters zero low high = absurd (omega arith)
day_letters (suc zero) low high = refl
day_letters (suc (suc zero)) low high = refl
day_letters (suc (suc (suc zero))) low high = refl
day_letters (suc (suc (suc (suc zero)))) low high = refl
day_letters (suc (suc (suc (suc (suc zero))))) low high = refl
day_letters (suc (suc (suc (suc (suc (suc zero)))))) low high = refl
day_letters (suc (suc (suc (suc (suc (suc (suc zero))))))) low high = refl
day_letters (suc (suc (suc (suc (suc (suc (suc (suc n)))))))) low high = absurd (omega arith)

-- a month's name has three letters, and its number is found by it
month_named : (n : ℕ) → 1 ≤ n → n ≤ 12 → (length (month_name n) ≡ 3) × (month_digits (month_name n) ≡ two_digits n)
month_named zero low high = absurd (omega arith)
month_named (suc zero) low high = (refl, refl)
month_named (suc (suc zero)) low high = (refl, refl)
month_named (suc (suc (suc zero))) low high = (refl, refl)
month_named (suc (suc (suc (suc zero)))) low high = (refl, refl)
month_named (suc (suc (suc (suc (suc zero))))) low high = (refl, refl)
month_named (suc (suc (suc (suc (suc (suc zero)))))) low high = (refl, refl)
month_named (suc (suc (suc (suc (suc (suc (suc zero))))))) low high = (refl, refl)
month_named (suc (suc (suc (suc (suc (suc (suc (suc zero)))))))) low high = (refl, refl)
month_named (suc (suc (suc (suc (suc (suc (suc (suc (suc zero))))))))) low high = (refl, refl)
month_named (suc (suc (suc (suc (suc (suc (suc (suc (suc (suc zero)))))))))) low high = (refl, refl)
month_named (suc (suc (suc (suc (suc (suc (suc (suc (suc (suc (suc zero))))))))))) low high = (refl, refl)
month_named (suc (suc (suc (suc (suc (suc (suc (suc (suc (suc (suc (suc zero)))))))))))) low high = (refl, refl)
month_named (suc (suc (suc (suc (suc (suc (suc (suc (suc (suc (suc (suc (suc n))))))))))))) low high = absurd (omega arith)

-- the time of a date
pub time_of : (d : Date) (t m : List ℕ) → t ≡ date_text d → m ≡ month_digits (take 3 (drop 8 t)) → cut t m ≡ time_text d
time_of d t m e f =
    let p = d.parts in
    let day : length (day_name p.wday) ≡ 3 = day_letters p.wday (omega (arith, d.right_day)) (omega (arith, d.right_day)) in
    let (letters, number) = month_named p.mon d.civil.1.0 d.civil.1.1 in
    let digits : m ≡ two_digits p.mon =
    f ∙ ap (λ (s : List ℕ). month_digits (take 3 (drop 8 s))) e
    ∙ ap month_digits (month_cut p (day_name p.wday) (month_name p.mon) day letters) ∙ number in
    ap (λ (s : List ℕ). cut s m) e ∙ ap (λ (s : List ℕ). cut (date_text d) s) digits
    ∙ time_cut p (day_name p.wday) (month_name p.mon) day letters
