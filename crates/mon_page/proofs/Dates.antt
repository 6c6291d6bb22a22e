-- The date that the kit has for a second is the one that the definition says.
use Rattle.std.proofs.Common.{◌≡◌, ◌∙◌, ℕ, zero, suc, ◌+◌, ◌-◌, ◌*◌, ◌/◌, ◌%◌, ◌<◌, ◌≤◌, Bool, true, false, Some, List, [], Result, Ok, Err, codes, ap, sym, refl, arith}
use Rattle.std.specs.Prelude.{IsOk, nat_lt, ◌==◌, ◌||◌, if◌then◌else◌}
use Rattle.std.specs.Int.{IsInRange}
use Rattle.std.proofs.lemmas.Bool.{cond-true, ltb-false, ltb-true, lt-ltb}
use Rattle.httpdate.specs.Calendar.{days_from_civil, days_in_month, days_in_year, days_of_months, days_of_years, is_leap_year, weekday}
use Rattle.httpdate.specs.Date.{date_text, unix_secs}
use Rattle.httpdate.specs.Valid.{IsValid}
use Rattle.httpdate.specs.declared.date.HttpDate.{HttpDate}
use Rattle.httpdate.proofs.CalendarLemmas.{days_from_civil_bound, days_from_civil_year, days_of_months_all, days_of_months_more}
use Rattle.httpdate.proofs.Theorems.{date_text_is}
use Rattle.httpdate.proofs.ValidLemmas.{is_valid_complete}
use Rattle.mon_page.specs.Between.{between}
use Rattle.mon_page.specs.Dates.{Day, date_at, day_after, day_at, parts_at}
use Rattle.mon_page.specs.Page.{round_text}

-- a day of the calendar, with this many days before it since 1970
record IsDay (n : ℕ) (d : Day) : Type 0 where
  year : 1970 ≤ d.0
  month : IsInRange 1 12 d.1
  day : IsInRange 1 (days_in_month d.0 d.1) d.2
  count : days_from_civil d.0 d.1 d.2 ≡ n

-- a month has a day
long : (y m : ℕ) → 1 ≤ days_in_month y m
long y m = by (m == 2) (is_leap_year y) ((m == 4) || (m == 6) || (m == 9) || (m == 11)) where
  by : (a b c : Bool) → 1 ≤ (if a then (if b then 29 else 28) else (if c then 30 else 31))
  by true true c = omega arith
  by true false c = omega arith
  by false b true = omega arith
  by false b false = omega arith

no_months : (y : ℕ) → days_of_months y 0 ≡ 0
unfolding days_of_months
no_months y = refl

one_year : (y : ℕ) → 1970 ≤ y → days_of_years (suc (y - 1970)) ≡ days_of_years (y - 1970) + days_in_year y
unfolding days_of_years
one_year y from =
    let same : 1970 + (y - 1970) ≡ y = omega (arith, from) in ap (λ z. days_of_years (y - 1970) + days_in_year z) same

next : (n : ℕ) (d : Day) → IsDay n d → IsDay (suc n) (day_after d)
next n d is = by (nat_lt d.2 (days_in_month d.0 d.1)) refl (nat_lt d.1 12) refl where
  by : (b : Bool) → nat_lt d.2 (days_in_month d.0 d.1) ≡ b → (c : Bool) → nat_lt d.1 12 ≡ c
      → IsDay (suc n) (if b then (d.0, d.1, d.2 + 1) else (if c then (d.0, d.1 + 1, 1) else (d.0 + 1, 1, 1)))
  by true e c f = record {
    year = is.year;
    month = is.month;
    day = (omega arith, omega (arith, ltb-true _ _ e));
    count = omega (arith, is.count, is.day.0);
  }
  by false e true f =
      let back : d.1 + 1 - 1 ≡ d.1 = omega arith in
      let whole : days_of_years (d.0 - 1970) + days_of_months d.0 d.1 + (1 - 1) ≡ suc n =
      omega (arith, days_of_months_more d.0 d.1 is.month.0, is.count, is.day.0, is.day.1, ltb-false _ _ e) in
      record {
        year = is.year;
        month = (omega arith, omega (arith, ltb-true _ _ f));
        day = (omega arith, long d.0 (d.1 + 1));
        count = (λ i. days_of_years (d.0 - 1970) + days_of_months d.0 (back i) + (1 - 1)) ∙ whole;
      }
  by false e false f =
      let last : d.1 ≡ 12 = omega (arith, is.month.1, ltb-false _ _ f) in
      let back : d.0 + 1 - 1970 ≡ suc (d.0 - 1970) = omega (arith, is.year) in
      let all = ap (days_of_months d.0) last ∙ days_of_months_all d.0 in
      let whole : days_of_years (suc (d.0 - 1970)) + days_of_months (d.0 + 1) 0 + (1 - 1) ≡ suc n =
      omega (
        arith,
        one_year d.0 is.year,
        no_months (d.0 + 1),
        all,
        days_of_months_more d.0 d.1 is.month.0,
        is.count,
        is.day.0,
        is.day.1,
        ltb-false _ _ e,
      ) in
      record {
        year = omega (arith, is.year);
        month = (omega arith, omega arith);
        day = (omega arith, long (d.0 + 1) 1);
        count = (λ i. days_of_years (back i) + days_of_months (d.0 + 1) 0 + (1 - 1)) ∙ whole;
      }

day_is : (n : ℕ) → IsDay n (day_at n)
unfolding days_of_years days_of_months
day_is zero = record { year = omega arith; month = (omega arith, omega arith); day = (omega arith, long 1970 1); count = refl }
day_is (suc n) = next n (day_at n) (day_is n)

-- the clock's numbers are those of the second
clock : (n s : ℕ) → n ≡ s / 86400 → n * 86400 + s % 86400 / 3600 * 3600 + s % 3600 / 60 * 60 + s % 60 ≡ s
clock n s e = omega (arith, e)

-- the date's second is before the year 10000
bounded : (date : HttpDate) → unix_secs date < 253402300800
bounded date = omega (arith, days_from_civil_bound _ _ _ date.civil, date.time.0, date.time.1, date.time.2)

module _ (date : HttpDate) (seconds : ℕ) (same : unix_secs date ≡ seconds) where
  there : IsDay (seconds / 86400) (day_at (seconds / 86400))
  there = day_is (seconds / 86400)

  -- the date's day is that one
  days : days_from_civil date.parts.year date.parts.mon date.parts.day ≡ seconds / 86400
  days = omega (arith, same, date.time.0, date.time.1, date.time.2)

  small : (b : Bool) → nat_lt date.parts.year (day_at (seconds / 86400)).0 ≡ b → (day_at (seconds / 86400)).0 ≤ 9999
  small true e =
      let d = day_at (seconds / 86400) in
      absurd (omega (arith, days_from_civil_year _ _ _ d.0 d.1 d.2 date.civil (ltb-true _ _ e), there.count, days))
  small false e = omega (arith, ltb-false _ _ e, date.civil.0.1)

  valid : IsValid (parts_at seconds)
  valid = (
    ((there.year, small (nat_lt date.parts.year (day_at (seconds / 86400)).0) refl), there.month, there.day),
    (omega arith, omega arith, omega arith),
    ap weekday (sym there.count),
  )

  dated : date_text date ≡ date_at seconds
  unfolding date_at
  dated = date_text_is date (parts_at seconds) (is_valid_complete (parts_at seconds) valid) (same ∙ sym (clock _ seconds there.count))

  pub round_is : between (codes ", last round ") (date_text date) [] ≡ round_text (Some seconds)
  round_is =
      ap (λ (t : List ℕ). between (codes ", last round ") t []) dated
      ∙ sym (cond-true _ _ _ (lt-ltb seconds 253402300800 (omega (arith, bounded date, same))))

-- a second beyond the year 9999 has no date
pub beyond : {A E : Type 0} (r : Result A E) (e : E) (seconds : ℕ) → r ≡ Err e → (seconds < 253402300800 → IsOk r) → round_text (Some seconds) ≡ []
beyond {A = A} {E = E} r e seconds failed made = by (nat_lt seconds 253402300800) refl where
  never : (o : Result A E) → o ≡ Err e → IsOk o → ⊥
  never (Ok x) is fine = absurd cc
  never (Err f) is fine = absurd cc

  by : (b : Bool) → nat_lt seconds 253402300800 ≡ b → (if b then between (codes ", last round ") (date_at seconds) [] else []) ≡ []
  by true below = absurd (never r failed (made (ltb-true _ _ below)))
  by false past = refl
