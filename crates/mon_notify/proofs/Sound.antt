-- The object has no floating point number, and nests four deep; a time is a text of ASCII.
use native.Mathlib.Omega.{arith}
use Rattle.std.specs.declared.cmp.Ordering.{Ordering}
use Rattle.std.specs.declared.cmp.Ordering.TheVariants.{Less, Equal, Greater}
use Rattle.std.proofs.Common.{◌≡◌, ◌≤◌, ◌<◌, ◌+◌, ◌/◌, ◌%◌, refl, ℕ, suc, max, Bool, true, false, ◌||◌, ◌==◌, cond, List, [], ◌∷◌, ◌++◌}
use Rattle.std.specs.Ordering.{match_ordering, nat_cmp}
use Rattle.std.specs.Cmp.Lexicographic.{slice_cmp}
use Rattle.std.specs.Str.{IsAscii, IsUtf8}
use Rattle.std.proofs.lemmas.Str.{IsAscii-append, IsUtf8-from_ascii}
use Rattle.std.proofs.lemmas.Str.Ascii.{IsAscii-cons, IsAscii-nil}
use Rattle.httpdate.specs.declared.date.HttpDate.{HttpDate as Date}
use Rattle.httpdate.specs.Calendar.{days_in_month, is_leap_year}
use Rattle.httpdate.specs.Text.{two_digits, four_digits}
use Rattle.serde_json.specs.Data.{Members, string, no_members, member, put, depth, members_depth}
use Rattle.serde_json.specs.Written.{has_float, members_have_float}
use Rattle.mon_notify.specs.declared.webhook.Notice.{Notice}
use Rattle.mon_notify.specs.Times.{time_text}
use Rattle.mon_notify.specs.Webhook.{message_data, with_labels, labels_of}

neither : (a b : Bool) → a ≡ false → b ≡ false → (a || b) ≡ false
neither true b p q = p
neither false b p q = q

both : (a b n : ℕ) → a ≤ n → b ≤ n → max a b ≤ n
both a b n p q = omega (arith, p, q)

-- texts as members add no floating point number
chosen : (o : Ordering) (a b c : Members) → members_have_float a ≡ false → members_have_float b ≡ false
    → members_have_float c ≡ false → members_have_float (match_ordering o a b c) ≡ false
chosen Less a b c x y z = x
chosen Equal a b c x y z = y
chosen Greater a b c x y z = z

first_of : (a b : Bool) → (a || b) ≡ false → a ≡ false
first_of true b e = e
first_of false b e = refl

second_of : (a b : Bool) → (a || b) ≡ false → b ≡ false
second_of true b e = cc
second_of false b e = e

put_whole : (k v : List ℕ) (ms : Members) → members_have_float ms ≡ false → members_have_float (put k (string v) ms) ≡ false
put_whole k v no_members e = refl
put_whole k v (member l d ms) e =
    let first = first_of (has_float d) (members_have_float ms) e in
    let others = second_of (has_float d) (members_have_float ms) e in
    chosen (slice_cmp nat_cmp k l) (member k (string v) (member l d ms)) (member l (string v) ms) (member l d (put k (string v) ms))
    e others (neither (has_float d) _ first (put_whole k v ms others))

labels_whole : (ms : Members) (labels : List (List ℕ × List ℕ)) → members_have_float ms ≡ false
    → members_have_float (with_labels ms labels) ≡ false
labels_whole ms [] e = e
labels_whole ms (label ∷ labels) e =
    labels_whole (put label.0 (string label.1) ms) labels (put_whole label.0 label.1 ms e)

-- and do not nest
chosen_low : (o : Ordering) (a b c : Members) → members_depth a ≤ 0 → members_depth b ≤ 0 → members_depth c ≤ 0
    → members_depth (match_ordering o a b c) ≤ 0
chosen_low Less a b c x y z = x
chosen_low Equal a b c x y z = y
chosen_low Greater a b c x y z = z

zero_first : (a b : ℕ) → max a b ≤ 0 → a ≤ 0
zero_first a b e = omega (arith, e)

zero_second : (a b : ℕ) → max a b ≤ 0 → b ≤ 0
zero_second a b e = omega (arith, e)

none : 0 ≤ 0
none = omega arith

put_low : (k v : List ℕ) (ms : Members) → members_depth ms ≤ 0 → members_depth (put k (string v) ms) ≤ 0
put_low k v no_members e = both _ _ 0 none none
put_low k v (member l d ms) e =
    let first = zero_first (depth d) (members_depth ms) e in
    let others = zero_second (depth d) (members_depth ms) e in
    chosen_low (slice_cmp nat_cmp k l) (member k (string v) (member l d ms)) (member l (string v) ms) (member l d (put k (string v) ms))
    (both _ _ 0 none e) (both _ _ 0 none others) (both (depth d) _ 0 first (put_low k v ms others))

labels_low : (ms : Members) (labels : List (List ℕ × List ℕ)) → members_depth ms ≤ 0 → members_depth (with_labels ms labels) ≤ 0
labels_low ms [] e = e
labels_low ms (label ∷ labels) e = labels_low (put label.0 (string label.1) ms) labels (put_low label.0 label.1 ms e)

pub no_float : (n : Notice) → has_float (message_data n) ≡ false
no_float n =
    let labels = labels_whole no_members (labels_of n) refl in
    neither _ _ (neither _ _ (neither _ _ labels refl) refl) (neither _ _ labels (neither _ _ labels refl))

shallow : (a b c : ℕ) → a ≤ 0 → b ≤ 0 → c ≤ 0
    → suc (max (suc (max (suc (max (suc (max 0 0)) (max 0 (max 0 (max 0 (max (suc a) (max 0 (max 0 0)))))))) 0)) (max (suc (max 0 0)) (max (suc b) (max 0 (max 0 (max (suc c) (max 0 (max 0 (max 0 (max 0 0)))))))))) ≤ 127
shallow a b c e f g = omega (arith, e, f, g)

pub nests : (n : Notice) → depth (message_data n) ≤ 127
nests n = let low = labels_low no_members (labels_of n) none in shallow _ _ _ low low low

-- a month has 31 days at most
days_below : (y m : ℕ) → days_in_month y m ≤ 31
days_below y m = at (m == 2) (is_leap_year y) ((m == 4) || (m == 6) || (m == 9) || (m == 11))
  where
    at : (a b c : Bool) → cond a (cond b 29 28) (cond c 30 31) ≤ 31
    at true true c = omega arith
    at true false c = omega arith
    at false b true = omega arith
    at false b false = omega arith

-- a time is a text of ASCII
record IsPlain (text : List ℕ) : Type 0 where
  is : IsAscii text

join : {a b : List ℕ} → IsPlain a → IsPlain b → IsPlain (a ++ b)
join {a} {b} x y = record { is = IsAscii-append a b x.is y.is }

digits : (n : ℕ) → n < 100 → IsPlain (two_digits n)
digits n low = record {
  is = IsAscii-cons (48 + n / 10) ((48 + n % 10) ∷ []) (omega arith) (IsAscii-cons (48 + n % 10) [] (omega arith) IsAscii-nil);
}

sign : (c : ℕ) → c < 128 → IsPlain (c ∷ [])
sign c low = record { is = IsAscii-cons c [] low IsAscii-nil }

year : (n : ℕ) → n ≤ 9999 → IsPlain (four_digits n)
year n low = join (digits (n / 100) (omega arith)) (digits (n % 100) (omega arith))

plain : (date : Date) → IsPlain (time_text date)
plain date =
    let p = date.parts in
    let (hours, minutes, seconds) = date.time in
    let month : p.mon ≤ 12 = date.civil.1.1 in
    let day : p.day ≤ days_in_month p.year p.mon = date.civil.2.1 in
    let days = days_below p.year p.mon in
    let clock =
    join (digits p.hour (omega arith)) (join (sign 58 (omega arith)) (join (digits p.min (omega arith))
    (join (sign 58 (omega arith)) (digits p.sec (omega arith))))) in
    join (year p.year date.civil.0.1) (join (sign 45 (omega arith)) (join (digits p.mon (omega arith))
    (join (sign 45 (omega arith)) (join (digits p.day (omega arith)) (join (sign 84 (omega arith))
    (join clock (sign 90 (omega arith))))))))

pub time_utf8 : (date : Date) → IsUtf8 (time_text date)
time_utf8 date = IsUtf8-from_ascii (time_text date) (plain date).is
