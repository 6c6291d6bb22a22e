-- The values of a report as JSON have no floating point numbers.
use Rattle.std.proofs.Common.{◌≡◌, ℕ, ℤ, pos, negsuc, ◌^◌, List, [], ◌∷◌, Bool, true, false, ◌||◌, cond, Option, Some, None, decimal, map, nat_le, nat_lt, refl, String}
use Rattle.std.specs.Fmt.{signed_decimal}
use Rattle.serde_json.specs.Data.{Data, array, number, unsigned, negative, string}
use Rattle.serde_json.specs.View.{items_of}
use Rattle.serde_json.specs.Written.{has_float, items_have_float}
use Rattle.mon_alarms.specs.declared.alarm.AlarmState.{AlarmState}
use Rattle.mon_alarms.specs.declared.alarm.AlarmState.TheVariants.{Clear, Raised}
use Rattle.mon_rates.specs.Totals.{totals}
use Rattle.mon_report.specs.declared.alarms.Alarm.{Alarm}
use Rattle.mon_formats.specs.Json.{exact, exact_signed, raised_data, alarm_data, exact_or_null, totals_data, age_data, debt_data, refusal_data, target_data, station_data}
use Rattle.mon_page.specs.declared.figures.Figures.{Figures}
use Rattle.mon_page.specs.declared.figures.TargetFigures.{TargetFigures}

neither : (a b : Bool) → a ≡ false → b ≡ false → (a || b) ≡ false
neither true b p q = p
neither false b p q = q

either_way : (b : Bool) (d e : Data) → has_float d ≡ false → has_float e ≡ false → has_float (cond b d e) ≡ false
either_way true d e p q = p
either_way false d e p q = q

of_items : {A : Type 0} (f : A → Data) → ((x : A) → has_float (f x) ≡ false) → (xs : List A) → items_have_float (items_of (map f xs)) ≡ false
of_items f each [] = refl
of_items f each (x ∷ xs) = neither _ _ (each x) (of_items f each xs)

pub of_exact : (n : ℕ) → has_float (exact n) ≡ false
of_exact n = either_way (nat_le n (2 ^ 53)) (number (unsigned n)) (string (decimal n)) refl refl

of_exact_signed : (z : ℤ) → has_float (exact_signed z) ≡ false
of_exact_signed (pos n) = of_exact n
of_exact_signed (negsuc n) = either_way (nat_lt n (2 ^ 53)) (number (negative (negsuc n))) (string (signed_decimal (negsuc n))) refl refl

of_raised : (s : AlarmState) → has_float (raised_data s) ≡ false
of_raised Clear = refl
of_raised (Raised boots time) = refl

pub of_option : (o : Option ℕ) → has_float (exact_or_null o) ≡ false
of_option None = refl
of_option (Some n) = of_exact n

of_alarm : (alarm : Alarm) → has_float (alarm_data alarm) ≡ false
of_alarm alarm = neither _ _ (of_exact_signed alarm.rule.falling) (neither _ _ (of_raised alarm.state) (neither _ _ (of_exact_signed alarm.rule.rising) refl))

pub of_alarms : (alarms : List Alarm) → has_float (array (items_of (map alarm_data alarms))) ≡ false
of_alarms = of_items alarm_data of_alarm

pub of_totals : (items : List ℕ) → has_float (totals_data items) ≡ false
of_totals items = neither _ _ (of_exact (totals items).delta) (neither _ _ (of_exact (totals items).span) refl)

of_refusal : {A : Type 0} (reason : Option (String A)) → has_float (refusal_data reason) ≡ false
of_refusal None = refl
of_refusal (Some reason) = refl

of_target : (t : TargetFigures) → has_float (target_data t) ≡ false
of_target t = neither _ _ (of_exact t.given_up) (neither _ _ (of_refusal t.refusal) (neither _ _ (of_exact t.seconds) refl))

pub of_station : (f : Figures) → has_float (station_data f) ≡ false
of_station f =
    neither _ _ (of_items age_data (λ a. refl) f.ages.items)
    (neither _ _ (of_items debt_data (λ d. refl) f.debts.items)
    (neither _ _ (of_exact f.failed_saves)
    (neither _ _ (of_exact f.given_up)
    (neither _ _ (of_option f.round_at)
    (neither _ _ (of_exact f.round_ms)
    (neither _ _ (of_exact f.strangers) (neither _ _ (of_exact f.taken) (neither _ _ (of_items target_data of_target f.targets.items) refl))))))))
