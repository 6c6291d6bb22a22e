-- A report as JSON nests six deep at most.
use Rattle.std.proofs.Common.{◌≤◌, ℕ, ℤ, pos, negsuc, suc, ◌+◌, ◌^◌, List, [], ◌∷◌, Bool, true, false, cond, max, Option, Some, None, decimal, map, nat_le, nat_lt, arith, String}
use Rattle.std.specs.Fmt.{signed_decimal}
use Rattle.serde_json.specs.Data.{Data, array, number, unsigned, negative, string, depth, items_depth}
use Rattle.serde_json.specs.Read.{max_depth}
use Rattle.serde_json.specs.View.{items_of}
use Rattle.mon_alarms.specs.declared.alarm.AlarmState.{AlarmState}
use Rattle.mon_alarms.specs.declared.alarm.AlarmState.TheVariants.{Clear, Raised}
use Rattle.mon_rates.specs.Totals.{totals}
use Rattle.mon_report.specs.Report.{Entry, samples_in}
use Rattle.mon_report.specs.declared.alarms.Alarm.{Alarm}
use Rattle.mon_page.specs.Cells.{value_of, fresh_rate}
use Rattle.mon_page.specs.Freshness.{fresh_at}
use Rattle.mon_formats.specs.Json.{exact, exact_signed, sample_data, raised_data, alarm_data, exact_or_null, totals_data, age_data, debt_data, refusal_data, target_data, station_data, fresh_alarms, entry_data, entries_data, report_data}
use Rattle.mon_page.specs.declared.figures.Figures.{Figures}
use Rattle.mon_page.specs.declared.figures.TargetFigures.{TargetFigures}

both : (a b n : ℕ) → a ≤ n → b ≤ n → max a b ≤ n
both a b n p q = omega (arith, p, q)

none : (n : ℕ) → 0 ≤ n
none n = omega arith

deeper : (a n : ℕ) → a ≤ n → suc a ≤ suc n
deeper a n p = omega (arith, p)

either_way : (b : Bool) (d e : Data) (n : ℕ) → depth d ≤ n → depth e ≤ n → depth (cond b d e) ≤ n
either_way true d e n p q = p
either_way false d e n p q = q

of_items : {A : Type 0} (f : A → Data) (n : ℕ) → ((x : A) → depth (f x) ≤ n) → (xs : List A) → items_depth (items_of (map f xs)) ≤ n
of_items f n each [] = none n
of_items f n each (x ∷ xs) = both _ _ n (each x) (of_items f n each xs)

pub of_exact : (m n : ℕ) → depth (exact m) ≤ n
of_exact m n = either_way (nat_le m (2 ^ 53)) (number (unsigned m)) (string (decimal m)) n (none n) (none n)

of_exact_signed : (z : ℤ) (n : ℕ) → depth (exact_signed z) ≤ n
of_exact_signed (pos m) n = of_exact m n
of_exact_signed (negsuc m) n = either_way (nat_lt m (2 ^ 53)) (number (negative (negsuc m))) (string (signed_decimal (negsuc m))) n (none n) (none n)

of_raised : (s : AlarmState) → depth (raised_data s) ≤ 1
of_raised Clear = none 1
of_raised (Raised boots time) = deeper _ 0 (both _ _ 0 (none 0) (both _ _ 0 (none 0) (none 0)))

pub of_option : (o : Option ℕ) (n : ℕ) → depth (exact_or_null o) ≤ n
of_option None n = none n
of_option (Some m) n = of_exact m n

of_sample : (s : ℕ) → depth (sample_data s) ≤ 1
of_sample s =
    deeper _ 0 (both _ _ 0 (none 0) (both _ _ 0 (none 0) (both _ _ 0 (none 0) (both _ _ 0 (none 0) (both _ _ 0 (of_exact_signed (value_of s) 0) (none 0))))))

of_alarm : (alarm : Alarm) → depth (alarm_data alarm) ≤ 2
of_alarm alarm =
    deeper _ 1 (both _ _ 1 (of_exact_signed alarm.rule.falling 1) (both _ _ 1 (of_raised alarm.state) (both _ _ 1 (of_exact_signed alarm.rule.rising 1) (none 1))))

pub of_alarms : (alarms : List Alarm) → depth (array (items_of (map alarm_data alarms))) ≤ 3
of_alarms alarms = deeper _ 2 (of_items alarm_data 2 of_alarm alarms)

pub of_totals : (items : List ℕ) → depth (totals_data items) ≤ 1
of_totals items = deeper _ 0 (both _ _ 0 (of_exact (totals items).delta 0) (both _ _ 0 (of_exact (totals items).span 0) (none 0)))

of_entry : (shown : List ℕ → List ℕ) (fresh : Option Bool) (e : Entry) → depth (entry_data shown fresh e) ≤ 4
of_entry shown None e =
    deeper _ 3
    (both _ _ 3 (of_alarms e.alarms)
    (both _ _ 3 (none 3)
    (both _ _ 3 (none 3)
    (both _ _ 3 (of_option (fresh_rate true e.items) 3)
    (both _ _ 3 (deeper _ 2 (of_items sample_data 2 (λ s. omega (arith, of_sample s)) e.items))
    (both _ _ 3 (omega (arith, of_totals e.items)) (none 3)))))))
of_entry shown (Some fresh) e =
    deeper _ 3
    (both _ _ 3 (of_alarms (fresh_alarms fresh e.alarms))
    (both _ _ 3 (none 3)
    (both _ _ 3 (none 3)
    (both _ _ 3 (of_option (fresh_rate fresh e.items) 3)
    (both _ _ 3 (deeper _ 2 (of_items sample_data 2 (λ s. omega (arith, of_sample s)) e.items))
    (both _ _ 3 (none 3)
    (both _ _ 3 (omega (arith, of_totals e.items)) (none 3))))))))

of_entries : (shown : List ℕ → List ℕ) (station : Option Figures) (place : ℕ) (es : List Entry) → items_depth (items_of (entries_data shown station place es)) ≤ 4
of_entries shown station place [] = none 4
of_entries shown station place (e ∷ es) = both _ _ 4 (of_entry shown (fresh_at station place) e) (of_entries shown station (place + 1) es)

of_refusal : {A : Type 0} (reason : Option (String A)) (n : ℕ) → depth (refusal_data reason) ≤ n
of_refusal None n = none n
of_refusal (Some reason) n = none n

of_target : (t : TargetFigures) → depth (target_data t) ≤ 1
of_target t =
    deeper _ 0
    (both _ _ 0 (none 0)
    (both _ _ 0 (none 0)
    (both _ _ 0 (of_exact t.given_up 0)
    (both _ _ 0 (none 0)
    (both _ _ 0 (of_refusal t.refusal 0) (both _ _ 0 (none 0) (both _ _ 0 (of_exact t.seconds 0) (both _ _ 0 (none 0) (none 0)))))))))

of_debt : (d : ℕ × ℕ) → depth (debt_data d) ≤ 1
of_debt d = deeper _ 0 (both _ _ 0 (none 0) (both _ _ 0 (none 0) (none 0)))

pub of_station : (f : Figures) → depth (station_data f) ≤ 3
of_station f =
    deeper _ 2
    (both _ _ 2 (deeper _ 1 (of_items age_data 1 (λ a. none 1) f.ages.items))
    (both _ _ 2 (deeper _ 1 (of_items debt_data 1 of_debt f.debts.items))
    (both _ _ 2 (of_exact f.failed_saves 2)
    (both _ _ 2 (of_exact f.given_up 2)
    (both _ _ 2 (none 2)
    (both _ _ 2 (none 2)
    (both _ _ 2 (of_option f.round_at 2)
    (both _ _ 2 (of_exact f.round_ms 2)
    (both _ _ 2 (of_exact f.strangers 2)
    (both _ _ 2 (of_exact f.taken 2) (both _ _ 2 (deeper _ 1 (of_items target_data 1 of_target f.targets.items)) (none 2))))))))))))

pub of_report : (shown : List ℕ → List ℕ) (entries : List Entry) (station : Option Figures) → depth (report_data shown entries station) ≤ max_depth
of_report shown entries None =
    let shallow : depth (report_data shown entries None) ≤ 6 =
    deeper _ 5 (both _ _ 5 (deeper _ 4 (of_entries shown None 0 entries)) (both _ _ 5 (of_exact (samples_in entries) 5) (none 5))) in
    omega (arith, shallow)
of_report shown entries (Some f) =
    let shallow : depth (report_data shown entries (Some f)) ≤ 6 =
    deeper _ 5
    (both _ _ 5 (deeper _ 4 (of_entries shown (Some f) 0 entries))
    (both _ _ 5 (of_exact (samples_in entries) 5) (both _ _ 5 (omega (arith, of_station f)) (none 5)))) in
    omega (arith, shallow)
