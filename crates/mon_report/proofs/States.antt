-- The alarms of an instance, one rule more each time.
use Rattle.std.proofs.Common.{◌≡◌, ℕ, ◌+◌, ◌<◌, List, [], ◌∷◌, ◌++◌, length, drop, get_or, sym, ap, ◌∙◌, append_assoc, ◌==◌}
use Rattle.std.specs.Prelude.{if◌then◌else◌, slice_get}
use Rattle.std.proofs.lemmas.List.{at_drop_more}
use Rattle.mon_alarms.specs.Rule.{Rule}
use Rattle.mon_alarms.specs.declared.alarm.AlarmState.{AlarmState}
use Rattle.mon_report.specs.Report.{alarm_of, alarms_from}
use Rattle.mon_report.specs.declared.alarms.Alarm.{Alarm}
use Rattle.mon_report.proofs.Loops.{same-number, other-number}

module _ (states : List AlarmState) (i : ℕ) (items : List ℕ) (rules : List Rule) (place : ℕ) (r : Rule) (lt : place < length rules) (is : r ≡ get_or rules place r) where
  abbrev after : List Alarm
  after = alarms_from states i items (place + 1) (drop (place + 1) rules)

  first : alarms_from states i items place (drop place rules) ≡ (if r.instance == i then alarm_of items r (slice_get states place) ∷ after else after)
  first = at_drop_more (alarms_from states i items place) rules place r lt ∙ ap (λ x. alarms_from states i items place (x ∷ drop (place + 1) rules)) (sym is)

  -- a rule on this instance, and one on another
  pub alarm-more : (so_far now all : List Alarm) (a : Alarm) → r.instance ≡ i → a ≡ alarm_of items r (slice_get states place) → now ≡ so_far ++ a ∷ []
      → so_far ++ alarms_from states i items place (drop place rules) ≡ all → now ++ after ≡ all
  alarm-more so_far now all a same own pushed inv =
      let rest = first ∙ ap (λ b. if b then alarm_of items r (slice_get states place) ∷ after else after) (same-number r.instance i same) in
      ap (λ l. l ++ after) pushed
      ∙ append_assoc so_far (a ∷ []) after
      ∙ ap (λ x. so_far ++ x ∷ after) own
      ∙ ap (λ l. so_far ++ l) (sym rest)
      ∙ inv

  pub alarm-none : (so_far now all : List Alarm) → (r.instance ≡ i → ⊥) → now ≡ so_far
      → so_far ++ alarms_from states i items place (drop place rules) ≡ all → now ++ after ≡ all
  alarm-none so_far now all other kept inv =
      let rest = first ∙ ap (λ b. if b then alarm_of items r (slice_get states place) ∷ after else after) (other-number r.instance i other) in
      ap (λ l. l ++ after) kept ∙ ap (λ l. so_far ++ l) (sym rest) ∙ inv
