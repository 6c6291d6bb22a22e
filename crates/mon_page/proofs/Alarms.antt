-- What is said of an instance's alarms.
use Rattle.std.proofs.Common.{◌≡◌, ℕ, ◌<◌, Bool, true, false, List, [], ◌∷◌, length, sym, ap, arith, codes, ◌==◌}
use Rattle.std.specs.Prelude.{if◌then◌else◌}
use Rattle.std.specs.List.{list_any}
use Rattle.std.proofs.lemmas.Bool.{true≢false}
use Rattle.std.proofs.lemmas.Bool.Decides.{nat_tests}
use Rattle.mon_alarms.specs.Changes.{is_raised}
use Rattle.mon_report.specs.declared.alarms.Alarm.{Alarm}
use Rattle.mon_page.specs.Cells.{alarm_cell}

pub some-alarms : (n : ℕ) (b : Bool) → b ≡ (n == 0) → b ≡ false → 0 < n
some-alarms n b e f = grind (arith, nat_tests)

-- an alarm that is raised, and none that is
pub raised : (alarms : List Alarm) → list_any (λ alarm. is_raised alarm.state) alarms ≡ true → codes "RAISED" ≡ alarm_cell alarms
raised [] e = absurd (true≢false (sym e))
raised (a ∷ rest) e = sym (ap (λ b. if b then codes "RAISED" else codes "clear") e)

pub clear : (alarms : List Alarm) → 0 < length alarms → list_any (λ alarm. is_raised alarm.state) alarms ≡ false → codes "clear" ≡ alarm_cell alarms
clear [] some e = absurd (omega arith)
clear (a ∷ rest) some e = sym (ap (λ b. if b then codes "RAISED" else codes "clear") e)
