-- What commands share: steps that are done one after another.
use Rattle.std.proofs.Common.{◌≡◌, ◌≢◌, ◌∙◌, Bool, List, ℕ, [], ◌∷◌, ◌++◌, arith, false, sym, ap, inr, subst}
use Rattle.std.proofs.lemmas.Bool.Decides.{nat_tests}
use Rattle.std.specs.Prelude.{◌==◌, Option, Some, Result, Ok, codes, option_map, string_bytes}
use Rattle.mon_console.specs.Failure.{IsSecond, IsTold, IsToldMore, first_line, is_memory}
use Rattle.mon_console.specs.Files.{IsRename, IsReplacingBy}
use Rattle.mon_console.specs.declared.failure.Failure.{Failure}
use Rattle.mon_faults.specs.Fault.{innermost_of}
use Rattle.mon_host.specs.AtHost.{AtHost, IsNoted, Noted}
use Rattle.mon_host.specs.declared.level.Level.{Level}
use Rattle.mon_host.specs.Log.{GoesOnBy}
use Rattle.mon_host.specs.Then.{Then}
use Rattle.mon_host.proofs.Promised.{goes_on, then_follows, weaker}
use Rattle.mon_station.specs.Fault.{Told, told_text}

other_number : (n : ℕ) → n ≢ 1 → (n == 1) ≡ false
other_number n other = grind (arith, nat_tests)

-- both lines of a failure
pub told : (level : Level) (failure : Failure) (named : Told) (before between after : Option (List AtHost)) → named ≡ innermost_of failure.fault → named.number ≢ 1
    → GoesOnBy (IsNoted level (Some (codes "snmpmon: " ++ (told_text named ++ 10 ∷ [])))) before between
    → GoesOnBy (IsSecond level (option_map string_bytes failure.more)) between after → GoesOnBy (IsTold level failure) before after
told level failure named before between after is other first second =
    let more = option_map string_bytes failure.more in
    let no_memory : is_memory failure.fault ≡ false = ap (λ (t : Told). t.number == 1) (sym is) ∙ other_number named.number other in
    let line : first.more ≡ Noted level (first_line failure.fault) ∷ [] = first.holds.2 ∙ ap (λ (o : List ℕ). Noted level o ∷ []) (first.holds.1 ∙ ap (λ (t : Told). codes "snmpmon: " ++ told_text t ++ 10 ∷ []) is) in
    record {
      more = first.more ++ second.more;
      holds = record {
        rest = second.more;
        more = subst (λ (b : Bool). IsToldMore level b more second.more) (sym no_memory) second.holds;
        log_is = ap (λ (l : List AtHost). l ++ second.more) line;
      };
      on = goes_on first.more second.more before between after first.on second.on;
    }

-- a file that was made so, and then renamed
pub replaced : (Makes : List ℕ → List AtHost → Result Unit Failure → Type 0) (path fresh again : List ℕ) (u : Unit) (result : Result Unit Failure)
    (before between after : Option (List AtHost)) → fresh ≡ path ++ codes ".new"
    → again ≡ path ++ codes ".new" → GoesOnBy (λ log. Makes fresh log (Ok u)) before between
    → GoesOnBy (λ log. IsRename again path log result) between after
    → GoesOnBy (λ log. IsReplacingBy Makes path log result) before after
replaced Makes path fresh again u result before between after is same first second =
    let new = path ++ codes ".new" in
    let made = subst (λ (n : List ℕ). GoesOnBy (λ log. Makes n log (Ok u)) before between) is first in
    let renamed = subst (λ (n : List ℕ). GoesOnBy (λ log. IsRename n path log result) between after) same second in
    weaker (λ log. Then (Makes new) (λ done. IsRename new path) log result) (λ log. IsReplacingBy Makes path log result) before after (λ log holds. inr holds)
    (then_follows (Makes new) (λ done. IsRename new path) (Ok u) result before between after made renamed)
