-- Paths that are looked at in a loop.
use Rattle.std.proofs.Common.{◌≡◌, ◌<◌, ◌≤◌, ◌+◌, ◌-◌, ℕ, suc, List, [], arith, refl, sym, subst}
use Rattle.std.specs.Prelude.{Option, Result, Ok, Err}
use Rattle.mon_console.specs.declared.failure.Failure.{Failure}
use Rattle.mon_host.proofs.Promised.{stays, then_fails, then_follows}
use Rattle.mon_host.specs.AtHost.{AtHost}
use Rattle.mon_host.specs.Log.{GoesOnBy}
use Rattle.mon_settings_commands.specs.Parts.{AreAbsent, IsPartAbsent, part_path}

-- whatever becomes of the paths that are left becomes of all of them
abbrev pub LooksOn : (folder : List ℕ) (place all rest : ℕ) (before now : Option (List AtHost)) → Type 0
LooksOn folder place all rest before now = (result : Result Unit Failure) (after : Option (List AtHost)) → GoesOnBy (λ log. AreAbsent folder place rest log result) now after
    → GoesOnBy (λ log. AreAbsent folder 0 all log result) before after

-- the next path, and those after it
next : (count i : ℕ) → i < count → count - i ≡ suc (count - (i + 1))
next count i inside = omega (arith, inside)

none-left : (count i : ℕ) → count ≤ i → count - i ≡ 0
none-left count i past = omega (arith, past)

module _ (folder : List ℕ) where
  pub begins : (count : ℕ) (now : Option (List AtHost)) → LooksOn folder 0 count (count - 0) now now
  begins count now = λ result end later.
      let all : count - 0 ≡ count = omega arith in
      subst (λ (n : ℕ). GoesOnBy (λ log. AreAbsent folder 0 n log result) now end) all later

  pub looked : (count i : ℕ) (u : Unit {0}) (start now after : Option (List AtHost)) → i < count → LooksOn folder i count (count - i) start now
      → GoesOnBy (λ log. IsPartAbsent (part_path folder i) log (Ok u)) now after → LooksOn folder (i + 1) count (count - (i + 1)) start after
  looked count i u start now after inside leads done = λ result end later.
      let whole = then_follows (IsPartAbsent (part_path folder i)) (λ d. AreAbsent folder (i + 1) (count - (i + 1))) (Ok u) result now after end done later in
      leads result end (subst (λ (n : ℕ). GoesOnBy (λ log. AreAbsent folder i n log result) now end) (sym (next count i inside)) whole)

  pub found : (count i : ℕ) (failure : Failure) (r : Result (Unit {0}) Failure) (start now after : Option (List AtHost)) → i < count → r ≡ Err failure
      → LooksOn folder i count (count - i) start now → GoesOnBy (λ log. IsPartAbsent (part_path folder i) log (Err failure)) now after
      → GoesOnBy (λ log. AreAbsent folder 0 count log r) start after
  found count i failure r start now after inside given leads done =
      let whole = then_fails (IsPartAbsent (part_path folder i)) (λ d. AreAbsent folder (i + 1) (count - (i + 1))) failure now after done in
      subst (λ (r : Result (Unit {0}) Failure). GoesOnBy (λ log. AreAbsent folder 0 count log r) start after) (sym given)
      (leads (Err failure) after (subst (λ (n : ℕ). GoesOnBy (λ log. AreAbsent folder i n log (Err failure)) now after) (sym (next count i inside)) whole))

  pub ended : (count i : ℕ) (start now : Option (List AtHost)) → count ≤ i → LooksOn folder i count (count - i) start now
      → GoesOnBy (λ log. AreAbsent folder 0 count log (Ok tt)) start now
  ended count i start now past leads =
      let none : GoesOnBy (λ log. AreAbsent folder i 0 log (Ok tt)) now now = record { more = []; holds = (refl, refl); on = stays now } in
      leads (Ok tt) now (subst (λ (n : ℕ). GoesOnBy (λ log. AreAbsent folder i n log (Ok tt)) now now) (sym (none-left count i past)) none)
