-- What a comment shows.
use Rattle.std.proofs.Common.{◌≡◌, ℕ, ◌≤◌, Bool, true, false, List, length, take, get_or, refl, sym, subst, arith}
use Rattle.std.specs.Prelude.{nat_le, not, ◌&&◌, ◌==◌, if◌then◌else◌}
use Rattle.std.proofs.lemmas.Bool.Decides.{nat_tests}
use Rattle.std.proofs.lemmas.List.{length-map, length-take}
use Rattle.std.proofs.lemmas.List.Elements.{All-map}
use Rattle.mon_survey.specs.Shown.{IsShown, StaysInComment}
use Rattle.mon_survey.specs.Text.{cleaned, shown}

-- an octet that is shown ends no comment
is_shown : (b : ℕ) → IsShown (shown b)
is_shown b = by_tests (nat_le 32 b) (nat_le b 126) (b == 34) refl refl refl
  where
    by_tests : (low high quote : Bool) → nat_le 32 b ≡ low → nat_le b 126 ≡ high → (b == 34) ≡ quote → IsShown (if low && high && not quote then b else 63)
    by_tests true true false l h q = record { low = grind (arith, nat_tests); high = grind (arith, nat_tests); unquoted = grind (arith, nat_tests) }
    by_tests true true true l h q = record { low = omega arith; high = omega arith; unquoted = λ e. omega arith }
    by_tests true false quote l h q = record { low = omega arith; high = omega arith; unquoted = λ e. omega arith }
    by_tests false high quote l h q = record { low = omega arith; high = omega arith; unquoted = λ e. omega arith }

pub stays : (octets : List ℕ) → StaysInComment (cleaned octets)
stays octets = record {
  shown = All-map IsShown shown (take 64 octets) (λ k d lt. is_shown (get_or (take 64 octets) k d));
  short = subst (λ n. n ≤ 64) (sym (length-map (take 64 octets) shown)) (short_take octets);
}
  where
    short_take : (xs : List ℕ) → length (take 64 xs) ≤ 64
    short_take xs = omega (arith, length-take 64 xs)
