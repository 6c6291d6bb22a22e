-- Rows of rounds with late datagrams.
use Rattle.std.proofs.Common.{◌≡◌, ℕ, ◌+◌, ◌-◌, ◌^◌, ◌≤◌, Bool, true, false, List, [], ◌∷◌, refl, ap, ◌∙◌, arith}
use Rattle.std.specs.Prelude.{◌==◌, min, if◌then◌else◌}
use Rattle.mon_rounds.specs.Totals.{counted_on}
use Rattle.mon_rounds.specs.Freshness.{AreQuiet, begun_row, late_after, late_over, no_row, rounds_in, with_late}
use Rattle.mon_rounds.specs.declared.late.LateRow.{LateRow}
use Rattle.mon_rounds.specs.declared.round.Span.{Span}
use Rattle.mon_rounds.specs.declared.round.Span.TheVariants.{Round, Between}

-- a row with these parts
abbrev row_of : ℕ → ℕ → Bool → LateRow
row_of rounds datagrams counted = record { rounds = rounds; datagrams = datagrams; counted = counted }

-- ---- a round without late datagrams ends a row
begun_anew : (rounds datagrams : ℕ) (counted : Bool) → (if counted then row_of rounds datagrams false else no_row).counted ≡ false
begun_anew rounds datagrams true = refl
begun_anew rounds datagrams false = refl

quiet_stays : (spells : List (Span × ℕ)) (row : LateRow) → AreQuiet spells → late_over spells row ≡ row
quiet_stays [] row quiet = refl
quiet_stays ((Round, n) ∷ spells) row quiet = absurd quiet
quiet_stays ((Between milliseconds, n) ∷ spells) row quiet = quiet_stays spells (with_late n row) quiet.1 ∙ ap (λ k. with_late k row) quiet.0

begins_again : (n : ℕ) (row : LateRow) → row.counted ≡ false → late_after Round n row ≡ late_after Round n no_row
begins_again n row none = ap (λ c. with_late n (if c then row_of row.rounds row.datagrams false else no_row)) none

pub row_ends : (n : ℕ) (spells : List (Span × ℕ)) (row : LateRow) → AreQuiet spells → late_after Round n (late_over spells (late_after Round 0 row)) ≡ late_after Round n no_row
row_ends n spells row quiet =
    ap (late_after Round n) (quiet_stays spells (late_after Round 0 row) quiet)
    ∙ begins_again n (late_after Round 0 row) (begun_anew row.rounds row.datagrams row.counted)

-- ---- a row has no more rounds than there were
-- its rounds, and one more where the present one may still count
abbrev most : LateRow → ℕ
most row = row.rounds + (if row.counted then 0 else 1)

longer_by_one : (rounds : ℕ) (counted : Bool) → (if counted then rounds else min (rounds + 1) (2 ^ 32 - 1)) + 0 ≤ rounds + (if counted then 0 else 1)
longer_by_one rounds true = omega arith
longer_by_one rounds false = omega arith

more_at_most : (row : LateRow) (n : ℕ) (none : Bool)
    → most (if none then row else row_of (if row.counted then row.rounds else min (row.rounds + 1) (2 ^ 32 - 1)) (counted_on row.datagrams n) true) ≤ most row
more_at_most row n true = omega arith
more_at_most row n false = longer_by_one row.rounds row.counted

late_at_most : (n : ℕ) (row : LateRow) → most (with_late n row) ≤ most row
late_at_most n row = more_at_most row n (n == 0)

begun_at_most : (rounds datagrams : ℕ) (counted : Bool) → most (if counted then row_of rounds datagrams false else no_row) ≤ (rounds + (if counted then 0 else 1)) + 1
begun_at_most rounds datagrams true = omega arith
begun_at_most rounds datagrams false = omega arith

round_more : (x y z w r : ℕ) → x ≤ y + r → y ≤ z → z ≤ w + 1 → x ≤ w + (r + 1)
round_more x y z w r over late begun = omega (arith, over, late, begun)

spell_more : (x y w r : ℕ) → x ≤ y + r → y ≤ w → x ≤ w + r
spell_more x y w r over late = omega (arith, over, late)

over_at_most : (spells : List (Span × ℕ)) (row : LateRow) → most (late_over spells row) ≤ most row + rounds_in spells
over_at_most [] row = omega arith
over_at_most ((Round, n) ∷ spells) row =
    round_more _ _ _ _ _ (over_at_most spells (late_after Round n row)) (late_at_most n (begun_row row)) (begun_at_most row.rounds row.datagrams row.counted)
over_at_most ((Between milliseconds, n) ∷ spells) row = spell_more _ _ _ _ (over_at_most spells (with_late n row)) (late_at_most n row)

first_round : (rounds c m r : ℕ) → rounds + c ≤ m + r → m ≤ 1 → rounds ≤ r + 1
first_round rounds c m r over late = omega (arith, over, late)

pub row_at_most : (n : ℕ) (spells : List (Span × ℕ)) → (late_over spells (late_after Round n no_row)).rounds ≤ rounds_in spells + 1
row_at_most n spells = first_round _ _ _ _ (over_at_most spells (late_after Round n no_row)) (late_at_most n no_row)
