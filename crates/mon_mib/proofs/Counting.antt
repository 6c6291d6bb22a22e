-- There are fewer interfaces than indexes that they may have.
use Rattle.std.proofs.Common.{zero, suc, ◌≡◌, ℕ, ◌+◌, ◌<◌, ◌≤◌, ◌^◌, List, length, get_or, refl, arith}
use Rattle.mon_mib.specs.Held.{AreIndexes}

at_least : (xs : List ℕ) → AreIndexes xs → (j : ℕ) → j < length xs → j + 1 ≤ get_or xs j 0
at_least xs are zero lt = are.positive zero 0 lt
at_least xs are (suc j) lt =
    let before : j + 1 ≤ get_or xs j 0 = at_least xs are j (omega arith) in
    let step : get_or xs j 0 < get_or xs (suc j) 0 = are.rising j (suc j) 0 (omega arith) lt in
    omega arith

-- there are fewer than 2^31
pub few : (xs : List ℕ) → AreIndexes xs → length xs < 2 ^ 31
few xs are = by_length (length xs) refl
  where
    by_length : (n : ℕ) → length xs ≡ n → length xs < 2 ^ 31
    by_length zero is = omega arith
    by_length (suc n) is =
        let low : n + 1 ≤ get_or xs n 0 = at_least xs are n (omega arith) in
        let high : get_or xs n 0 < 2 ^ 31 = are.small n 0 (omega arith) in
        omega arith
