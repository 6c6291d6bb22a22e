-- How far a search for the end of a head came.
use Rattle.std.specs.Prelude.{◌≡◌, ℕ, ◌+◌, Bool, false, List, ◌++◌, drop, Option, option_map}
use Rattle.mon_http.specs.Front.{head_length}

-- a place that is counted from behind the first n octets, counted from the first
abbrev pub after : ℕ → Option ℕ → Option ℕ
after n place = option_map (λ k. n + k) place

-- no head ends within the first n octets; the line there has no octet but CR so far if `blank`
abbrev pub IsScanned : List ℕ → ℕ → Bool → Type 0
IsScanned octets n blank =
    (more : List ℕ) → head_length false (octets ++ more) ≡ after n
    (head_length blank (drop n octets ++ more))
