-- Where heads end, and what more octets leave as it is.
use native.Mathlib.Omega.{arith}
use Rattle.std.proofs.Common.{◌≡◌, ◌≤◌, ◌<◌, ◌+◌, ◌∙◌, ap, refl, ℕ, suc, Bool, true, false, ◌&&◌, ◌==◌, List, [], ◌∷◌, ◌++◌, Option, Some, None, option_map, length, drop, get_or, cond}
use Rattle.std.proofs.lemmas.List.{drop_more}
use Rattle.mon_http_client.specs.Front.{head_length, blank_after}
use Rattle.mon_http_client.specs.Scan.{after, IsScanned}

-- a place behind n + 1 octets is one behind one more than n
after_next : (n : ℕ) (place : Option ℕ) → after n (option_map (λ k. k + 1) place) ≡ after (n + 1) place
after_next n None = refl
after_next n (Some k) = ap (λ m. Some m) (omega arith)

after_zero : (place : Option ℕ) → place ≡ after 0 place
after_zero None = refl
after_zero (Some k) = ap (λ m. Some m) (omega arith)

-- the search at an octet
pub head_at : (blank : Bool) (octet : ℕ) (rest : List ℕ) → ((octet == 10) && blank) ≡ false
    → head_length blank (octet ∷ rest) ≡ option_map (λ n. n + 1) (head_length (blank_after blank octet) rest)
head_at blank octet rest other =
    ap (λ (b : Bool). cond b (Some 1) (option_map (λ n. n + 1) (head_length (blank_after blank octet) rest))) other

head_here : (blank : Bool) (octet : ℕ) (rest : List ℕ) → ((octet == 10) && blank) ≡ true
    → head_length blank (octet ∷ rest) ≡ Some 1
head_here blank octet rest same =
    ap (λ (b : Bool). cond b (Some 1) (option_map (λ n. n + 1) (head_length (blank_after blank octet) rest))) same

-- one step of the search
pub scanned_more : (octets : List ℕ) (i : ℕ) (blank : Bool) → i < length octets
    → ((get_or octets i 0 == 10) && blank) ≡ false
    → IsScanned octets i blank → IsScanned octets (i + 1) (blank_after blank (get_or octets i 0))
scanned_more octets i blank here other scanned =
    let octet = get_or octets i 0 in
    let rest = drop (i + 1) octets in
    scanned ∙ ap (λ s. after i (head_length blank s)) (drop_more octets i 0 here)
    ∙ ap (after i) (head_at blank octet rest other) ∙ after_next i (head_length (blank_after blank octet) rest)

-- the end is found
pub scanned_end : (octets : List ℕ) (i : ℕ) (blank : Bool) → i < length octets
    → ((get_or octets i 0 == 10) && blank) ≡ true
    → IsScanned octets i blank → head_length false octets ≡ Some (i + 1)
scanned_end octets i blank here same scanned =
    scanned ∙ ap (λ s. after i (head_length blank s)) (drop_more octets i 0 here)
    ∙ ap (after i) (head_here blank (get_or octets i 0) (drop (i + 1) octets) same)

pub drop_all : (octets : List ℕ) → drop (length octets) octets ≡ []
drop_all [] = refl
drop_all (x ∷ octets) = drop_all octets

-- no end is found
pub scanned_all : (octets : List ℕ) (blank : Bool) → IsScanned octets (length octets) blank
    → head_length false octets ≡ None
scanned_all octets blank scanned =
    scanned ∙ ap (λ s. after (length octets) (head_length blank s)) (drop_all octets)

pub scanned_start : (octets : List ℕ) → IsScanned octets 0 false
scanned_start octets = after_zero (head_length false octets)

-- a head that ends within the octets ends there whatever follows
pub head_append : (blank : Bool) (octets more : List ℕ) (n : ℕ) → head_length blank octets ≡ Some n
    → head_length blank (octets ++ more) ≡ Some n
head_append blank [] more n e = cc
head_append blank (octet ∷ octets) more n e =
    append_at ((octet == 10) && blank) (head_length (blank_after blank octet) octets)
    (head_length (blank_after blank octet) (octets ++ more)) n
    (λ k h. head_append (blank_after blank octet) octets more k h) e
  where
    append_at : (b : Bool) (o p : Option ℕ) (n : ℕ) → ((k : ℕ) → o ≡ Some k → p ≡ Some k)
        → cond b (Some 1) (option_map (λ k. k + 1) o) ≡ Some n → cond b (Some 1) (option_map (λ k. k + 1) p) ≡ Some n
    append_at true o p n same e = e
    append_at false None p n same e = cc
    append_at false (Some k) p n same e = ap (option_map (λ k. k + 1)) (same k refl) ∙ e

-- and within them, and not before the first
pub head_within : (blank : Bool) (octets : List ℕ) (n : ℕ) → head_length blank octets ≡ Some n
    → (n ≤ length octets) × (0 < n)
head_within blank [] n e = cc
head_within blank (octet ∷ octets) n e =
    within_at ((octet == 10) && blank) (head_length (blank_after blank octet) octets) n (length octets)
    (λ k h. (head_within (blank_after blank octet) octets k h).0) e
  where
    within_at : (b : Bool) (o : Option ℕ) (n len : ℕ) → ((k : ℕ) → o ≡ Some k → k ≤ len)
        → cond b (Some 1) (option_map (λ k. k + 1) o) ≡ Some n → (n ≤ suc len) × (0 < n)
    within_at true o n len below e = let one : 1 ≡ n = cc in (omega arith, omega arith)
    within_at false None n len below e = cc
    within_at false (Some k) n len below e =
        let low : k ≤ len = below k refl in
        let same : k + 1 ≡ n = cc in (omega arith, omega arith)
